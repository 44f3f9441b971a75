use Rattle.std.proofs.Common.{◌≡◌, ℕ, ◌+◌, ◌<◌, List, [], ◌∷◌, ◌++◌, map, length, get_or, take, set, sym, ap, ap₂, ◌∙◌, arith}
use Rattle.std.proofs.lemmas.List.{length-set, take_more, take_more_set, map_push, take_all}
use Rattle.words.specs.Bytes.{word_at}
use Rattle.words.proofs.bytes.fill.Goals as goal

-- one word more at the front
more : (packs : List (List ℕ)) (ws : List ℕ) (k w : ℕ) → k < length packs → k < length ws → take k ws ≡ map (λ pack. word_at pack 0) (take k packs) → w ≡ word_at (get_or packs k []) 0 →
    take (k + 1) (set ws k w) ≡ map (λ pack. word_at pack 0) (take (k + 1) packs)
more packs ws k w l m h e =
    take_more_set ws k w m ∙ ap₂ (λ front v. front ++ v ∷ []) h e ∙ sym (map_push (λ (pack : List ℕ). word_at pack 0) (take k packs) (get_or packs k [])) ∙ ap (map (λ pack. word_at pack 0)) (sym (take_more packs k [] l))

pub loop-k-preserved : goal.loop-k-preserved
loop-k-preserved c =
    let inv = c.loop-k.invariant in (
      length-set c.loop-k.words c.loop-k.k c.word_of.result ∙ inv.0,
      more c.args.packs.now c.loop-k.words c.loop-k.k c.word_of.result c.loop-k-test.true (omega (arith, c.loop-k-test.true, c.requires, inv.0)) inv.1 c.word_of.ensures,
    )

pub returns : goal.returns
returns c =
    let inv = c.loop-k.invariant in
    let all = take_all c.loop-k.k c.args.packs.now c.loop-k-test.false in
    ap (λ n. take n c.loop-k.words) {x = length c.args.packs.now} {y = c.loop-k.k} (omega (arith, c.loop-k-test.false)) ∙ inv.1 ∙ ap (map (λ pack. word_at pack 0)) all
