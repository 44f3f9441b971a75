use Rattle.std.proofs.Common.{ℕ, ◌<◌, List, [], ◌∷◌, ◌++◌, length, take, Option, sym, ap, ◌∙◌, arith}
use Rattle.std.proofs.lemmas.List.{append-nil, length-append}
use Rattle.words.specs.Encoding.{feed_word, feed_words}
use Rattle.bench.proofs.Writing.{appended, row_some, row_none, row_few}
use Rattle.bench.proofs.writer.put_node.Goals as goal
use Rattle.bench.proofs.writer.put_node.Goals.{in-Some, in_default}

pub loop-source-init : goal.loop-source-init
unfolding feed_words
loop-source-init c = sym (append-nil _)

pub push-requires-in-Some : goal.push-requires-in-Some
push-requires-in-Some c =
    let few = row_few c.args.node.now.feeds c.loop-source.source in
    let long = ap length c.loop-source.invariant ∙ length-append c.push.new.self.items (feed_words 0 (take c.loop-source.source c.args.node.now.feeds)) in
    (omega arith, omega arith)

pub loop-source-preserved : goal.loop-source-preserved
loop-source-preserved c =
    let fs : List (Option ℕ) = c.args.node.now.feeds in
    let s : ℕ = c.loop-source.source in
    let l : s < length fs = omega arith in
    let before : List ℕ = c.push.new.self.items in
    let so_far : List ℕ = feed_words 0 (take s fs) in
    elim c.match-feed.branch [
      | in-Some w ↦
          let d : ℕ = w.in-Some.delay in
          ap (λ v. v.items) w.words-is ∙ appended before so_far (w.place_word.result ∷ []) c.loop-source.invariant w.push-in-Some.ensures.items
          ∙ ap (λ v. before ++ (so_far ++ v ∷ [])) (w.place_word.ensures ∙ ap (feed_word s) w.from.ensures) ∙ ap (λ ws. before ++ ws) (sym (row_some fs s d l w.in-Some.is))
      | in_default w ↦ ap (λ v. v.items) w.words-is ∙ c.loop-source.invariant ∙ ap (λ ws. before ++ ws) (sym (row_none fs s l w.in_default.is))
    ]
