-- Every word of a design's encoding passes the questions.
use Rattle.std.proofs.Common.{◌≡◌, ℕ, suc, ◌+◌, ◌*◌, ◌^◌, ◌<◌, ◌≤◌, true, false, cond, ◌&&◌, ltb, leb, List, [], ◌∷◌, ◌++◌, length, get_or, take, Some, None, Option, sym, refl, ap, ◌∙◌, subst, append_assoc, add-zero, add-suc, suc-add, zero-add, add-one, arith}
use Rattle.std.specs.List.{AllByRecursion}
use Rattle.std.proofs.lemmas.List.{append-nil, length-take-le}
use Rattle.std.proofs.lemmas.Bool.{lt-ltb, le-leb, eq-eqb, and_from}
use Rattle.std.specs.Option.{option_or}
use Rattle.words.specs.declared.graph.Node.{Node}
use Rattle.words.specs.declared.graph.Output.{Output}
use Rattle.words.specs.declared.graph.Graph.{Graph}
use Rattle.words.specs.declared.kinds.Kind.TheVariants as kind
use Rattle.words.specs.Fields.{field}
use Rattle.words.specs.Kinds.{kind_of, is_end}
use Rattle.words.specs.Designs.{NodeInRange, InRange, is_source, max_nodes, byte}
use Rattle.words.specs.Encoding.{head_word, node_word, feed_word, output_word, end_word, feed_words, node_words, body, encoded}
use Rattle.words.specs.Questions.{design_format, asked, refused_from, refused, count_of}
use Rattle.words.specs.Formats.{refused_from_in}
use Rattle.words.specs.Drafts.{Stands}
use Rattle.words.proofs.Wholes.{kind_made, low_field, clear_field, low_only, clear_only}
use Rattle.words.proofs.Sources.{source_place}
use Rattle.words.proofs.Standing.{stands_head, stands_node, stands_feed, stands_output}
use Rattle.words.proofs.FormatAsking.{allow, hands_on}
use Rattle.words.proofs.Encodings.{nodes_in_range, body_few}

-- the words of a row of feeds
module _ (n seen : ℕ) (few : n ≤ max_nodes) (some : 0 < seen) where
  feed_passes : (p : List ℕ) (least j d : ℕ) → Stands p n seen least false → least ≤ j → d < byte → is_source n j ≡ true → (after : List ℕ) →
      Stands (p ++ feed_word j d ∷ []) n seen (suc j) false × (refused_from p (feed_word j d ∷ after) ≡ refused_from (p ++ feed_word j d ∷ []) after)
  feed_passes p least j d s above small heard after =
      let place = source_place n j few heard in
      let k : kind_of (feed_word j d) ≡ (Some kind.Feed) = kind_made (Some kind.Feed) (d * 2 ^ 6 + j) (omega arith) in
      let from : field 0 6 (feed_word j d) ≡ j = low_field 6 8 14 3 j d refl (omega arith) small in
      let clear : field 14 14 (feed_word j d) ≡ 0 = clear_field 6 8 14 3 j d refl (omega arith) small in
      let none : asked p (feed_word j d) after ≡ None =
      allow design_format p (feed_word j d) after (Some kind.Feed) k (s.node ∙ ap (λ b. b && true) (lt-ltb 0 seen some))
      (and_from _ _ (eq-eqb _ _ clear) (ap (is_source (count_of p)) from ∙ ap (λ m. is_source m j) s.count ∙ heard))
      (ap (λ m. leb m (field 0 6 (feed_word j d))) s.least ∙ ap (leb least) from ∙ le-leb least j above)
      refl in (
        subst (λ m. Stands (p ++ feed_word j d ∷ []) n seen (suc m) false) from (stands_feed p n seen least s (feed_word j d) some k),
        hands_on design_format p (feed_word j d) after (Some kind.Feed) k refl none,
      )

  pub feeds_pass : (fs : List (Option ℕ)) (p : List ℕ) (least j : ℕ) → Stands p n seen least false → least ≤ j →
      ((i d : ℕ) → get_or fs i None ≡ Some d → d < byte) → ((i d : ℕ) → get_or fs i None ≡ Some d → is_source n (j + i) ≡ true) → (after : List ℕ) →
      (m : ℕ) × Stands (p ++ feed_words j fs) n seen m false × (refused_from p (feed_words j fs ++ after) ≡ refused_from (p ++ feed_words j fs) after)
  unfolding feed_words
  feeds_pass [] p least j s above small heard after =
      (least, subst (λ ws. Stands ws n seen least false) (sym (append-nil p)) s, ap (λ ws. refused_from ws after) (sym (append-nil p)))
  feeds_pass (None ∷ fs) p least j s above small heard after =
      feeds_pass fs p least (suc j) s (omega arith) (λ i d h. small (suc i) d h) (λ i d h. subst (λ m. is_source n m ≡ true) (add-suc j i ∙ sym (suc-add j i)) (heard (suc i) d h)) after
  feeds_pass (Some d ∷ fs) p least j s above small heard after =
      let here = feed_passes p least j d s above (small 0 d refl) (subst (λ m. is_source n m ≡ true) (add-zero j) (heard 0 d refl)) (feed_words (suc j) fs ++ after) in
      let rest =
      feeds_pass fs (p ++ feed_word j d ∷ []) (suc j) (suc j) here.0 (omega arith) (λ i e h. small (suc i) e h)
      (λ i e h. subst (λ m. is_source n m ≡ true) (add-suc j i ∙ sym (suc-add j i)) (heard (suc i) e h)) after in
      let join : (p ++ feed_word j d ∷ []) ++ feed_words (suc j) fs ≡ p ++ (feed_word j d ∷ feed_words (suc j) fs) = append_assoc p (feed_word j d ∷ []) (feed_words (suc j) fs) in
      (rest.0, subst (λ ws. Stands ws n seen rest.0 false) join rest.1, here.1 ∙ rest.2 ∙ ap (λ ws. refused_from ws after) join)

-- the words of the nodes
module _ (n : ℕ) (few : n ≤ max_nodes) where
  node_passes : (p : List ℕ) (least i operation : ℕ) → Stands p n i least false → i < n → operation < byte → (after : List ℕ) →
      Stands (p ++ node_word i operation ∷ []) n (suc i) 0 false × (refused_from p (node_word i operation ∷ after) ≡ refused_from (p ++ node_word i operation ∷ []) after)
  node_passes p least i operation s l small after =
      let k : kind_of (node_word i operation) ≡ (Some kind.Node) = kind_made (Some kind.Node) (operation * 2 ^ 5 + i) (omega arith) in
      let number : field 0 5 (node_word i operation) ≡ i = low_field 5 8 15 2 i operation refl (omega arith) small in
      let clear : field 13 15 (node_word i operation) ≡ 0 = clear_field 5 8 15 2 i operation refl (omega arith) small in
      let none : asked p (node_word i operation) after ≡ None =
      allow design_format p (node_word i operation) after (Some kind.Node) k (ap (λ m. ltb m (count_of p)) s.nodes ∙ ap (ltb i) s.count ∙ lt-ltb i n l)
      (and_from _ _ (eq-eqb _ _ clear) (ap (λ m. ltb m (count_of p)) number ∙ ap (ltb i) s.count ∙ lt-ltb i n l))
      (eq-eqb _ _ (number ∙ sym s.nodes)) refl in (
        subst (λ m. Stands (p ++ node_word i operation ∷ []) n m 0 false) (add-one i) (stands_node p n i least s (node_word i operation) k),
        hands_on design_format p (node_word i operation) after (Some kind.Node) k refl none,
      )

  pub nodes_pass : (nodes : List Node) (p : List ℕ) (least i : ℕ) → Stands p n i least false → i + length nodes ≤ n → AllByRecursion (NodeInRange n) nodes → (after : List ℕ) →
      (m : ℕ) × Stands (p ++ node_words i nodes) n (i + length nodes) m false × (refused_from p (node_words i nodes ++ after) ≡ refused_from (p ++ node_words i nodes) after)
  unfolding node_words
  nodes_pass [] p least i s room each after =
      (least, subst (λ ws. Stands ws n (i + 0) least false) (sym (append-nil p)) (subst (λ m. Stands p n m least false) (sym (add-zero i)) s), ap (λ ws. refused_from ws after) (sym (append-nil p)))
  nodes_pass (node ∷ nodes) p least i s room each after =
      let w : ℕ = node_word i node.operation in
      let fs : List ℕ = feed_words 0 node.feeds in
      let tail : List ℕ = node_words (suc i) nodes in
      let here = node_passes p least i node.operation s (omega arith) each.0.operation ((feed_words 0 node.feeds ++ node_words (suc i) nodes) ++ after) in
      let row =
      feeds_pass n (suc i) few (omega arith) node.feeds (p ++ node_word i node.operation ∷ []) 0 0 here.0 (omega arith) each.0.delays
      (λ j d h. subst (λ m. is_source n m ≡ true) (sym (zero-add j)) (each.0.heard j d h)) (node_words (suc i) nodes ++ after) in
      let rest = nodes_pass nodes ((p ++ node_word i node.operation ∷ []) ++ feed_words 0 node.feeds) row.0 (suc i) row.1 (omega arith) each.1 after in
      let join : ((p ++ w ∷ []) ++ fs) ++ tail ≡ p ++ (w ∷ (fs ++ tail)) = append_assoc (p ++ w ∷ []) fs tail ∙ append_assoc p (w ∷ []) (fs ++ tail) in (
        rest.0,
        subst (λ ws. Stands ws n (i + suc (length nodes)) rest.0 false) join
            (subst (λ m. Stands (((p ++ w ∷ []) ++ fs) ++ tail) n m rest.0 false) (suc-add i (length nodes) ∙ sym (add-suc i (length nodes))) rest.1),
        here.1 ∙ ap (refused_from (p ++ w ∷ [])) (append_assoc fs tail after) ∙ row.2 ∙ rest.2 ∙ ap (λ ws. refused_from ws after) join,
      )

head_passes : (n : ℕ) → 1 ≤ n → n ≤ max_nodes → (after : List ℕ) →
    Stands (head_word n ∷ []) n 0 0 false × (refused_from [] (head_word n ∷ after) ≡ refused_from (head_word n ∷ []) after)
head_passes n some few after =
    let k : kind_of (head_word n) ≡ (Some kind.Head) = kind_made (Some kind.Head) n (omega arith) in
    let count : field 0 6 (head_word n) ≡ n = low_only 6 22 1 n refl (omega arith) in
    let clear : field 6 22 (head_word n) ≡ 0 = clear_only 6 22 1 n refl (omega arith) in
    let none : asked [] (head_word n) after ≡ None =
    allow design_format [] (head_word n) after (Some kind.Head) k refl
    (and_from _ _ (eq-eqb _ _ clear) (ap (λ m. leb 1 m && leb m max_nodes) count ∙ and_from _ _ (le-leb 1 n some) (le-leb n max_nodes few))) refl refl in
    (subst (λ m. Stands (head_word n ∷ []) m 0 0 false) count (stands_head (head_word n) k), hands_on design_format [] (head_word n) after (Some kind.Head) k refl none)

output_passes : (p : List ℕ) (n least : ℕ) (o : Output) → Stands p n n least false → 1 ≤ n → n ≤ max_nodes → o.node < n → o.delay < byte → (after : List ℕ) →
    Stands (p ++ output_word o ∷ []) n n 0 true × (refused_from p (output_word o ∷ after) ≡ refused_from (p ++ output_word o ∷ []) after)
output_passes p n least o s some few l small after =
    let k : kind_of (output_word o) ≡ (Some kind.Output) = kind_made (Some kind.Output) (o.delay * 2 ^ 6 + o.node) (omega arith) in
    let node : field 0 6 (output_word o) ≡ o.node = low_field 6 8 14 4 o.node o.delay refl (omega arith) small in
    let clear : field 14 14 (output_word o) ≡ 0 = clear_field 6 8 14 4 o.node o.delay refl (omega arith) small in
    let none : asked p (output_word o) after ≡ None =
    allow design_format p (output_word o) after (Some kind.Output) k
    (and_from _ _ (s.node ∙ ap (λ b. b && true) (lt-ltb 0 n some)) (eq-eqb _ _ (s.nodes ∙ sym s.count)))
    (and_from _ _ (eq-eqb _ _ clear) (ap (λ m. ltb m (count_of p)) node ∙ ap (ltb o.node) s.count ∙ lt-ltb o.node n l)) refl refl in
    (stands_output p n n least s (output_word o) some k, hands_on design_format p (output_word o) after (Some kind.Output) k refl none)

end_passes : (p : List ℕ) (n seen least : ℕ) → Stands p n seen least true → length p ≤ 1090 → refused_from p (end_word (length p + 1) ∷ []) ≡ None
unfolding refused_from_in
end_passes p n seen least s few =
    let w : ℕ = end_word (length p + 1) in
    let k : kind_of w ≡ (Some kind.End) = kind_made (Some kind.End) (length p + 1) (omega arith) in
    let count : field 0 11 w ≡ length p + 1 = low_only 11 17 5 (length p + 1) refl (omega arith) in
    let clear : field 11 17 w ≡ 0 = clear_only 11 17 5 (length p + 1) refl (omega arith) in
    let none : asked p w [] ≡ None =
    allow design_format p w [] (Some kind.End) k s.output (and_from _ _ (eq-eqb _ _ clear) refl) refl (and_from _ _ (eq-eqb _ _ count) refl) in
    ap (λ o. option_or o (cond (is_end (kind_of w)) None (refused_from (p ++ w ∷ []) []))) none ∙ ap (λ κ. cond (is_end κ) None (refused_from (p ++ w ∷ []) [])) k

-- the law: nothing of a design's encoding is refused
pub encoded_passes : (g : Graph) → InRange g → refused (encoded g) ≡ None
unfolding encoded
encoded_passes g r =
    let n : ℕ = g.count in
    let ns : List Node = take g.count g.nodes in
    let o : ℕ = output_word g.output in
    let e : ℕ = end_word (length (body g) + 1) in
    let long : length ns ≡ n = length-take-le g.count g.nodes (omega (arith, r.few, r.table)) in
    let first = head_passes n r.some r.few ((node_words 0 ns ++ o ∷ []) ++ e ∷ []) in
    let nodes = nodes_pass n r.few ns (head_word n ∷ []) 0 0 first.0 (omega arith) (nodes_in_range g r) (o ∷ (e ∷ [])) in
    let all : 0 + length ns ≡ n = zero-add (length ns) ∙ long in
    let output =
    output_passes ((head_word n ∷ []) ++ node_words 0 ns) n nodes.0 g.output (subst (λ m. Stands ((head_word n ∷ []) ++ node_words 0 ns) n m nodes.0 false) all nodes.1)
    r.some r.few r.output_node r.output_delay (e ∷ []) in
    first.1 ∙ ap (refused_from (head_word n ∷ [])) (append_assoc (node_words 0 ns) (o ∷ []) (e ∷ [])) ∙ nodes.2 ∙ output.1
    ∙ end_passes (body g) n n 0 output.0 (body_few g r)
