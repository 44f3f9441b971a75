-- A draft with one word more is sound, and is the draft of the words with that word.
use Rattle.std.proofs.Common.{◌≡◌, ℕ, suc, ◌+◌, ◌-◌, ◌<◌, ◌≤◌, true, false, List, [], ◌∷◌, ◌++◌, length, get_or, take, set, is_some, Some, None, Option, sym, ap, ◌∙◌, subst, ⊎_elim, append_assoc, zero-add, arith}
use Rattle.std.proofs.lemmas.List.{get_or-set_same, get_or-set_other, length-set, length-take-le, take_more, take_more_set}
use Rattle.std.proofs.lemmas.Bool.{cases_eq}
use Rattle.words.specs.declared.graph.Node.{Node}
use Rattle.words.specs.declared.graph.Output.{Output}
use Rattle.words.specs.declared.graph.Graph.{Graph}
use Rattle.words.specs.declared.draft.Draft.{Draft}
use Rattle.words.specs.declared.kinds.Kind.TheVariants as kind
use Rattle.words.specs.Fields.{field}
use Rattle.words.specs.Kinds.{kind_of}
use Rattle.words.specs.Designs.{NodeInRange, blank, absent, node_at, feed_at, sources, byte, is_source}
use Rattle.words.specs.Encoding.{head_word, node_word, feed_word, output_word, feed_words, node_words}
use Rattle.words.specs.Drafts.{drafted, Sound, Stands, node_read, feed_read, output_read}
use Rattle.words.proofs.Standing.{stands_node, stands_feed, stands_output}
use Rattle.words.proofs.Drafting.{none_some, blank_none, blank_feeds, nodes_push, feeds_set, at_same, at_other, in_range_with, open_words}

module _ (d : Draft) (s : Sound d) (open' : d.output ≡ None) where
  g : Graph
  g = d.graph

  stands_open : Stands (drafted d) d.graph.count d.seen d.least false
  stands_open = subst (λ o. Stands (drafted d) d.graph.count d.seen d.least (is_some o)) open' s.stands

  module _ (operation : ℕ) (l : d.seen < d.graph.count) (small : operation < byte) where
    node_new : Node
    node_new = record { operation = operation; feeds = (node_at d.graph d.seen).feeds }

    was_blank : node_at d.graph d.seen ≡ blank
    was_blank = s.rest d.seen (omega arith) (omega (arith, s.ranges.few))

    pub node_drafted : drafted (node_read d operation) ≡ drafted d ++ node_word d.seen operation ∷ []
    unfolding node_new
    node_drafted =
        let t = take_more_set d.graph.nodes d.seen node_new (omega (arith, s.ranges.few, s.ranges.table)) in
        let n : 0 + length (take d.seen d.graph.nodes) ≡ d.seen = zero-add _ ∙ length-take-le d.seen d.graph.nodes (omega (arith, s.ranges.few, s.ranges.table)) in
        let f : feed_words 0 (node_at d.graph d.seen).feeds ≡ [] = ap (λ (node : Node). feed_words 0 node.feeds) was_blank ∙ blank_feeds in
        let p = nodes_push 0 (take d.seen d.graph.nodes) node_new in
        open_words (node_read d operation) open'
        ∙ ap (λ ws. head_word d.graph.count ∷ ws)
        (ap (node_words 0) t ∙ p ∙ ap (λ m. node_words 0 (take d.seen d.graph.nodes) ++ (node_word m operation ∷ feed_words 0 (node_at d.graph d.seen).feeds)) n
        ∙ ap (λ ws. node_words 0 (take d.seen d.graph.nodes) ++ (node_word d.seen operation ∷ ws)) f)
        ∙ ap (λ ws. ws ++ node_word d.seen operation ∷ []) (sym (open_words d open'))

    pub node_sound : (w : ℕ) → kind_of w ≡ (Some kind.Node) → w ≡ node_word d.seen operation → Sound (node_read d operation)
    unfolding node_new
    node_sound w k e =
        let old = s.ranges.nodes d.seen (omega (arith, s.ranges.few)) in
        let same = at_same d.graph s.ranges d.seen l node_new in
        let p : drafted d ++ w ∷ [] ≡ drafted (node_read d operation) = ap (λ v. drafted d ++ v ∷ []) e ∙ sym node_drafted in
        record {
          ranges = in_range_with d.graph s.ranges d.seen l node_new (record { operation = small; row = old.row; delays = old.delays; heard = old.heard });
          seen = omega arith;
          rest = λ i h m. at_other d.graph s.ranges d.seen l node_new i (λ q. omega arith) ∙ s.rest i (omega arith) m;
          least = λ _ i j h m.
              let q : i ≡ d.seen = omega arith in
              ap (λ n. feed_at (node_read d operation).graph n j) q ∙ ap (λ (node : Node). get_or node.feeds j None) same ∙ ap (λ (node : Node). get_or node.feeds j None) was_blank ∙ blank_none j;
          output = λ x h. absurd (none_some (sym open' ∙ h));
          stands =
              subst (λ o. Stands (drafted (node_read d operation)) d.graph.count (d.seen + 1) 0 (is_some o)) (sym open')
              (subst (λ ws. Stands ws d.graph.count (d.seen + 1) 0 false) p (stands_node (drafted d) d.graph.count d.seen d.least stands_open w k));
        }

  module _ (source delay : ℕ) (some : 0 < d.seen) (above : d.least ≤ source) (heard : is_source d.graph.count source ≡ true) (place : source < sources) (small : delay < byte) where
    row : List (Option ℕ)
    row = (node_at d.graph (d.seen - 1)).feeds

    feed_new : Node
    feed_new = record { operation = (node_at d.graph (d.seen - 1)).operation; feeds = set (node_at d.graph (d.seen - 1)).feeds source (Some delay) }

    old : NodeInRange d.graph.count (node_at d.graph (d.seen - 1))
    old = s.ranges.nodes (d.seen - 1) (omega (arith, s.ranges.few, s.seen))

    inside : d.seen - 1 < length d.graph.nodes
    inside = omega (arith, s.ranges.few, s.ranges.table, s.seen)

    none_above : (j : ℕ) → source ≤ j → get_or (node_at d.graph (d.seen - 1)).feeds j None ≡ None
    none_above j h = s.least open' (d.seen - 1) j (omega arith) (omega arith)

    pub feed_drafted : drafted (feed_read d source delay) ≡ drafted d ++ feed_word source delay ∷ []
    unfolding feed_new
    feed_drafted =
        let last : d.seen - 1 + 1 ≡ d.seen = omega arith in
        let t : take d.seen (set d.graph.nodes (d.seen - 1) feed_new) ≡ take (d.seen - 1) d.graph.nodes ++ feed_new ∷ [] =
        ap (λ n. take n (set d.graph.nodes (d.seen - 1) feed_new)) (sym last) ∙ take_more_set d.graph.nodes (d.seen - 1) feed_new inside in
        let u : take d.seen d.graph.nodes ≡ take (d.seen - 1) d.graph.nodes ++ node_at d.graph (d.seen - 1) ∷ [] =
        ap (λ n. take n d.graph.nodes) (sym last) ∙ take_more d.graph.nodes (d.seen - 1) absent inside in
        let fs : List (Option ℕ) = (node_at d.graph (d.seen - 1)).feeds in
        let f : feed_words 0 (set fs source (Some delay)) ≡ feed_words 0 fs ++ feed_word source delay ∷ [] =
        feeds_set 0 fs source delay (omega (arith, old.row)) none_above ∙ ap (λ m. feed_words 0 fs ++ feed_word m delay ∷ []) (zero-add source) in
        let front : List ℕ = node_words 0 (take (d.seen - 1) d.graph.nodes) in
        let word : ℕ = node_word (0 + length (take (d.seen - 1) d.graph.nodes)) (node_at d.graph (d.seen - 1)).operation in
        let before : node_words 0 (take d.seen d.graph.nodes) ≡ front ++ (word ∷ feed_words 0 fs) =
        ap (node_words 0) u ∙ nodes_push 0 (take (d.seen - 1) d.graph.nodes) (node_at d.graph (d.seen - 1)) in
        open_words (feed_read d source delay) open'
        ∙ ap (λ ws. head_word d.graph.count ∷ ws)
        (ap (node_words 0) t ∙ nodes_push 0 (take (d.seen - 1) d.graph.nodes) feed_new ∙ ap (λ ws. front ++ (word ∷ ws)) f
        ∙ sym (append_assoc front (word ∷ feed_words 0 fs) (feed_word source delay ∷ [])) ∙ ap (λ ws. ws ++ feed_word source delay ∷ []) (sym before))
        ∙ ap (λ ws. ws ++ feed_word source delay ∷ []) (sym (open_words d open'))

    -- what the row holds at a source is the new feed or an old one
    row_in_range : (P : ℕ → ℕ → Type 0) → P source delay → ((j e : ℕ) → get_or (node_at d.graph (d.seen - 1)).feeds j None ≡ Some e → P j e) →
        (j e : ℕ) → get_or (set (node_at d.graph (d.seen - 1)).feeds source (Some delay)) j None ≡ Some e → P j e
    row_in_range P new olds j e h =
        let fs : List (Option ℕ) = (node_at d.graph (d.seen - 1)).feeds in
        ⊎_elim
        (λ (q : j ≡ source).
        let same : ◌≡◌ {A = Option ℕ} (Some delay) (Some e) = sym (ap (λ n. get_or (set fs source (Some delay)) n None) q ∙ get_or-set_same fs source (Some delay) None (omega (arith, old.row))) ∙ h in
        let v : delay ≡ e = cc in
        subst (λ n. P n e) (sym q) (subst (P source) v new))
        (λ (ne : j ≡ source → ⊥). olds j e (sym (get_or-set_other fs source j (Some delay) None ne) ∙ h))
        (cases_eq j source)

    pub feed_sound : (w : ℕ) → kind_of w ≡ (Some kind.Feed) → field 0 6 w ≡ source → w ≡ feed_word source delay → Sound (feed_read d source delay)
    unfolding feed_new
    feed_sound w k from e =
        let below : d.seen - 1 < d.graph.count = omega (arith, s.seen) in
        let p : drafted d ++ w ∷ [] ≡ drafted (feed_read d source delay) = ap (λ v. drafted d ++ v ∷ []) e ∙ sym feed_drafted in
        let next : suc (field 0 6 w) ≡ source + 1 = omega arith in
        record {
          ranges =
              in_range_with d.graph s.ranges (d.seen - 1) below feed_new
              (record {
                operation = old.operation;
                row = length-set (node_at d.graph (d.seen - 1)).feeds source (Some delay) ∙ old.row;
                delays = row_in_range (λ _ n. n < byte) small old.delays;
                heard = row_in_range (λ j _. is_source d.graph.count j ≡ true) heard old.heard;
              });
          seen = s.seen;
          rest = λ i h m. at_other d.graph s.ranges (d.seen - 1) below feed_new i (λ q. omega arith) ∙ s.rest i h m;
          least = λ _ i j h m.
              let q : i ≡ d.seen - 1 = omega arith in
              ap (λ n. feed_at (feed_read d source delay).graph n j) q
              ∙ ap (λ (node : Node). get_or node.feeds j None) (at_same d.graph s.ranges (d.seen - 1) below feed_new)
              ∙ get_or-set_other (node_at d.graph (d.seen - 1)).feeds source j (Some delay) None (λ r. omega arith) ∙ none_above j (omega arith);
          output = s.output;
          stands =
              subst (λ o. Stands (drafted (feed_read d source delay)) d.graph.count d.seen (source + 1) (is_some o)) (sym open')
              (subst (λ n. Stands (drafted (feed_read d source delay)) d.graph.count d.seen n false) next
              (subst (λ ws. Stands ws d.graph.count d.seen (suc (field 0 6 w)) false) p (stands_feed (drafted d) d.graph.count d.seen d.least stands_open w some k)));
        }

  module _ (output : Output) (all : d.seen ≡ d.graph.count) (node : output.node < d.graph.count) (small : output.delay < byte) where
    pub output_drafted : drafted (output_read d output) ≡ drafted d ++ output_word output ∷ []
    output_drafted = ap (λ ws. ws ++ output_word output ∷ []) (sym (open_words d open'))

    pub output_sound : (w : ℕ) → kind_of w ≡ (Some kind.Output) → w ≡ output_word output → Sound (output_read d output)
    output_sound w k e =
        let p : drafted d ++ w ∷ [] ≡ drafted (output_read d output) = ap (λ v. drafted d ++ v ∷ []) e ∙ sym output_drafted in
        let r = s.ranges in
        record {
          ranges = r;
          seen = s.seen;
          rest = s.rest;
          least = λ h. absurd (none_some (sym h));
          output = λ x h. let same : output ≡ x = cc in (all, subst (λ (o : Output). o.node < d.graph.count) same node, subst (λ (o : Output). o.delay < byte) same small);
          stands = subst (λ ws. Stands ws d.graph.count d.seen 0 true) p (stands_output (drafted d) d.graph.count d.seen d.least stands_open w (omega (arith, r.some)) k);
        }
