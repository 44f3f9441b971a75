use Rattle.std.proofs.Common.{◌≡◌, ℕ, ◌<◌, ◌≤◌, ◌-◌, ◌&&◌, eqb, Some, sym, ap, ◌∙◌, ap₂, ⊎_elim, arith}
use Rattle.std.specs.Option.{option_map}
use Rattle.std.proofs.lemmas.Bool.{cases_eq, eq-eqb, ne_eqb, lt-ltb}
use Rattle.words.specs.declared.graph.Graph.{Graph}
use Rattle.words.specs.Designs.{InRange, feed_at}
use Rattle.words.proofs.Ranges.{ranges}
use Rattle.bench.specs.declared.retiming.Retiming.{Retiming}
use Rattle.bench.specs.Retimings.{Sound, waits, is_zero, ahead, source_lag, delay_of}
use Rattle.bench.proofs.Soundness.{sound, feed_fits}
use Rattle.bench.proofs.retimed.Retimed.waits.Goals as goal

-- a delay is zero just where both ends are the same
zero_same : (a s : ℕ) → s ≤ a → eqb a s ≡ eqb (a - s) 0
zero_same a s l =
    ⊎_elim (λ (e : a ≡ s). eq-eqb a s e ∙ sym (eq-eqb (a - s) 0 (omega arith))) (λ (ne : a ≡ s → ⊥). ne_eqb a s ne ∙ sym (ne_eqb (a - s) 0 (λ q. ne (omega arith)))) (cases_eq a s)

-- what a feed that is there comes to
by_feed : (g : Graph) (p : Retiming) (i j a : ℕ) → InRange g → Sound g p → feed_at g i j ≡ Some a → j < g.count → eqb (ahead p i a) (source_lag p j) ≡ waits g p i j
by_feed g p i j a r s e l =
    let f = feed_fits g p r s i j a e in
    zero_same (ahead p i a) (source_lag p j) f.4 ∙ sym (ap₂ (λ b o. b && is_zero o) (lt-ltb j g.count l) (ap (option_map (delay_of p i j)) e))

pub returns-in-Some : goal.returns-in-Some
returns-in-Some c =
    let g : Graph = c.args.self.now.design.now.graph in
    let p : Retiming = c.args.self.now.retiming.now in
    ap₂ eqb c.ahead.ensures c.lag.ensures.source
    ∙ by_feed g p c.args.node c.args.source c.in-Some.delay (ranges g c.args.self.now.design.now.sound) (sound g p c.args.self.now.sound) (sym c.feed.ensures ∙ c.in-Some.is) c.requires
