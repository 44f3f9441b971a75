-- Arrays that are alike have the same histories, put out the same, and are ordered and reached alike.
use Rattle.std.proofs.Common.{◌≡◌, ℕ, ◌<◌, ◌≤◌, true, List, map, sym, ◌∙◌, subst, ap₂, arith}
use Rattle.std.specs.List.{All}
use Rattle.words.specs.Designs.{is_source}
use Rattle.cells.specs.Meaning.{Meaning, applied}
use Rattle.machine.specs.Arrays.{Array, Earlier, Ordered, Runs, put_out}
use Rattle.machine.specs.ProgramArrays.{Alike}
use Rattle.machine.specs.Steps.{Reached, line_long}
use Rattle.machine.specs.Values.{past, heard, operand}

module _ (a b : Array) (alike : Alike a b) where
  node_back : (i : ℕ) → i < b.count → i < a.count
  node_back i l = omega (arith, alike.count)

  pub runs_alike : {E A : Type 0} (m : Meaning E A) (rest x : ℕ → E) (u : ℕ → ℕ → E) → Runs a m rest x u → Runs b m rest x u
  runs_alike m rest x u runs =
      record {
        holds = λ i τ l early. let la = node_back i l in runs.holds i τ la (omega (arith, alike.lag i la));
        computes = λ i τ l late.
            let la = node_back i l in
            runs.computes i τ la (omega (arith, alike.lag i la)) ∙ ap₂ (λ o ts. applied m o (map (operand (heard rest u x τ)) ts)) (alike.operation i la) (alike.taps i la);
      }

  pub put_out_alike : {E : Type 0} (rest : ℕ → E) (u : ℕ → ℕ → E) (τ : ℕ) → put_out a rest u τ ≡ put_out b rest u τ
  put_out_alike rest u τ = ap₂ (λ o d. past (u o) (rest o) τ d) alike.output alike.output_delay

  pub ordered_alike : (rank : ℕ → ℕ) → Ordered a rank → Ordered b rank
  ordered_alike rank o =
      record {
        few = omega (arith, alike.count, o.few);
        ranks = λ i l. omega (arith, alike.count, o.ranks i (node_back i l));
        taps = λ i l.
            let la = node_back i l in
            subst (All (Earlier b rank i)) (alike.taps i la)
            (subst (λ n. All (λ tap. (is_source n tap.source ≡ true) × (tap.source < n → tap.delay ≡ 0 → rank tap.source < rank i)) (a.taps i)) alike.count (o.taps i la));
      }

  pub reached_alike : (lines : List ℕ) → Reached a lines → Reached b lines
  reached_alike lines r =
      record {
        taps = λ i l.
            let la = node_back i l in
            subst (All (λ tap. tap.delay ≤ line_long b.count lines tap.source)) (alike.taps i la)
            (subst (λ n. All (λ tap. tap.delay ≤ line_long n lines tap.source) (a.taps i)) alike.count (r.taps i la));
        output_node = omega (arith, alike.count, alike.output, r.output_node);
        output = omega (arith, alike.output_delay, ap₂ (λ n j. line_long n lines j) alike.count alike.output, r.output);
      }

-- and the other way round
pub alike_back : (a b : Array) → Alike a b → Alike b a
alike_back a b alike =
    record {
      count = sym alike.count;
      operation = λ i l. sym (alike.operation i (omega (arith, alike.count)));
      lag = λ i l. sym (alike.lag i (omega (arith, alike.count)));
      taps = λ i l. sym (alike.taps i (omega (arith, alike.count)));
      output = sym alike.output;
      output_delay = sym alike.output_delay;
    }
