use Rattle.std.proofs.Common.{ℕ, ◌/◌, ◌%◌, ◌^◌, ◌<◌, ◌≤◌, sym, ap, ◌∙◌, arith}
use Rattle.std.proofs.Math.Nat.{div-eq_of_lt, mod-eq_of_lt, pow-le-pow_right, div-le_self, zero-mod}
use Rattle.std.proofs.lemmas.Nat.{one_shl, and_mask}
use Rattle.words.proofs.kinds.field_of.Goals as goal

-- a word is below every power of 2 from 2 ^ 32 on
below_power : (w k : ℕ) → w < 2 ^ 32 → 32 ≤ k → w < 2 ^ k
below_power w k fits l = omega (arith, pow-le-pow_right {n = 2} (omega arith) l)

pub returns-then-low-ge-BITS : goal.returns-then-low-ge-BITS
returns-then-low-ge-BITS c =
    let w = c.args.word in
    sym (ap (λ q. q % 2 ^ c.args.bits) (div-eq_of_lt (below_power w c.args.low c.ranges.word.fits c.if-low-ge-BITS.true)) ∙ zero-mod (2 ^ c.args.bits))

pub returns-then-bits-ge-BITS : goal.returns-then-bits-ge-BITS
returns-then-bits-ge-BITS c =
    let w = c.args.word in
    sym (mod-eq_of_lt (below_power (w / 2 ^ c.args.low) c.args.bits (omega (arith, div-le_self w (2 ^ c.args.low), c.ranges.word.fits)) c.if-bits-ge-BITS.true))

pub returns : goal.returns
returns c = rw (one_shl c.args.bits 32 (omega (arith, c.if-bits-ge-BITS.false))) (and_mask _ c.args.bits)
