-- A negative number is the negation of its size, and so is its double.
use Rattle.std.proofs.Common.{◌≡◌, false, ℤ, pos, negsuc, nat_abs, ap, ◌∙◌, arith, to_z-of_z, leb-false}
use lib.Signed.{le_z}
use lib.Ieee.{binary64, neg, of_int}
use Rattle.doubles.proofs.Signs.{int_neg}
use Rattle.doubles.proofs.i64_to_f64.Goals as goal

negated : (n : ℤ) → le_z (pos 0) n ≡ false → neg (of_int binary64 (pos (nat_abs n))) ≡ of_int binary64 n
negated (pos m) h = absurd (omega (arith, leb-false 0 m h))
negated (negsuc k) h = int_neg binary64 k

pub returns : goal.returns
returns c =
    let r = to_z-of_z c.ranges.n in
    ap neg c.u64_to_f64-2.ensures ∙ ap (λ m. neg (of_int binary64 (pos m))) (c.unsigned_abs.ensures.value ∙ ap nat_abs r) ∙ negated c.args.n (rw r at c.if-n-ge0.false)
