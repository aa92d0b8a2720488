-- The upper word's quotient, and the lower word's with what the upper one leaves.
use Rattle.std.proofs.Common.{◌≡◌, ℕ, ◌+◌, ◌*◌, ◌/◌, ◌%◌, ◌^◌, ◌<◌, sym, ap, ◌∙◌, subst, arith}
use lib.Arith.{digits_div}
use Rattle.sums.specs.Wide.{value_of}
use Rattle.sums.proofs.TwoWords.{words_of}
use Rattle.sums.proofs.Division.{upper_quotient, digit_lt}
use Rattle.sums.proofs.div_bits.Goals as goal

module _ (h l d q r : ℕ) (pos : 0 < d) (hl : l < 2 ^ 64) (e : q * d + r ≡ h % d * 2 ^ 64 + l) (hr : r < d) where
  low-quotient : q ≡ (h % d * 2 ^ 64 + l) / d
  low-quotient = sym (digits_div q hr) ∙ ap (λ (x : ℕ). x / d) e

  low_fits : q < 2 ^ 64
  low_fits = subst (λ (x : ℕ). x < 2 ^ 64) (sym low-quotient) (digit_lt h l d (2 ^ 64) pos hl)

  quotient : h / d * 2 ^ 64 + q ≡ (h * 2 ^ 64 + l) / d
  quotient = omega (arith, low-quotient, upper_quotient h l d (2 ^ 64) pos)

pub returns : goal.returns
unfolding value_of
returns c =
    let w = c.div_word-low in
    let l : c.args.n.lo < 2 ^ 64 = omega (arith, c.well_formed) in
    words_of _ _ _
    (low_fits c.args.n.hi c.args.n.lo c.args.d w.result.quotient w.result.rest c.requires l w.ensures.0 w.ensures.1)
    (quotient c.args.n.hi c.args.n.lo c.args.d w.result.quotient w.result.rest c.requires l w.ensures.0 w.ensures.1)
