-- What is clamped is not below zero, so it has a negative.
use Rattle.std.proofs.Common.{◌≡◌, ℕ, ◌-◌, ◌^◌, min, true, false, ℤ, pos, nat_abs, sym, refl, ◌∙◌, arith, w64, SFits}
use lib.IntN.{+ℤ_idl}
use Rattle.sums.specs.Sums.{clamp64, signed}
use Rattle.sums.proofs.TwoWords.{value_of-wide}
use Rattle.sizing.specs.Sizing.{above, shares_for, cut_to}
use Rattle.sizing.proofs.Bits.{read_back}
use Rattle.sizing.proofs.Sizes.{signed-fits}
use Rattle.sizing.proofs.truncate_qty_to_max_value.Goals as goal

clamped_up : (n : ℕ) → clamp64 (signed false n) ≡ pos (min n (2 ^ 63 - 1))
unfolding clamp64 signed
clamped_up n = refl

abbrev cut : (price step max : ℤ) → ℕ
cut price step max = min (shares_for (above max) (nat_abs price) (above step)) (2 ^ 63 - 1)

opposite_fits : (price step max : ℤ) → SFits w64 (signed true (cut price step max))
opposite_fits price step max = signed-fits true (cut price step max) (omega arith)

pub overflow_sub-most : goal.overflow_sub-most
unfolding signed
overflow_sub-most c =
    let k = c.clamped-most in
    rw (
      read_back k.result k.type_inv,
      k.ensures,
      c.shares_for-snapped.ensures,
      value_of-wide,
      clamped_up,
      c.unsigned_abs.ensures.value,
      c.above.ensures,
      c.above-2.ensures,
      read_back c.args.max_value c.ranges.max_value.sfits,
      read_back c.args.price c.ranges.price.sfits,
      read_back c.args.step c.ranges.step.sfits,
      +ℤ_idl,
    )
    (opposite_fits c.args.price c.args.step c.args.max_value)

pub returns-then-is_negative : goal.returns-then-is_negative
unfolding cut_to signed
returns-then-is_negative c =
    let k = c.clamped-most in
    let e = sym c.is_negative.ensures ∙ c.if-is_negative.true in
    simp e
    (rw (
      c.from_raw.ensures,
      read_back k.result k.type_inv,
      k.ensures,
      c.shares_for-snapped.ensures,
      value_of-wide,
      clamped_up,
      c.unsigned_abs.ensures.value,
      c.above.ensures,
      c.above-2.ensures,
      read_back c.args.max_value c.ranges.max_value.sfits,
      read_back c.args.price c.ranges.price.sfits,
      read_back c.args.step c.ranges.step.sfits,
      +ℤ_idl,
    )
    (read_back (signed true (cut c.args.price c.args.step c.args.max_value)) (opposite_fits c.args.price c.args.step c.args.max_value).sfits))

pub returns : goal.returns
unfolding cut_to signed
returns c =
    let k = c.clamped-most in
    let e = sym c.is_negative.ensures ∙ c.if-is_negative.false in
    simp e
    (rw (
      c.from_raw-2.ensures,
      read_back k.result k.type_inv,
      k.ensures,
      c.shares_for-snapped.ensures,
      value_of-wide,
      clamped_up,
      c.unsigned_abs.ensures.value,
      c.above.ensures,
      c.above-2.ensures,
      read_back c.args.max_value c.ranges.max_value.sfits,
      read_back c.args.price c.ranges.price.sfits,
      read_back c.args.step c.ranges.step.sfits,
    ))
