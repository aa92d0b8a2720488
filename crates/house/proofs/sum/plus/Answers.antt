-- The low sum is below what was added exactly where it passed 2 ^ 64.
use Rattle.std.proofs.Common.{◌≡◌, ℕ, ◌+◌, ◌*◌, ◌%◌, ◌^◌, ◌<◌, Bool, true, false, ltb, refl, arith, ltb-true, ltb-false}
use mir.Val.{bool_byte}
use Rattle.sums.specs.Wide.{value_of}
use Rattle.sums.proofs.TwoWords.{words_of}
use Rattle.house.proofs.sum.plus.Goals as goal

module _ (hi lo x sum : ℕ) (l : lo < 2 ^ 64) (m : x < 2 ^ 64) (e : sum ≡ (lo + x) % 2 ^ 64) where
  sum_lt : sum < 2 ^ 64
  sum_lt = omega arith

  carried : (t : Bool) → ltb sum x ≡ t → (hi + bool_byte t) * 2 ^ 64 + sum ≡ hi * 2 ^ 64 + lo + x
  carried true h = omega (arith, ltb-true sum x h)
  carried false h = omega (arith, ltb-false sum x h)

pub returns : goal.returns
unfolding value_of
returns c =
    let l : c.args.w.lo < 2 ^ 64 = omega (arith, c.well_formed) in
    let m : c.args.x < 2 ^ 64 = omega (arith, c.ranges.x) in
    rw c.from.ensures (words_of _ _ _ (sum_lt c.args.w.hi _ c.args.x _ l m refl) (carried c.args.w.hi _ c.args.x _ l m refl _ refl))
