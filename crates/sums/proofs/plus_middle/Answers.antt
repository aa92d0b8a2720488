-- The low sum is below what was added exactly where it passed 2 ^ 64.
use Rattle.std.proofs.Common.{◌≡◌, ℕ, ◌+◌, ◌*◌, ◌/◌, ◌%◌, ◌^◌, ◌<◌, ◌≤◌, refl, arith}
use Rattle.sums.specs.Wide.{value_of}
use Rattle.sums.proofs.TwoWords.{words_of}
use Rattle.sums.proofs.plus_middle.Goals as goal

module _ (hi lo middle sum : ℕ) (l : lo < 2 ^ 64) (e : sum ≡ (lo + middle % 2 ^ 32 * 2 ^ 32) % 2 ^ 64) where
  sum_lt : sum < 2 ^ 64
  sum_lt = omega arith

  carried : sum < middle % 2 ^ 32 * 2 ^ 32 → (hi + middle / 2 ^ 32 + 1) * 2 ^ 64 + sum ≡ hi * 2 ^ 64 + lo + middle * 2 ^ 32
  carried h = omega arith

  not_carried : middle % 2 ^ 32 * 2 ^ 32 ≤ sum → (hi + middle / 2 ^ 32) * 2 ^ 64 + sum ≡ hi * 2 ^ 64 + lo + middle * 2 ^ 32
  not_carried h = omega arith

pub returns-then-lo-low : goal.returns-then-lo-low
unfolding value_of
returns-then-lo-low c =
    let w = c.args.w in
    let l : w.lo < 2 ^ 64 = omega (arith, c.well_formed) in
    (words_of _ _ _ (sum_lt w.hi w.lo c.args.middle _ l refl) (carried w.hi w.lo c.args.middle _ l refl c.if-lo-low.true), omega arith)

pub returns-else-lo-low : goal.returns-else-lo-low
unfolding value_of
returns-else-lo-low c =
    let w = c.args.w in
    let l : w.lo < 2 ^ 64 = omega (arith, c.well_formed) in
    (words_of _ _ _ (sum_lt w.hi w.lo c.args.middle _ l refl) (not_carried w.hi w.lo c.args.middle _ l refl c.if-lo-low.false), omega arith)
