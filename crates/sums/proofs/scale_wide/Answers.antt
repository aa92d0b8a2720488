-- The upper word's quotient, then two steps of long division in base 2 ^ 32.
use Rattle.std.proofs.Common.{◌≡◌, ℕ, ◌+◌, ◌*◌, ◌/◌, ◌%◌, ◌^◌, ◌<◌, sym, ap, ◌∙◌, subst, arith}
use Rattle.sums.specs.Sums.{SCALE}
use Rattle.sums.specs.Wide.{value_of}
use Rattle.sums.proofs.TwoWords.{words_of}
use Rattle.sums.proofs.Division.{upper, lower, upper_digit, lower_digit, two_digits}
use Rattle.sums.proofs.scale_wide.Goals as goal

-- what the steps gave are those of the law: (uq, ur) of the upper word, (mq, mr) and (lq, lr) of the digits below it
module _ (h l uq ur mq mr lq : ℕ) (fits : l < 2 ^ 64) (some : 0 < SCALE)
    (uq-is : uq ≡ h / SCALE) (ur-is : ur ≡ h % SCALE)
    (mq-is : mq ≡ (ur * 2 ^ 32 + l / 2 ^ 32) / SCALE) (mr-is : mr ≡ (ur * 2 ^ 32 + l / 2 ^ 32) % SCALE)
    (lq-is : lq ≡ (mr * 2 ^ 32 + l % 2 ^ 32) / SCALE) where
  upper_is : ur * 2 ^ 32 + l / 2 ^ 32 ≡ upper h l SCALE fits some
  upper_is = ap (λ (x : ℕ). x * 2 ^ 32 + l / 2 ^ 32) ur-is

  middle-is : mq ≡ upper h l SCALE fits some / SCALE
  middle-is = mq-is ∙ ap (λ (x : ℕ). x / SCALE) upper_is

  lower-is : lq ≡ lower h l SCALE fits some / SCALE
  lower-is =
      let r : mr ≡ upper h l SCALE fits some % SCALE = mr-is ∙ ap (λ (x : ℕ). x % SCALE) upper_is in
      lq-is ∙ ap (λ (x : ℕ). (x * 2 ^ 32 + l % 2 ^ 32) / SCALE) r

  middle-lt : mq < 2 ^ 32
  middle-lt = subst (λ (x : ℕ). x < 2 ^ 32) (sym middle-is) (upper_digit h l SCALE fits some)

  lower-lt : lq < 2 ^ 32
  lower-lt = subst (λ (x : ℕ). x < 2 ^ 32) (sym lower-is) (lower_digit h l SCALE fits some)

  quotient : uq * 2 ^ 64 + (mq * 2 ^ 32 + lq) ≡ (h * 2 ^ 64 + l) / SCALE
  quotient = (λ i. uq-is i * 2 ^ 64 + (middle-is i * 2 ^ 32 + lower-is i)) ∙ two_digits h l SCALE fits some

pub returns : goal.returns
unfolding value_of
returns c =
    let u = c.scale_word-upper in
    let m = c.scale_digit-middle in
    let w = c.scale_digit-lower in
    let n = c.args.n in
    let fits : n.lo < 2 ^ 64 = omega (arith, c.well_formed) in
    let some : 0 < SCALE = omega arith in
    words_of _ _ _
    (omega (
      arith,
      middle-lt n.hi n.lo _ _ _ _ _ fits some u.ensures.0 u.ensures.1 m.ensures.0 m.ensures.1 w.ensures.0,
      lower-lt n.hi n.lo _ _ _ _ _ fits some u.ensures.0 u.ensures.1 m.ensures.0 m.ensures.1 w.ensures.0,
    ))
    (quotient n.hi n.lo _ _ _ _ _ fits some u.ensures.0 u.ensures.1 m.ensures.0 m.ensures.1 w.ensures.0)
