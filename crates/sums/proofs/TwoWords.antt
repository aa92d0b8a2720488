-- Two words and the number that they stand for are each other's inverse, and the few products that two-word sums need.
use Rattle.std.proofs.Common.{◌≡◌, ℕ, ◌+◌, ◌*◌, ◌/◌, ◌%◌, ◌^◌, ◌<◌, ◌≤◌, sym, refl, ap, ◌∙◌, subst, div-lt_iff_lt-mul, mul-le-mul, arith, lit<}
use lib.Arith.{digits_lt}
use Rattle.sums.specs.declared.Wide.{Wide}
use Rattle.sums.specs.Wide.{value_of, wide}

pub value_of-words : (w : Wide) → value_of w ≡ w.hi * 2 ^ 64 + w.lo
unfolding value_of
value_of-words w = refl

-- every number is what its two words stand for; the upper one is a word for a number below 2 ^ 128
pub value_of-wide : (n : ℕ) → value_of (wide n) ≡ n
unfolding value_of wide
value_of-wide n = omega arith

pub wide_hi_fits : (n : ℕ) → n < 2 ^ 128 → (wide n).hi < 2 ^ 64
unfolding wide
wide_hi_fits n h = (div-lt_iff_lt-mul {k = 2 ^ 64} (lit< tt)).1 h

pub wide_lo_fits : (n : ℕ) → (wide n).lo < 2 ^ 64
unfolding wide
wide_lo_fits n = omega arith

pub value_of-fits : (w : Wide) → w.hi < 2 ^ 64 → w.lo < 2 ^ 64 → value_of w < 2 ^ 128
unfolding value_of
value_of-fits w h l = digits_lt h l

-- words are the words of a number as soon as they stand for it
pub words_of : (hi lo n : ℕ) → lo < 2 ^ 64 → hi * 2 ^ 64 + lo ≡ n → record { hi = hi; lo = lo } ≡ wide n
unfolding wide
words_of hi lo n l e =
    let p : hi ≡ n / 2 ^ 64 = omega arith in
    let q : lo ≡ n % 2 ^ 64 = omega arith in
    λ i. record { hi = p i; lo = q i }

pub wide-value_of : (w : Wide) → w.lo < 2 ^ 64 → wide (value_of w) ≡ w
unfolding value_of
wide-value_of w l = sym (words_of w.hi w.lo (value_of w) l refl)

-- a number whose upper word is 0 is its lower word
pub one_word : (w : Wide) (n : ℕ) → w ≡ wide n → w.hi ≡ 0 → (w.lo ≡ n) × (w.lo < 2 ^ 64)
unfolding value_of
one_word w n e h =
    let v : w.hi * 2 ^ 64 + w.lo ≡ n = ap value_of e ∙ value_of-wide n in
    (omega arith, subst (λ (x : Wide). x.lo < 2 ^ 64) (sym e) (wide_lo_fits n))

-- the product of two halves of a word
pub half_product : (x y : ℕ) → x < 2 ^ 32 → y < 2 ^ 32 → x * y ≤ 0xffff_ffff * 0xffff_ffff
half_product x y hx hy = mul-le-mul {n₁ = x} {m₁ = y} {n₂ = 0xffff_ffff} {m₂ = 0xffff_ffff} (omega arith) (omega arith)
