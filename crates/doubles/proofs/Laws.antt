-- The laws of the casts and of rounding, each under the clause that it says. Assumes nothing.
use mathlib.Core.Path.{◌≡◌, refl, sym, ap, ◌∙◌, subst}
use mathlib.Core.Bool.{Bool, true, false, cond}
use Prim.Native.Nat.{ℕ, zero, suc, ◌+◌, ◌-◌, ◌*◌, ◌/◌, ◌%◌, ◌^◌, ◌≤◌, ◌<◌, min, compare, Ordering}
use native.Mathlib.Nat.{le_of_lt, mul_comm, mul-le-mul_right, mod-lt, div-lt_iff_lt-mul, le-div_iff_mul-le, div-le_of_le-mul, div-add-mod', add-zero, add-mul, suc-mul, mul_left_comm, zero-div, div-eq_of_lt}
use native.Mathlib.Omega.{arith}
use lib.Dec.{T, leb→le, le→leb}
use lib.Pow.{pow_pos}
use lib.IntN.{ℤ, pos, negsuc, neg_ℤ}
use lib.Signed.{le_z, mag}
use mir.Syntax.{w64}
use mir.Val.{SFits}
use lib.Ieee.{Float, nan, inf, fin, binary64, up, down, nearest, round, neg, le, of_int, to_signed, in_float, fits}
use lib.Ieee.Fits.{down_pos, round-fits}
use lib.Ieee.Casts.{to_signed_in}
use lib.Ieee.Exact.{HasValue}
use lib.Ieee.Nearest.{closest, div_mono}
use lib.Ieee.Order.{round_mono}
use lib.Ieee.Scale.{round_val}
use lib.Ieee.Back.{round_whole, whole_unique, positive_back, negative_back}
use Rattle.doubles.specs.Doubles.{finite, to_i64, of_i64, of_u64, near_whole, round_away}
use Rattle.doubles.proofs.Order.{SignedLe, le-fin→, values_le, bottom_le, le_top, neg_le, clear, round_clear, dark, dark_le, neg_dark, no_product}
use Rattle.doubles.proofs.Signs.{int_neg}
use Rattle.doubles.proofs.Even.{whole-value, grid_is, grid_small, compared, Cmp}
use Rattle.doubles.proofs.Away.{digits-few, near-whole, near_same, spread}

-- ==== f64 to i64: "truncates, saturates, and gives 0 for NaN"
pub to_i64-fits : (x : Float) → SFits w64 (to_i64 x)
to_i64-fits x = record { sfits = to_signed_in 63 x }

pub to_i64_nan : to_i64 nan ≡ pos 0
unfolding to_signed
to_i64_nan = refl

-- "rounds the float towards zero": the whole part q of the size, with the sign
pub to_i64_toward_zero : (s : Bool) (m : ℕ) (e : ℤ) (q : ℕ) → q * down e ≤ m * up e → m * up e < suc q * down e → q < 2 ^ 63 → to_i64 (fin s m e) ≡ cond s (neg_ℤ (pos q)) (pos q)
unfolding to_signed
to_i64_toward_zero s m e q lo hi h = go s
  where
    whole : m * up e / down e ≡ q
    whole = close (m * up e / down e) q ((le-div_iff_mul-le (down_pos e)).1 lo) ((div-lt_iff_lt-mul (down_pos e)).1 hi)
      where
        close : (a q : ℕ) → q ≤ a → a < suc q → a ≡ q
        close a q l g = omega arith

    kept : (c : ℕ) → q ≤ c → min (m * up e / down e) c ≡ q
    kept c g = ap (λ (a : ℕ). min a c) whole ∙ least q c g
      where
        least : (q c : ℕ) → q ≤ c → min q c ≡ q
        least q c g = omega arith

    go : (s : Bool) → cond s (neg_ℤ (pos (min (m * up e / down e) (2 ^ 63)))) (pos (min (m * up e / down e) (2 ^ 63 - 1))) ≡ cond s (neg_ℤ (pos q)) (pos q)
    go true = ap (λ (n : ℕ). neg_ℤ (pos n)) (kept (2 ^ 63) (omega arith))
    go false = ap pos (kept (2 ^ 63 - 1) (omega arith))

-- the order of whole numbers with a sign
signed_le : (s : Bool) (a : ℕ) (t : Bool) (b : ℕ) → SignedLe s a t b → T (le_z (cond s (neg_ℤ (pos (min a (2 ^ 63)))) (pos (min a (2 ^ 63 - 1)))) (cond t (neg_ℤ (pos (min b (2 ^ 63)))) (pos (min b (2 ^ 63 - 1)))))
signed_le false a false b h = le→leb (min a (2 ^ 63 - 1)) (min b (2 ^ 63 - 1)) (omega arith)
signed_le false a true b h = subst (λ (a : ℕ). T (le_z (pos (min a (2 ^ 63 - 1))) (neg_ℤ (pos (min b (2 ^ 63)))))) (sym h.0) (subst (λ (b : ℕ). T (le_z (pos 0) (neg_ℤ (pos (min b (2 ^ 63)))))) (sym h.1) tt)
signed_le true a false b h = go (min a (2 ^ 63))
  where
    go : (n : ℕ) → T (le_z (neg_ℤ (pos n)) (pos (min b (2 ^ 63 - 1))))
    go zero = le→leb 0 (min b (2 ^ 63 - 1)) (omega arith)
    go (suc n) = tt
signed_le true a true b h = go (min a (2 ^ 63)) (min b (2 ^ 63)) (omega arith)
  where
    go : (n m : ℕ) → m ≤ n → T (le_z (neg_ℤ (pos n)) (neg_ℤ (pos m)))
    go zero zero l = tt
    go zero (suc m) l = absurd (none m l)
      where
        none : (m : ℕ) → suc m ≤ 0 → ⊥
        none m l = omega arith
    go (suc n) zero l = tt
    go (suc n) (suc m) l = le→leb m n (omega arith)

bottom : (z : ℤ) → mag z < 2 ^ 63 → T (le_z (negsuc (2 ^ 63 - 1)) z)
bottom (pos n) h = tt
bottom (negsuc n) h = le→leb n (2 ^ 63 - 1) (omega arith)

top : (z : ℤ) → mag z < 2 ^ 63 → T (le_z z (pos (2 ^ 63 - 1)))
top (pos n) h = le→leb n (2 ^ 63 - 1) (omega arith)
top (negsuc n) h = tt

parts_le : (s : Bool) (a c : ℕ) (t : Bool) (b d : ℕ) → 0 < c → 0 < d → SignedLe s (a * d) t (b * c) → SignedLe s (a / c) t (b / d)
parts_le false a c false b d C D h = div_mono a c b d C D h
parts_le false a c true b d C D h = (ap (λ (a : ℕ). a / c) (no_product a d D h.0) ∙ zero-div c, ap (λ (b : ℕ). b / d) (no_product b c C h.1) ∙ zero-div d)
parts_le true a c false b d C D h = tt
parts_le true a c true b d C D h = div_mono b d a c D C h

pub to_i64_mono : (x y : Float) → T (le x y) → T (le_z (to_i64 x) (to_i64 y))
unfolding le to_signed
to_i64_mono nan y h = absurd h
to_i64_mono (inf true) y h = bottom (to_signed 63 y) (to_signed_in 63 y)
to_i64_mono (inf false) nan h = absurd h
to_i64_mono (inf false) (inf true) h = absurd h
to_i64_mono (inf false) (inf false) h = top (pos (2 ^ 63 - 1)) (omega arith)
to_i64_mono (inf false) (fin t n d) h = absurd h
to_i64_mono (fin s m e) nan h = absurd h
to_i64_mono (fin s m e) (inf true) h = absurd h
to_i64_mono (fin s m e) (inf false) h = top (to_signed 63 (fin s m e)) (to_signed_in 63 (fin s m e))
to_i64_mono (fin s m e) (fin t n d) h =
    signed_le s (m * up e / down e) t (n * up d / down d) (parts_le s (m * up e) (down e) t (n * up d) (down d) (down_pos e) (down_pos d) (le-fin→ s m e t n d h))

-- "saturates": the two ends
last : (n : ℕ) → n < 2 ^ 63 → 2 ^ 63 - 1 ≤ n → n ≡ 2 ^ 63 - 1
last n f l = omega arith

pub to_i64_top : (x : Float) → T (le (fin false 1 (pos 63)) x) → to_i64 x ≡ pos (2 ^ 63 - 1)
unfolding to_signed
to_i64_top x h = ends (to_i64 x) (to_signed_in 63 x) (to_i64_mono (fin false 1 (pos 63)) x h)
  where
    ends : (z : ℤ) → mag z < 2 ^ 63 → T (le_z (pos (2 ^ 63 - 1)) z) → z ≡ pos (2 ^ 63 - 1)
    ends (pos n) f l = ap pos (last n f (leb→le (2 ^ 63 - 1) n l))
    ends (negsuc n) f l = absurd l

pub to_i64_bottom : (x : Float) → T (le x (fin true 1 (pos 63))) → to_i64 x ≡ neg_ℤ (pos (2 ^ 63))
unfolding to_signed
to_i64_bottom x h = ends (to_i64 x) (to_signed_in 63 x) (to_i64_mono x (fin true 1 (pos 63)) h)
  where
    ends : (z : ℤ) → mag z < 2 ^ 63 → T (le_z z (negsuc (2 ^ 63 - 1))) → z ≡ negsuc (2 ^ 63 - 1)
    ends (pos n) f l = absurd l
    ends (negsuc n) f l = ap negsuc (last n f (leb→le (2 ^ 63 - 1) n l))

-- ==== i64 and u64 to f64: "rounds to nearest, ties to even"
pub of_u64_exact : (n : ℕ) → n ≤ 2 ^ 53 → HasValue (of_u64 n) false n 1
unfolding of_int
of_u64_exact n h = round_whole binary64 false n h

pub of_i64_exact : (k : ℕ) → suc k ≤ 2 ^ 53 → HasValue (of_i64 (negsuc k)) true (suc k) 1
unfolding of_int
of_i64_exact k h = round_whole binary64 true (suc k) h

pub of_i64_back : (z : ℤ) → T (in_float binary64 z) → SFits w64 z → to_i64 (of_i64 z) ≡ z
of_i64_back (pos n) h f = (positive_back binary64 63 n h f.sfits).1
of_i64_back (negsuc k) h f = (negative_back binary64 63 k h (omega (arith, f.sfits))).1

-- n of 53 + k digits is q of the 2 ^ k that lie between two doubles there, q being nearest
pub of_u64_nearest : (n k : ℕ) → 2 ^ (52 + k) ≤ n → n < 2 ^ (53 + k) → k ≤ 11 → HasValue (of_u64 n) false (closest n (2 ^ k) * 2 ^ k) 1
unfolding of_int
of_u64_nearest n k lo hi h =
    whole-value (round binary64 false n 1) false (closest n (2 ^ k) * 2 ^ k) (2 ^ 1074) (pow_pos 1074)
    (subst (λ (x : ℕ). HasValue (round binary64 false n 1) false x (2 ^ 1074)) (grid_is n k lo hi h) (round_val binary64 n 1 (grid_small n k lo hi h)))

-- IEEE 754-2019 4.3.1, roundTiesToEven: no double is nearer, and of two equally near ones it is the one whose last digit is even
pub record NearestEven (n u q : ℕ) : Type 0 where
  pub not_above : 2 * (q * u) ≤ 2 * n + u
  pub not_below : 2 * n ≤ 2 * (q * u) + u
  pub even_at_tie : (2 * (q * u) ≡ 2 * n + u → q % 2 ≡ 0) × (2 * n ≡ 2 * (q * u) + u → q % 2 ≡ 0)

by_order : (n u q r : ℕ) (o : Ordering) → 0 < u → q * u + r ≡ n → r < u → Cmp o (r * 2) u → NearestEven n u (nearest q o)
by_order n u q r Ordering.lt U e l c = record { not_above = omega arith; not_below = omega arith; even_at_tie = (λ h. absurd (high (q * u) n r u h e U), λ h. absurd (low (q * u) n r u h e c)) }
  where
    high : (p n r u : ℕ) → 2 * p ≡ 2 * n + u → p + r ≡ n → 0 < u → ⊥
    high p n r u h e U = omega arith

    low : (p n r u : ℕ) → 2 * n ≡ 2 * p + u → p + r ≡ n → r * 2 < u → ⊥
    low p n r u h e c = omega arith
by_order n u q r Ordering.eq U e l c = go (q % 2) refl (mod-lt q (pow_pos 1))
  where
    none : (p : ℕ) → suc (suc p) < 2 → ⊥
    none p h = omega arith

    go : (p : ℕ) → q % 2 ≡ p → p < 2 → NearestEven n u (q + p)
    go zero f h =
        let a : (q + 0) * u ≡ q * u = ap (λ (x : ℕ). x * u) (add-zero q) in
        let g : (q + 0) % 2 ≡ 0 = ap (λ (x : ℕ). x % 2) (add-zero q) ∙ f in
        record { not_above = omega arith; not_below = omega arith; even_at_tie = (λ h. g, λ h. g) }
    go (suc zero) f h =
        let a : (q + 1) * u ≡ q * u + 1 * u = add-mul q 1 u in
        let g : (q + 1) % 2 ≡ 0 = omega arith in
        record { not_above = omega arith; not_below = omega arith; even_at_tie = (λ h. g, λ h. g) }
    go (suc (suc p)) f h = absurd (none p h)
by_order n u q r Ordering.gt U e l c =
    let a : suc q * u ≡ q * u + u = suc-mul q u in
    record { not_above = omega arith; not_below = omega arith; even_at_tie = (λ h. absurd (high (q * u) (suc q * u) n r u a h e c), λ h. absurd (low (q * u) (suc q * u) n r u a h e l U)) }
  where
    high : (p s n r u : ℕ) → s ≡ p + u → 2 * s ≡ 2 * n + u → p + r ≡ n → u < r * 2 → ⊥
    high p s n r u a h e c = omega arith

    low : (p s n r u : ℕ) → s ≡ p + u → 2 * n ≡ 2 * s + u → p + r ≡ n → r < u → 0 < u → ⊥
    low p s n r u a h e l U = omega arith

pub closest_nearest : (n u : ℕ) → 0 < u → NearestEven n u (closest n u)
closest_nearest n u U = by_order n u (n / u) (n % u) (compare (n % u * 2) u) U (div-add-mod' n u) (mod-lt n U) (compared (n % u * 2) u)

pub of_u64_mono : (n m : ℕ) → n ≤ m → T (le (of_u64 n) (of_u64 m))
unfolding of_int
of_u64_mono n m h = round_mono binary64 n 1 m 1 (pow_pos 0) (pow_pos 0) (mul-le-mul_right 1 h)

pub of_u64_clear : (n : ℕ) → T (clear (of_u64 n))
unfolding of_int
of_u64_clear n = round_clear binary64 n 1

pub of_i64_dark : (k : ℕ) → T (dark (of_i64 (negsuc k)))
of_i64_dark k = subst (λ (x : Float). T (dark x)) (int_neg binary64 k) (neg_dark (of_u64 (suc k)) (of_u64_clear (suc k)))

pub of_i64_mono : (a b : ℤ) → T (le_z a b) → T (le (of_i64 a) (of_i64 b))
of_i64_mono (pos n) (pos m) h = of_u64_mono n m (leb→le n m h)
of_i64_mono (pos n) (negsuc m) h = absurd h
of_i64_mono (negsuc n) (pos m) h = dark_le (of_i64 (negsuc n)) (of_u64 m) (of_i64_dark n) (of_u64_clear m)
of_i64_mono (negsuc n) (negsuc m) h =
    subst (λ (x : Float). T (le x (of_i64 (negsuc m)))) (int_neg binary64 n) (subst (λ (y : Float). T (le (neg (of_u64 (suc n))) y)) (int_neg binary64 m)
    (neg_le (of_u64 (suc m)) (of_u64 (suc n)) (of_u64_mono (suc m) (suc n) (omega (arith, leb→le m n h)))))

top_is : of_u64 (2 ^ 64) ≡ fin false 1 (pos 64)
unfolding of_int round
top_is = refl

pub finite_below : (x : Float) (t : Bool) (n : ℕ) (d : ℤ) → T (clear x) → T (le x (fin t n d)) → T (finite x)
unfolding le
finite_below nan t n d p h = h
finite_below (inf true) t n d p h = p
finite_below (inf false) t n d p h = h
finite_below (fin s m e) t n d p h = tt

pub of_u64-finite : (n : ℕ) → n < 2 ^ 64 → T (finite (of_u64 n))
of_u64-finite n h = finite_below (of_u64 n) false 1 (pos 64) (of_u64_clear n) (subst (λ (y : Float). T (le (of_u64 n) y)) top_is (of_u64_mono n (2 ^ 64) (le_of_lt h)))

neg-finite : (x : Float) → T (finite x) → T (finite (neg x))
unfolding neg
neg-finite nan h = h
neg-finite (inf s) h = h
neg-finite (fin s m e) h = tt

pub of_i64-finite : (z : ℤ) → SFits w64 z → T (finite (of_i64 z))
of_i64-finite (pos n) f = of_u64-finite n (omega (arith, f.sfits))
of_i64-finite (negsuc n) f = subst (λ (x : Float). T (finite x)) (int_neg binary64 n) (neg-finite (of_u64 (suc n)) (of_u64-finite (suc n) (omega (arith, f.sfits))))

-- ==== round: "takes halves away from zero"
near-few : (m d : ℕ) → 0 < d → m < 2 ^ 53 → (2 * (m * 1) + d) / (2 * d) ≤ 2 ^ 53
near-few m d D h = div-le_of_le-mul (2 * d) (omega arith)

-- its value: the nearest whole number, with the sign
pub round_away-value : (s : Bool) (m : ℕ) (e : ℤ) → T (fits binary64 (fin s m e)) → HasValue (round_away (fin s m e)) s (near_whole m e) 1
unfolding round_away
round_away-value s m (pos k) t = (refl, ap (λ (n : ℕ). n * 1) (sym (near-whole (m * 2 ^ k))))
round_away-value s m (negsuc k) t = round_whole binary64 s (near_whole m (negsuc k)) (near-few m (2 ^ suc k) (pow_pos (suc k)) (digits-few s m (negsuc k) t))

-- IEEE 754-2019 5.9, roundToIntegralTiesToAway: q is half a unit at most from the size n / d, and of two equally near ones it is the larger
pub record NearestAway (n d q : ℕ) : Type 0 where
  pub not_above : 2 * (q * d) ≤ 2 * n + d
  pub below_half : 2 * n < 2 * (q * d) + d

pub near-away : (n d : ℕ) → 0 < d → NearestAway n d ((2 * n + d) / (2 * d))
near-away n d D =
    let q = (2 * n + d) / (2 * d) in
    let W : 0 < 2 * d = omega arith in
    let a : q * (2 * d) + (2 * n + d) % (2 * d) ≡ 2 * n + d = div-add-mod' (2 * n + d) (2 * d) in
    let r : (2 * n + d) % (2 * d) < 2 * d = mod-lt (2 * n + d) W in
    let b : q * (2 * d) ≡ 2 * (q * d) = mul_left_comm q 2 d in
    record { not_above = omega arith; below_half = omega arith }

pub round_away-whole : (x : Float) (s : Bool) (n : ℕ) → T (fits binary64 x) → HasValue x s n 1 → round_away x ≡ x
unfolding round_away
round_away-whole nan s n t v = absurd v
round_away-whole (inf u) s n t v = absurd v
round_away-whole (fin u m (pos k)) s n t v = refl
round_away-whole (fin u m (negsuc k)) s n t v =
    let w : near_whole m (negsuc k) ≡ n = near_same (m * 1) (2 ^ suc k) n 1 (pow_pos (suc k)) (pow_pos 0) v.1 ∙ near-whole n in
    whole_unique binary64 (round_away (fin u m (negsuc k))) (fin u m (negsuc k)) u n (round-fits binary64 u (near_whole m (negsuc k)) 1) t
    (subst (λ (n : ℕ). HasValue (round_away (fin u m (negsuc k))) u n 1) w (round_away-value u m (negsuc k) t)) (refl, v.1)

pub round_away_nan : round_away nan ≡ nan
unfolding round_away
round_away_nan = refl

pub round_away_inf : (s : Bool) → round_away (inf s) ≡ inf s
unfolding round_away
round_away_inf s = refl

-- the largest double below 0.5
pub round_away_below_half : round_away (fin false 0x1f_ffff_ffff_ffff (negsuc 53)) ≡ fin false 0 (pos 0)
unfolding round_away round
round_away_below_half = refl

pub round_away-half : round_away (fin false 1 (negsuc 0)) ≡ fin false 1 (pos 0)
unfolding round_away round
round_away-half = refl

near_mono : (n d n' d' : ℕ) → 0 < d → 0 < d' → n * d' ≤ n' * d → (2 * n + d) / (2 * d) ≤ (2 * n' + d') / (2 * d')
near_mono n d n' d' D D' h =
    div_mono (2 * n + d) (2 * d) (2 * n' + d') (2 * d') (omega arith) (omega arith) (omega (arith, spread n d d', spread n' d' d, mul_comm d d'))

near-zero : (n d : ℕ) → 0 < d → n ≡ 0 → (2 * n + d) / (2 * d) ≡ 0
near-zero n d D h = div-eq_of_lt (omega arith)

nears_le : (s : Bool) (a c : ℕ) (t : Bool) (b d : ℕ) → 0 < c → 0 < d → SignedLe s (a * d) t (b * c) → SignedLe s ((2 * a + c) / (2 * c) * 1) t ((2 * b + d) / (2 * d) * 1)
nears_le false a c false b d C D h = mul-le-mul_right 1 (near_mono a c b d C D h)
nears_le false a c true b d C D h = (ap (λ (n : ℕ). n * 1) (near-zero a c C (no_product a d D h.0)), ap (λ (n : ℕ). n * 1) (near-zero b d D (no_product b c C h.1)))
nears_le true a c false b d C D h = tt
nears_le true a c true b d C D h = mul-le-mul_right 1 (near_mono b d a c D C h)

pub round_away_mono : (x y : Float) → T (fits binary64 x) → T (fits binary64 y) → T (le x y) → T (le (round_away x) (round_away y))
unfolding le round_away
round_away_mono nan y f g h = absurd h
round_away_mono (inf s) nan f g h = absurd h
round_away_mono (inf s) (inf t) f g h = h
round_away_mono (inf true) (fin t n d) f g h = bottom_le (round_away (fin t n d)) t (near_whole n d) 1 (round_away-value t n d g)
round_away_mono (inf false) (fin t n d) f g h = absurd h
round_away_mono (fin s m e) nan f g h = absurd h
round_away_mono (fin s m e) (inf true) f g h = absurd h
round_away_mono (fin s m e) (inf false) f g h = le_top (round_away (fin s m e)) s (near_whole m e) 1 (round_away-value s m e f)
round_away_mono (fin s m e) (fin t n d) f g h =
    values_le (round_away (fin s m e)) (round_away (fin t n d)) s (near_whole m e) 1 t (near_whole n d) 1 (pow_pos 0) (pow_pos 0) (round_away-value s m e f) (round_away-value t n d g)
    (nears_le s (m * up e) (down e) t (n * up d) (down d) (down_pos e) (down_pos d) (le-fin→ s m e t n d h))

valued_finite : (x : Float) (s : Bool) (a c : ℕ) → HasValue x s a c → T (finite x)
valued_finite nan s a c v = v
valued_finite (inf u) s a c v = v
valued_finite (fin u m e) s a c v = tt

pub round_away-finite : (x : Float) → T (fits binary64 x) → T (finite x) → T (finite (round_away x))
round_away-finite nan t h = absurd h
round_away-finite (inf s) t h = absurd h
round_away-finite (fin s m e) t h = valued_finite (round_away (fin s m e)) s (near_whole m e) 1 (round_away-value s m e t)

pub round_away-fits : (x : Float) → T (fits binary64 x) → T (fits binary64 (round_away x))
unfolding round_away
round_away-fits nan t = t
round_away-fits (inf s) t = t
round_away-fits (fin s m (pos k)) t = t
round_away-fits (fin s m (negsuc k)) t = round-fits binary64 s (near_whole m (negsuc k)) 1
