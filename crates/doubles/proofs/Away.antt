-- Rounding from the fields: the digits and half a unit, shifted, are `round_away` below 2 ^ 52, and from there on nothing changes. Assumes nothing.
use mathlib.Core.Path.{◌≡◌, refl, sym, ap, ◌∙◌, subst}
use mathlib.Core.Bool.{Bool, ◌&&◌}
use Prim.Native.Nat.{ℕ, zero, suc, ◌+◌, ◌-◌, ◌*◌, ◌/◌, ◌%◌, ◌^◌, ◌≤◌, ◌<◌}
use native.Mathlib.Nat.{le_of_eq, le_trans, lt_of_lt_of_le, lt_of_le_of_lt, not-le_of_lt, mul-one, one-mul, mul_assoc, mul_comm, mul_left_comm, add-mul, mul-add, mul-le-mul_left, mul-lt-mul_of_pos_right, mul-div-mul_right, mul-div-mul_left, mod-eq_of_lt, div-eq_of_lt, div-one, div-lt_iff_lt-mul, mul-add-div, add-zero, pow-succ'}
use native.Mathlib.Omega.{arith}
use lib.Dec.{T, ltb, leb, eqb, ltb→lt}
use lib.Pow.{pow_pos, pow-add, pow_mono, pow-lt}
use lib.IntN.{ℤ, pos, negsuc}
use lib.Ieee.{Float, nan, inf, fin, binary64, emax, low, up, down, round, fits, to_signed}
use lib.Ieee.Fits.{and_l, and_r, down_pos, round-fits}
use lib.Ieee.Exact.{HasValue}
use lib.Ieee.Nearest.{div_same}
use lib.Ieee.Back.{round_whole, whole_unique}
use Rattle.doubles.specs.Doubles.{round_away}
use Rattle.doubles.specs.Fields.{exponent_of, fraction_of, units_of, nearest_of, signed_size}
use Rattle.doubles.proofs.Fields.{Sized, fraction_lt}
use Rattle.doubles.proofs.Whole.{units_lt, units_ge}

-- ---- the nearest whole number of a units of 2 ^ -1074
abbrev pub near_units : ℕ → ℕ
near_units a = (2 * a + 2 ^ 1074) / (2 * 2 ^ 1074)

near_none : (e t : ℕ) → t < 2 ^ 52 → e < 1022 → 0 ≡ near_units (units_of e t)
near_none e t l h = sym (div-eq_of_lt (below (units_of e t) (2 ^ 1073) (2 ^ 1074) refl (units_lt e t 1021 l (omega arith))))
  where
    below : (a p q : ℕ) → q ≡ 2 * p → a < p → 2 * a + q < 2 * q
    below a p q e h = omega arith

near_shift : (e t : ℕ) → 1022 ≤ e → e < 1075 → (2 ^ 52 + t + 2 ^ (1074 - e)) / 2 ^ (1075 - e) ≡ near_units (units_of e t)
near_shift zero t h k = absurd (none h)
  where
    none : 1022 ≤ 0 → ⊥
    none h = omega arith
near_shift (suc e) t h k =
    let p : 1075 - suc e ≡ suc (1074 - suc e) = omega arith in
    let q : 1074 ≡ 1075 - suc e + e = omega arith in
    sym (go (2 ^ 52 + t) (2 ^ e) (2 ^ (1075 - suc e)) (2 ^ (1074 - suc e)) (2 ^ 1074) (pow_pos e) (ap (λ (x : ℕ). 2 ^ x) q ∙ pow-add 2 (1075 - suc e) e) (ap (λ (x : ℕ). 2 ^ x) p ∙ pow-succ' 2 (1074 - suc e)))
  where
    go : (d u k j l : ℕ) → 0 < u → l ≡ k * u → k ≡ 2 * j → (2 * (d * u) + l) / (2 * l) ≡ (d + j) / k
    go d u k j l U p q =
        let a : 2 * (d * u) + l ≡ 2 * (d + j) * u =
        ap (λ (x : ℕ). 2 * (d * u) + x) (p ∙ ap (λ (x : ℕ). x * u) q) ∙ sym (ap (λ (x : ℕ). x * u) (mul-add 2 d j) ∙ add-mul (2 * d) (2 * j) u ∙ ap (λ (x : ℕ). x + 2 * j * u) (mul_assoc 2 d u)) in
        let b : 2 * l ≡ 2 * k * u = ap (λ (x : ℕ). 2 * x) p ∙ sym (mul_assoc 2 k u) in
        (λ i. a i / b i) ∙ mul-div-mul_right (2 * (d + j)) (2 * k) U ∙ mul-div-mul_left (d + j) k (pow_pos 1)

pub near-small : (a : ℕ) → a < 2 ^ 1126 → near_units a ≤ 2 ^ 52
near-small a h = go a (2 ^ 1074) (pow_pos 1074) (lt_of_lt_of_le h (le_of_eq (pow-add 2 52 1074)))
  where
    go : (a l : ℕ) → 0 < l → a < 2 ^ 52 * l → (2 * a + l) / (2 * l) ≤ 2 ^ 52
    go a l L h =
        let D : 0 < 2 * l = omega arith in
        let q : (2 * a + l) / (2 * l) < 2 ^ 52 + 1 = (div-lt_iff_lt-mul D).1 (omega arith) in
        omega arith

module _ (b e : ℕ) (p : e ≡ exponent_of b) where
  near_is : near_units (units_of e (fraction_of b)) ≡ nearest_of b
  unfolding nearest_of
  near_is i = near_units (units_of (p i) (fraction_of b))

  pub nearest_none : e < 1022 → 0 ≡ nearest_of b
  nearest_none h = near_none e (fraction_of b) (fraction_lt b) h ∙ near_is

  module _ (d : ℕ) (q : d ≡ 2 ^ 52 + fraction_of b) (h : 1022 ≤ e) (k : e < 1075) where
    half-small : 2 ^ (1074 - e) ≤ 2 ^ 52
    half-small = pow_mono {i = 1074 - e} {j = 52} (omega arith)

    half-unit : 1 * 2 ^ (1074 - e) % 2 ^ 64 ≡ 2 ^ (1074 - e)
    half-unit = ap (λ (x : ℕ). x % 2 ^ 64) (one-mul (2 ^ (1074 - e))) ∙ mod-eq_of_lt (lt_of_le_of_lt half-small (pow-lt {i = 52} {j = 64} (omega arith)))

    pub sum_fits : d + 1 * 2 ^ (1074 - e) % 2 ^ 64 < 2 ^ 64
    sum_fits = omega (arith, half-small, half-unit, fraction_lt b)

    pub nearest_shift : (d + 1 * 2 ^ (1074 - e) % 2 ^ 64) / 2 ^ (1075 - e) ≡ nearest_of b
    nearest_shift = (λ i. (q i + half-unit i) / 2 ^ (1075 - e)) ∙ near_shift e (fraction_of b) h k ∙ near_is

-- ---- a double of that size
pub spread : (n d c : ℕ) → (2 * n + d) * (2 * c) ≡ 4 * (n * c) + 2 * (d * c)
spread n d c =
    let a : (2 * n + d) * (2 * c) ≡ 2 * ((2 * n + d) * c) = mul_left_comm (2 * n + d) 2 c in
    let b : (2 * n + d) * c ≡ 2 * (n * c) + d * c = add-mul (2 * n) d c ∙ ap (λ (x : ℕ). x + d * c) (mul_assoc 2 n c) in
    omega arith

pub near_same : (n d a l : ℕ) → 0 < d → 0 < l → n * l ≡ a * d → (2 * n + d) / (2 * d) ≡ (2 * a + l) / (2 * l)
near_same n d a l D L h = div_same (2 * n + d) (2 * d) (2 * a + l) (2 * l) (omega arith) (omega arith) (omega (arith, spread n d l, spread a l d, mul_comm d l))

pub near-whole : (n : ℕ) → (2 * n + 1) / (2 * 1) ≡ n
near-whole n = mul-add-div (pow_pos 1) n 1 ∙ add-zero n

-- what `fits` says of the digits
pub digits-few : (s : Bool) (m : ℕ) (e : ℤ) → T (fits binary64 (fin s m e)) → m < 2 ^ 53
unfolding fits
digits-few s zero e t = pow_pos 53
digits-few s (suc m) e t =
    let a = eqb (suc m % 2) 1 in
    let b = ltb (suc m) (2 ^ 53) in
    let c = leb (down e) (2 ^ low binary64) in
    ltb→lt (suc m) (2 ^ 53) (and_r a b (and_l (a && b) c (and_l (a && b && c) (ltb (suc m * up e) (2 ^ suc (emax binary64) * down e)) t)))

pub away-sized : (x : Float) (s : Bool) (a : ℕ) → T (fits binary64 x) → Sized x s a → a < 2 ^ 1126 → round binary64 s (near_units a) 1 ≡ round_away x
unfolding round_away
away-sized nan s a t v l = absurd v
away-sized (inf u) s a t v l = absurd (not-le_of_lt l (le_trans (pow_mono {i = 1126} {j = 2098} (omega arith)) v.1))
away-sized (fin u m (negsuc k)) s a t v l =
    let n = near_same (m * 1) (2 ^ suc k) a (2 ^ 1074) (pow_pos (suc k)) (pow_pos 1074) v.1 in
    λ i. round binary64 (sym v.0 i) (sym n i) 1
away-sized (fin u m (pos k)) s a t v l =
    let n = near_same (m * 2 ^ k) 1 a (2 ^ 1074) (pow_pos 0) (pow_pos 1074) v.1 in
    let w : near_units a ≡ m * 2 ^ k = sym n ∙ near-whole (m * 2 ^ k) in
    let b : m * 2 ^ k ≤ 2 ^ 53 = le_trans (subst (λ (x : ℕ). x ≤ 2 ^ 52) w (near-small a l)) (pow_mono {i = 52} {j = 53} (omega arith)) in
    (λ i. round binary64 (sym v.0 i) (w i) 1)
    ∙ whole_unique binary64 (round binary64 u (m * 2 ^ k) 1) (fin u m (pos k)) u (m * 2 ^ k) (round-fits binary64 u (m * 2 ^ k) 1) t (round_whole binary64 u (m * 2 ^ k) b) (refl, refl)

-- ---- the cast after it
pub cast_value : (y : Float) (s : Bool) (n : ℕ) → HasValue y s n 1 → signed_size s n ≡ to_signed 63 y
unfolding to_signed
cast_value nan s n v = absurd v
cast_value (inf u) s n v = absurd v
cast_value (fin u m e) s n v =
    let q : n ≡ m * up e / down e = sym (div_same (m * up e) (down e) n 1 (down_pos e) (pow_pos 0) v.1 ∙ div-one n) in
    λ i. signed_size (sym v.0 i) (q i)

pub cast_away : (x : Float) (s : Bool) (a : ℕ) → T (fits binary64 x) → Sized x s a → a < 2 ^ 1126 → signed_size s (near_units a) ≡ to_signed 63 (round_away x)
cast_away x s a t v l =
    cast_value (round binary64 s (near_units a) 1) s (near_units a) (round_whole binary64 s (near_units a) (le_trans (near-small a l) (pow_mono {i = 52} {j = 53} (omega arith))))
    ∙ ap (to_signed 63) (away-sized x s a t v l)

-- ---- from 2 ^ 52 on
no_fraction : (m a p l : ℕ) → 0 < p → m < 2 ^ 53 → 2 ^ 52 * l ≤ a → m * 1 * l ≡ a * (2 * p) → 0 < l → ⊥
no_fraction m a p l P h g e L =
    let x : m * l < 2 ^ 53 * l = mul-lt-mul_of_pos_right h L in
    let y : a * 2 ≤ a * (2 * p) = mul-le-mul_left a (twice p P) in
    let z : m * 1 * l ≡ m * l = ap (λ (w : ℕ). w * l) (mul-one m) in
    omega arith
  where
    twice : (p : ℕ) → 0 < p → 2 ≤ 2 * p
    twice p h = omega arith

pub away_large : (x : Float) (s : Bool) (a : ℕ) → T (fits binary64 x) → Sized x s a → 2 ^ 1126 ≤ a → x ≡ round_away x
unfolding round_away
away_large nan s a t v l = refl
away_large (inf u) s a t v l = refl
away_large (fin u m (pos k)) s a t v l = refl
away_large (fin u m (negsuc k)) s a t v l =
    absurd (no_fraction m a (2 ^ k) (2 ^ 1074) (pow_pos k) (digits-few u m (negsuc k) t) (le_trans (le_of_eq (sym (pow-add 2 52 1074))) l) (v.1 ∙ ap (λ (x : ℕ). a * x) (pow-succ' 2 k)) (pow_pos 1074))

-- ---- by the exponent's field
pub size_below : (b e : ℕ) → e ≡ exponent_of b → e < 1075 → units_of (exponent_of b) (fraction_of b) < 2 ^ 1126
size_below b e p h = units_lt (exponent_of b) (fraction_of b) 1074 (fraction_lt b) (subst (λ (x : ℕ). x ≤ 1074) p (omega arith))

pub size_above : (b e : ℕ) → e ≡ exponent_of b → 1075 ≤ e → 2 ^ 1126 ≤ units_of (exponent_of b) (fraction_of b)
size_above b e p h = go (exponent_of b) (subst (λ (x : ℕ). 1075 ≤ x) p h)
  where
    none : 1075 ≤ 0 → ⊥
    none h = omega arith

    go : (e : ℕ) → 1075 ≤ e → 2 ^ 1126 ≤ units_of e (fraction_of b)
    go zero h = absurd (none h)
    go (suc e) h = le_trans (pow_mono {i = 1126} {j = 52 + e} (omega arith)) (units_ge e (fraction_of b))

pub nearest-le : (b : ℕ) → exponent_of b < 1075 → nearest_of b ≤ 2 ^ 52
unfolding nearest_of
nearest-le b h = near-small (units_of (exponent_of b) (fraction_of b)) (size_below b (exponent_of b) refl h)

module _ (x : Float) (h : T (fits binary64 x)) (s : Bool) (b e : ℕ) (v : Sized x s (units_of (exponent_of b) (fraction_of b))) (p : e ≡ exponent_of b) where
  pub away_below : e < 1075 → round binary64 s (nearest_of b) 1 ≡ round_away x
  unfolding nearest_of
  away_below l = away-sized x s (units_of (exponent_of b) (fraction_of b)) h v (size_below b e p l)

  pub away-above : 1075 ≤ e → x ≡ round_away x
  away-above l = away_large x s (units_of (exponent_of b) (fraction_of b)) h v (size_above b e p l)

  pub cast_below : e < 1075 → signed_size s (nearest_of b) ≡ to_signed 63 (round_away x)
  unfolding nearest_of
  cast_below l = cast_away x s (units_of (exponent_of b) (fraction_of b)) h v (size_below b e p l)
