-- What commissions and effective prices need of the whole chain: product, quotient, rounding and cast, through overflow and subnormals. Assumes nothing.
use mathlib.Core.Path.{◌≡◌, refl, sym, ap, ◌∙◌, subst}
use mathlib.Core.Bool.{Bool, true, false, cond}
use Prim.Native.Nat.{ℕ, zero, suc, ◌+◌, ◌-◌, ◌*◌, ◌^◌, ◌≤◌, ◌<◌}
use native.Mathlib.Nat.{le_of_eq, le_trans, lt_of_lt_of_le, lt_irrefl, mul-one, one-mul, mul_assoc, mul_comm, mul_left_comm, mul-le-mul_left, mul-le-mul_right, mul-pos, zero-mul, mul-zero}
use native.Mathlib.Omega.{arith}
use lib.Dec.{T, ltb, eqb, ltb→lt, eqb-suc-zero}
use lib.Pow.{pow_pos}
use lib.IntN.{ℤ, pos}
use lib.Signed.{le_z}
use lib.Ieee.{Float, nan, inf, fin, binary64, up, down, round, sum, add, mul, div, neg, le, of_int, to_signed, fits}
use lib.Ieee.Fits.{up_pos, down_pos, mul-fits, div-fits}
use lib.Ieee.Order.{round_mono}
use lib.Ieee.Scale.{round_same}
use Rattle.doubles.specs.Doubles.{zero as plusZero, one, ten_thousand, finite, to_i64, of_i64, of_u64, round_away}
use Rattle.doubles.proofs.Order.{le-fin→, clear, round_clear, zero_le_clear, no_product}
use Rattle.doubles.proofs.Signs.{round_neg}
use Rattle.doubles.proofs.Laws.{to_i64_mono, round_away_mono, of_u64_mono, of_u64_clear, of_u64-finite, finite_below}

-- -0.0 and -1.0
abbrev pub minus_zero : Float
minus_zero = fin true 0 (pos 0)

abbrev pub minus_one_of : Float
minus_one_of = fin true 1 (pos 0)

-- ---- rounding and the cast after it
pub cast_mono : (x y : Float) → T (fits binary64 x) → T (fits binary64 y) → T (le x y) → T (le_z (to_i64 (round_away x)) (to_i64 (round_away y)))
cast_mono x y f g h = to_i64_mono (round_away x) (round_away y) (round_away_mono x y f g h)

pub cast_clear : (x : Float) → T (fits binary64 x) → T (clear x) → T (le_z (pos 0) (to_i64 (round_away x)))
unfolding to_signed round_away
cast_clear x f h = cast_mono plusZero x (unfold fits in tt) f (zero_le_clear x h)

pub cast_above-one : (x : Float) → T (fits binary64 x) → T (le one x) → T (le_z (pos 1) (to_i64 (round_away x)))
unfolding to_signed round_away
cast_above-one x f h = cast_mono one x (unfold fits in tt) f h

-- ---- a product with a factor m * 2 ^ e
cross : (x y c d b k : ℕ) → x * d ≤ y * c → x * b * (d * k) ≤ y * b * (c * k)
cross x y c d b k h =
    let l : x * b * (d * k) ≡ x * d * (b * k) = simp (mul_assoc, mul_comm, mul_left_comm) in
    let r : y * c * (b * k) ≡ y * b * (c * k) = simp (mul_assoc, mul_comm, mul_left_comm) in
    le_trans (le_of_eq l) (le_trans (mul-le-mul_right (b * k) h) (le_of_eq r))

pub mul_mono : (m : ℕ) (e : ℤ) (x y : Float) → T (clear x) → T (clear y) → T (finite y) → T (le x y) → T (le (mul binary64 x (fin false m e)) (mul binary64 y (fin false m e)))
unfolding le mul
mul_mono b g nan y p q f h = absurd p
mul_mono b g (inf s) nan p q f h = absurd q
mul_mono b g (inf s) (inf t) p q f h = absurd f
mul_mono b g (inf true) (fin t n d) p q f h = absurd p
mul_mono b g (inf false) (fin t n d) p q f h = absurd h
mul_mono b g (fin true m e) y p q f h = absurd p
mul_mono b g (fin false m e) nan p q f h = absurd q
mul_mono b g (fin false m e) (inf t) p q f h = absurd f
mul_mono b g (fin false m e) (fin true n d) p q f h = absurd q
mul_mono b g (fin false m e) (fin false n d) p q f h =
    round_mono binary64 (m * up e * (b * up g)) (down e * down g) (n * up d * (b * up g)) (down d * down g) (mul-pos (down_pos e) (down_pos g)) (mul-pos (down_pos d) (down_pos g))
    (cross (m * up e) (n * up d) (down e) (down d) (b * up g) (down g) (le-fin→ false m e false n d h))

pub mul_clear : (x y : Float) → T (clear x) → T (finite x) → T (clear y) → T (finite y) → T (clear (mul binary64 x y))
unfolding mul
mul_clear nan y p f q g = absurd p
mul_clear (inf s) y p f q g = absurd f
mul_clear (fin true m e) y p f q g = absurd p
mul_clear (fin false m e) nan p f q g = absurd q
mul_clear (fin false m e) (inf t) p f q g = absurd g
mul_clear (fin false m e) (fin true n d) p f q g = absurd q
mul_clear (fin false m e) (fin false n d) p f q g = round_clear binary64 (m * up e * (n * up d)) (down e * down d)

-- a factor of -0.0
round_none : (s : Bool) (a c : ℕ) → 0 < c → a ≡ 0 → round binary64 s a c ≡ fin s 0 (pos 0)
round_none s a c C h = round_same binary64 s a c 0 1 C (pow_pos 0) (ap (λ (x : ℕ). x * 1) h ∙ sym (zero-mul c)) ∙ exact s
  where
    exact : (s : Bool) → round binary64 s 0 1 ≡ fin s 0 (pos 0)
    exact s = unfold round in refl

mul_minus_zero : (e : ℤ) (x : Float) → T (clear x) → T (finite x) → mul binary64 x (fin true zero e) ≡ minus_zero
unfolding mul
mul_minus_zero g nan p f = absurd p
mul_minus_zero g (inf s) p f = absurd f
mul_minus_zero g (fin true m e) p f = absurd p
mul_minus_zero g (fin false m e) p f = round_none true (m * up e * (0 * up g)) (down e * down g) (mul-pos (down_pos e) (down_pos g)) (ap (λ (x : ℕ). m * up e * x) (zero-mul (up g)) ∙ mul-zero (m * up e))

-- ---- over 10000
cross_over : (x y c d : ℕ) → x * d ≤ y * c → x * 1 * (10000 * d) ≤ y * 1 * (10000 * c)
cross_over x y c d h =
    let l : x * 1 * (10000 * d) ≡ 10000 * (x * d) = simp (mul-one, mul_assoc, mul_comm, mul_left_comm) in
    let r : y * 1 * (10000 * c) ≡ 10000 * (y * c) = simp (mul-one, mul_assoc, mul_comm, mul_left_comm) in
    omega arith

pub over_clear : (x : Float) → T (clear x) → T (clear (div binary64 x ten_thousand))
unfolding div
over_clear nan p = p
over_clear (inf true) p = absurd p
over_clear (inf false) p = tt
over_clear (fin true m e) p = absurd p
over_clear (fin false m e) p = round_clear binary64 (m * up e * 1) (10000 * down e)

clear_le_top : (x : Float) → T (clear x) → T (le x (inf false))
unfolding le
clear_le_top nan p = p
clear_le_top (inf true) p = absurd p
clear_le_top (inf false) p = tt
clear_le_top (fin s m e) p = tt

pub over_mono : (x y : Float) → T (clear x) → T (clear y) → T (le x y) → T (le (div binary64 x ten_thousand) (div binary64 y ten_thousand))
unfolding le div
over_mono nan y p q h = absurd p
over_mono (inf s) nan p q h = absurd q
over_mono (inf true) (inf t) p q h = absurd p
over_mono (inf false) (inf true) p q h = absurd q
over_mono (inf false) (inf false) p q h = tt
over_mono (inf true) (fin t n d) p q h = absurd p
over_mono (inf false) (fin t n d) p q h = absurd h
over_mono (fin true m e) y p q h = absurd p
over_mono (fin false m e) nan p q h = absurd q
over_mono (fin false m e) (inf true) p q h = absurd q
over_mono (fin false m e) (inf false) p q h = clear_le_top (round binary64 false (m * up e * 1) (10000 * down e)) (round_clear binary64 (m * up e * 1) (10000 * down e))
over_mono (fin false m e) (fin true n d) p q h = absurd q
over_mono (fin false m e) (fin false n d) p q h =
    round_mono binary64 (m * up e * 1) (10000 * down e) (n * up d * 1) (10000 * down d) (omega (arith, down_pos e)) (omega (arith, down_pos d))
    (cross_over (m * up e) (n * up d) (down e) (down d) (le-fin→ false m e false n d h))

-- ---- "round(notional × bps / 10,000), multiplied first"
abbrev pub cost_of : Float → ℕ → ℤ
cost_of bps n = to_i64 (round_away (div binary64 (mul binary64 (of_u64 n) bps) ten_thousand))

-- at or above 0 and with the sign set: -0.0
pub only_zero : (m : ℕ) (e : ℤ) → T (le plusZero (fin true m e)) → m ≡ 0
only_zero m e h = no_product m (up e) (up_pos e) (sym (mul-one (m * up e)) ∙ (le-fin→ false 0 (pos 0) true m e h).1)

no_rate : (e : ℤ) (n : ℕ) → n < 2 ^ 64 → cost_of (fin true zero e) n ≡ pos 0
unfolding to_signed round_away div round
no_rate e n h = ap (λ (y : Float). to_signed 63 (round_away (div binary64 y ten_thousand))) (mul_minus_zero e (of_u64 n) (of_u64_clear n) (of_u64-finite n h))

pub cost_mono : (bps : Float) (n m : ℕ) → T (finite bps) → T (le plusZero bps) → n ≤ m → m < 2 ^ 64 → T (le_z (cost_of bps n) (cost_of bps m))
cost_mono nan n m f z h l = absurd f
cost_mono (inf s) n m f z h l = absurd f
cost_mono (fin true b g) n m f z h l =
    subst (λ (b : ℕ). T (le_z (cost_of (fin true b g) n) (cost_of (fin true b g) m))) (sym (only_zero b g z))
    (subst (λ (a : ℤ). T (le_z a (cost_of (fin true zero g) m))) (sym (no_rate g n (omega arith))) (subst (λ (a : ℤ). T (le_z (pos 0) a)) (sym (no_rate g m l)) tt))
cost_mono (fin false b g) n m f z h l =
    let p = mul binary64 (of_u64 n) (fin false b g) in
    let q = mul binary64 (of_u64 m) (fin false b g) in
    let c = mul_clear (of_u64 n) (fin false b g) (of_u64_clear n) (of_u64-finite n (omega arith)) tt tt in
    let d = mul_clear (of_u64 m) (fin false b g) (of_u64_clear m) (of_u64-finite m l) tt tt in
    cast_mono (div binary64 p ten_thousand) (div binary64 q ten_thousand) (div-fits binary64 p ten_thousand) (div-fits binary64 q ten_thousand)
    (over_mono p q c d (mul_mono b g (of_u64 n) (of_u64 m) (of_u64_clear n) (of_u64_clear m) (of_u64-finite m l) (of_u64_mono n m h)))

pub cost_not_negative : (bps : Float) (n : ℕ) → T (finite bps) → T (le plusZero bps) → n < 2 ^ 64 → T (le_z (pos 0) (cost_of bps n))
cost_not_negative nan n f z l = absurd f
cost_not_negative (inf s) n f z l = absurd f
cost_not_negative (fin true b g) n f z l =
    subst (λ (b : ℕ). T (le_z (pos 0) (cost_of (fin true b g) n))) (sym (only_zero b g z)) (subst (λ (a : ℤ). T (le_z (pos 0) a)) (sym (no_rate g n l)) tt)
cost_not_negative (fin false b g) n f z l =
    let p = mul binary64 (of_u64 n) (fin false b g) in
    cast_clear (div binary64 p ten_thousand) (div-fits binary64 p ten_thousand) (over_clear p (mul_clear (of_u64 n) (fin false b g) (of_u64_clear n) (of_u64-finite n l) tt tt))

-- ---- "round(price × (1 + sign × slippage / 10,000))"
abbrev pub slipped : Float → Float → Float
slipped sign s = add binary64 one (div binary64 (mul binary64 sign s) ten_thousand)

abbrev pub price_of : Float → Float → ℕ → ℤ
price_of sign s p = to_i64 (round_away (mul binary64 (of_i64 (pos p)) (slipped sign s)))

round_one : round binary64 false 1 1 ≡ one
unfolding round
round_one = refl

-- a product of two factors that are 1 or more
from_one : (m : ℕ) (e : ℤ) (s : Bool) → T (le one (fin s m e)) → (s ≡ false) × (down e ≤ m * up e)
from_one m e true h = absurd (lt_irrefl 0 (lt_of_lt_of_le (down_pos e) (le_of_eq (sym (one-mul (down e)) ∙ (le-fin→ false 1 (pos 0) true m e h).0))))
from_one m e false h = (refl, omega (arith, le-fin→ false 1 (pos 0) false m e h))

not_none : (m : ℕ) (e : ℤ) → down e ≤ m * up e → eqb m 0 ≡ false
not_none zero e h = absurd (lt_irrefl 0 (lt_of_lt_of_le (down_pos e) (le_trans h (le_of_eq (zero-mul (up e))))))
not_none (suc m) e h = eqb-suc-zero m

grow : (x y c d : ℕ) → c ≤ x → d ≤ y → 1 * (c * d) ≤ x * y * 1
grow x y c d h k = le_trans (le_of_eq (one-mul (c * d))) (le_trans (mul-le-mul_right d h) (le_trans (mul-le-mul_left x k) (le_of_eq (sym (mul-one (x * y))))))

pub mul-above-one : (x y : Float) → T (le one x) → T (le one y) → T (le one (mul binary64 x y))
unfolding le mul
mul-above-one nan y h k = absurd h
mul-above-one (inf true) y h k = absurd h
mul-above-one (inf false) nan h k = absurd k
mul-above-one (inf false) (inf true) h k = absurd k
mul-above-one (inf false) (inf false) h k = tt
mul-above-one (inf false) (fin true n d) h k = absurd (subst T (from_one n d true k).0 tt)
mul-above-one (inf false) (fin false n d) h k = subst (λ (b : Bool). T (le one (cond b nan (inf false)))) (sym (not_none n d (from_one n d false k).1)) tt
mul-above-one (fin true m e) y h k = absurd (subst T (from_one m e true h).0 tt)
mul-above-one (fin false m e) nan h k = absurd k
mul-above-one (fin false m e) (inf true) h k = absurd k
mul-above-one (fin false m e) (inf false) h k = subst (λ (b : Bool). T (le one (cond b nan (inf false)))) (sym (not_none m e (from_one m e false h).1)) tt
mul-above-one (fin false m e) (fin true n d) h k = absurd (subst T (from_one n d true k).0 tt)
mul-above-one (fin false m e) (fin false n d) h k =
    subst (λ (x : Float). T (le x (round binary64 false (m * up e * (n * up d)) (down e * down d)))) round_one
    (round_mono binary64 1 1 (m * up e * (n * up d)) (down e * down d) (pow_pos 0) (mul-pos (down_pos e) (down_pos d)) (grow (m * up e) (n * up d) (down e) (down d) (from_one m e false h).1 (from_one n d false k).1))

-- 1 + x, for x at or above 0
one_more : (x : Float) → T (clear x) → T (le one (add binary64 one x))
unfolding le add sum
one_more nan p = absurd p
one_more (inf true) p = absurd p
one_more (inf false) p = tt
one_more (fin true m e) p = absurd p
one_more (fin false m e) p =
    subst (λ (x : Float). T (le x (round binary64 false (1 * 1 * down e + m * up e * 1) (1 * down e)))) round_one
    (round_mono binary64 1 1 (1 * 1 * down e + m * up e * 1) (1 * down e) (pow_pos 0) (omega (arith, down_pos e)) (omega arith))

buy_factor : (s : Float) → T (finite s) → T (le plusZero s) → T (le one (slipped one s))
buy_factor nan f z = absurd f
buy_factor (inf t) f z = absurd f
buy_factor (fin false m e) f z = one_more (div binary64 (mul binary64 one (fin false m e)) ten_thousand) (over_clear (mul binary64 one (fin false m e)) (mul_clear one (fin false m e) tt tt tt tt))
buy_factor (fin true m e) f z =
    subst (λ (m : ℕ). T (le one (slipped one (fin true m e)))) (sym (only_zero m e z)) (subst (λ (y : Float). T (le one (add binary64 one (div binary64 y ten_thousand)))) (sym (mul_minus_zero e one tt tt)) exact)
  where
    exact : T (le one (add binary64 one (div binary64 minus_zero ten_thousand)))
    exact = unfold le add sum div round in tt

pub buy-price-above-zero : (p : ℕ) (s : Float) → 1 ≤ p → T (finite s) → T (le plusZero s) → T (le_z (pos 1) (price_of one s p))
buy-price-above-zero p s h f z =
    let u = slipped one s in
    cast_above-one (mul binary64 (of_u64 p) u) (mul-fits binary64 (of_u64 p) u)
    (mul-above-one (of_u64 p) u (subst (λ (x : Float). T (le x (of_u64 p))) exact (of_u64_mono 1 p h)) (buy_factor s f z))
  where
    exact : of_u64 1 ≡ one
    exact = unfold of_int round in refl

-- 1 - x, for x from 0 to 1
abbrev Share : Float → Type 0
Share u = T (clear u) × T (le u one)

one_less : (x : Float) → T (clear x) → T (le x one) → Share (add binary64 one (neg x))
unfolding le add sum neg
one_less nan p h = absurd p
one_less (inf true) p h = absurd p
one_less (inf false) p h = absurd h
one_less (fin true m e) p h = absurd p
one_less (fin false m e) p h = go (ltb (1 * 1 * down e) (m * up e * 1)) (ltb→lt (1 * 1 * down e) (m * up e * 1))
  where
    under : m * up e * 1 ≤ 1 * 1 * down e
    under = le-fin→ false m e false 1 (pos 0) h

    none : (a b : ℕ) → a ≤ b → b < a → ⊥
    none a b h l = omega arith

    part : (a b c : ℕ) → a ≡ c → (a - b) * 1 ≤ 1 * c
    part a b c e = omega arith

    go : (b : Bool) → (T b → 1 * 1 * down e < m * up e * 1) → Share (cond b (round binary64 true (m * up e * 1 - 1 * 1 * down e) (1 * down e)) (round binary64 false (1 * 1 * down e - m * up e * 1) (1 * down e)))
    go true f = absurd (none (m * up e * 1) (1 * 1 * down e) under (f tt))
    go false f = (
      round_clear binary64 (1 * 1 * down e - m * up e * 1) (1 * down e),
      subst (λ (x : Float). T (le (round binary64 false (1 * 1 * down e - m * up e * 1) (1 * down e)) x)) round_one
          (round_mono binary64 (1 * 1 * down e - m * up e * 1) (1 * down e) 1 1 (omega (arith, down_pos e)) (pow_pos 0) (part (1 * 1 * down e) (m * up e * 1) (1 * down e) refl)),
    )

-- 1 - y / 10000, for y from 0 to 10000
share_over : (y : Float) → T (clear y) → T (le y ten_thousand) → Share (add binary64 one (div binary64 (neg y) ten_thousand))
unfolding le div neg
share_over nan p h = absurd p
share_over (inf true) p h = absurd p
share_over (inf false) p h = absurd h
share_over (fin true m e) p h = absurd p
share_over (fin false m e) p h =
    let z = round binary64 false (m * up e * 1) (10000 * down e) in
    subst (λ (x : Float). Share (add binary64 one x)) (sym (round_neg binary64 false (m * up e * 1) (10000 * down e))) (one_less z (round_clear binary64 (m * up e * 1) (10000 * down e))
    (subst (λ (x : Float). T (le z x)) round_one (round_mono binary64 (m * up e * 1) (10000 * down e) 1 1 (omega (arith, down_pos e)) (pow_pos 0) (omega (arith, le-fin→ false m e false 625 (pos 4) h)))))

sell_factor : (s : Float) → T (le plusZero s) → T (le s ten_thousand) → Share (slipped minus_one_of s)
unfolding le mul
sell_factor nan z l = absurd z
sell_factor (inf true) z l = absurd z
sell_factor (inf false) z l = absurd l
sell_factor (fin false m e) z l =
    let y = round binary64 false (1 * 1 * (m * up e)) (1 * down e) in
    subst (λ (x : Float). Share (add binary64 one (div binary64 x ten_thousand))) (sym (round_neg binary64 false (1 * 1 * (m * up e)) (1 * down e))) (share_over y (round_clear binary64 (1 * 1 * (m * up e)) (1 * down e))
    (subst (λ (x : Float). T (le y x)) exact (round_mono binary64 (1 * 1 * (m * up e)) (1 * down e) 10000 1 (omega (arith, down_pos e)) (pow_pos 0) (omega (arith, le-fin→ false m e false 625 (pos 4) l)))))
  where
    exact : round binary64 false 10000 1 ≡ ten_thousand
    exact = unfold round in refl
sell_factor (fin true m e) z l =
    subst (λ (m : ℕ). Share (slipped minus_one_of (fin true m e))) (sym (only_zero m e z))
    (subst (λ (y : Float). Share (add binary64 one (div binary64 y ten_thousand))) (sym (round_none false (1 * 1 * (0 * up e)) (1 * down e) (omega (arith, down_pos e)) (ap (λ (x : ℕ). 1 * 1 * x) (zero-mul (up e))))) exact)
  where
    exact : Share (add binary64 one (div binary64 plusZero ten_thousand))
    exact = (unfold add sum div round in tt, unfold le add sum div round in tt)

pub sell-price_not_negative : (p : ℕ) (s : Float) → p < 2 ^ 64 → T (le plusZero s) → T (le s ten_thousand) → T (le_z (pos 0) (price_of minus_one_of s p))
sell-price_not_negative p s h z l =
    let u = slipped minus_one_of s in
    let f = sell_factor s z l in
    cast_clear (mul binary64 (of_u64 p) u) (mul-fits binary64 (of_u64 p) u) (mul_clear (of_u64 p) u (of_u64_clear p) (of_u64-finite p h) f.0 (finite_below u false 1 (pos 0) f.0 f.1))
