-- Signed sums for `omega`: a whole number z is its part above zero, `P z`, and its part below, `N z`; each operation, test and bound is linear in those.
use Rattle.std.proofs.Common.{◌≡◌, ℕ, zero, suc, ◌+◌, ◌-◌, ◌^◌, ◌<◌, ◌≤◌, min, Bool, true, false, cond, ltb, ◌⊎◌, ℤ, pos, negsuc, ◌+ℤ◌, ◌-ℤ◌, neg_ℤ, nat_abs, sym, refl, ap, ◌∙◌, subst, inl, inr, arith, to_z-of_z, w64, SFits, to_z, of_z, ltb-false, ltb-true, leb-false, leb-true}
use lib.IntN.{sub_ℕ}
use lib.Signed.{lt_z, le_z}
use Rattle.sums.specs.Sums.{clamp64, sat_add, sat_sub, sat_neg, sat_abs, signed}

unfoldable pub P : ℤ → ℕ
P (pos n) = n
P (negsuc n) = 0

unfoldable pub N : ℤ → ℕ
N (pos n) = 0
N (negsuc n) = suc n

-- ---- the parts of each number
pub P_pos : (n : ℕ) → P (pos n) ≡ n
unfolding P
P_pos n = refl

pub N-pos : (n : ℕ) → N (pos n) ≡ 0
unfolding N
N-pos n = refl

pub P_negsuc : (n : ℕ) → P (negsuc n) ≡ 0
unfolding P
P_negsuc n = refl

pub N_negsuc : (n : ℕ) → N (negsuc n) ≡ suc n
unfolding N
N_negsuc n = refl

-- the two parts of which one is zero
pub one_sided : (z : ℤ) → (P z ≡ 0) ⊎ (N z ≡ 0)
unfolding P N
one_sided (pos n) = inr refl
one_sided (negsuc n) = inl refl

pub nat_abs_parts : (z : ℤ) → nat_abs z ≡ P z + N z
unfolding P N
nat_abs_parts (pos n) = omega arith
nat_abs_parts (negsuc n) = omega arith

-- ---- operations
diff_by : (t : Bool) (a b : ℕ) → ltb a b ≡ t → P (cond t (negsuc (b - suc a)) (pos (a - b))) + b ≡ N (cond t (negsuc (b - suc a)) (pos (a - b))) + a
unfolding P N
diff_by true a b e = omega (arith, ltb-true a b e)
diff_by false a b e = omega (arith, ltb-false a b e)

diff : (a b : ℕ) → P (sub_ℕ a b) + b ≡ N (sub_ℕ a b) + a
diff a b = diff_by (ltb a b) a b refl

pub P-add : (a b : ℤ) → P (a +ℤ b) + (N a + N b) ≡ N (a +ℤ b) + (P a + P b)
unfolding P N
P-add (pos m) (pos n) = omega arith
P-add (pos m) (negsuc n) = omega (arith, diff m (suc n))
P-add (negsuc m) (pos n) = omega (arith, diff n (suc m))
P-add (negsuc m) (negsuc n) = omega arith

pub P-neg : (a : ℤ) → P (neg_ℤ a) ≡ N a
unfolding P N
P-neg (pos zero) = refl
P-neg (pos (suc n)) = refl
P-neg (negsuc n) = refl

pub N-neg : (a : ℤ) → N (neg_ℤ a) ≡ P a
unfolding P N
N-neg (pos zero) = refl
N-neg (pos (suc n)) = refl
N-neg (negsuc n) = refl

pub P-sub : (a b : ℤ) → P (a -ℤ b) + (N a + P b) ≡ N (a -ℤ b) + (P a + N b)
P-sub a b = omega (arith, P-add a (neg_ℤ b), P-neg b, N-neg b)

pub P-signed : (n : ℕ) → P (signed true n) ≡ 0
unfolding P signed
P-signed n = P-neg (pos n) ∙ N-pos n

pub N-signed : (n : ℕ) → N (signed true n) ≡ n
unfolding N signed
N-signed n = N-neg (pos n) ∙ P_pos n

pub signed-pos : (n : ℕ) → signed false n ≡ pos n
unfolding signed
signed-pos n = refl

-- ---- tests
pub lt_yes : (a b : ℤ) → lt_z a b ≡ true → P a + N b < P b + N a
unfolding P N
lt_yes (pos m) (pos n) e = omega (arith, ltb-true m n e)
lt_yes (pos m) (negsuc n) e = let z : ◌≡◌ {A = ℕ} 0 1 = cc in absurd (omega arith)
lt_yes (negsuc m) (pos n) e = omega arith
lt_yes (negsuc m) (negsuc n) e = omega (arith, ltb-true n m e)

pub lt_no : (a b : ℤ) → lt_z a b ≡ false → P b + N a ≤ P a + N b
unfolding P N
lt_no (pos m) (pos n) e = omega (arith, ltb-false m n e)
lt_no (pos m) (negsuc n) e = omega arith
lt_no (negsuc m) (pos n) e = let z : ◌≡◌ {A = ℕ} 0 1 = cc in absurd (omega arith)
lt_no (negsuc m) (negsuc n) e = omega (arith, ltb-false n m e)

pub le_yes : (a b : ℤ) → le_z a b ≡ true → P a + N b ≤ P b + N a
unfolding P N
le_yes (pos m) (pos n) e = omega (arith, leb-true m n e)
le_yes (pos m) (negsuc n) e = let z : ◌≡◌ {A = ℕ} 0 1 = cc in absurd (omega arith)
le_yes (negsuc m) (pos n) e = omega arith
le_yes (negsuc m) (negsuc n) e = omega (arith, leb-true n m e)

pub le_no : (a b : ℤ) → le_z a b ≡ false → P b + N a < P a + N b
unfolding P N
le_no (pos m) (pos n) e = omega (arith, leb-false m n e)
le_no (pos m) (negsuc n) e = omega arith
le_no (negsuc m) (pos n) e = let z : ◌≡◌ {A = ℕ} 0 1 = cc in absurd (omega arith)
le_no (negsuc m) (negsuc n) e = omega (arith, leb-false n m e)

pub le_is : (a b : ℤ) → P a + N b ≤ P b + N a → le_z a b ≡ true
le_is a b h = go (le_z a b) refl
  where
    go : (t : Bool) → le_z a b ≡ t → le_z a b ≡ true
    go true e = e
    go false e = absurd (omega (arith, le_no a b e))

pub gt_is : (a b : ℤ) → P b + N a < P a + N b → le_z a b ≡ false
gt_is a b h = go (le_z a b) refl
  where
    go : (t : Bool) → le_z a b ≡ t → le_z a b ≡ false
    go true e = absurd (omega (arith, le_yes a b e))
    go false e = e

pub lt_is : (a b : ℤ) → P a + N b < P b + N a → lt_z a b ≡ true
lt_is a b h = go (lt_z a b) refl
  where
    go : (t : Bool) → lt_z a b ≡ t → lt_z a b ≡ true
    go true e = e
    go false e = absurd (omega (arith, lt_no a b e))

pub ge_is : (a b : ℤ) → P b + N a ≤ P a + N b → lt_z a b ≡ false
ge_is a b h = go (lt_z a b) refl
  where
    go : (t : Bool) → lt_z a b ≡ t → lt_z a b ≡ false
    go true e = absurd (omega (arith, lt_yes a b e))
    go false e = e

-- an order of numbers is an order of both parts
pub le_parts : (a b : ℤ) → le_z a b ≡ true → (P a ≤ P b) × (N b ≤ N a)
unfolding P N
le_parts (pos m) (pos n) e = (leb-true m n e, omega arith)
le_parts (pos m) (negsuc n) e = let z : ◌≡◌ {A = ℕ} 0 1 = cc in absurd (omega arith)
le_parts (negsuc m) (pos n) e = (omega arith, omega arith)
le_parts (negsuc m) (negsuc n) e = (omega arith, omega (arith, leb-true n m e))

pub le_refl : (a : ℤ) → le_z a a ≡ true
le_refl a = le_is a a (omega arith)

pub le_trans : (a b c : ℤ) → le_z a b ≡ true → le_z b c ≡ true → le_z a c ≡ true
le_trans a b c h g = le_is a c (omega (arith, le_yes a b h, le_yes b c g))

pub lt_le : (a b : ℤ) → lt_z a b ≡ true → le_z a b ≡ true
lt_le a b h = le_is a b (omega (arith, lt_yes a b h))

-- no part below zero, none above
pub N-zero : (z : ℤ) → le_z (pos 0) z ≡ true → N z ≡ 0
unfolding P N
N-zero z h = omega (arith, le_parts (pos 0) z h)

pub P-zero : (z : ℤ) → le_z z (pos 0) ≡ true → P z ≡ 0
unfolding P N
P-zero z h = omega (arith, le_parts z (pos 0) h)

pub from_zero : (z : ℤ) → N z ≡ 0 → le_z (pos 0) z ≡ true
unfolding P N
from_zero z h = le_is (pos 0) z (omega arith)

pub to_zero : (z : ℤ) → P z ≡ 0 → le_z z (pos 0) ≡ true
unfolding P N
to_zero z h = le_is z (pos 0) (omega arith)

-- ---- bounds
pub P-fits : (z : ℤ) → SFits w64 z → P z < 2 ^ 63
unfolding P
P-fits (pos n) h = h.sfits
P-fits (negsuc n) h = omega arith

pub N-fits : (z : ℤ) → SFits w64 z → N z ≤ 2 ^ 63
unfolding N
N-fits (pos n) h = omega arith
N-fits (negsuc n) h = omega (arith, h.sfits)

pub fits_of : (z : ℤ) → P z < 2 ^ 63 + N z → N z ≤ 2 ^ 63 + P z → SFits w64 z
unfolding P N
fits_of (pos n) h g = record { sfits = omega arith }
fits_of (negsuc n) h g = record { sfits = omega arith }

-- ---- equality
pub eq_of : (a b : ℤ) → P a + N b ≡ P b + N a → a ≡ b
unfolding P N
eq_of (pos m) (pos n) e = ap pos (omega arith)
eq_of (pos m) (negsuc n) e = absurd (omega arith)
eq_of (negsuc m) (pos n) e = absurd (omega arith)
eq_of (negsuc m) (negsuc n) e = ap negsuc (omega arith)

-- ---- the clamp
pub P_clamp : (z : ℤ) → P (clamp64 z) ≡ min (P z) (2 ^ 63 - 1)
unfolding P clamp64
P_clamp (pos n) = refl
P_clamp (negsuc n) = omega arith

pub N_clamp : (z : ℤ) → N (clamp64 z) ≡ min (N z) (2 ^ 63)
unfolding N clamp64
N_clamp (pos n) = omega arith
N_clamp (negsuc n) = omega arith

pub clamp_fits : (z : ℤ) → SFits w64 (clamp64 z)
clamp_fits z = fits_of (clamp64 z) (omega (arith, P_clamp z)) (omega (arith, N_clamp z))

pub clamp_same : (z : ℤ) → SFits w64 z → clamp64 z ≡ z
clamp_same z h = eq_of (clamp64 z) z (omega (arith, P_clamp z, N_clamp z, P-fits z h, N-fits z h))

-- the bits of what was clamped, read back
pub clamp_back : (r z : ℤ) → r ≡ clamp64 z → to_z w64 (of_z w64 r) ≡ clamp64 z
clamp_back r z e = to_z-of_z (subst (SFits w64) (sym e) (clamp_fits z)) ∙ e

-- at or past either end
pub clamp_top : (z : ℤ) → 2 ^ 63 + N z ≤ P z → clamp64 z ≡ pos 9223372036854775807
unfolding P N clamp64
clamp_top (pos n) h = ap pos (omega arith)
clamp_top (negsuc n) h = absurd (omega arith)

pub clamp_low : (z : ℤ) → 2 ^ 63 + P z ≤ N z → clamp64 z ≡ negsuc 9223372036854775807
unfolding P N clamp64
clamp_low (pos n) h = absurd (omega arith)
clamp_low (negsuc n) h = ap negsuc (omega arith)

pub clamp_mono : (a b : ℤ) → le_z a b ≡ true → le_z (clamp64 a) (clamp64 b) ≡ true
clamp_mono a b h = le_is (clamp64 a) (clamp64 b) (omega (arith, le_parts a b h, P_clamp a, P_clamp b, N_clamp a, N_clamp b))

-- ---- saturating sums: a number of an i64; the exact sum where that is one; ordered as their parts are
pub sat_add-fits : (a b : ℤ) → SFits w64 (sat_add a b)
unfolding sat_add
sat_add-fits a b = clamp_fits (a +ℤ b)

pub sat_sub-fits : (a b : ℤ) → SFits w64 (sat_sub a b)
unfolding sat_sub
sat_sub-fits a b = clamp_fits (a -ℤ b)

pub sat_neg-fits : (a : ℤ) → SFits w64 (sat_neg a)
unfolding sat_neg
sat_neg-fits a = clamp_fits (neg_ℤ a)

pub sat_abs-fits : (a : ℤ) → SFits w64 (sat_abs a)
unfolding sat_abs
sat_abs-fits a = clamp_fits (pos (nat_abs a))

pub sat_add_clamp : (a b : ℤ) → sat_add a b ≡ clamp64 (a +ℤ b)
unfolding sat_add
sat_add_clamp a b = refl

pub sat_sub_clamp : (a b : ℤ) → sat_sub a b ≡ clamp64 (a -ℤ b)
unfolding sat_sub
sat_sub_clamp a b = refl

pub sat_add_exact : (a b : ℤ) → SFits w64 (a +ℤ b) → sat_add a b ≡ a +ℤ b
sat_add_exact a b h = sat_add_clamp a b ∙ clamp_same (a +ℤ b) h

pub sat_sub_exact : (a b : ℤ) → SFits w64 (a -ℤ b) → sat_sub a b ≡ a -ℤ b
sat_sub_exact a b h = sat_sub_clamp a b ∙ clamp_same (a -ℤ b) h

-- neither of two numbers of at least 0 takes the other past an end
pub sat_sub-plain : (a b : ℤ) → SFits w64 a → SFits w64 b → le_z (pos 0) a ≡ true → le_z (pos 0) b ≡ true → sat_sub a b ≡ a -ℤ b
sat_sub-plain a b fa fb ha hb =
    sat_sub_exact a b
    (fits_of (a -ℤ b)
    (omega (arith, P-sub a b, P-fits a fa, P-fits b fb, N-zero a ha, N-zero b hb))
    (omega (arith, P-sub a b, P-fits a fa, P-fits b fb, N-zero a ha, N-zero b hb)))

pub sat_add_mono : (a a' b b' : ℤ) → le_z a a' ≡ true → le_z b b' ≡ true → le_z (sat_add a b) (sat_add a' b') ≡ true
unfolding sat_add
sat_add_mono a a' b b' h g =
    clamp_mono (a +ℤ b) (a' +ℤ b') (le_is (a +ℤ b) (a' +ℤ b') (omega (arith, le_yes a a' h, le_yes b b' g, P-add a b, P-add a' b')))

pub sat_sub_mono : (a a' b b' : ℤ) → le_z a a' ≡ true → le_z b' b ≡ true → le_z (sat_sub a b) (sat_sub a' b') ≡ true
unfolding sat_sub
sat_sub_mono a a' b b' h g =
    clamp_mono (a -ℤ b) (a' -ℤ b') (le_is (a -ℤ b) (a' -ℤ b') (omega (arith, le_yes a a' h, le_yes b' b g, P-sub a b, P-sub a' b')))

-- ---- negation and absolute value: their parts
pub P-sat_neg : (a : ℤ) → P (sat_neg a) ≡ min (N a) (2 ^ 63 - 1)
unfolding sat_neg
P-sat_neg a = omega (arith, P_clamp (neg_ℤ a), P-neg a)

pub N-sat_neg : (a : ℤ) → N (sat_neg a) ≡ min (P a) (2 ^ 63)
unfolding sat_neg
N-sat_neg a = omega (arith, N_clamp (neg_ℤ a), N-neg a)

pub sat_neg_exact : (a : ℤ) → SFits w64 a → N a < 2 ^ 63 → sat_neg a ≡ neg_ℤ a
sat_neg_exact a f h = eq_of (sat_neg a) (neg_ℤ a) (omega (arith, P-sat_neg a, N-sat_neg a, P-neg a, N-neg a, P-fits a f))

pub sat_neg_twice : (a : ℤ) → SFits w64 a → N a < 2 ^ 63 → sat_neg (sat_neg a) ≡ a
sat_neg_twice a f h = eq_of (sat_neg (sat_neg a)) a (omega (arith, P-sat_neg (sat_neg a), N-sat_neg (sat_neg a), P-sat_neg a, N-sat_neg a, P-fits a f))

pub P-sat_abs : (a : ℤ) → P (sat_abs a) ≡ min (nat_abs a) (2 ^ 63 - 1)
unfolding sat_abs
P-sat_abs a = omega (arith, P_clamp (pos (nat_abs a)), P_pos (nat_abs a))

pub N-sat_abs : (a : ℤ) → N (sat_abs a) ≡ 0
unfolding sat_abs
N-sat_abs a = omega (arith, N_clamp (pos (nat_abs a)), N-pos (nat_abs a))

pub sat_abs-same : (a : ℤ) → SFits w64 a → le_z (pos 0) a ≡ true → sat_abs a ≡ a
sat_abs-same a f h = eq_of (sat_abs a) a (omega (arith, P-sat_abs a, N-sat_abs a, nat_abs_parts a, N-zero a h, P-fits a f))
