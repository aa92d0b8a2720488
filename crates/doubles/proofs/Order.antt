-- The order of doubles by sign and size, and which doubles are not negative. Assumes nothing.
use mathlib.Core.Path.{◌≡◌, refl, sym, ap, ◌∙◌, subst}
use mathlib.Core.Bool.{Bool, true, false, not, ◌&&◌, ◌||◌, cond}
use Prim.Native.Nat.{ℕ, zero, suc, ◌+◌, ◌*◌, ◌^◌, ◌≤◌, ◌<◌}
use native.Mathlib.Nat.{le_of_eq, le_of_lt, lt_of_lt_of_le, lt_irrefl, mul-pos, zero-mul, zero-lt-suc}
use native.Mathlib.Omega.{arith}
use lib.Dec.{T, ltb, eqb, ltb→lt, nltb→le, eqb→eq}
use lib.IntN.{ℤ, pos}
use lib.Ieee.{Float, nan, inf, fin, Format, prec, emax, low, up, down, odd, units, round, neg, below, level, le}
use lib.Ieee.Fits.{eq→eqb, and_i, and_l, and_r}
use lib.Ieee.Exact.{HasValue}
use lib.Ieee.Order.{transfer}

-- ---- ±a ≤ ±b
abbrev pub SignedLe : Bool → ℕ → Bool → ℕ → Type 0
SignedLe false a false b = a ≤ b
SignedLe false a true b = (a ≡ 0) × (b ≡ 0)
SignedLe true a false b = T true
SignedLe true a true b = b ≤ a

-- a < b, or a test y that says a ≡ b
either→ : (a b : ℕ) (y : Bool) → (T y → a ≡ b) → T (ltb a b || (y && true)) → a ≤ b
either→ a b y g = go (ltb a b) y (ltb→lt a b) g
  where
    go : (x y : Bool) → (T x → a < b) → (T y → a ≡ b) → T (x || (y && true)) → a ≤ b
    go true y f g t = le_of_lt (f tt)
    go false true f g t = le_of_eq (g tt)
    go false false f g t = absurd t

either← : (a b : ℕ) (y : Bool) → (a ≡ b → T y) → a ≤ b → T (ltb a b || (y && true))
either← a b y g h = go (ltb a b) (nltb→le a b)
  where
    go : (x : Bool) → (T (not x) → b ≤ a) → T (x || (y && true))
    go true f = tt
    go false f =
        let l = f tt in
        and_i y true (g (omega arith)) tt

order→ : (s : Bool) (a : ℕ) (t : Bool) (b : ℕ) → T (below s a t b || level s a t b) → SignedLe s a t b
order→ false a false b h = either→ a b (eqb a b) (eqb→eq a b) h
order→ false a true b h =
    let p = eqb→eq a b (and_l (eqb a b) (eqb a 0) h) in
    let q = eqb→eq a 0 (and_r (eqb a b) (eqb a 0) h) in
    (q, sym p ∙ q)
order→ true a false b h = tt
order→ true a true b h = either→ b a (eqb a b) (λ t. sym (eqb→eq a b t)) h

order← : (s : Bool) (a : ℕ) (t : Bool) (b : ℕ) → SignedLe s a t b → T (below s a t b || level s a t b)
order← false a false b h = either← a b (eqb a b) (λ e. eq→eqb e) h
order← false a true b h = and_i (eqb a b) (eqb a 0) (eq→eqb (h.0 ∙ sym h.1)) (eq→eqb h.0)
order← true a false b h = go (ltb 0 (a + b)) (nltb→le 0 (a + b))
  where
    go : (x : Bool) → (T (not x) → a + b ≤ 0) → T (x || (eqb a b && eqb a 0))
    go true f = tt
    go false f =
        let l = f tt in
        and_i (eqb a b) (eqb a 0) (eq→eqb {a = a} {b = b} (omega arith)) (eq→eqb {a = a} {b = 0} (omega arith))
order← true a true b h = either← b a (eqb a b) (λ e. eq→eqb (sym e)) h

pub le-fin→ : (s : Bool) (m : ℕ) (e : ℤ) (t : Bool) (n : ℕ) (d : ℤ) → T (le (fin s m e) (fin t n d)) → SignedLe s (m * up e * down d) t (n * up d * down e)
unfolding le
le-fin→ s m e t n d h = order→ s (m * up e * down d) t (n * up d * down e) h

pub le-fin← : (s : Bool) (m : ℕ) (e : ℤ) (t : Bool) (n : ℕ) (d : ℤ) → SignedLe s (m * up e * down d) t (n * up d * down e) → T (le (fin s m e) (fin t n d))
unfolding le
le-fin← s m e t n d h = order← s (m * up e * down d) t (n * up d * down e) h

-- ---- two values as fractions
pub no_product : (a c : ℕ) → 0 < c → a * c ≡ 0 → a ≡ 0
no_product zero c C h = refl
no_product (suc a) c C h = absurd (lt_irrefl 0 (lt_of_lt_of_le (mul-pos (zero-lt-suc a) C) (le_of_eq h)))

zero_of : (x de a c c' dd : ℕ) → 0 < c → 0 < c' → x * c ≡ a * de → a * c' ≡ 0 → x * dd ≡ 0
zero_of x de a c c' dd C C' e h =
    let z : a ≡ 0 = no_product a c' C' h in
    ap (λ (x : ℕ). x * dd) (no_product x c C (e ∙ ap (λ (a : ℕ). a * de) z ∙ zero-mul de)) ∙ zero-mul dd

pub values_le : (x y : Float) (s : Bool) (a c : ℕ) (t : Bool) (b c' : ℕ) → 0 < c → 0 < c' → HasValue x s a c → HasValue y t b c' → SignedLe s (a * c') t (b * c) → T (le x y)
values_le nan y s a c t b c' C C' v w h = absurd v
values_le (inf u) y s a c t b c' C C' v w h = absurd v
values_le (fin u m e) nan s a c t b c' C C' v w h = absurd w
values_le (fin u m e) (inf r) s a c t b c' C C' v w h = absurd w
values_le (fin u m e) (fin r n d) s a c t b c' C C' v w h =
    le-fin← u m e r n d (subst (λ (u : Bool). SignedLe u (m * up e * down d) r (n * up d * down e)) (sym v.0) (subst (λ (r : Bool). SignedLe s (m * up e * down d) r (n * up d * down e)) (sym w.0) (go s t h)))
  where
    go : (s t : Bool) → SignedLe s (a * c') t (b * c) → SignedLe s (m * up e * down d) t (n * up d * down e)
    go false false h = transfer (m * up e) (n * up d) (down e) (down d) a b c c' C C' v.1 w.1 h
    go false true h = (zero_of (m * up e) (down e) a c c' (down d) C C' v.1 h.0, zero_of (n * up d) (down d) b c' c (down e) C' C w.1 h.1)
    go true false h = tt
    go true true h = transfer (n * up d) (m * up e) (down d) (down e) b a c' c C' C w.1 v.1 h

-- ---- finite values lie between the infinities
pub bottom_le : (x : Float) (s : Bool) (a c : ℕ) → HasValue x s a c → T (le (inf true) x)
unfolding le
bottom_le nan s a c v = absurd v
bottom_le (inf u) s a c v = absurd v
bottom_le (fin u m e) s a c v = tt

pub le_top : (x : Float) (s : Bool) (a c : ℕ) → HasValue x s a c → T (le x (inf false))
unfolding le
le_top nan s a c v = absurd v
le_top (inf u) s a c v = absurd v
le_top (fin u m e) s a c v = tt

-- ---- the sign
turn : (s : Bool) (a : ℕ) (t : Bool) (b : ℕ) → SignedLe s a t b → SignedLe (not t) b (not s) a
turn false a false b h = h
turn false a true b h = (h.1, h.0)
turn true a false b h = tt
turn true a true b h = h

pub neg_le : (x y : Float) → T (le x y) → T (le (neg y) (neg x))
unfolding le neg
neg_le nan y h = absurd h
neg_le (inf s) nan h = absurd h
neg_le (inf true) (inf t) h = ends t
  where
    ends : (t : Bool) → T (le (neg (inf t)) (inf false))
    ends true = tt
    ends false = tt
neg_le (inf false) (inf true) h = absurd h
neg_le (inf false) (inf false) h = tt
neg_le (inf true) (fin t n d) h = tt
neg_le (inf false) (fin t n d) h = absurd h
neg_le (fin s m e) nan h = absurd h
neg_le (fin s m e) (inf true) h = absurd h
neg_le (fin s m e) (inf false) h = tt
neg_le (fin s m e) (fin t n d) h = le-fin← (not t) n d (not s) m e (turn s (m * up e * down d) t (n * up d * down e) (le-fin→ s m e t n d h))

-- no NaN, and its sign is clear
abbrev pub clear : Float → Bool
clear nan = false
clear (inf s) = not s
clear (fin s m e) = not s

odd_clear : (d q k l : ℕ) → T (clear (odd d false q k l))
unfolding odd
odd_clear d zero k l = tt
odd_clear d (suc q) k l = tt

units_clear : (f : Format) (q k : ℕ) → T (clear (units f false q k))
unfolding units
units_clear f q k = go (ltb (q * 2 ^ k) (2 ^ (low f + suc (emax f))))
  where
    go : (b : Bool) → T (clear (cond b (odd (suc (prec f)) false q k (low f)) (inf false)))
    go true = odd_clear (suc (prec f)) q k (low f)
    go false = tt

pub round_clear : (f : Format) (a c : ℕ) → T (clear (round f false a c))
unfolding round
round_clear f a c = units_clear f _ _

-- below a double that is not negative stand those with the sign set
abbrev pub dark : Float → Bool
dark nan = false
dark (inf s) = s
dark (fin s m e) = s

pub dark_le : (x y : Float) → T (dark x) → T (clear y) → T (le x y)
unfolding le
dark_le nan y p q = absurd p
dark_le (inf false) y p q = absurd p
dark_le (inf true) nan p q = absurd q
dark_le (inf true) (inf true) p q = absurd q
dark_le (inf true) (inf false) p q = tt
dark_le (inf true) (fin t n d) p q = tt
dark_le (fin false m e) y p q = absurd p
dark_le (fin true m e) nan p q = absurd q
dark_le (fin true m e) (inf true) p q = absurd q
dark_le (fin true m e) (inf false) p q = tt
dark_le (fin true m e) (fin true n d) p q = absurd q
dark_le (fin true m e) (fin false n d) p q = le-fin← true m e false n d tt

pub neg_dark : (x : Float) → T (clear x) → T (dark (neg x))
unfolding neg
neg_dark nan p = p
neg_dark (inf s) p = p
neg_dark (fin s m e) p = p

pub zero_le_clear : (x : Float) → T (clear x) → T (le (fin false 0 (pos 0)) x)
unfolding le
zero_le_clear nan p = absurd p
zero_le_clear (inf true) p = absurd p
zero_le_clear (inf false) p = tt
zero_le_clear (fin true m e) p = absurd p
zero_le_clear (fin false m e) p = le-fin← false 0 (pos 0) false m e (omega arith)
