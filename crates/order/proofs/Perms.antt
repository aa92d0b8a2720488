-- Laws of running orders: what does not depend on the order, and that parting a list is one.
use Prim.Native.Nat.{ℕ, ◌+◌}
use mathlib.Core.List.{List, [], ◌∷◌, ◌++◌, map, append-nil, Permᴰ}
use mathlib.Core.Path.{◌≡◌, refl, sym, ap, ◌∙◌, subst}
use mathlib.Core.Bool.{Bool, true, false, not}
use lib.Dec.{T, T_not}
use native.Mathlib.Omega.{arith}
use Rattle.table.specs.Keyed.{pick}
use Rattle.wanted.specs.declared.planned.PlannedOrder.{PlannedOrder}
use Rattle.admission.specs.Admission.{insert_by}
use Rattle.admission.specs.Running.{only, parted, symbol_before, sorted_with}
use Rattle.order.specs.Running.{Perm, done, keep, swap, then, total, All, nothing, and, Pairs, Last}

-- ---- permutations
pub perm_refl : {A : Type 0} (x : List A) → Perm A x x
perm_refl [] = done
perm_refl (a ∷ x) = keep (perm_refl x)

pub perm_sym : {A : Type 0} {x y : List A} → Perm A x y → Perm A y x
perm_sym done = done
perm_sym (keep p) = keep (perm_sym p)
perm_sym swap = swap
perm_sym (then p q) = then (perm_sym q) (perm_sym p)

-- it is the permutation of the library
pub perm_to_library : {A : Type 0} {x y : List A} → Perm A x y → Permᴰ x y
perm_to_library done = Permᴰ.nil
perm_to_library (keep p) = Permᴰ.cons refl (perm_to_library p)
perm_to_library swap = Permᴰ.swap refl refl
perm_to_library (then p q) = Permᴰ.trans (perm_to_library p) (perm_to_library q)

pub perm_of_library : {A : Type 0} {x y : List A} → Permᴰ x y → Perm A x y
perm_of_library Permᴰ.nil = done
perm_of_library {A} (Permᴰ.cons {a} {b} {l₁} {l₂} e p) = subst (λ (c : A). Perm A (a ∷ l₁) (c ∷ l₂)) e (keep (perm_of_library p))
perm_of_library {A} (Permᴰ.swap {a} {b} {a'} {b'} {l} e f) =
    subst (λ (c : A). Perm A (a ∷ (b ∷ l)) (c ∷ (b' ∷ l))) f (subst (λ (c : A). Perm A (a ∷ (b ∷ l)) (b ∷ (c ∷ l))) e swap)
perm_of_library (Permᴰ.trans p q) = then (perm_of_library p) (perm_of_library q)

-- an element goes in anywhere
perm_middle : {A : Type 0} (a : A) (x y : List A) → Perm A (a ∷ (x ++ y)) (x ++ (a ∷ y))
perm_middle a [] y = perm_refl (a ∷ y)
perm_middle a (b ∷ x) y = then swap (keep (perm_middle a x y))

pub perm_parted : {A : Type 0} (t : A → Bool) (x : List A) → Perm A x (parted t x)
unfolding parted
perm_parted t [] = done
perm_parted {A} t (a ∷ x) = go (t a) (perm_parted t x)
  where
    go : (b : Bool) → Perm A x (parted t x) → Perm A (a ∷ x) (pick (not b) (a ∷ only (λ a. not (t a)) x) (only (λ a. not (t a)) x) ++ pick b (a ∷ only t x) (only t x))
    go true p = then (keep p) (perm_middle a (only (λ a. not (t a)) x) (only t x))
    go false p = keep p

pub perm_map : {A B : Type 0} (f : A → B) {x y : List A} → Perm A x y → Perm B (map f x) (map f y)
perm_map f done = done
perm_map f (keep p) = keep (perm_map f p)
perm_map f swap = swap
perm_map f (then p q) = then (perm_map f p) (perm_map f q)

perm_append : {A : Type 0} {x y : List A} (z : List A) → Perm A x y → Perm A (x ++ z) (y ++ z)
perm_append z done = perm_refl z
perm_append z (keep p) = keep (perm_append z p)
perm_append z swap = swap
perm_append z (then p q) = then (perm_append z p) (perm_append z q)

-- orders put in one after the other, wherever each goes
perm_insert : (first : PlannedOrder → PlannedOrder → Bool) (o : PlannedOrder) (l : List PlannedOrder) → Perm PlannedOrder (o ∷ l) (insert_by first o l)
unfolding insert_by
perm_insert first o [] = perm_refl (o ∷ [])
perm_insert first o (x ∷ l) = go (first o x) (perm_insert first o l)
  where
    go : (b : Bool) → Perm PlannedOrder (o ∷ l) (insert_by first o l) → Perm PlannedOrder (o ∷ (x ∷ l)) (pick b (o ∷ (x ∷ l)) (x ∷ insert_by first o l))
    go true p = perm_refl (o ∷ (x ∷ l))
    go false p = then swap (keep p)

pub perm_sorted : (run os : List PlannedOrder) → Perm PlannedOrder (run ++ os) (sorted_with run os)
unfolding sorted_with
perm_sorted run [] = subst (λ l. Perm PlannedOrder l run) (sym (append-nil run)) (perm_refl run)
perm_sorted run (o ∷ os) = then (perm_sym (perm_middle o run os)) (then (perm_append os (perm_insert symbol_before o run)) (perm_sorted (insert_by symbol_before o run) os))

-- ---- what does not depend on the order
pub total_perm : {A : Type 0} (f : A → ℕ) {x y : List A} → Perm A x y → total f x ≡ total f y
unfolding total
total_perm f done = refl
total_perm f (keep {a} p) = ap (λ (n : ℕ). f a + n) (total_perm f p)
total_perm f (swap {a} {b} {x}) = omega arith
total_perm f (then p q) = total_perm f p ∙ total_perm f q

pub total-same : {A : Type 0} (f g : A → ℕ) → ((a : A) → f a ≡ g a) → (x : List A) → total f x ≡ total g x
unfolding total
total-same f g e [] = refl
total-same f g e (a ∷ x) = omega (arith, e a, total-same f g e x)

pub all_perm : {A : Type 0} {Q : A → Type 0} {x y : List A} → Perm A x y → All A Q x → All A Q y
all_perm done h = h
all_perm (keep p) (and q h) = and q (all_perm p h)
all_perm swap (and q (and r h)) = and r (and q h)
all_perm (then p q) h = all_perm q (all_perm p h)

pub pairs_perm : {A : Type 0} {R : A → A → Type 0} → ((a b : A) → R a b → R b a) → {x y : List A} → Perm A x y → Pairs A R x → Pairs A R y
pairs_perm s done h = h
pairs_perm s (keep p) (and q h) = and (all_perm p q) (pairs_perm s p h)
pairs_perm s (swap {a} {b}) (and (and r q) (and r' h)) = and (and (s a b r) r') (and q h)
pairs_perm s (then p q) h = pairs_perm s q (pairs_perm s p h)

-- ---- properties of all members
pub all_of : {A : Type 0} {Q : A → Type 0} → ((a : A) → Q a) → (x : List A) → All A Q x
all_of f [] = nothing
all_of f (a ∷ x) = and (f a) (all_of f x)

pub all_map : {A : Type 0} {Q S : A → Type 0} → ((a : A) → Q a → S a) → {x : List A} → All A Q x → All A S x
all_map f nothing = nothing
all_map f (and {a} q h) = and (f a q) (all_map f h)

pub all-only : {A : Type 0} (t : A → Bool) (x : List A) → All A (λ a. T (t a)) (only t x)
all-only t [] = nothing
all-only {A} t (a ∷ x) = go (t a) refl (all-only t x)
  where
    go : (b : Bool) → t a ≡ b → All A (λ a. T (t a)) (only t x) → All A (λ a. T (t a)) (pick b (a ∷ only t x) (only t x))
    go true e h = and (subst T (sym e) tt) h
    go false e h = h

-- a first part each of whose members is related to all, and a second part to each of whose members all are
pub pairs_join : {A : Type 0} {R : A → A → Type 0} {x y : List A} → All A (λ a. (b : A) → R a b) x → All A (λ b. (a : A) → R a b) y → Pairs A R (x ++ y)
pairs_join nothing nothing = nothing
pairs_join nothing (and {a} q k) = and (all_map (λ b h. h a) k) (pairs_join nothing k)
pairs_join {x = a ∷ x} {y} (and q h) k = and (all_of q (x ++ y)) (pairs_join h k)

-- parting a list by a test puts those that pass it last
pub parted-last : {A : Type 0} (t : A → Bool) (x : List A) → Last t (parted t x)
unfolding parted
parted-last t x = pairs_join (all_map (λ a h b k. absurd (T_not (t a) h k)) (all-only (λ a. not (t a)) x)) (all_map (λ b h a k. h) (all-only t x))
