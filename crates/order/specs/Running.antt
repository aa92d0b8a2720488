-- Running orders: a list, the same members in another order, and what condition 3 says of members and sums.
use Rattle.std.specs.Prelude.{ℕ, ◌+◌, ◌≤◌, List, [], ◌∷◌, Bool, true, ◌≡◌, T, ℤ, pos}
use Rattle.std.specs.Int.Signed.{le_z}

-- "running orders": the same members, each as often; what exchanging neighbours, again and again, makes of a list
pub data Perm (A : Type 0) : List A → List A → Type 0 where
  done : Perm A [] []
  keep : {a : A} {x y : List A} → Perm A x y → Perm A (a ∷ x) (a ∷ y)
  swap : {a b : A} {x : List A} → Perm A (a ∷ (b ∷ x)) (b ∷ (a ∷ x))
  then : {x y z : List A} → Perm A x y → Perm A y z → Perm A x z

-- the sum of a figure over the members
unfoldable pub total : {A : Type 0} → (A → ℕ) → List A → ℕ
total f [] = 0
total f (a ∷ x) = f a + total f x

-- each member has the property
pub data All (A : Type 0) (Q : A → Type 0) : List A → Type 0 where
  nothing : All A Q []
  and : {a : A} {x : List A} → Q a → All A Q x → All A Q (a ∷ x)

-- each member is so related to every later one
pub data Pairs (A : Type 0) (R : A → A → Type 0) : List A → Type 0 where
  nothing : Pairs A R []
  and : {a : A} {x : List A} → All A (R a) x → Pairs A R x → Pairs A R (a ∷ x)

-- "ahead of": behind a member that passes the test stand only such
abbrev pub Last : {A : Type 0} → (A → Bool) → List A → Type 0
Last {A} t x = Pairs A (λ a b. T (t a) → T (t b)) x

-- "different"
abbrev pub Different : {A : Type 0} → (A → ℕ) → A → A → Type 0
Different key a b = key a ≡ key b → ⊥

-- "table room for all": of the places in use and those asked
abbrev pub Room : ℕ → ℕ → Type 0
Room used asked = used + asked ≤ 64

-- "cash at least 0"
abbrev pub NotBelow0 : ℤ → Type 0
NotBelow0 cash = le_z (pos 0) cash ≡ true

-- "inside the signed 64-bit range", of a sum of at least 0
abbrev pub InRange : ℤ → Type 0
InRange sum = le_z sum (pos 9223372036854775807) ≡ true
