-- What is read of a part of a run of bytes: the number where it holds all of its groups, and an early end where it does not.
use mathlib.Core.Path.{◌≡◌, refl}
use Prim.Native.Nat.{ℕ, zero, suc, ◌<◌, ◌≤◌}
use native.Mathlib.Omega.{arith}
use mathlib.Core.Bool.{Bool, true, false}
use mathlib.Core.List.{List, [], ◌∷◌}
use lib.Dec.{ltb}
use lib.ListN.{length, take}
use Rattle.answer.specs.Choice.{pick}
use Rattle.seven_bit.specs.Groups.{Out, ends, bad, got, onto, read}

-- what an outcome says of the bytes that it came from, and of each part of them from their start
abbrev pub Grouped : ℕ → ℕ → List ℕ → Out → Type 0
Grouped least k l ends = 0 ≤ 0
Grouped least k l bad = 1 ≤ length l
Grouped least k l (got v n) = (n ≤ length l) × ((j : ℕ) → n ≤ j → read least k (take j l) ≡ got v n) × ((j : ℕ) → j < n → read least k (take j l) ≡ ends)

-- a last group
one_grouped : (least k b : ℕ) (l : List ℕ) → ((r : List ℕ) → read least k (b ∷ r) ≡ got b 1) → Grouped least k (b ∷ l) (got b 1)
unfolding read
one_grouped least k b l e = (omega arith, holds, lacks)
  where
    holds : (j : ℕ) → 1 ≤ j → read least k (take j (b ∷ l)) ≡ got b 1
    holds zero h = absurd (omega arith)
    holds (suc j) h = e (take j l)

    lacks : (j : ℕ) → j < 1 → read least k (take j (b ∷ l)) ≡ ends
    lacks zero h = refl
    lacks (suc j) h = absurd (omega arith)

last_grouped : (least k b : ℕ) (l : List ℕ) (t : Bool) → ltb b least ≡ t → ltb b 128 ≡ true → Grouped least (suc k) (b ∷ l) (pick t bad (got b 1))
unfolding read
last_grouped least k b l true e f = omega arith
last_grouped least k b l false e f = one_grouped least (suc k) b l (λ r. simp (e, f))

tenth_grouped : (least b : ℕ) (l : List ℕ) (t u : Bool) → ltb b least ≡ t → ltb 1 b ≡ u → Grouped least 0 (b ∷ l) (pick t bad (pick u bad (got b 1)))
unfolding read
tenth_grouped least b l true u e f = omega arith
tenth_grouped least b l false true e f = omega arith
tenth_grouped least b l false false e f = one_grouped least 0 b l (λ r. simp (e, f))

-- a group that goes on, before others
onto_grouped : (least k b : ℕ) (l : List ℕ) (o : Out) → ltb b 128 ≡ false → Grouped 1 k l o → Grouped least (suc k) (b ∷ l) (onto b o)
unfolding read onto
onto_grouped least k b l ends e g = omega arith
onto_grouped least k b l bad e g = omega arith
onto_grouped least k b l (got v n) e g = (omega (arith, g.0), holds, lacks)
  where
    holds : (j : ℕ) → suc n ≤ j → read least (suc k) (take j (b ∷ l)) ≡ onto b (got v n)
    holds zero h = absurd (omega arith)
    holds (suc j) h = simp (e, g.1 j (omega arith))

    lacks : (j : ℕ) → j < suc n → read least (suc k) (take j (b ∷ l)) ≡ ends
    lacks zero h = refl
    lacks (suc j) h = simp (e, g.2 j (omega arith))

more_grouped : (least k b : ℕ) (l : List ℕ) (t : Bool) → ltb b 128 ≡ t → Grouped 1 k l (read 1 k l) → Grouped least (suc k) (b ∷ l) (pick t (pick (ltb b least) bad (got b 1)) (onto b (read 1 k l)))
more_grouped least k b l true e g = last_grouped least k b l (ltb b least) refl e
more_grouped least k b l false e g = onto_grouped least k b l (read 1 k l) e g

pub read_grouped : (least k : ℕ) (l : List ℕ) → Grouped least k l (read least k l)
unfolding read
read_grouped least k [] = omega arith
read_grouped least zero (b ∷ l) = tenth_grouped least b l (ltb b least) (ltb 1 b) refl refl
read_grouped least (suc k) (b ∷ l) = more_grouped least k b l (ltb b 128) refl (read_grouped 1 k l)
