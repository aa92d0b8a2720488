-- A number at a place of a file: what was written is read, and what is read is what would be written.
use mathlib.Core.Path.{◌≡◌, refl, sym, ◌∙◌, ap}
use Prim.Native.Nat.{ℕ, zero, suc, ◌+◌, ◌<◌, ◌^◌}
use native.Mathlib.Omega.{arith}
use mathlib.Core.Bool.{Bool, true, false}
use mathlib.Core.List.{List, [], ◌∷◌, ◌++◌}
use lib.ListN.{length, take, drop, take-append-drop}
use lib.Seq.{drop_at, drop-drop}
use Rattle.answer.specs.declared.Answer.{Answer}
use Rattle.answer.specs.declared.Answer.TheVariants.{Done, EndsEarly, BadNumber}
use Rattle.answer.specs.Numbers.{number_of}
use Rattle.seven_bit.specs.Placed.{ToldNumber, told, number_at_of}
use Rattle.seven_bit.specs.Groups.{Out, ends, bad, got, number, groups}
use Rattle.seven_bit.proofs.Groups.{Octets, number-groups, number_shortest}

-- a fact of the first of a row, and one of the others
infixr 60 ◌▸◌
abbrev pub ◌▸◌ : {A B : Type 0} → A → B → A × B
a ▸ b = (a, b)

-- ---- bytes from a place on
-- what follows what stands at a place
pub after : (l x rest : List ℕ) (at : ℕ) → drop at l ≡ x ++ rest → drop (at + length x) l ≡ rest
after l x rest at e = sym (drop-drop (length x) at l) ∙ ap (drop (length x)) e ∙ drop_at x rest (length x) refl

pub octets_drop : (n : ℕ) (l : List ℕ) → Octets l → Octets (drop n l)
octets_drop zero l o = o
octets_drop (suc n) [] o = o
octets_drop (suc n) (b ∷ l) o = octets_drop n l o.1

pub octets_take : (n : ℕ) (l : List ℕ) → Octets l → Octets (take n l)
octets_take zero l o = omega arith
octets_take (suc n) [] o = o
octets_take (suc n) (b ∷ l) o = (o.0, octets_take n l o.1)

-- ---- tests and answers that differ
pub clash : {A : Type 0} (b : Bool) → b ≡ true → b ≡ false → A
clash b p q = absurd (let z : ◌≡◌ {A = Bool} true false = sym p ∙ q in let n : ◌≡◌ {A = ℕ} 0 1 = cc in omega arith)

pub apart : {A : Type 0} (a b : Answer) → a ≡ b → (number_of a ≡ number_of b → ⊥) → A
apart a b e f = absurd (f (ap number_of e))

-- ---- a number
abbrev pub was : ℕ → ℕ → ToldNumber
was v next = record { answer = Done; value = v; next = next }

pub number_back : (l rest : List ℕ) (at v : ℕ) → v < 2 ^ 64 → drop at l ≡ groups v ++ rest → number_at_of l at ≡ was v (at + length (groups v))
unfolding told
number_back l rest at v h e = ap (λ (m : List ℕ). told at (length l) (number m)) e ∙ ap (told at (length l)) (number-groups rest v h)

pub record Shortest (l : List ℕ) (at : ℕ) (n : ToldNumber) : Type 0 where
  pub fits : n.value < 2 ^ 64
  pub same : drop at l ≡ groups n.value ++ drop n.next l

shortest_by : (l : List ℕ) (at : ℕ) (o : Out) → Octets l → number (drop at l) ≡ o → (told at (length l) o).answer ≡ Done → Shortest l at (told at (length l) o)
unfolding told
shortest_by l at ends p e d = apart (EndsEarly (length l)) Done d (λ z. omega arith)
shortest_by l at bad p e d = apart (BadNumber at) Done d (λ z. omega arith)
shortest_by l at (got v n) p e d =
    let s = number_shortest (drop at l) v n (octets_drop at l p) e in
    record { fits = s.0; same = sym (take-append-drop n (drop at l)) ∙ rw (s.2, drop-drop n at l) }

pub number-one : (l : List ℕ) (at : ℕ) → Octets l → (number_at_of l at).answer ≡ Done → Shortest l at (number_at_of l at)
number-one l at o d = shortest_by l at (number (drop at l)) o refl d
