-- The steps of the code that reads a symbol: its letters, its number, its length.
use Prim.Native.Nat.{ℕ, ◌+◌, ◌-◌, ◌*◌, ◌^◌, ◌<◌, ◌≤◌}
use Rattle.std.specs.Prelude.{Ok, Err}
use mathlib.Core.Path.{◌≡◌, refl, ap, ◌∙◌}
use mathlib.Core.Bool.{false}
use mathlib.Core.List.{List}
use native.Mathlib.Omega.{arith}
use native.Mathlib.Numerals.{add-one}
use native.Mathlib.Nat.{pow-le-pow_right, pow-suc}
use lib.ListN.{length, get_or, take, drop}
use borrow.Author.Tests.{le-leb, lt-leb, eq-eqb, ne_eqb}
use Rattle.answer.specs.Choice.{pick}
use Rattle.answer.specs.declared.Answer.TheVariants.{Unsound, EndsEarly}
use Rattle.answer.proofs.Choice.{both_false}
use Rattle.position.specs.Symbols.{leading, of_bytes}
use Rattle.seven_bit.specs.declared.read.Fault.{Fault}
use Rattle.seven_bit.specs.declared.read.Number.{Number}
use Rattle.seven_bit.specs.Placed.{ToldNumber, number_at_of, number_or_fault}
use Rattle.seven_bit.proofs.Faults.{ok_of, err_of}
use Rattle.saved_form.specs.Texts.{good_length_of, spelt}
use Rattle.loading.specs.Reading.{no_number_of, text_read, symbol_read}

-- ---- the number of the first i letters
pub record Spelling (t : List ℕ) (sum i : ℕ) : Type 0 where
  pub few : i ≤ 8
  pub same : sum ≡ leading t i
  pub small : sum < 256 ^ i

pub begin : (t : List ℕ) → Spelling t 0 0
unfolding leading
begin t = record { few = omega arith; same = refl; small = omega arith }

module _ {t : List ℕ} {sum i : ℕ} (h : Spelling t sum i) where
  pub room : i < 8 → sum * 256 + 255 < 2 ^ 64
  room p =
      let seven : i ≤ 7 = omega arith in
      let power : 256 ^ i ≤ 2 ^ 56 = pow-le-pow_right {n = 256} (omega arith) seven in
      omega (arith, h.small)

  pub next : (b : ℕ) → b ≡ get_or t i 0 → b < 256 → i < 8 → Spelling t (sum * 256 + b) (i + 1)
  unfolding leading
  next b e f p = record {
    few = omega arith;
    same = rw add-one (ap (λ (n : ℕ). n * 256 + b) h.same ∙ ap (λ (x : ℕ). leading t i * 256 + x) e);
    small = rw (add-one, pow-suc) (omega (arith, h.small));
  }

  pub whole : 8 ≤ i → sum ≡ of_bytes t
  whole p =
      let eight : i ≡ 8 = omega (arith, h.few) in
      h.same ∙ ap (leading t) eight

-- ---- the last letter
module _ (t : List ℕ) where
  pub spells_none : get_or t (length t - 1) 0 ≡ 0 → ◌≡◌ {A = ℕ} 0 (spelt t)
  unfolding spelt
  spells_none z = simp (eq-eqb _ 0 z)

  pub spells : (get_or t (length t - 1) 0 ≡ 0 → ⊥) → (v : ℕ) → v ≡ of_bytes t → v ≡ spelt t
  unfolding spelt
  spells z v e = simp (ne_eqb _ 0 z) e

-- ---- the text
module _ (l : List ℕ) (n at : ℕ) where
  pub text_in : (v : ℕ) → at + n ≤ length l → v ≡ spelt (take n (drop at l)) → Ok (record { value = v; next = at + n }) ≡ number_or_fault (text_read l n at)
  unfolding text_read
  text_in v h e = simp (le-leb (at + n) (length l) h) (ap (λ (x : ℕ). Ok (record { value = x; next = at + n })) e)

  pub text_past : length l < at + n → Err (record { answer = EndsEarly (length l); place = length l }) ≡ number_or_fault (text_read l n at)
  unfolding text_read
  text_past h = simp (lt-leb (at + n) (length l) h)

-- ---- "a symbol length outside 1 to 8"
module _ (l : List ℕ) (place : ℕ) where
  abbrev told : ToldNumber
  told = number_at_of l place

  pub no_number : (f : Fault) → Err f ≡ number_or_fault told → Err f ≡ number_or_fault (symbol_read l place)
  unfolding symbol_read
  no_number f e =
      let d = (err_of told.answer told.next (record { value = told.value; next = told.next }) f e).0 in
      let s : told ≡ symbol_read l place = simp d in
      e ∙ ap number_or_fault s

  module _ (n : Number) (e : Ok n ≡ number_or_fault told) where
    follows : pick (good_length_of n.value) (text_read l n.value n.next) (no_number_of Unsound place) ≡ symbol_read l place
    unfolding symbol_read
    follows = let o = ok_of told.answer told.next (record { value = told.value; next = told.next }) n e in rw o.1 (simp o.0)

    pub good_length : 1 ≤ n.value → n.value ≤ 8 → number_or_fault (text_read l n.value n.next) ≡ number_or_fault (symbol_read l place)
    good_length some few =
        let s : text_read l n.value n.next ≡ pick (good_length_of n.value) (text_read l n.value n.next) (no_number_of Unsound place) =
        simp (le-leb 1 n.value some, le-leb n.value 8 few)
        in
        ap number_or_fault (s ∙ follows)

    bad_length : good_length_of n.value ≡ false → Err (record { answer = Unsound; place = place }) ≡ number_or_fault (symbol_read l place)
    bad_length b = let s : no_number_of Unsound place ≡ pick (good_length_of n.value) (text_read l n.value n.next) (no_number_of Unsound place) = simp b in ap number_or_fault (s ∙ follows)

    pub no_length : n.value < 1 → Err (record { answer = Unsound; place = place }) ≡ number_or_fault (symbol_read l place)
    no_length z = bad_length (simp (lt-leb 1 n.value z))

    pub long-length : 8 < n.value → Err (record { answer = Unsound; place = place }) ≡ number_or_fault (symbol_read l place)
    long-length h = bad_length (simp (lt-leb n.value 8 h, both_false))
