-- "a symbol is its length and bytes": what was written is read, and what is read is what would be written.
use mathlib.Core.Path.{◌≡◌, refl, sym, ◌∙◌, ap}
use Prim.Native.Nat.{ℕ, ◌+◌, ◌<◌, ◌≤◌, ◌^◌}
use native.Mathlib.Omega.{arith}
use mathlib.Core.Bool.{Bool, true, false}
use mathlib.Core.List.{List, ◌++◌, append_assoc}
use lib.Dec.{leb}
use lib.ListN.{length, take, drop, length-append, length-drop, take-append-drop}
use lib.Seq.{take_at, drop-drop, length-take-le}
use borrow.Author.Tests.{le-leb, leb-true}
use Rattle.answer.specs.Choice.{pick}
use Rattle.answer.specs.Numbers.{is_done}
use Rattle.answer.proofs.Choice.{both_true}
use Rattle.answer.proofs.Answers.{done_is}
use Rattle.answer.specs.declared.Answer.TheVariants.{Done, Unsound, EndsEarly}
use Rattle.position.specs.Symbols.{good_symbol}
use Rattle.seven_bit.specs.Placed.{ToldNumber, number_at_of}
use Rattle.seven_bit.specs.Groups.{groups}
use Rattle.seven_bit.proofs.Groups.{Octets}
use Rattle.saved_form.specs.Texts.{text_of, symbol_file, good_length_of, spelt}
use Rattle.loading.specs.Reading.{no_number_of, then_number, text_read, symbol_read}
use Rattle.saved_laws.proofs.Places.{after, octets_drop, octets_take, apart, clash, was, number_back, Shortest, number-one}
use Rattle.saved_laws.proofs.Texts.{Text, spelling}

-- ---- bytes of a text
text_back : (l rest t : List ℕ) (n at : ℕ) → length t ≡ n → 1 ≤ n → drop at l ≡ t ++ rest → text_read l n at ≡ was (spelt t) (at + n)
unfolding text_read
text_back l rest t n at e s d =
    let h : at + n ≤ length l = omega (arith, length-drop at l, ap length d, length-append t rest) in
    let b : take n (drop at l) ≡ t = ap (take n) d ∙ take_at t rest n e in
    simp (le-leb (at + n) (length l) h, b)

-- ---- a symbol
abbrev text_after : List ℕ → ℕ → ToldNumber → ToldNumber
text_after l at n = pick (good_length_of n.value) (text_read l n.value n.next) (no_number_of Unsound at)

good_length : (n : ℕ) → 1 ≤ n → n ≤ 8 → good_length_of n ≡ true
good_length n a b = simp (le-leb 1 n a, le-leb n 8 b)

pub symbol_back : (l rest : List ℕ) (s at : ℕ) → Text s → drop at l ≡ symbol_file s ++ rest → symbol_read l at ≡ was s (at + length (symbol_file s))
unfolding symbol_read symbol_file
symbol_back l rest s at t d =
    let x : List ℕ = groups (length (text_of s)) in
    let e : drop at l ≡ x ++ (text_of s ++ rest) = d ∙ append_assoc x (text_of s) rest in
    let n = number_back l (text_of s ++ rest) at (length (text_of s)) (omega (arith, t.short)) e in
    let b = text_back l rest (text_of s) (length (text_of s)) (at + length x) refl t.some (after l x (text_of s ++ rest) at e) in
    let k : at + length x + length (text_of s) ≡ at + length (x ++ text_of s) = omega (arith, length-append x (text_of s)) in
    ap (λ (n : ToldNumber). then_number n (text_after l at)) n ∙ simp (good_length (length (text_of s)) t.some t.short, b, t.spells, k)

-- ---- what is read is what would be written
pub record Spelt (l : List ℕ) (at : ℕ) (n : ToldNumber) : Type 0 where
  pub small : n.value < 2 ^ 64
  pub same : drop at l ≡ symbol_file n.value ++ drop n.next l

module _ (l : List ℕ) (at : ℕ) (o : Octets l) where
  text_one : (n from : ℕ) → 1 ≤ n → n ≤ 8 → drop at l ≡ groups n ++ drop from l → (t : Bool) → leb (from + n) (length l) ≡ t
      → (pick t (was (spelt (take n (drop from l))) (from + n)) (no_number_of (EndsEarly (length l)) (length l))).answer ≡ Done
      → good_symbol (pick t (was (spelt (take n (drop from l))) (from + n)) (no_number_of (EndsEarly (length l)) (length l))).value ≡ true
      → Spelt l at (pick t (was (spelt (take n (drop from l))) (from + n)) (no_number_of (EndsEarly (length l)) (length l)))
  unfolding symbol_file
  text_one n from a b s true e d g =
      let t : List ℕ = take n (drop from l) in
      let k : length t ≡ n = length-take-le n (drop from l) (omega (arith, length-drop from l, leb-true (from + n) (length l) e)) in
      let w = spelling t (octets_take n (drop from l) (octets_drop from l o)) (omega arith) (omega arith) g in
      record {
        small = w.small;
        same = s ∙ ap (λ (m : List ℕ). groups n ++ m) (sym (take-append-drop n (drop from l)) ∙ ap (λ (m : List ℕ). t ++ m) (drop-drop n from l)) ∙ sym (append_assoc (groups n) t (drop (from + n) l)) ∙ rw (w.text, k);
      }
  text_one n from a b s false e d g = apart (EndsEarly (length l)) Done d (λ z. omega arith)

  length-one : (n : ToldNumber) → n.answer ≡ Done → Shortest l at n → (t : Bool) → good_length_of n.value ≡ t
      → (pick t (text_read l n.value n.next) (no_number_of Unsound at)).answer ≡ Done
      → good_symbol (pick t (text_read l n.value n.next) (no_number_of Unsound at)).value ≡ true
      → Spelt l at (pick t (text_read l n.value n.next) (no_number_of Unsound at))
  unfolding text_read
  length-one n e s true q d g =
      let b = both_true (leb 1 n.value) (leb n.value 8) q in
      text_one n.value n.next (leb-true 1 n.value b.0) (leb-true n.value 8 b.1) s.same (leb (n.next + n.value) (length l)) refl d g
  length-one n e s false q d g = apart Unsound Done d (λ z. omega arith)

  symbol-one_by : (n : ToldNumber) → (n.answer ≡ Done → Shortest l at n) → (t : Bool) → is_done n.answer ≡ t → (pick t (text_after l at n) n).answer ≡ Done → good_symbol (pick t (text_after l at n) n).value ≡ true → Spelt l at (pick t (text_after l at n) n)
  symbol-one_by n s true e d g = length-one n (done_is n.answer e) (s (done_is n.answer e)) (good_length_of n.value) refl d g
  symbol-one_by n s false e d g = clash (is_done n.answer) (ap is_done d) e

  pub symbol-one : (symbol_read l at).answer ≡ Done → good_symbol (symbol_read l at).value ≡ true → Spelt l at (symbol_read l at)
  unfolding symbol_read
  symbol-one d g = symbol-one_by (number_at_of l at) (number-one l at o) (is_done (number_at_of l at).answer) refl d g
