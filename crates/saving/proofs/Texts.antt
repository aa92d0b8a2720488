-- The text of a symbol, byte after byte.
use mathlib.Core.Path.{◌≡◌, refl, sym, ◌∙◌, ap}
use Prim.Native.Nat.{ℕ, zero, suc, ◌+◌, ◌-◌, ◌*◌, ◌/◌, ◌%◌, ◌<◌, ◌≤◌, ◌^◌}
use native.Mathlib.Omega.{arith}
use mathlib.Core.Bool.{Bool, true, false}
use mathlib.Core.List.{List, [], ◌∷◌}
use lib.Dec.{eqb}
use lib.ListN.{length, set, length-append}
use borrow.Author.Tests.{eq-eqb, ne_eqb}
use Rattle.answer.specs.Choice.{pick}
use Rattle.position.specs.Symbols.{bytes_from}
use Rattle.seven_bit.specs.Groups.{groups}
use Rattle.seven_bit.proofs.Groups.{write-few}
use Rattle.saved_form.specs.Texts.{unpadded, text_of, symbol_file}
use Rattle.saving.specs.Inner.Putting.{Put}
use Rattle.saving.proofs.Putting.{Left, left-all, left-same, left-set, left-none}

-- what is left of a text, of k bytes that are not looked at yet
abbrev pub text_left : ℕ → ℕ → List ℕ
text_left k rest = unpadded (bytes_from k rest)

pub text_end : (k rest : ℕ) → k ≡ 0 → text_left k rest ≡ []
unfolding unpadded bytes_from
text_end zero rest e = refl
text_end (suc k) rest e = absurd (omega arith)

pub text_stop : (k rest : ℕ) → rest / 2 ^ 56 ≡ 0 → text_left k rest ≡ []
unfolding unpadded bytes_from
text_stop zero rest h = refl
text_stop (suc k) rest h = simp (eq-eqb (rest / 2 ^ 56) 0 h)

pub text_next : (k m rest : ℕ) → k ≡ m + 1 → (rest / 2 ^ 56 ≡ 0 → ⊥) → text_left k rest ≡ rest / 2 ^ 56 ∷ text_left m (rest % 2 ^ 56 * 256)
unfolding unpadded bytes_from
text_next zero m rest e h = absurd (omega arith)
text_next (suc k) m rest e h = let f : m ≡ k = omega arith in simp (ne_eqb (rest / 2 ^ 56) 0 h, f)

-- ---- how long it is
few_by : (b k : ℕ) (bs : List ℕ) (t : Bool) → length (unpadded bs) ≤ k → length (pick t [] (b ∷ unpadded bs)) ≤ suc k
few_by b k bs true h = omega arith
few_by b k bs false h = omega arith

text_few : (k rest : ℕ) → length (text_left k rest) ≤ k
unfolding unpadded bytes_from
text_few zero rest = omega arith
text_few (suc k) rest = few_by (rest / 2 ^ 56) k (bytes_from k (rest % 2 ^ 56 * 256)) (eqb (rest / 2 ^ 56) 0) (text_few k (rest % 2 ^ 56 * 256))

pub text_short : (s : ℕ) → length (text_of s) ≤ 8
text_short s = text_few 8 s

pub symbol-short : (s : ℕ) → length (symbol_file s) ≤ 18
unfolding symbol_file
symbol-short s = omega (arith, length-append (groups (length (text_of s))) (text_of s), write-few 9 (length (text_of s)), text_short s)

-- ---- counting
pub record Counting (s rest n : ℕ) : Type 0 where
  pub few : n ≤ 8
  pub same : n + length (text_left (8 - n) rest) ≡ length (text_of s)

pub count-from : (s : ℕ) → Counting s s 0
count-from s = record { few = omega arith; same = omega arith }

module _ {s rest n : ℕ} (h : Counting s rest n) where
  pub count_next : n < 8 → (b : ℕ) → b ≡ rest / 2 ^ 56 → (b ≡ 0 → ⊥) → Counting s (rest % 2 ^ 56 * 256) (n + 1)
  count_next p b e f = record { few = omega arith; same = omega (arith, h.same, ap length (text_next (8 - n) (8 - (n + 1)) rest (omega arith) (λ z. f (e ∙ z)))) }

  pub count_stop : (b : ℕ) → b ≡ rest / 2 ^ 56 → b ≡ 0 → n ≡ length (text_of s)
  count_stop b e f = omega (arith, h.same, ap length (text_stop (8 - n) rest (sym e ∙ f)))

  pub count-end : 8 ≤ n → n ≡ length (text_of s)
  count-end p = omega (arith, h.same, ap length (text_end (8 - n) rest (omega arith)))

-- ---- writing
pub record Writing (l : List ℕ) (place s : ℕ) (now : List ℕ) (rest at : ℕ) : Type 0 where
  pub few : at ≤ place + 8
  pub left : Left l place (text_of s) now at (text_left (place + 8 - at) rest)

pub write-from : (l : List ℕ) (place s : ℕ) → Writing l place s l s place
write-from l place s =
    let z : 8 ≡ place + 8 - place = omega arith in
    record { few = omega arith; left = left-same (left-all l place (text_of s)) (ap (λ (k : ℕ). text_left k s) z) }

module _ {l : List ℕ} {place s : ℕ} {now : List ℕ} {rest at : ℕ} (h : Writing l place s now rest at) where
  pub write-next : at < place + 8 → (b : ℕ) → b ≡ rest / 2 ^ 56 → (b ≡ 0 → ⊥) → Writing l place s (set now at b) (rest % 2 ^ 56 * 256) (at + 1)
  write-next p b e f =
      let t = text_next (place + 8 - at) (place + 8 - (at + 1)) rest (omega arith) (λ z. f (e ∙ z)) in
      record { few = omega arith; left = left-set h.left b _ (t ∙ ap (λ (x : ℕ). x ∷ text_left (place + 8 - (at + 1)) (rest % 2 ^ 56 * 256)) (sym e)) }

  pub write_stop : (b : ℕ) → b ≡ rest / 2 ^ 56 → b ≡ 0 → Put l place (text_of s) now at
  write_stop b e f = left-none h.left (text_stop (place + 8 - at) rest (sym e ∙ f))

  pub write-end : place + 8 ≤ at → Put l place (text_of s) now at
  write-end p = left-none h.left (text_end (place + 8 - at) rest (omega arith))
