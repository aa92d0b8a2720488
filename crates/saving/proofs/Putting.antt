-- Bytes written one after the other, and what a loop that writes them has left.
use mathlib.Core.Path.{◌≡◌, refl, sym, ◌∙◌, ap}
use Prim.Native.Nat.{ℕ, suc, ◌+◌, ◌≤◌}
use native.Mathlib.Omega.{arith}
use mathlib.Core.List.{List, [], ◌∷◌, ◌++◌}
use lib.ListN.{length, set, length-append}
use lib.Seq.{sets, length-sets}
use Rattle.seven_bit.specs.Groups.{groups}
use Rattle.seven_bit.specs.Placed.{put_number, put_next_of}
use Rattle.seven_bit.proofs.Placed.{room-put, room_next}
use Rattle.saving.specs.Inner.Putting.{Put}

sets_join : (l : List ℕ) (i : ℕ) (t u : List ℕ) (j : ℕ) → j ≡ i + length t → sets (sets l i t) j u ≡ sets l i (t ++ u)
sets_join l i [] u j e = let f : j ≡ i = omega arith in simp f
sets_join l i (b ∷ t) u j e = sets_join (set l i b) (suc i) t u j (omega arith)

pub put-none : (l : List ℕ) (place : ℕ) → Put l place [] l place
put-none l place = record { next = omega arith; same = refl }

pub put-long : {l : List ℕ} {place : ℕ} {t l' : List ℕ} {r : ℕ} → Put l place t l' r → length l' ≡ length l
put-long {l} {place} {t} p = ap length p.same ∙ length-sets l place t

pub put_same : {l : List ℕ} {place : ℕ} {t u l' : List ℕ} {r : ℕ} → Put l place t l' r → t ≡ u → Put l place u l' r
put_same p e = rw e at p

-- a number, where there is room for it
pub put-groups : (l : List ℕ) (place n : ℕ) (l' : List ℕ) (r : ℕ) → place + length (groups n) ≤ length l → r ≡ put_next_of (length l) place n → l' ≡ put_number l place n → Put l place (groups n) l' r
put-groups l place n l' r h e f = record { next = e ∙ room_next (length l) place n h; same = f ∙ room-put l place n h }

-- ---- one after the other
pub put_then : {l : List ℕ} {place : ℕ} {t l' : List ℕ} {q : ℕ} {u l'' : List ℕ} {r : ℕ} → Put l place t l' q → Put l' q u l'' r → Put l place (t ++ u) l'' r
put_then {l} {place} {t} {l'} {q} {u} p s = record {
  next = omega (arith, p.next, s.next, length-append t u);
  same = s.same ∙ ap (λ (x : List ℕ). sets x q u) p.same ∙ sets_join l place t u q p.next;
}

-- ---- the rest of a text: written from here on, it makes of the bytes what the whole makes of them as found
pub record Left (l : List ℕ) (place : ℕ) (t : List ℕ) (now : List ℕ) (at : ℕ) (u : List ℕ) : Type 0 where
  pub long : length now ≡ length l
  pub next : at + length u ≡ place + length t
  pub same : sets now at u ≡ sets l place t

pub left-all : (l : List ℕ) (place : ℕ) (t : List ℕ) → Left l place t l place t
left-all l place t = record { long = refl; next = refl; same = refl }

module _ {l : List ℕ} {place : ℕ} {t now : List ℕ} {at : ℕ} {u : List ℕ} (h : Left l place t now at u) where
  pub left-same : {v : List ℕ} → u ≡ v → Left l place t now at v
  left-same e = rw e at h

  pub left-none : u ≡ [] → Put l place t now at
  left-none e = record { next = omega (arith, h.next, ap length e); same = sym (ap (sets now at) e) ∙ h.same }

  pub left-put : (v w now' : List ℕ) (at' : ℕ) → u ≡ v ++ w → Put now at v now' at' → Left l place t now' at' w
  left-put v w now' at' e p = record {
    long = put-long p ∙ h.long;
    next = omega (arith, h.next, p.next, ap length e, length-append v w);
    same = ap (λ (x : List ℕ). sets x at' w) p.same ∙ sets_join now at v w at' p.next ∙ sym (ap (sets now at) e) ∙ h.same;
  }

  pub left-set : (b : ℕ) (w : List ℕ) → u ≡ b ∷ w → Left l place t (set now at b) (at + 1) w
  left-set b w e = left-put (b ∷ []) w (set now at b) (at + 1) e (record { next = refl; same = refl })
