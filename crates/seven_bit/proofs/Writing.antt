-- The steps of the code that counts and writes a number's groups.
use mathlib.Core.Path.{◌≡◌, refl, sym, ◌∙◌, ap}
use Prim.Native.Nat.{ℕ, zero, suc, ◌+◌, ◌-◌, ◌/◌, ◌%◌, ◌<◌, ◌≤◌, ◌^◌}
use native.Mathlib.Omega.{arith}
use mathlib.Core.List.{List, [], ◌∷◌}
use lib.ListN.{length, set, length-set}
use lib.Seq.{sets}
use borrow.Author.Tests.{lt-ltb, le-ltb}
use Rattle.seven_bit.specs.Groups.{write, groups}
use Rattle.seven_bit.specs.Placed.{put_number, put_next_of}
use Rattle.seven_bit.proofs.Groups.{top, write_some}
use Rattle.seven_bit.proofs.Placed.{room-put, room_next, full_put, full-next}

write-last : (k n : ℕ) → n < 128 → write k n ≡ n ∷ []
unfolding write
write-last zero n h = refl
write-last (suc k) n h = simp (lt-ltb n 128 h)

write-more : (k m n : ℕ) → k ≡ m + 1 → 128 ≤ n → write k n ≡ (128 + n % 128) ∷ write m (n / 128)
unfolding write
write-more zero m n e h = absurd (omega arith)
write-more (suc k) m n e h = let f : m ≡ k = omega arith in simp (le-ltb n 128 h, f)

-- a number too large for one group has room for more
more_left : (k n : ℕ) → n < top k → 128 ≤ n → 0 < k
more_left zero n f h = absurd (omega arith)
more_left (suc k) n f h = omega arith

top_less : (k m n : ℕ) → k ≡ m + 1 → n < top k → n / 128 < top m
top_less zero m n e f = absurd (omega arith)
top_less (suc k) m n e f = let g : m ≡ k = omega arith in rw g (omega arith)

-- ---- counting
pub record Counting (n rest count : ℕ) : Type 0 where
  pub some : 1 ≤ count
  pub few : count ≤ 10
  pub small : rest < top (10 - count)
  pub same : length (write (10 - count) rest) + count ≡ length (groups n) + 1

pub count-from : (n : ℕ) → n < 2 ^ 64 → Counting n n 1
count-from n h = record { some = omega arith; few = omega arith; small = omega arith; same = refl }

module _ {n rest count : ℕ} (h : Counting n rest count) where
  pub count-more : 128 ≤ rest → Counting n (rest / 128) (count + 1)
  count-more g =
      let p : 0 < 10 - count = more_left (10 - count) rest h.small g in
      let e : 10 - count ≡ 10 - (count + 1) + 1 = omega arith in
      record {
        some = omega arith;
        few = omega arith;
        small = top_less (10 - count) (10 - (count + 1)) rest e h.small;
        same = omega (arith, h.same, ap length (write-more (10 - count) (10 - (count + 1)) rest e g));
      }

  pub counted : rest < 128 → count ≡ length (groups n)
  counted g = omega (arith, h.same, ap length (write-last (10 - count) rest g))

-- ---- writing
pub record Putting (l : List ℕ) (place n : ℕ) (now : List ℕ) (at rest : ℕ) : Type 0 where
  pub begun : place ≤ at
  pub few : at ≤ place + 9
  pub small : rest < top (place + 9 - at)
  pub long : length now ≡ length l
  pub next : at + length (write (place + 9 - at) rest) ≡ place + length (groups n)
  pub same : sets now at (write (place + 9 - at) rest) ≡ sets l place (groups n)

pub put-from : (l : List ℕ) (place n : ℕ) → n < 2 ^ 64 → Putting l place n l place n
put-from l place n h = let e : place + 9 - place ≡ 9 = omega arith in record { begun = omega arith; few = omega arith; small = rw e (omega arith); long = refl; next = simp e; same = simp e }

module _ {l : List ℕ} {place n : ℕ} {now : List ℕ} {at rest : ℕ} (h : Putting l place n now at rest) (room : place + length (groups n) ≤ length l) where
  pub put-room : at < length now
  put-room = omega (arith, write_some (place + 9 - at) rest)

  pub put-more : 128 ≤ rest → (v : ℕ) → v ≡ 128 + rest % 128 → Putting l place n (set now at v) (at + 1) (rest / 128)
  put-more g v w =
      let p : 0 < place + 9 - at = more_left (place + 9 - at) rest h.small g in
      let e : place + 9 - at ≡ place + 9 - (at + 1) + 1 = omega arith in
      let m = write-more (place + 9 - at) (place + 9 - (at + 1)) rest e g in
      let a : at + 1 ≡ suc at = omega arith in
      let t = write (place + 9 - (at + 1)) (rest / 128) in
      record {
        begun = omega arith;
        few = omega arith;
        small = top_less (place + 9 - at) (place + 9 - (at + 1)) rest e h.small;
        long = length-set now at v ∙ h.long;
        next = omega (arith, h.next, ap length m);
        same = ap (λ (k : ℕ). sets (set now at v) k t) a ∙ ap (λ (x : ℕ). sets (set now at x) (suc at) t) w ∙ sym (ap (sets now at) m) ∙ h.same;
      }

  pub put_last : rest < 128 → (v : ℕ) → v ≡ rest → (at + 1 ≡ put_next_of (length l) place n) × (set now at v ≡ put_number l place n)
  put_last g v w =
      let m = write-last (place + 9 - at) rest g in
      let a : at + 1 ≡ place + length (groups n) = omega (arith, h.next, ap length m) in
      (a ∙ sym (room_next (length l) place n room), ap (set now at) w ∙ sym (ap (sets now at) m) ∙ h.same ∙ sym (room-put l place n room))

pub put_full : (l : List ℕ) (place n : ℕ) → length l < place + length (groups n) → (place ≡ put_next_of (length l) place n) × (l ≡ put_number l place n)
put_full l place n h = (sym (full-next (length l) place n h), sym (full_put l place n h))
