-- The steps of the code that reads a number: what is left of it at a place, over what was read of it.
use mathlib.Core.Path.{◌≡◌, refl, sym, ◌∙◌, ap}
use Prim.Native.Nat.{ℕ, zero, suc, ◌+◌, ◌-◌, ◌*◌, ◌<◌, ◌≤◌}
use native.Mathlib.Omega.{arith}
use native.Mathlib.Nat.{mul-le-mul_left, mul-le-mul_right}
use mathlib.Core.List.{List, ◌∷◌}
use lib.ListN.{length, get_or, drop, drop_of_length-le}
use lib.Seq.{drop-cons}
use borrow.Author.Tests.{lt-ltb, le-ltb}
use Rattle.answer.specs.declared.Answer.TheVariants.{Done, EndsEarly, BadNumber}
use Rattle.seven_bit.specs.Groups.{Out, ends, bad, got, onto, read, number}
use Rattle.seven_bit.specs.Placed.{ToldNumber, told, number_at_of}
use Rattle.seven_bit.specs.Inner.Reading.{raised}

front : (l : List ℕ) (at b : ℕ) → b ≡ get_or l at 0 → at < length l → drop at l ≡ b ∷ drop (suc at) l
front l at b e f = drop-cons l at 0 f ∙ ap (λ (x : ℕ). x ∷ drop (suc at) l) (sym e)

-- ---- one group more
read_more : (least k m b : ℕ) (l : List ℕ) → k ≡ m + 1 → 128 ≤ b → read least k (b ∷ l) ≡ onto b (read 1 m l)
unfolding read
read_more least zero m b l e h = absurd (omega arith)
read_more least (suc k) m b l e h = let f : m ≡ k = omega arith in simp (le-ltb b 128 h, f)

read-last : (least k b : ℕ) (l : List ℕ) → 0 < k → b < 128 → least ≤ b → read least k (b ∷ l) ≡ got b 1
unfolding read
read-last least zero b l p h g = absurd (omega arith)
read-last least (suc k) b l p h g = simp (lt-ltb b 128 h, le-ltb b least g)

read_nought : (k b : ℕ) (l : List ℕ) → b ≡ 0 → read 1 k (b ∷ l) ≡ bad
unfolding read
read_nought zero b l e = simp e
read_nought (suc k) b l e = simp e

tenth_one : (b : ℕ) (l : List ℕ) → b ≡ 1 → read 1 0 (b ∷ l) ≡ got 1 1
unfolding read
tenth_one b l e = simp e

tenth_other : (b : ℕ) (l : List ℕ) → (b ≡ 1 → ⊥) → read 1 0 (b ∷ l) ≡ bad
unfolding read
tenth_other zero l f = refl
tenth_other (suc zero) l f = absurd (f refl)
tenth_other (suc (suc b)) l f = simp (le-ltb (suc (suc b)) 1 (omega arith), lt-ltb 1 (suc (suc b)) (omega arith))

raised-onto : (s c u w b : ℕ) (o : Out) → w ≡ u + 1 → raised s c u (onto b o) ≡ raised (s + (b - 128) * c) (c * 128) w o
unfolding raised onto
raised-onto s c u w b ends f = refl
raised-onto s c u w b bad f = refl
raised-onto s c u w b (got v n) f =
    let e : s + c * (b - 128 + 128 * v) ≡ s + (b - 128) * c + c * 128 * v = omega arith in
    let g : u + suc n ≡ w + n = omega arith in
    simp (e, g)

-- the first group of more than one
onto-raised : (b : ℕ) (o : Out) → onto b o ≡ raised (b - 128) 128 1 o
unfolding raised onto
onto-raised b ends = refl
onto-raised b bad = refl
onto-raised b (got v n) = let e : 1 + n ≡ suc n = omega arith in simp e

-- ---- a number of one group
module _ (l : List ℕ) (place : ℕ) where
  pub none_left : length l ≤ place → record { answer = EndsEarly (length l); value = 0; next = length l } ≡ number_at_of l place
  unfolding told read
  none_left f = sym (ap (λ (m : List ℕ). told place (length l) (number m)) (drop_of_length-le l f))

  pub one_group : (b : ℕ) → b ≡ get_or l place 0 → place < length l → b < 128 → record { answer = Done; value = b; next = place + 1 } ≡ number_at_of l place
  unfolding told
  one_group b e f h = sym (ap (told place (length l)) (ap number (front l place b e f) ∙ read-last 0 9 b (drop (suc place) l) (omega arith) h (omega arith)))

-- ---- the answer at a place
module _ (l : List ℕ) (place at sum scale left : ℕ) where
  abbrev pub left_told : ToldNumber
  left_told = told place (length l) (raised sum scale (at - place) (read 1 left (drop at l)))

  pub ended : length l ≤ at → record { answer = EndsEarly (length l); value = 0; next = length l } ≡ left_told
  unfolding told raised read
  ended f = sym (ap (λ (m : List ℕ). told place (length l) (raised sum scale (at - place) (read 1 left m))) (drop_of_length-le l f))

  module _ (b : ℕ) (e : b ≡ get_or l at 0) (f : at < length l) where
    from-read : (o : Out) → read 1 left (b ∷ drop (suc at) l) ≡ o → told place (length l) (raised sum scale (at - place) o) ≡ left_told
    from-read o g = sym (ap (λ (o : Out). told place (length l) (raised sum scale (at - place) o)) (ap (read 1 left) (front l at b e f) ∙ g))

    refused : read 1 left (b ∷ drop (suc at) l) ≡ bad → record { answer = BadNumber place; value = 0; next = place } ≡ left_told
    unfolding told raised
    refused g = from-read bad g

    ending : place ≤ at → (c : ℕ) → read 1 left (b ∷ drop (suc at) l) ≡ got c 1 → record { answer = Done; value = sum + scale * c; next = at + 1 } ≡ left_told
    unfolding told raised
    ending p c g =
        let n : at + 1 ≡ place + (at - place + 1) = omega arith in
        simp n (from-read (got c 1) g)

    pub nought_refused : b ≡ 0 → record { answer = BadNumber place; value = 0; next = place } ≡ left_told
    nought_refused z = refused (read_nought left b (drop (suc at) l) z)

    pub last-read : place ≤ at → 0 < left → b < 128 → (b ≡ 0 → ⊥) → record { answer = Done; value = sum + b * scale; next = at + 1 } ≡ left_told
    last-read p q h z =
        let v : sum + b * scale ≡ sum + scale * b = omega arith in
        simp v (ending p b (read-last 1 left b (drop (suc at) l) q h (omega arith)))

-- the tenth
module _ (l : List ℕ) (place at sum : ℕ) (f : at < length l) where
  pub tenth_read : place ≤ at → get_or l at 0 ≡ 1 → record { answer = Done; value = sum + 9223372036854775808; next = at + 1 } ≡ left_told l place at sum 9223372036854775808 0
  tenth_read p e = ending l place at sum 9223372036854775808 0 (get_or l at 0) refl f p 1 (tenth_one (get_or l at 0) (drop (suc at) l) e)

  pub tenth_refused : (get_or l at 0 ≡ 1 → ⊥) → record { answer = BadNumber place; value = 0; next = place } ≡ left_told l place at sum 9223372036854775808 0
  tenth_refused e = refused l place at sum 9223372036854775808 0 (get_or l at 0) refl f (tenth_other (get_or l at 0) (drop (suc at) l) e)

-- ---- the loop
abbrev pub pw : ℕ → ℕ
pw zero = 1
pw (suc k) = 128 * pw k

pw_pos : (k : ℕ) → 1 ≤ pw k
pw_pos zero = omega arith
pw_pos (suc k) = let h = pw_pos k in omega arith

pub record Reading (l : List ℕ) (place at sum scale left : ℕ) : Type 0 where
  pub begun : place ≤ at
  pub size : scale * pw left ≡ 9223372036854775808
  pub small : sum < scale
  pub same : left_told l place at sum scale left ≡ number_at_of l place

-- from the first group
pub begin : (l : List ℕ) (place low : ℕ) → place < length l → get_or l place 0 ≡ 128 + low → low < 128 → Reading l place (place + 1) low 128 8
begin l place low f e h = record { begun = omega arith; size = refl; small = h; same = ap (told place (length l)) first }
  where
    first : raised low 128 (place + 1 - place) (read 1 8 (drop (place + 1) l)) ≡ number (drop place l)
    first =
        let a : place + 1 ≡ suc place = omega arith in
        let u : suc place - place ≡ 1 = omega arith in
        let v : 128 + low - 128 ≡ low = omega arith in
        let m = read_more 0 9 8 (128 + low) (drop (suc place) l) refl (omega arith) in
        let d = ap number (front l place (128 + low) (sym e) f) in
        rw a (rw u (sym (d ∙ m ∙ rw v at (onto-raised (128 + low) (read 1 8 (drop (suc place) l))))))

module _ {l : List ℕ} {place at sum scale left : ℕ} (h : Reading l place at sum scale left) where
  -- a group counted at this place fits
  pub fits_here : 0 < left → scale * 128 ≤ 9223372036854775808
  fits_here p = by_left left p h.size where
    by_left : (k : ℕ) → 0 < k → scale * pw k ≡ 9223372036854775808 → scale * 128 ≤ 9223372036854775808
    by_left zero p e = absurd (omega arith)
    by_left (suc k) p e = let m = mul-le-mul_left (scale * 128) (pw_pos k) in omega arith

  pub top_here : left ≡ 0 → scale ≡ 9223372036854775808
  top_here p = let e : scale * pw 0 ≡ 9223372036854775808 = rw p at h.size in omega arith

  pub group_fits : (b n : ℕ) → b ≤ n → b * scale ≤ n * scale
  group_fits b n p = mul-le-mul_right scale p

  pub ended-number : length l ≤ at → record { answer = EndsEarly (length l); value = 0; next = length l } ≡ number_at_of l place
  ended-number f = ended l place at sum scale left f ∙ h.same

  -- what is left after nine groups is the tenth
  pub nine_read : left ≡ 0 → (end : ℕ) → at ≡ end → left_told l place end sum 9223372036854775808 0 ≡ number_at_of l place
  nine_read p end e = rw e at (rw p at (rw (top_here p) at h.same))

  module _ (b : ℕ) (e : b ≡ get_or l at 0) (f : at < length l) where
    pub nought_number : b ≡ 0 → record { answer = BadNumber place; value = 0; next = place } ≡ number_at_of l place
    nought_number z = nought_refused l place at sum scale left b e f z ∙ h.same

    pub last-number : 0 < left → b < 128 → (b ≡ 0 → ⊥) → record { answer = Done; value = sum + b * scale; next = at + 1 } ≡ number_at_of l place
    last-number p q z = last-read l place at sum scale left b e f h.begun p q z ∙ h.same

  pub more : (rest b : ℕ) → left ≡ rest + 1 → b ≡ get_or l at 0 → at < length l → 128 ≤ b → b < 256 → Reading l place (at + 1) (sum + (b - 128) * scale) (scale * 128) rest
  more rest b m e f q r =
      let p : 0 < left = omega arith in
      let a : at + 1 ≡ suc at = omega arith in
      let o = read 1 rest (drop (suc at) l) in
      record {
        begun = omega (arith, h.begun);
        size = sized left rest m h.size;
        small = omega (arith, h.small, group_fits (b - 128) 127 (omega arith));
        same = rw a (sym (ap (told place (length l)) (raised-onto sum scale (at - place) (suc at - place) b o (omega (arith, h.begun)))) ∙ from-read l place at sum scale left b e f (onto b o) (read_more 1 left rest b (drop (suc at) l) m q) ∙ h.same);
      } where
        sized : (k j : ℕ) → k ≡ j + 1 → scale * pw k ≡ 9223372036854775808 → scale * 128 * pw j ≡ 9223372036854775808
        sized zero j p e = absurd (omega arith)
        sized (suc k) j p e = let f : j ≡ k = omega arith in simp f (omega arith)
