-- A good symbol's text: one to eight bytes, of which none is 0, that spell it; and a text that spells a good symbol is that symbol's.
use mathlib.Core.Path.{◌≡◌, refl, sym, ◌∙◌, ap, subst}
use Prim.Native.Nat.{ℕ, zero, suc, ◌-◌, ◌*◌, ◌%◌, ◌<◌, ◌≤◌, ◌^◌}
use native.Mathlib.Omega.{arith}
use native.Mathlib.Nat.{pow-suc}
use mathlib.Core.Bool.{Bool, true, false, not, cond}
use mathlib.Core.List.{List, [], ◌∷◌, ◌++◌}
use lib.Dec.{eqb, ltb}
use lib.ListN.{length, get_or, replicate, length-append, length-replicate}
use lib.Seq.{ext_get_or}
use borrow.Author.Tests.{eqb-true, eq-eqb, ltb-true, ltb-false, not-true}
use Rattle.answer.specs.Choice.{pick}
use Rattle.answer.proofs.Choice.{both_true}
use Rattle.position.specs.Symbols.{bytes_from, symbol_bytes, leading, of_bytes, good_byte, zeros, padded, good_symbol}
use Rattle.position.proofs.Symbols.{bytes-give_the_number}
use Rattle.seven_bit.proofs.Groups.{Octets}
use Rattle.saved_form.specs.Texts.{unpadded, text_of, spelt}
use Rattle.saved_laws.proofs.Places.{clash}

-- ---- zeros
zeros_at : (l : List ℕ) (i : ℕ) → zeros l ≡ true → get_or l i 0 ≡ 0
zeros_at [] i e = refl
zeros_at (b ∷ l) zero e = eqb-true b 0 (both_true (eqb b 0) (zeros l) e).0
zeros_at (b ∷ l) (suc i) e = zeros_at l i (both_true (eqb b 0) (zeros l) e).1

padded_by : (b : ℕ) (bs : List ℕ) (t : Bool) → good_byte b ≡ t → cond t (padded bs) (zeros (b ∷ bs)) ≡ true → eqb b 0 ≡ false → padded bs ≡ true
padded_by b bs true g p n = p
padded_by b bs false g p n = clash (eqb b 0) (both_true (eqb b 0) (zeros bs) p).0 n

-- where the first byte is not 0, the others are padded too
padded_on : (b : ℕ) (bs : List ℕ) → padded (b ∷ bs) ≡ true → eqb b 0 ≡ false → padded bs ≡ true
unfolding padded
padded_on b bs p n = padded_by b bs (good_byte b) refl p n

-- where it is 0, all of them are
padded_0 : (b : ℕ) (bs : List ℕ) → padded (b ∷ bs) ≡ true → eqb b 0 ≡ true → zeros (b ∷ bs) ≡ true
unfolding padded
padded_0 zero bs p e = p
padded_0 (suc b) bs p e = absurd (omega (arith, eqb-true (suc b) 0 e))

-- ---- the bytes up to the first zero
module _ (b : ℕ) (bs : List ℕ) where
  none_0_by : (t : Bool) → eqb b 0 ≡ t → ((i : ℕ) → i < length (unpadded bs) → eqb (get_or (unpadded bs) i 0) 0 ≡ false) → (i : ℕ) → i < length (pick t [] (b ∷ unpadded bs)) → eqb (get_or (pick t [] (b ∷ unpadded bs)) i 0) 0 ≡ false
  none_0_by true e f i h = absurd (omega arith)
  none_0_by false e f zero h = e
  none_0_by false e f (suc i) h = f i (omega arith)

  short_by : (t : Bool) → length (unpadded bs) ≤ length bs → length (pick t [] (b ∷ unpadded bs)) ≤ suc (length bs)
  short_by true h = omega arith
  short_by false h = omega arith

  letters_by : (t : Bool) → eqb b 0 ≡ t → padded (b ∷ bs) ≡ true → ((i : ℕ) → padded bs ≡ true → get_or (unpadded bs) i 0 ≡ get_or bs i 0) → (i : ℕ) → get_or (pick t [] (b ∷ unpadded bs)) i 0 ≡ get_or (b ∷ bs) i 0
  letters_by true e p f i = sym (zeros_at (b ∷ bs) i (padded_0 b bs p e))
  letters_by false e p f zero = refl
  letters_by false e p f (suc i) = f i (padded_on b bs p e)

  some_by : (t : Bool) → eqb b 0 ≡ t → zeros (b ∷ bs) ≡ false → padded (b ∷ bs) ≡ true → 1 ≤ length (pick t [] (b ∷ unpadded bs))
  some_by true e z p = clash (zeros (b ∷ bs)) (padded_0 b bs p e) z
  some_by false e z p = omega arith

none_0 : (l : List ℕ) (i : ℕ) → i < length (unpadded l) → eqb (get_or (unpadded l) i 0) 0 ≡ false
unfolding unpadded
none_0 [] i h = absurd (omega arith)
none_0 (b ∷ bs) i h = none_0_by b bs (eqb b 0) refl (none_0 bs) i h

unpadded-short : (l : List ℕ) → length (unpadded l) ≤ length l
unfolding unpadded
unpadded-short [] = omega arith
unpadded-short (b ∷ bs) = short_by b bs (eqb b 0) (unpadded-short bs)

letters : (l : List ℕ) (i : ℕ) → padded l ≡ true → get_or (unpadded l) i 0 ≡ get_or l i 0
unfolding unpadded
letters [] i p = refl
letters (b ∷ bs) i p = letters_by b bs (eqb b 0) refl p (letters bs) i

unpadded_some : (l : List ℕ) → zeros l ≡ false → padded l ≡ true → 1 ≤ length (unpadded l)
unfolding unpadded
unpadded_some [] z p = clash true refl z
unpadded_some (b ∷ bs) z p = some_by b bs (eqb b 0) refl z p

-- ---- the number of bytes
leading-same : (a b : List ℕ) (k : ℕ) → ((i : ℕ) → get_or a i 0 ≡ get_or b i 0) → leading a k ≡ leading b k
unfolding leading
leading-same a b zero f = refl
leading-same a b (suc k) f = rw (leading-same a b k f, f k)

length-bytes : (k n : ℕ) → length (bytes_from k n) ≡ k
unfolding bytes_from
length-bytes zero n = refl
length-bytes (suc k) n = ap suc (length-bytes k (n % 2 ^ 56 * 256))

-- ---- a good symbol's text
pub record Text (s : ℕ) : Type 0 where
  pub some : 1 ≤ length (text_of s)
  pub short : length (text_of s) ≤ 8
  pub spells : spelt (text_of s) ≡ s

good-bytes : (s : ℕ) → good_symbol s ≡ true → (zeros (symbol_bytes s) ≡ false) × (padded (symbol_bytes s) ≡ true)
unfolding good_symbol
good-bytes s g = let b = both_true (not (zeros (symbol_bytes s))) (padded (symbol_bytes s)) g in (not-true (zeros (symbol_bytes s)) b.0, b.1)

pub text_of_lem : (s : ℕ) → s < 2 ^ 64 → good_symbol s ≡ true → Text s
unfolding spelt
text_of_lem s h g =
    let b = good-bytes s g in
    let some = unpadded_some (symbol_bytes s) b.0 b.1 in
    let last = none_0 (symbol_bytes s) (length (text_of s) - 1) (omega arith) in
    record {
      some = some;
      short = omega (arith, unpadded-short (symbol_bytes s), length-bytes 8 s);
      spells = simp last (leading-same (text_of s) (symbol_bytes s) 8 (λ i. letters (symbol_bytes s) i b.1) ∙ bytes-give_the_number s h);
    }

-- ---- a text that spells a good symbol
octet_lt : (l : List ℕ) (i : ℕ) → Octets l → get_or l i 0 < 256
octet_lt [] i o = omega arith
octet_lt (b ∷ l) zero o = o.0
octet_lt (b ∷ l) (suc i) o = octet_lt l i o.1

pub bytes_octets : (k n : ℕ) → n < 2 ^ 64 → Octets (bytes_from k n)
unfolding bytes_from
bytes_octets zero n h = omega arith
bytes_octets (suc k) n h = (omega arith, bytes_octets k (n % 2 ^ 56 * 256) (omega arith))

leading_lt : (l : List ℕ) (k : ℕ) → Octets l → leading l k < 256 ^ k
unfolding leading
leading_lt l zero o = omega arith
leading_lt l (suc k) o = omega (arith, leading_lt l k o, octet_lt l k o, pow-suc 256 k)

zeros_here : (k i : ℕ) → ◌≡◌ {A = ℕ} (get_or (replicate k 0) i 0) 0
zeros_here zero i = refl
zeros_here (suc k) zero = refl
zeros_here (suc k) (suc i) = zeros_here k i

pad_at : (t : List ℕ) (k i : ℕ) → get_or (t ++ replicate k 0) i 0 ≡ get_or t i 0
pad_at [] k i = zeros_here k i
pad_at (b ∷ t) k zero = refl
pad_at (b ∷ t) k (suc i) = pad_at t k i

-- bytes that have one number are the same
module _ (a b : List ℕ) (f : (i : ℕ) → get_or a i 0 < 256) (g : (i : ℕ) → get_or b i 0 < 256) where
  leading_tells : (k : ℕ) → leading a k ≡ leading b k → (i : ℕ) → i < k → get_or a i 0 ≡ get_or b i 0
  unfolding leading
  leading_tells zero e i h = absurd (omega arith)
  leading_tells (suc k) e i h = by_place (ltb i k) refl (leading_tells k (omega (arith, f k, g k)) i)
    where
      by_place : (t : Bool) → ltb i k ≡ t → (i < k → get_or a i 0 ≡ get_or b i 0) → get_or a i 0 ≡ get_or b i 0
      by_place true q m = m (ltb-true i k q)
      by_place false q m =
          let p : i ≡ k = omega (arith, ltb-false i k q) in
          let s : get_or a k 0 ≡ get_or b k 0 = omega (arith, f k, g k) in
          rw p s

bytes_of : (t : List ℕ) → Octets t → length t ≤ 8 → symbol_bytes (of_bytes t) ≡ t ++ replicate (8 - length t) 0
bytes_of t o h =
    let a : List ℕ = symbol_bytes (of_bytes t) in
    let b : List ℕ = t ++ replicate (8 - length t) 0 in
    let small : of_bytes t < 2 ^ 64 = leading_lt t 8 o in
    let m : leading a 8 ≡ leading b 8 = bytes-give_the_number (of_bytes t) small ∙ sym (leading-same b t 8 (pad_at t (8 - length t))) in
    let n : length b ≡ 8 = length-append t (replicate (8 - length t) 0) ∙ omega (arith, length-replicate {A = ℕ} (8 - length t) 0) in
    ext_get_or 0 a b (length-bytes 8 (of_bytes t) ∙ sym n)
    (λ i k. leading_tells a b (λ i. octet_lt a i (bytes_octets 8 (of_bytes t) small)) (λ i. subst (λ (x : ℕ). x < 256) (sym (pad_at t (8 - length t) i)) (octet_lt t i o)) 8 m i (omega (arith, length-bytes 8 (of_bytes t))))

unpadded-zeros : (k : ℕ) → unpadded (replicate k 0) ≡ []
unfolding unpadded
unpadded-zeros zero = refl
unpadded-zeros (suc k) = refl

unpad_by : (b : ℕ) (u t : List ℕ) (z : Bool) → eqb b 0 ≡ z → z ≡ false → unpadded u ≡ t → pick z [] (b ∷ unpadded u) ≡ b ∷ t
unpad_by b u t true e f i = clash true refl f
unpad_by b u t false e f i = ap (λ (l : List ℕ). b ∷ l) i

first_not_0 : (b : ℕ) (u : List ℕ) (j : ℕ) (t : Bool) → eqb b 0 ≡ t → padded (b ∷ u) ≡ true → eqb (get_or u j 0) 0 ≡ false → t ≡ false
first_not_0 b u j false e p n = refl
first_not_0 b u j true e p n = clash (eqb (get_or u j 0) 0) (eq-eqb (get_or u j 0) 0 (zeros_at (b ∷ u) (suc j) (padded_0 b u p e))) n

unpad : (t : List ℕ) (k j : ℕ) → length t ≡ suc j → padded (t ++ replicate k 0) ≡ true → eqb (get_or t j 0) 0 ≡ false → unpadded (t ++ replicate k 0) ≡ t
unfolding unpadded
unpad [] k j l p n = absurd (omega arith)
unpad (b ∷ []) k zero l p n = unpad_by b (replicate k 0) [] (eqb b 0) refl n (unpadded-zeros k)
unpad (b ∷ []) k (suc j) l p n = absurd (omega arith)
unpad (b ∷ (c ∷ t)) k zero l p n = absurd (omega arith)
unpad (b ∷ (c ∷ t)) k (suc j) l p n =
    let q : eqb (get_or ((c ∷ t) ++ replicate k 0) j 0) 0 ≡ false = ap (λ (x : ℕ). eqb x 0) (pad_at (c ∷ t) k j) ∙ n in
    let z = first_not_0 b ((c ∷ t) ++ replicate k 0) j (eqb b 0) refl p q in
    unpad_by b ((c ∷ t) ++ replicate k 0) (c ∷ t) (eqb b 0) refl z (unpad (c ∷ t) k j (omega arith) (padded_on b ((c ∷ t) ++ replicate k 0) p z) n)

zero-bad : good_symbol 0 ≡ false
unfolding good_symbol bytes_from padded
zero-bad = refl

pub record Spelling (t : List ℕ) : Type 0 where
  pub small : spelt t < 2 ^ 64
  pub text : text_of (spelt t) ≡ t

spelling_by : (t : List ℕ) (z : Bool) → eqb (get_or t (length t - 1) 0) 0 ≡ z → Octets t → 1 ≤ length t → length t ≤ 8 → good_symbol (pick z 0 (of_bytes t)) ≡ true → (pick z 0 (of_bytes t) < 2 ^ 64) × (text_of (pick z 0 (of_bytes t)) ≡ t)
spelling_by t true e o s h g = clash (good_symbol 0) g zero-bad
spelling_by t false e o s h g =
    let b = bytes_of t o h in
    let p : padded (t ++ replicate (8 - length t) 0) ≡ true = sym (ap padded b) ∙ (good-bytes (of_bytes t) g).1 in
    (leading_lt t 8 o, ap unpadded b ∙ unpad t (8 - length t) (length t - 1) (omega arith) p e)

pub spelling : (t : List ℕ) → Octets t → 1 ≤ length t → length t ≤ 8 → good_symbol (spelt t) ≡ true → Spelling t
unfolding spelt
spelling t o s h g = let r = spelling_by t (eqb (get_or t (length t - 1) 0) 0) refl o s h g in record { small = r.0; text = r.1 }
