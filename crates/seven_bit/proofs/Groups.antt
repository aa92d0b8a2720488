-- Laws of groups: reading what was written gives it, a part of it ends early, and what is read is what would be written.
use mathlib.Core.Path.{◌≡◌, refl}
use Prim.Native.Nat.{ℕ, zero, suc, ◌+◌, ◌-◌, ◌*◌, ◌/◌, ◌%◌, ◌<◌, ◌≤◌, ◌^◌}
use native.Mathlib.Omega.{arith}
use mathlib.Core.Bool.{Bool, true, false}
use mathlib.Core.List.{List, [], ◌∷◌, ◌++◌}
use lib.Dec.{ltb}
use lib.ListN.{length, take}
use borrow.Author.Tests.{lt-ltb, le-ltb, ltb-true, ltb-false}
use Rattle.answer.specs.Choice.{pick}
use Rattle.seven_bit.specs.Groups.{Out, ends, bad, got, onto, read, number, write, groups}

-- every element a byte
abbrev pub Octets : List ℕ → Type 0
Octets [] = 0 ≤ 0
Octets (b ∷ l) = (b < 256) × Octets l

-- how large a number of at most k groups after the first may be
abbrev pub top : ℕ → ℕ
top zero = 2
top (suc k) = 128 * top k

-- ---- what was written is read
read-write_by : (rest : List ℕ) (k n least : ℕ) (t : Bool) → ltb n 128 ≡ t → least ≤ n → n < top (suc k) → (1 ≤ n / 128 → n / 128 < top k → read 1 k (write k (n / 128) ++ rest) ≡ got (n / 128) (length (write k (n / 128))))
    → read least (suc k) (write (suc k) n ++ rest) ≡ got n (length (write (suc k) n))
unfolding read write onto
read-write_by rest k n least true e h f i = simp (e, le-ltb n least h)
read-write_by rest k n least false e h f i =
    let g : 128 ≤ n = ltb-false n 128 e in
    let v : 128 + n % 128 - 128 + 128 * (n / 128) ≡ n = omega arith in
    simp (e, le-ltb (128 + n % 128) 128 (omega arith), i (omega arith) (omega arith), v)

pub read-write : (rest : List ℕ) (k n least : ℕ) → least ≤ n → n < top k → read least k (write k n ++ rest) ≡ got n (length (write k n))
unfolding read write
read-write rest zero n least h f = simp (le-ltb n least h, le-ltb 1 n (omega arith))
read-write rest (suc k) n least h f = read-write_by rest k n least (ltb n 128) refl h f (read-write rest k (n / 128) 1)

-- Reading the groups of a number gives it, whatever follows.
pub number-groups : (rest : List ℕ) (n : ℕ) → n < 2 ^ 64 → number (groups n ++ rest) ≡ got n (length (groups n))
number-groups rest n h = read-write rest 9 n 0 (omega arith) (omega arith)

-- ---- a part of it ends early
part_ends_by : (k n least j : ℕ) (t : Bool) → ltb n 128 ≡ t → suc j < length (write (suc k) n) → (j < length (write k (n / 128)) → read 1 k (take j (write k (n / 128))) ≡ ends)
    → read least (suc k) (take (suc j) (write (suc k) n)) ≡ ends
unfolding read write onto
part_ends_by k n least j true e h i = absurd (omega (arith, simp e at h))
part_ends_by k n least j false e h i =
    simp (e, le-ltb (128 + n % 128) 128 (omega arith), i (omega (arith, simp e at h)))

pub part_ends : (k n least j : ℕ) → j < length (write k n) → read least k (take j (write k n)) ≡ ends
unfolding read write
part_ends k n least zero h = refl
part_ends zero n least (suc j) h = absurd (omega arith)
part_ends (suc k) n least (suc j) h = part_ends_by k n least j (ltb n 128) refl h (part_ends k (n / 128) 1 j)

-- ---- what is read is what would be written
-- what an outcome says of the bytes that it came from
abbrev pub Shortest : ℕ → ℕ → List ℕ → Out → Type 0
Shortest least k l ends = 0 ≤ 0
Shortest least k l bad = 0 ≤ 0
Shortest least k l (got v n) = (least ≤ v) × (v < top k) × (n ≤ length l) × (take n l ≡ write k v)

top_large : (k b : ℕ) → b < 128 → b < top (suc k)
top_large zero b h = omega arith
top_large (suc k) b h = let g = top_large k b h in omega arith

onto_shortest : (least k b : ℕ) (l : List ℕ) (o : Out) → least ≤ 1 → 128 ≤ b → b < 256 → Shortest 1 k l o → Shortest least (suc k) (b ∷ l) (onto b o)
unfolding onto write
onto_shortest least k b l ends g f h s = omega arith
onto_shortest least k b l bad g f h s = omega arith
onto_shortest least k b l (got v n) g f h s =
    let d : (b - 128 + 128 * v) / 128 ≡ v = omega arith in
    let r : 128 + (b - 128 + 128 * v) % 128 ≡ b = omega arith in
    let w : 128 ≤ b - 128 + 128 * v = omega (arith, s.0) in
    (omega arith, omega (arith, s.1), omega (arith, s.2), simp (le-ltb (b - 128 + 128 * v) 128 w, d, r, s.3))

last_shortest : (least k b : ℕ) (l : List ℕ) (t : Bool) → ltb b least ≡ t → b < 128 → Shortest least (suc k) (b ∷ l) (pick t bad (got b 1))
unfolding write
last_shortest least k b l true e h = omega arith
last_shortest least k b l false e h = (ltb-false b least e, top_large k b h, omega arith, simp (lt-ltb b 128 h))

tenth_shortest : (least b : ℕ) (l : List ℕ) (t u : Bool) → ltb b least ≡ t → ltb 1 b ≡ u → Shortest least 0 (b ∷ l) (pick t bad (pick u bad (got b 1)))
unfolding write
tenth_shortest least b l true u e f = omega arith
tenth_shortest least b l false true e f = omega arith
tenth_shortest least b l false false e f = (ltb-false b least e, omega (arith, ltb-false 1 b f), omega arith, refl)

more_shortest : (least k b : ℕ) (l : List ℕ) (t : Bool) → ltb b 128 ≡ t → least ≤ 1 → b < 256 → Shortest 1 k l (read 1 k l) → Shortest least (suc k) (b ∷ l) (pick t (pick (ltb b least) bad (got b 1)) (onto b (read 1 k l)))
more_shortest least k b l true e g h s = last_shortest least k b l (ltb b least) refl (ltb-true b 128 e)
more_shortest least k b l false e g h s = onto_shortest least k b l (read 1 k l) g (ltb-false b 128 e) h s

pub read_shortest : (least k : ℕ) (l : List ℕ) → least ≤ 1 → Octets l → Shortest least k l (read least k l)
unfolding read
read_shortest least k [] g o = omega arith
read_shortest least zero (b ∷ l) g o = tenth_shortest least b l (ltb b least) (ltb 1 b) refl refl
read_shortest least (suc k) (b ∷ l) g o = more_shortest least k b l (ltb b 128) refl g o.0 (read_shortest 1 k l (omega arith) o.1)

-- A number that is read fits 64 bits, and its bytes are its groups: no two texts are read as one number.
pub number_shortest : (l : List ℕ) (v n : ℕ) → Octets l → number l ≡ got v n → (v < 2 ^ 64) × (n ≤ length l) × (take n l ≡ groups v)
number_shortest l v n o e = let s : Shortest 0 9 l (got v n) = rw e at (read_shortest 0 9 l (omega arith) o) in (omega (arith, s.1), s.2, s.3)

octets_by : (k n : ℕ) (t : Bool) → ltb n 128 ≡ t → Octets (write k (n / 128)) → Octets (pick t (n ∷ []) ((128 + n % 128) ∷ write k (n / 128)))
octets_by k n true e o = (omega (arith, ltb-true n 128 e), omega arith)
octets_by k n false e o = (omega arith, o)

pub write_octets : (k n : ℕ) → n < top k → Octets (write k n)
unfolding write
write_octets zero n h = (omega arith, omega arith)
write_octets (suc k) n h = octets_by k n (ltb n 128) refl (write_octets k (n / 128) (omega arith))

-- ---- how many groups
some_by : (k n : ℕ) (t : Bool) → 1 ≤ length (pick t (n ∷ []) ((128 + n % 128) ∷ write k (n / 128)))
some_by k n true = omega arith
some_by k n false = omega arith

pub write_some : (k n : ℕ) → 1 ≤ length (write k n)
unfolding write
write_some zero n = omega arith
write_some (suc k) n = some_by k n (ltb n 128)

few_by : (k n : ℕ) (t : Bool) → length (write k (n / 128)) ≤ k + 1 → length (pick t (n ∷ []) ((128 + n % 128) ∷ write k (n / 128))) ≤ suc k + 1
few_by k n true h = omega arith
few_by k n false h = omega arith

pub write-few : (k n : ℕ) → length (write k n) ≤ k + 1
unfolding write
write-few zero n = omega arith
write-few (suc k) n = few_by k n (ltb n 128) (write-few k (n / 128))

pub groups-length : (n : ℕ) → n < 2 ^ 64 → (1 ≤ length (groups n)) × (length (groups n) ≤ 10)
groups-length n h = (write_some 9 n, write-few 9 n)
