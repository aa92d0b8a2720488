-- Document 02, 5 and 9: what holds of every saved account, and of every file. Statements only.
use Rattle.std.specs.Prelude.{ℕ, ◌<◌, ◌≤◌, ◌≡◌, ◌↔◌, Bool, true, List, ltb, length, take}
use Rattle.answer.specs.Choice.{all}
use Rattle.answer.specs.Numbers.{number_of, unless}
use Rattle.answer.specs.Places.{place_of}
use Rattle.answer.specs.declared.Answer.TheVariants.{Done, Unsound, EndsEarly, BadNumber, LeftOver}
use Rattle.account.specs.declared.account.Account.{Account}
use Rattle.account.specs.Account.{sound_account}
use Rattle.account.specs.Calls.{answered, zero_account}
use Rattle.seven_bit.specs.Placed.{number_at_of}
use Rattle.saved_form.specs.Writing.{file_of}
use Rattle.loading.specs.Loading.{file_account, load_answer, loaded}
use Rattle.zero_laws.specs.Zeros.{plain_account, Alike}
use Rattle.zero_laws.specs.Told.{SameTold}
use Rattle.zero_laws.specs.History.{Step, replies, left}

-- every element a byte
abbrev pub are_bytes : List ℕ → Bool
are_bytes l = all (λ b. ltb b 256) l

-- the bytes of the longest file of form 1
abbrev pub longest : ℕ
longest = 3328

-- of a sound account and its file
pub record Saved (a : Account) : Type 0 where
  -- "reading what was written gives the account back", up to the sign of a zero
  pub reads_back : loaded (file_of a) ≡ answered Done (plain_account a)
  -- "16 file ends early": of every part of it from its start, at "the end of the file"
  pub ends-early : (j : ℕ) → j < length (file_of a) → load_answer (take j (file_of a)) ≡ EndsEarly j
  pub bytes : are_bytes (file_of a) ≡ true
  pub short : length (file_of a) ≤ longest

-- "Saving and loading between calls changes no later answer in demands 2 and 3, that sign apart": of a sound account, and of any calls after it. A `reload` among them makes a zero rate's sign positive, as
-- loading what was saved does by `reads_back`.
pub record Later (a : Account) : Type 0 where
  -- every answer, every record, and the equities and returns as they are left; where records are filed in lent places is said call by call in zero_laws
  pub replies-same : (h : List Step) → replies h (loaded (file_of a)).account ≡ replies h a
  -- the account that they leave, and whatever is asked of it
  pub left_alike : (h : List Step) → Alike (left h (loaded (file_of a)).account) (left h a)
  pub told_same : (h : List Step) → SameTold (left h (loaded (file_of a)).account) (left h a)

-- of two sound accounts: "Up to that, equal accounts give equal bytes", and no others do
abbrev pub SameFile : Account → Account → Type 0
SameFile a b = (file_of a ≡ file_of b) ↔ (plain_account a ≡ plain_account b)

-- of a file that is loaded
pub record Accepted (l : List ℕ) : Type 0 where
  -- "then 11 for an unsound account"
  pub sound : sound_account (file_account l) ≡ true
  -- "a negative zero" is refused
  pub plain : plain_account (file_account l) ≡ file_account l
  -- "shortest form only": no other file holds its account
  pub one_file : file_of (file_account l) ≡ l
  pub ends-early : (j : ℕ) → j < length l → load_answer (take j l) ≡ EndsEarly j

-- of a file that is refused: its number, and all zeros
abbrev pub Refused : List ℕ → Type 0
Refused l = loaded l ≡ answered (load_answer l) zero_account

-- Document 02, 9: "The saved reader tells the byte place for 16, 17 and 18". Of every file, by what loading answers
pub record Placed (l : List ℕ) : Type 0 where
  -- 16: "the end of the file"
  pub end : (p : ℕ) → load_answer l ≡ EndsEarly p → p ≡ length l
  -- 17: "the number's first byte". The number that starts there is the one that is not shortest or too large, and all before it was read
  pub number : (p : ℕ) → load_answer l ≡ BadNumber p → (p < length l) × ((number_at_of l p).answer ≡ BadNumber p) × (load_answer (take p l) ≡ EndsEarly p)
  -- 18: "the first byte left over". The bytes before it are a whole file, whose account is sound or not, and fewer are none
  pub over : (p : ℕ) → load_answer l ≡ LeftOver p → (p < length l) × (load_answer (take p l) ≡ unless (sound_account (file_account l)) Unsound Done) × ((j : ℕ) → j < p → load_answer (take j l) ≡ EndsEarly j)
  -- "Refusals: numbers unchanged, place added": no other tells a place
  pub others : number_of (load_answer l) < 16 → place_of (load_answer l) ≡ 0
