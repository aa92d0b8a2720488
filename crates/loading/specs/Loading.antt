-- Document 02, 5: what loading answers, and the account that a file holds.
use Rattle.std.specs.Prelude.{ℕ, List, eqb, length, Result, Ok, Err}
use Rattle.answer.specs.Choice.{pick}
use Rattle.answer.specs.Numbers.{is_done, unless, or_later}
use Rattle.answer.specs.declared.Answer.{Answer}
use Rattle.answer.specs.declared.Answer.TheVariants.{Done, Unsound, LeftOver}
use Rattle.account.specs.declared.account.Account.{Account}
use Rattle.account.specs.declared.change.Changed.{Changed}
use Rattle.account.specs.Account.{sound_account}
use Rattle.account.specs.Calls.{answered, zero_account}
use Rattle.seven_bit.specs.Placed.{number_at_of}
use Rattle.saved_form.specs.Fields.{newest}
use Rattle.saved_form.specs.Values.{account_of}
use Rattle.loading.specs.Reading.{head_in_of, positions_in}

-- the account of the numbers and positions that were read
unfoldable pub file_account : List ℕ → Account
file_account l = account_of (head_in_of l).values (positions_in l).table

-- "16 file ends early, 17 number not shortest or too large, 18 bytes left over, 11 for an unknown form, .., as the bytes are met; then 11 for an unsound account"
-- Document 02, 9: "the byte place for 16, 17 and 18: the end of the file, the number's first byte, and the first byte left over"
unfoldable pub load_answer : List ℕ → Answer
load_answer l =
    or_later (number_at_of l 0).answer
    (unless (eqb (number_at_of l 0).value newest) Unsound
    (or_later (head_in_of l).answer
    (or_later (positions_in l).answer
    (unless (eqb (positions_in l).next (length l)) (LeftOver (positions_in l).next)
    (unless (sound_account (file_account l)) Unsound Done)))))

-- the account, or why the file is refused
abbrev pub account_read : List ℕ → Result Account Answer
account_read l = pick (is_done (load_answer l)) (Ok (file_account l)) (Err (load_answer l))

abbrev pub not_loaded : Answer → Changed
not_loaded w = answered w zero_account

-- the account, or all zeros where the file is refused
unfoldable pub loaded : List ℕ → Changed
loaded l = pick (is_done (load_answer l)) (answered Done (file_account l)) (not_loaded (load_answer l))
