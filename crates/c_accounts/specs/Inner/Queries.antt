-- What a question to an account leaves: 11 where its answer is that, then 6 where `out` has another length, then the question's own answer.
use Rattle.std.specs.Prelude.{ℕ, ◌*◌, Bool, List, eqb, length}
use Rattle.answer.specs.declared.Answer.{Answer}
use Rattle.answer.specs.declared.Answer.TheVariants.{TooLong}
use Rattle.answer.specs.Numbers.{number_of, is_done}
use Rattle.table.specs.Keyed.{pick}
use Rattle.word_bytes.specs.Words.{bytes_of}
use Rattle.c_accounts.specs.Entries.{AccountTold, answering}

abbrev pub is_unsound : Answer → Bool
is_unsound w = eqb (number_of w) 11

unfoldable pub tell_in : Answer → List ℕ → List ℕ → AccountTold
tell_in w words out =
    pick (is_unsound w) (answering w out)
    (pick (eqb (length out) (8 * length words))
    (answering w (pick (is_done w) (bytes_of words) out))
    (answering TooLong out))
