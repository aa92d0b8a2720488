-- Document 02, 5: what saving answers, and what it leaves in the lent bytes.
use Rattle.std.specs.Prelude.{ℕ, List, leb, length, Result, Ok, Err}
use Rattle.std.proofs.lemmas.List.Edits.{sets}
use Rattle.answer.specs.Choice.{pick}
use Rattle.answer.specs.Numbers.{is_done, unless}
use Rattle.answer.specs.declared.Answer.{Answer}
use Rattle.answer.specs.declared.Answer.TheVariants.{Done, Unsound, NoFileRoom}
use Rattle.account.specs.declared.account.Account.{Account}
use Rattle.account.specs.Account.{sound_account}
use Rattle.saved_form.specs.Writing.{file_of}
use Rattle.saving.specs.declared.file.Saved.{Saved}

-- "Writing: 11, then 19 output room short."
unfoldable pub save_answer : Account → ℕ → Answer
save_answer a room = unless (sound_account a) Unsound (unless (leb (length (file_of a)) room) NoFileRoom Done)

-- how long the file is, or why it is refused
abbrev pub length_saved : Account → ℕ → Result ℕ Answer
length_saved a room = pick (is_done (save_answer a room)) (Ok (length (file_of a))) (Err (save_answer a room))

abbrev pub refused : Answer → Saved
refused w = record { answer = w; length = 0 }

-- how long the file is, 0 where it is refused
unfoldable pub saved_told : Account → ℕ → Saved
saved_told a room = pick (is_done (save_answer a room)) (record { answer = Done; length = length (file_of a) }) (refused (save_answer a room))

-- the file at the front of the bytes, those past it as found; all as found where it is refused
unfoldable pub saved_into : Account → List ℕ → List ℕ
saved_into a l = pick (is_done (save_answer a (length l))) (sets l 0 (file_of a)) l
