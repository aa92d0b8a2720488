-- The smallest file of each refusal, by computation.
use mathlib.Core.Path.{◌≡◌, refl}
use mathlib.Core.List.{List, [], ◌∷◌, ◌++◌}
use Prim.Native.Nat.{ℕ}
use Rattle.answer.specs.declared.Answer.TheVariants.{Done, Unsound, EndsEarly, BadNumber, LeftOver}
use Rattle.seven_bit.specs.Groups.{read, onto}
use Rattle.seven_bit.specs.Placed.{told}
use Rattle.position.specs.Symbols.{bytes_from, leading, padded, good_symbol}
use Rattle.position.specs.Shares.{is_zero}
use Rattle.position.specs.Fills.{sound_numbers, sound}
use Rattle.table.specs.Rows.{unused, ordered}
use lib.Ieee.{of_bits, lt, eq, le}
use Rattle.cost_model.specs.Costs.{good_rate, good_ceiling, good_costs}
use Rattle.account.specs.Settings.{good_rules, good_settings}
use Rattle.account.specs.Account.{sound_places, sound_columns, sound_scalars, sound_account, table_of}
use Rattle.account_bytes.specs.Settings.{cap_of}
use Rattle.seven_bit.specs.Signed.{unfolded}
use Rattle.saved_form.specs.Texts.{spelt}
use Rattle.saved_form.specs.Values.{settings_of, counters_of, series_of, account_of}
use Rattle.saved_form.specs.Fields.{head_fields, position_fields, allowed, follows, has_field}
use Rattle.loading.specs.Reading.{judged, field_read, fields_read_of, head_of, head_read_of, text_read, symbol_read, entry_of, entry_after, position_read, then_rows, positions_read, filed, table_read}
use Rattle.loading.specs.Loading.{file_account, load_answer}

-- "16 file ends early"
no_bytes : load_answer [] ≡ EndsEarly 0
unfolding load_answer told read
no_bytes = refl

-- a form number of two groups is no number, though it would be 1
form_not_shortest : load_answer (129 ∷ 0 ∷ []) ≡ BadNumber 0
unfolding load_answer told read onto
form_not_shortest = refl

-- "11 for an unknown form", though nothing follows
form_0 : load_answer (0 ∷ []) ≡ Unsound
unfolding load_answer told read
form_0 = refl

form_2 : load_answer (2 ∷ []) ≡ Unsound
unfolding load_answer told read
form_2 = refl

-- nine groups that go on, and then the end
nine_groups : load_answer (255 ∷ 255 ∷ 255 ∷ 255 ∷ 255 ∷ 255 ∷ 255 ∷ 255 ∷ 255 ∷ []) ≡ EndsEarly 9
unfolding load_answer told read onto
nine_groups = refl

-- a tenth above 1
tenth_group : load_answer (255 ∷ 255 ∷ 255 ∷ 255 ∷ 255 ∷ 255 ∷ 255 ∷ 255 ∷ 255 ∷ 2 ∷ []) ≡ BadNumber 0
unfolding load_answer told read onto
tenth_group = refl

form_alone : load_answer (1 ∷ []) ≡ EndsEarly 1
unfolding load_answer told read head_read_of head_fields head_of fields_read_of field_read judged has_field follows
form_alone = refl

-- ---- files with all numbers before the positions
-- form, cash and five numbers, of which the step is 1
abbrev numbers : List ℕ
numbers = 1 ∷ 0 ∷ 0 ∷ 0 ∷ 0 ∷ 0 ∷ 2 ∷ []

-- three rates of 0
abbrev rates : List ℕ
rates = 0 ∷ 0 ∷ 0 ∷ []

-- no cap, no ceiling, no recording, no cash-first; counters and series
abbrev others : List ℕ
others = 0 ∷ 0 ∷ 0 ∷ 0 ∷ 0 ∷ 0 ∷ 0 ∷ 0 ∷ 0 ∷ 0 ∷ 0 ∷ 0 ∷ []

-- so many positions
abbrev up_to : ℕ → List ℕ
up_to count = numbers ++ (rates ++ (others ++ count ∷ []))

-- "over 64 positions", though none follows
positions_65 : load_answer (up_to 65) ≡ Unsound
unfolding load_answer told read head_read_of head_fields head_of fields_read_of field_read judged has_field follows allowed
positions_65 = refl

positions_64 : load_answer (up_to 64) ≡ EndsEarly 23
unfolding load_answer told read head_read_of head_fields head_of fields_read_of field_read judged has_field follows allowed table_read positions_read position_read symbol_read entry_after then_rows filed
positions_64 = refl

-- "a flag or cap mark above 1"
mark_2 : load_answer (numbers ++ (rates ++ 2 ∷ [])) ≡ Unsound
unfolding load_answer told read head_read_of head_fields head_of fields_read_of field_read judged has_field follows allowed
mark_2 = refl

-- "a negative zero"
minus_zero_lem : load_answer (numbers ++ (128 ∷ 128 ∷ 128 ∷ 128 ∷ 128 ∷ 128 ∷ 128 ∷ 128 ∷ 128 ∷ 1 ∷ [])) ≡ Unsound
unfolding load_answer told read onto head_read_of head_fields head_of fields_read_of field_read judged has_field follows allowed
minus_zero_lem = refl

-- "a symbol length outside 1 to 8", at the very end: before the early end is met
length_9 : load_answer (up_to 1 ++ 9 ∷ []) ≡ Unsound
unfolding load_answer told read head_read_of head_fields head_of fields_read_of field_read judged has_field follows allowed table_read positions_read position_read symbol_read entry_after then_rows filed
length_9 = refl

length_0 : load_answer (up_to 1 ++ 0 ∷ []) ≡ Unsound
unfolding load_answer told read head_read_of head_fields head_of fields_read_of field_read judged has_field follows allowed table_read positions_read position_read symbol_read entry_after then_rows filed
length_0 = refl

-- a length of two groups, the first of which is told
length_not_shortest : load_answer (up_to 1 ++ 129 ∷ 0 ∷ []) ≡ BadNumber 23
unfolding load_answer told read onto head_read_of head_fields head_of fields_read_of field_read judged has_field follows allowed table_read positions_read position_read symbol_read entry_after then_rows filed
length_not_shortest = refl

-- a text of which a byte is missing
text_cut : load_answer (up_to 1 ++ 2 ∷ 65 ∷ []) ≡ EndsEarly 25
unfolding load_answer told read head_read_of head_fields head_of fields_read_of field_read judged has_field follows allowed table_read positions_read position_read symbol_read text_read entry_after then_rows filed
text_cut = refl

-- "18 bytes left over"
one-over : load_answer (up_to 0 ++ 0 ∷ []) ≡ LeftOver 23
unfolding load_answer told read head_read_of head_fields head_of fields_read_of field_read judged has_field follows allowed table_read positions_read filed
one-over = refl

-- the smallest file
smallest : load_answer (up_to 0) ≡ Done
unfolding load_answer told read head_read_of head_fields head_of fields_read_of field_read judged has_field follows allowed table_read positions_read filed file_account account_of settings_of counters_of series_of unfolded cap_of of_bits table_of sound_account sound_scalars good_settings good_rules good_costs good_rate good_ceiling le lt eq is_zero sound_columns sound_places ordered unused
smallest = refl

-- with one flat position
one-position : load_answer (up_to 1 ++ 1 ∷ 65 ∷ 0 ∷ 0 ∷ 0 ∷ 0 ∷ []) ≡ Done
unfolding load_answer told read head_read_of head_fields position_fields head_of fields_read_of field_read judged has_field follows allowed table_read positions_read position_read symbol_read text_read spelt leading entry_after entry_of then_rows filed file_account account_of settings_of counters_of series_of unfolded cap_of of_bits table_of sound_account sound_scalars good_settings good_rules good_costs good_rate good_ceiling le lt eq is_zero sound_columns sound_places ordered unused sound sound_numbers good_symbol bytes_from padded
one-position = refl

-- the same with a zero behind its letter, or two files would hold one account
ends_in_zero : load_answer (up_to 1 ++ 2 ∷ 65 ∷ 0 ∷ 0 ∷ 0 ∷ 0 ∷ 0 ∷ []) ≡ Unsound
unfolding load_answer told read head_read_of head_fields position_fields head_of fields_read_of field_read judged has_field follows allowed table_read positions_read position_read symbol_read text_read spelt leading entry_after entry_of then_rows filed file_account account_of settings_of counters_of series_of unfolded cap_of of_bits table_of sound_account sound_scalars good_settings good_rules good_costs good_rate good_ceiling le lt eq is_zero sound_columns sound_places ordered unused sound sound_numbers good_symbol bytes_from padded
ends_in_zero = refl

-- "then 11 for an unsound account": a step of 0, and only where no byte is left over
abbrev stepless : List ℕ
stepless = 1 ∷ 0 ∷ 0 ∷ 0 ∷ 0 ∷ 0 ∷ 0 ∷ (rates ++ (others ++ 0 ∷ []))

step_0 : load_answer stepless ≡ Unsound
unfolding load_answer told read head_read_of head_fields head_of fields_read_of field_read judged has_field follows allowed table_read positions_read filed file_account account_of settings_of counters_of series_of unfolded cap_of of_bits table_of sound_account sound_scalars good_settings good_rules good_costs good_rate good_ceiling le lt eq is_zero sound_columns sound_places ordered unused
step_0 = refl

step_0_one-over : load_answer (stepless ++ 0 ∷ []) ≡ LeftOver 23
unfolding load_answer told read head_read_of head_fields head_of fields_read_of field_read judged has_field follows allowed table_read positions_read filed
step_0_one-over = refl
