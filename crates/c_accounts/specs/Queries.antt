-- What an account's bytes tell of the account.
use Rattle.std.specs.Prelude.{ℕ, ◌*◌, List, [], ◌∷◌, eqb, length}
use Rattle.answer.specs.declared.Answer.{Answer}
use Rattle.answer.specs.declared.Answer.TheVariants.{Done, BadSymbol, TooLong, Unsound}
use Rattle.answer.specs.Numbers.{is_done}
use Rattle.answer.specs.Places.{alone}
use Rattle.position.specs.Rows.{key_of, held, avg, realized, total}
use Rattle.position.specs.Symbols.{good_symbol}
use Rattle.table.specs.Keyed.{pick}
use Rattle.word_bytes.specs.Words.{bytes_of, turned}
use Rattle.word_bytes.specs.Numbers.{unsigned_of}
use Rattle.account.specs.declared.holding.Held.{Held}
use Rattle.account.specs.Calls.{position_of, position_at_of}
use Rattle.account_bytes.specs.Sizes.{settings_length, counters_size, series_size}
use Rattle.account_bytes.specs.Settings.{flag_word, settings_words}
use Rattle.account_bytes.specs.Account.{counter_words, series_words}
use Rattle.c_accounts.specs.Entries.{account_in, settings_in, sound_in, AccountTold, answering}

-- 11; then 6 where `out` has another length; then what the question itself is refused for; then the words, and nothing beside them.
unfoldable pub queried : List ℕ → ℕ → Answer → List ℕ → List ℕ → AccountTold
queried b size w words out =
    pick (sound_in b)
    (pick (eqb (length out) size)
    (answering w (pick (is_done w) (bytes_of words) out))
    (answering TooLong out))
    (answering Unsound out)

-- ---- the words of each figure
-- the present mark, the symbol's text, quantity, average, realized profit and total cost
abbrev pub held_words : Held → List ℕ
held_words h =
    flag_word h.present
    ∷ turned (key_of h.position)
    ∷ unsigned_of (held h.position)
    ∷ unsigned_of (avg h.position)
    ∷ unsigned_of (realized h.position)
    ∷ unsigned_of (total h.position)
    ∷ []

-- ---- the questions
abbrev pub cash_told : List ℕ → List ℕ → AccountTold
cash_told b out = queried b 8 Done (unsigned_of (account_in b).cash ∷ []) out

abbrev pub settings_told : List ℕ → List ℕ → AccountTold
settings_told b out = queried b settings_length Done (settings_words (settings_in b)) out

abbrev pub counters_told : List ℕ → List ℕ → AccountTold
counters_told b out = queried b (8 * counters_size) Done (counter_words (account_in b).counters) out

abbrev pub series_told : List ℕ → List ℕ → AccountTold
series_told b out = queried b (8 * series_size) Done (series_words (account_in b).series) out

-- 2: "a symbol is bad"; "a position the account lacks is 0 with an absent mark"
abbrev pub position_told : ℕ → List ℕ → List ℕ → AccountTold
position_told s b out = queried b 48 (pick (good_symbol s) Done (BadSymbol alone)) (held_words (position_of s (account_in b))) out

abbrev pub position_at_told : ℕ → List ℕ → List ℕ → AccountTold
position_at_told i b out = queried b 48 Done (held_words (position_at_of i (account_in b))) out
