-- The queries with prices, over bytes: what they are given is read as what the bytes stand for.
use Rattle.std.specs.Prelude.{ℕ, ◌*◌, List, [], ◌∷◌, eqb, length, ℤ}
use Rattle.table.specs.Keyed.{pick, both}
use Rattle.word_bytes.specs.Words.{bytes_of, turned}
use Rattle.word_bytes.specs.Numbers.{unsigned_of}
use Rattle.account.specs.declared.query.Told.{Told}
use Rattle.account_bytes.specs.Settings.{flag_word}
use Rattle.list_bytes.specs.Lists.{symbols_in, prices_in}
use Rattle.list_bytes.specs.Weights.{written_weights}
use Rattle.portfolio.specs.Answers.{is_done}
use Rattle.portfolio.specs.Queries.{told_equity}
use Rattle.queries.specs.declared.answered.Snapshot.{Snapshot}
use Rattle.queries.specs.declared.answered.Weights.{Weights}
use Rattle.queries.specs.declared.answered.Unpriced.{Unpriced}
use Rattle.queries.specs.Answers.{told_unpriced, told_weights, told_snapshot}
use Rattle.c_queries.specs.Asked.{account_in, asked_at_prices}
use Rattle.c_queries.specs.Told.{QueryTold, tell_query, refusing, ToldBoth, tell_both, refusing_both}

-- ---- what is left of each answer: its words where it is done, what was found where it is a refusal
unfoldable pub equity_told : Told ℤ → List ℕ → QueryTold
equity_told c out = pick (is_done c.answer) (tell_query 0 (bytes_of (unsigned_of c.value ∷ []))) (refusing out c.answer)

-- the present mark, and the symbol's text, 0 where there is none
unfoldable pub unpriced_told : Unpriced → List ℕ → QueryTold
unpriced_told u out = pick (is_done u.answer) (tell_query 0 (bytes_of (flag_word u.present ∷ turned u.symbol ∷ []))) (refusing out u.answer)

-- the weights in the first places, which the answer counts, and the rest as found
unfoldable pub weights_told : Weights → List ℕ → QueryTold
weights_told w out = pick (is_done w.answer) (tell_query (256 * w.weights.count) (written_weights w.weights.count w.weights.symbol w.weights.weight out)) (refusing out w.answer)

abbrev pub snapshot_words : Snapshot → List ℕ
snapshot_words s =
    unsigned_of s.cash
    ∷ unsigned_of s.equity
    ∷ s.num_positions
    ∷ unsigned_of s.total_realized_pnl
    ∷ s.weights.count
    ∷ []

unfoldable pub snapshot_told : Snapshot → List ℕ → List ℕ → ToldBoth
snapshot_told s figures weights =
    pick (is_done s.answer)
    (tell_both (256 * s.weights.count) (bytes_of (snapshot_words s)) (written_weights s.weights.count s.weights.symbol s.weights.weight weights))
    (refusing_both figures weights s.answer)

-- ---- the queries, of an account's bytes and those of its prices, with what is lent to be written
unfoldable pub equity_in : List ℕ → List ℕ → List ℕ → QueryTold
equity_in b ps out = asked_at_prices (refusing out) b ps (eqb (length out) 8) (equity_told (told_equity (account_in b) (symbols_in ps) (prices_in ps)) out)

unfoldable pub unpriced_in : List ℕ → List ℕ → List ℕ → QueryTold
unpriced_in b ps out = asked_at_prices (refusing out) b ps (eqb (length out) 16) (unpriced_told (told_unpriced (account_in b) (symbols_in ps) (prices_in ps)) out)

-- room for 64 weights of 16 bytes
unfoldable pub current_weights_in : List ℕ → List ℕ → List ℕ → QueryTold
current_weights_in b ps out = asked_at_prices (refusing out) b ps (eqb (length out) 1024) (weights_told (told_weights (account_in b) (symbols_in ps) (prices_in ps)) out)

unfoldable pub snapshot_in : List ℕ → List ℕ → List ℕ → List ℕ → ToldBoth
snapshot_in b ps figures weights =
    asked_at_prices (refusing_both figures weights) b ps (both (eqb (length figures) 40) (eqb (length weights) 1024))
    (snapshot_told (told_snapshot (account_in b) (symbols_in ps) (prices_in ps)) figures weights)
