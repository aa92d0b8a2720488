-- What is told of a call that is made over and over on one account: the answer's number, and in lent bytes what it left. How often it was made does
-- not show.
use Rattle.std.specs.Prelude.{ℕ, List, [], ◌∷◌}
use Rattle.answer.specs.declared.Answer.{Answer}
use Rattle.answer.specs.Numbers.{is_done}
use Rattle.answer.specs.Places.{word_of}
use Rattle.table.specs.Keyed.{pick}
use Rattle.word_bytes.specs.Numbers.{unsigned_of}
use Rattle.account.specs.declared.change.Changed.{Changed}
use Rattle.account_bytes.specs.Account.{written_account}
use Rattle.list_bytes.specs.Inner.Records.{put_all}
use Rattle.list_bytes.specs.Weights.{written_weights}
use Rattle.queries.specs.declared.answered.Snapshot.{Snapshot}

-- ---- of a call that changes the account
pub record Left : Type 0 where
  pub answer : ℕ
  pub after : List ℕ

abbrev pub leave : ℕ → List ℕ → Left
leave n l = record { answer = n; after = l }

-- a refusal leaves "every lent place as found"
abbrev pub refusing : List ℕ → Answer → Left
refusing l answer = leave (word_of answer) l

unfoldable pub left : Changed → List ℕ → Left
left c l = pick (is_done c.answer) (leave 0 (written_account c.account l)) (refusing l c.answer)

-- ---- of a snapshot
pub record LeftBoth : Type 0 where
  pub answer : ℕ
  pub figures : List ℕ
  pub weights : List ℕ

abbrev pub leave_both : ℕ → List ℕ → List ℕ → LeftBoth
leave_both n fs ws = record { answer = n; figures = fs; weights = ws }

abbrev pub refusing_both : List ℕ → List ℕ → Answer → LeftBoth
refusing_both fs ws answer = leave_both (word_of answer) fs ws

-- cash, equity, open positions and realized profit
abbrev pub snapshot_figures : Snapshot → List ℕ
snapshot_figures s = unsigned_of s.cash ∷ unsigned_of s.equity ∷ s.num_positions ∷ unsigned_of s.total_realized_pnl ∷ []

unfoldable pub left_both : Snapshot → List ℕ → List ℕ → LeftBoth
left_both s fs ws =
    pick (is_done s.answer)
    (leave_both 0 (put_all fs 0 (snapshot_figures s)) (written_weights s.weights.count s.weights.symbol s.weights.weight ws))
    (refusing_both fs ws s.answer)
