-- What opening, setters and queries answer, by document 01's table.
use Rattle.std.specs.Prelude.{ℕ, Bool, true, false, List, ltb, length, get_or, set, ℤ, pos, Float}
use Rattle.std.proofs.Math.Option.{Option, none, some}
use Rattle.doubles.specs.Doubles.{zero}
use Rattle.answer.specs.declared.Answer.{Answer}
use Rattle.answer.specs.declared.Answer.TheVariants.{Done, BadSetting, BadSymbol, BufferFull, Unsound}
use Rattle.answer.specs.Places.{alone}
use Rattle.cost_model.specs.declared.CostModel.{CostModel}
use Rattle.cost_model.specs.Costs.{free}
use Rattle.position.specs.Rows.{fresh, key_of, shares}
use Rattle.position.specs.declared.shares.Shares.{Shares}
use Rattle.position.specs.Symbols.{good_symbol}
use Rattle.position.specs.declared.position.Position.{Position}
use Rattle.table.specs.Keyed.{pick, seek}
use Rattle.table.specs.Rows.{empty_table}
use Rattle.account.specs.declared.settings.Rules.{Rules}
use Rattle.account.specs.declared.settings.Settings.{Settings}
use Rattle.account.specs.declared.settings.TradeCap.{TradeCap}
use Rattle.account.specs.declared.settings.TradeCap.TheVariants.{Absent as Uncapped}
use Rattle.account.specs.declared.account.Account.{Account}
use Rattle.account.specs.declared.account.Series.{Series}
use Rattle.account.specs.declared.change.Changed.{Changed}
use Rattle.account.specs.declared.query.Told.{Told}
use Rattle.account.specs.declared.holding.Held.{Held}
use Rattle.account.specs.Settings.{good_settings, opening_settings, zero_settings}
use Rattle.account.specs.Account.{held_in, sound_scalars, sound_account, with_settings}

abbrev pub answered : Answer → Account → Changed
answered w a = record { answer = w; account = a }

abbrev pub series : ℕ → ℕ → ℤ → Series
series equities returns equity = record { equity_count = equities; return_count = returns; prev_equity = equity }

-- ---- opening
abbrev pub empty_account : ℤ → Settings → Series → Account
empty_account cash s x = record {
  cash = cash;
  settings = s;
  counters = record { last_rebalance_order_count = 0; last_rebalance_notional = pos 0; trimmed_fill_count = 0; trimmed_shortfall_cents = pos 0; record_count = 0 };
  series = x;
  positions = empty_table;
}

-- "all zeros from a refused opening"
abbrev pub zero_account : Account
zero_account = empty_account (pos 0) zero_settings (series 0 0 (pos 0))

-- the cash is the first equity
abbrev pub open_account : ℤ → Settings → Account
open_account cash s = empty_account cash s (series 1 0 cash)

-- what a call answers, and the equity buffer as it leaves it
pub record Opened : Type 0 where
  pub changed : Changed
  pub equity : List ℤ

abbrev pub opened_with : Changed → List ℤ → Opened
opened_with r l = record { changed = r; equity = l }

-- 1: "a setting or opening cash is bad"; then 10: "the equity .. buffer has no free place"; else "Opening writes the cash as the first equity".
-- "Each refusal returns its number with zero figures, [..] and every lent place as found."
unfoldable pub opening : ℤ → Rules → ℤ → List ℤ → Opened
opening cash r step equity =
    pick (sound_scalars cash (opening_settings r step))
    (pick (ltb 0 (length equity))
    (opened_with (answered Done (open_account cash (opening_settings r step))) (set equity 0 cash))
    (opened_with (answered BufferFull zero_account) equity))
    (opened_with (answered BadSetting zero_account) equity)

-- ---- setters
-- 11: "the account is not sound"; then 1: "a setting .. is bad"; with "the account as given"
unfoldable pub changed : Settings → Account → Changed
changed s a =
    pick (sound_account a)
    (pick (good_settings s)
    (answered Done (with_settings s a))
    (answered BadSetting a))
    (answered Unsound a)

-- ---- queries: of a sound account the figure, of another "its number with zero figures"
unfoldable pub told : {A : Type 0} → A → Bool → A → Told A
told z sound x = pick sound (record { answer = Done; value = x }) (record { answer = Unsound; value = z })

-- money in cents
abbrev pub told_cents : Bool → ℤ → Told ℤ
told_cents = told (pos 0)

-- a share count, kept apart from money
abbrev pub told_step : Bool → ℤ → Told Shares
told_step sound x = told (shares (pos 0)) sound (shares x)

abbrev pub told_count : Bool → ℕ → Told ℕ
told_count = told 0

-- in basis points
abbrev pub told_rate : Bool → Float → Told Float
told_rate = told zero

abbrev pub told_flag : Bool → Bool → Told Bool
told_flag = told false

abbrev pub told_cap : Bool → TradeCap → Told TradeCap
told_cap = told Uncapped

abbrev pub told_costs : Bool → CostModel → Told CostModel
told_costs = told free

-- ---- positions
-- "a position the account lacks is 0 with an absent mark"
abbrev pub absent : Answer → Held
absent w = record { answer = w; present = false; position = fresh 0 }

abbrev pub present : Position → Held
present p = record { answer = Done; present = true; position = p }

abbrev pub present_or : Option Position → Held
present_or none = absent Done
present_or (some p) = present p

-- 11: "the account is not sound"; then 2: "a symbol is bad"
unfoldable pub position_of : ℕ → Account → Held
position_of s a =
    pick (sound_account a)
    (pick (good_symbol s)
    (present_or (seek key_of s (held_in a.positions)))
    (absent (BadSymbol alone)))
    (absent Unsound)

-- the same by place, in symbol order
unfoldable pub position_at_of : ℕ → Account → Held
position_at_of i a =
    pick (sound_account a)
    (pick (ltb i a.positions.count)
    (present (get_or (held_in a.positions) i (fresh 0)))
    (absent Done))
    (absent Unsound)
