-- The calls that trade, over bytes: what they are given is read as what the bytes stand for.
use Rattle.std.specs.Prelude.{ℕ, ◌/◌, List, ℤ, length}
use Rattle.answer.specs.declared.Answer.{Answer}
use Rattle.table.specs.Keyed.{both}
use Rattle.fills.specs.Records.{kind_of}
use Rattle.list_bytes.specs.Entries.{whole_list}
use Rattle.list_bytes.specs.Lists.{symbols_in, weights_in, prices_in}
use Rattle.portfolio.specs.Rebalance.{Outcome, refused, rebalanced}
use Rattle.portfolio.specs.Close.{position_closed}
use Rattle.c_trades.specs.Asked.{account_in, whole_run, asked}

abbrev pub refused_in : List ℕ → Answer → Outcome
refused_in b answer = refused answer (account_in b)

-- account, symbol, price, period, kind and the record buffer
unfoldable pub close_in : List ℕ → ℕ → ℤ → ℕ → ℕ → List ℕ → Outcome
close_in b s price period kind rs = asked (refused_in b) b kind (whole_run (length rs)) (position_closed (account_in b) s price period (kind_of kind) (length rs / 96))

-- account, targets, prices, period, kind and the record buffer
unfoldable pub rebalance_in : List ℕ → List ℕ → List ℕ → ℕ → ℕ → List ℕ → Outcome
rebalance_in b ts ps period kind rs =
    asked (refused_in b) b kind (both (both (whole_list 64 ts) (whole_list 128 ps)) (whole_run (length rs)))
    (rebalanced (account_in b) (symbols_in ts) (weights_in ts) (symbols_in ps) (prices_in ps) period (kind_of kind) (length rs / 96))
