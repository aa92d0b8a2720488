-- The calls, made over and over on one account. Account and lists are what their bytes stand for; with a list that is not whole, or a place of another
-- length than what is written there, none is made. An account that is left takes as many bytes as the one that was given.
use Rattle.std.specs.Prelude.{ℕ, List, eqb, ℤ, pos, Float, length, replicate}
use Rattle.std.specs.Float.{binary64}
use Rattle.std.specs.Float.Ieee.{of_bits}
use Rattle.answer.specs.declared.Answer.TheVariants.{TooLong}
use Rattle.table.specs.Keyed.{pick, both}
use Rattle.fills.specs.declared.record.ExecutionKind.TheVariants.{Rebalance}
use Rattle.account.specs.declared.account.Account.{Account}
use Rattle.account.specs.declared.change.Changed.{Changed}
use Rattle.account.specs.Inner.Answers.{unless_unsound}
use Rattle.list_bytes.specs.Entries.{whole_list}
use Rattle.list_bytes.specs.Lists.{symbols_in, weights_in, prices_in}
use Rattle.portfolio.specs.Rebalance.{Outcome, rebalanced}
use Rattle.portfolio.specs.Returns.{Recorded, recorded}
use Rattle.queries.specs.Answers.{told_snapshot}
use Rattle.c_timed.specs.Made.{Left, refusing, left, LeftBoth, refusing_both, left_both}
-- bytes that hold no account stand for all zeros, which is no sound account, so that each call is refused
pub use Rattle.account_bytes.specs.Account.{account_in}

-- ---- a rebalance in period 0, with room for 64 records
abbrev pub of_outcome : Outcome → Changed
of_outcome o = record { answer = o.answer; account = o.account }

unfoldable pub rebalance_call : Account → List ℕ → List Float → List ℕ → List ℤ → Changed
rebalance_call a ts ws ps vs = of_outcome (rebalanced a ts ws ps vs 0 Rebalance 64)

unfoldable pub rebalances_in : List ℕ → List ℕ → List ℕ → List ℕ → Left
rebalances_in b ts ps l =
    pick (both (whole_list 64 ts) (both (whole_list 128 ps) (eqb (length l) (length b))))
    (left (rebalance_call (account_in b) (symbols_in ts) (weights_in ts) (symbols_in ps) (prices_in ps)) l)
    (refusing l (unless_unsound (account_in b) TooLong))

-- ---- a return, into series of 64 places
abbrev pub of_recorded : Recorded → Changed
of_recorded o = record { answer = o.answer; account = o.account }

unfoldable pub return_call : Account → List ℕ → List ℤ → Changed
return_call a ps vs = of_recorded (recorded a ps vs (replicate 64 (pos 0)) (replicate 64 (of_bits binary64 0)))

unfoldable pub returns_in : List ℕ → List ℕ → List ℕ → Left
returns_in b ps l =
    pick (both (whole_list 128 ps) (eqb (length l) (length b)))
    (left (return_call (account_in b) (symbols_in ps) (prices_in ps)) l)
    (refusing l (unless_unsound (account_in b) TooLong))

-- ---- a snapshot: four words, and room for 64 weights of 16 bytes
unfoldable pub snapshots_in : List ℕ → List ℕ → List ℕ → List ℕ → LeftBoth
snapshots_in b ps fs ws =
    pick (both (whole_list 128 ps) (both (eqb (length fs) 32) (eqb (length ws) 1024)))
    (left_both (told_snapshot (account_in b) (symbols_in ps) (prices_in ps)) fs ws)
    (refusing_both fs ws (unless_unsound (account_in b) TooLong))
