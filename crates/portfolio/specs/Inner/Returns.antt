-- What recording a return answers on an account taken apart: its series alone changes.
use Rattle.std.specs.Prelude.{List, ℤ, Float}
use Rattle.account.specs.declared.account.Account.{Account}
use Rattle.account.specs.Account.{with_series}
use Rattle.portfolio.specs.declared.returns.Noted.{Noted}
use Rattle.portfolio.specs.Returns.{Recorded}

abbrev pub noted_by : Noted → Account → List ℤ → List Float → Recorded
noted_by r a equities returns = record { answer = r.answer; account = with_series r.series a; equities = equities; returns = returns }
