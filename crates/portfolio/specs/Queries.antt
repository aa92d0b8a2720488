-- What an account is worth; "Queries refuse by the same table".
use Rattle.std.specs.Prelude.{ℕ, List, ℤ, pos}
use Rattle.answer.specs.declared.Answer.{Answer}
use Rattle.answer.specs.declared.Answer.TheVariants.{Done}
use Rattle.table.specs.Keyed.{pick}
use Rattle.call_lists.specs.Lists.{price_of}
use Rattle.account.specs.declared.account.Account.{Account}
use Rattle.account.specs.declared.query.Told.{Told}
use Rattle.account.specs.Account.{held_in}
use Rattle.wanted.specs.Equity.{equity_of}
use Rattle.portfolio.specs.Answers.{is_done, query_answer}

abbrev pub answered_cents : Answer → ℤ → Told ℤ
answered_cents answer x = record { answer = answer; value = x }

-- the equity of an account; "Each refusal returns its number with zero figures"
unfoldable pub told_equity : Account → List ℕ → List ℤ → Told ℤ
told_equity a ps vs =
    pick (is_done (query_answer a ps vs))
    (answered_cents Done (equity_of (price_of ps vs) a.cash (held_in a.positions)))
    (answered_cents (query_answer a ps vs) (pos 0))
