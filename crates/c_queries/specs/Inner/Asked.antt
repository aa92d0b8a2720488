-- What a query over bytes is refused for before it is made; the query itself tells an unsound account.
use Rattle.std.specs.Prelude.{ℕ, Bool, List, Result, Err, ok_or}
use Rattle.answer.specs.declared.Answer.{Answer}
use Rattle.answer.specs.declared.Answer.TheVariants.{TooLong}
use Rattle.table.specs.Keyed.{pick}
use Rattle.account.specs.declared.account.Account.{Account}
use Rattle.account.specs.Inner.Answers.{unless_unsound}
use Rattle.list_bytes.specs.declared.price.Prices.{Prices}
use Rattle.list_bytes.specs.Inner.Lists.{prices_of}

-- the prices, where the query is to be made
unfoldable pub asked_prices : Account → List ℕ → Bool → Result Prices Answer
asked_prices a l fits = pick fits (ok_or (prices_of l) (unless_unsound a TooLong)) (Err (unless_unsound a TooLong))
