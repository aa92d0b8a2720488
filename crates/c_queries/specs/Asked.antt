-- What a query with prices over bytes is refused for before it is made: answers 11 and 6, in this order.
use Rattle.std.specs.Prelude.{ℕ, Bool, List}
use Rattle.answer.specs.declared.Answer.{Answer}
use Rattle.answer.specs.declared.Answer.TheVariants.{TooLong, Unsound}
use Rattle.table.specs.Keyed.{pick, both}
pub use Rattle.account_bytes.specs.Account.{account_in}
unfoldable pub use Rattle.account_bytes.specs.Account.{sound_in}
use Rattle.list_bytes.specs.Entries.{whole_list}

-- the query of an account at prices, unless its bytes are not sound, the prices no list within the bound, or what is lent has another length
unfoldable pub asked_at_prices : {X : Type 0} → (Answer → X) → List ℕ → List ℕ → Bool → X → X
asked_at_prices refuse b ps fits call = pick (sound_in b) (pick (both (whole_list 128 ps) fits) call (refuse TooLong)) (refuse Unsound)
