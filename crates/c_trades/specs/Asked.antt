-- What a call over bytes is refused for before it is made: answers 11, 1 and 6, in this order.
use Rattle.std.specs.Prelude.{ℕ, ◌%◌, Bool, List, eqb}
use Rattle.answer.specs.declared.Answer.{Answer}
use Rattle.answer.specs.declared.Answer.TheVariants.{BadSetting, TooLong, Unsound}
use Rattle.table.specs.Keyed.{pick}
use Rattle.fills.specs.Records.{good_kind}
pub use Rattle.account_bytes.specs.Account.{account_in}
unfoldable pub use Rattle.account_bytes.specs.Account.{sound_in}

-- whether n bytes are a whole number of records
abbrev pub whole_run : ℕ → Bool
whole_run n = eqb (n % 96) 0

-- the call, unless something of what it is given is bad
unfoldable pub asked : {X : Type 0} → (Answer → X) → List ℕ → ℕ → Bool → X → X
asked refuse b kind whole call = pick (sound_in b) (pick (good_kind kind) (pick whole call (refuse TooLong)) (refuse BadSetting)) (refuse Unsound)
