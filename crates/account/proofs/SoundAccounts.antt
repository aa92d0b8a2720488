-- Laws of soundness: what a sound account has, what makes one, and that opening and setters do. Other crates cite these and never unfold
-- `sound_account`, so that a clause which joins it is paid here.
use Prim.Native.Nat.{ℕ, ◌≤◌, ◌<◌}
use mathlib.Core.Path.{◌≡◌, refl}
use mathlib.Core.Bool.{Bool, true, false}
use lib.IntN.{ℤ, pos}
use Rattle.answer.specs.declared.Answer.TheVariants.{Done, BadSetting}
use Rattle.cost_model.specs.Costs.{free, good_costs}
use Rattle.position.specs.Fills.{sound}
use Rattle.table.specs.declared.table.Table.{Table}
use Rattle.table.specs.Keyed.{pick}
use Rattle.table.specs.Rows.{columns_of, row_at, empty_table, is_zero, unused, ordered, Full}
use Rattle.table.specs.Inner.Rows.{Ordered}
use Rattle.table.proofs.Keyed.{both_true, both_false}
use Rattle.account.specs.declared.settings.Settings.{Settings}
use Rattle.account.specs.declared.account.Account.{Account}
use Rattle.account.specs.declared.account.Counters.{Counters}
use Rattle.account.specs.declared.account.Series.{Series}
use Rattle.account.specs.Settings.{is_at_least, good_rules, good_settings, of_costs, zero_settings}
use Rattle.account.specs.Account.{sound_places, sound_columns, held_in, sound_table, sound_scalars, sound_account, with_settings, with_series}
use Rattle.account.specs.Calls.{empty_account, zero_account, answered, changed}
use Rattle.account.proofs.Columns.{all_sound, ordered-small, sound-orders, sound-rows, sound_at}
use Rattle.account.proofs.Changes.{rules_costs, good_parts}

-- ---- what a sound account has
module _ (a : Account) (e : sound_account a ≡ true) where
  pub account_scalars : sound_scalars a.cash a.settings ≡ true
  unfolding sound_account
  account_scalars = (both_true (sound_scalars a.cash a.settings) _ e).0

  pub account-cash : is_at_least 0 a.cash ≡ true
  unfolding sound_scalars
  account-cash = (both_true (is_at_least 0 a.cash) _ account_scalars).0

  pub account-settings : good_settings a.settings ≡ true
  unfolding sound_scalars
  account-settings = (both_true (is_at_least 0 a.cash) _ account_scalars).1

  pub account-costs : good_costs a.settings.rules.cost_model ≡ true
  account-costs = rules_costs a.settings.rules (good_parts a.settings account-settings).rules

  pub account-table : sound_table a.positions ≡ true
  unfolding sound_account
  account-table = (both_true (sound_scalars a.cash a.settings) _ e).1

  -- whatever the lengths of its columns
  pub account-small : a.positions.count ≤ 64
  unfolding sound_columns
  account-small = let n = a.positions.count in let c = columns_of a.positions in ordered-small n c (both_true (ordered n c) _ account-table).0

  -- where its columns have 64 places, as those of every table in the code
  module _ (f : Full (columns_of a.positions)) where
    pub account-ordered : Ordered a.positions.count (columns_of a.positions)
    account-ordered = sound-orders a.positions.count (columns_of a.positions) f account-table

    pub account_positions : all_sound (held_in a.positions) ≡ true
    account_positions = sound-rows a.positions.count (columns_of a.positions) f account-table

    pub account-position : (i : ℕ) → i < a.positions.count → sound (row_at i (columns_of a.positions)) ≡ true
    account-position = sound_at a.positions.count (columns_of a.positions) f account-table

-- ---- what makes one
pub account-sound : (a : Account) → sound_scalars a.cash a.settings ≡ true → sound_table a.positions ≡ true → sound_account a ≡ true
unfolding sound_account
account-sound a c t = simp (c, t)

pub parts_account : (a : Account) → is_at_least 0 a.cash ≡ true → good_settings a.settings ≡ true → sound_table a.positions ≡ true → sound_account a ≡ true
unfolding sound_scalars
parts_account a c g t = account-sound a (simp (c, g)) t

-- a sound one with one part changed
abbrev pub with_cash : ℤ → Account → Account
with_cash cash a = record { cash = cash; settings = a.settings; counters = a.counters; series = a.series; positions = a.positions }

abbrev pub with_counters : Counters → Account → Account
with_counters k a = record { cash = a.cash; settings = a.settings; counters = k; series = a.series; positions = a.positions }

abbrev pub with_positions : Table → Account → Account
with_positions t a = record { cash = a.cash; settings = a.settings; counters = a.counters; series = a.series; positions = t }

module _ (a : Account) (e : sound_account a ≡ true) where
  pub cash_keeps_sound : (cash : ℤ) → is_at_least 0 cash ≡ true → sound_account (with_cash cash a) ≡ true
  cash_keeps_sound cash c = parts_account (with_cash cash a) c (account-settings a e) (account-table a e)

  pub settings-keep-sound : (s : Settings) → good_settings s ≡ true → sound_account (with_settings s a) ≡ true
  settings-keep-sound s g = parts_account (with_settings s a) (account-cash a e) g (account-table a e)

  pub counters_keep-sound : (k : Counters) → sound_account (with_counters k a) ≡ true
  unfolding sound_account
  counters_keep-sound k = e

  pub series-keep-sound : (s : Series) → sound_account (with_series s a) ≡ true
  unfolding sound_account
  series-keep-sound s = e

  pub positions_keep-sound : (t : Table) → sound_table t ≡ true → sound_account (with_positions t a) ≡ true
  positions_keep-sound t h = account-sound (with_positions t a) (account_scalars a e) h

-- ---- the account of zeros is none
-- "`quantity_step` at least 1": its settings have 0
zero-settings-bad : good_settings zero_settings ≡ false
unfolding good_settings
zero-settings-bad = both_false (good_rules (of_costs free))

pub zero_scalars_unsound : (cash : ℤ) → sound_scalars cash zero_settings ≡ false
unfolding sound_scalars
zero_scalars_unsound cash = rw zero-settings-bad (both_false (is_at_least 0 cash))

pub zero_unsound : sound_account zero_account ≡ false
unfolding sound_account
zero_unsound = simp (zero_scalars_unsound (pos 0))

-- ---- calls
-- a setter that is done, and one that is refused, keep an account sound
pub changed_keeps_sound : (s : Settings) (a : Account) → sound_account a ≡ true → sound_account (changed s a).account ≡ true
unfolding changed
changed_keeps_sound s a e = rw e (go (good_settings s) refl)
  where
    go : (b : Bool) → good_settings s ≡ b → sound_account (pick b (answered Done (with_settings s a)) (answered BadSetting a)).account ≡ true
    go true g = settings-keep-sound a e s g
    go false g = e

-- an account that was opened is sound
empty-sound : sound_table empty_table ≡ true
unfolding sound_columns sound_places ordered unused is_zero
empty-sound = refl

pub opened-sound : (cash : ℤ) (s : Settings) (x : Series) → sound_scalars cash s ≡ true → sound_account (empty_account cash s x) ≡ true
opened-sound cash s x e = account-sound (empty_account cash s x) e empty-sound
