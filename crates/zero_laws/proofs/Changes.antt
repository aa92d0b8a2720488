-- The setters, on an account that is read back; and that reading back twice is reading back once.
use Prim.Native.Nat.{zero, suc}
use mathlib.Core.Path.{◌≡◌, refl, sym, ap, ◌∙◌}
use mathlib.Core.Bool.{Bool}
use lib.IntN.{ℤ}
use lib.Ieee.{Float, nan, inf, fin}
use Rattle.table.specs.declared.table.Columns.{Columns}
use Rattle.account.specs.declared.settings.Settings.{Settings}
use Rattle.account.specs.declared.settings.TradeCap.{TradeCap}
use Rattle.account.specs.declared.account.Account.{Account}
use Rattle.account.specs.declared.account.Ledger.{Ledger}
use Rattle.account.specs.Inner.Account.{account_with}
use Rattle.account.specs.Settings.{with_step, with_min_order, with_max_order, with_band, with_trade_cap, with_max_notional, with_recording, with_cash_first}
use Rattle.account.specs.Calls.{changed}
use Rattle.zero_laws.specs.Zeros.{plain_zero, plain_settings, plain_account, plain_ledger, Alike}
use Rattle.zero_laws.specs.Calls.{plain_changed}
use Rattle.zero_laws.specs.History.{Setter, step, minOrder, maxOrder, maxNotional, band, trade_cap, recording, cash_first_of, set_by}
use Rattle.zero_laws.proofs.Choices.{picked}
use Rattle.zero_laws.proofs.Sound.{plain-good-settings, plain-sound}

-- ---- once is enough
pub plain_twice : (x : Float) → plain_zero (plain_zero x) ≡ plain_zero x
unfolding plain_zero
plain_twice nan = refl
plain_twice (inf s) = refl
plain_twice (fin s zero e) = refl
plain_twice (fin s (suc m) e) = refl

pub read_back_alike : (a : Account) → Alike (plain_account a) a
read_back_alike a = simp plain_twice

-- a call on a ledger and lent columns is one on the account of both
pub plain_with : (h : Ledger) (c : Columns) → account_with (plain_ledger h) c ≡ plain_account (account_with h c)
plain_with h c = refl

-- ---- setters
pub plain-changed : (s : Settings) (a : Account) → changed (plain_settings s) (plain_account a) ≡ plain_changed (changed s a)
unfolding changed
plain-changed s a = picked plain_changed (plain-sound a) (picked plain_changed (plain-good-settings s) refl refl) refl

-- a setter that sets no band
module _ (a : Account) where
  pub plain-set-step : (k : ℤ) → changed (with_step k (plain_account a).settings) (plain_account a) ≡ plain_changed (changed (with_step k a.settings) a)
  plain-set-step k = plain-changed (with_step k a.settings) a

  pub plain-set-min-order : (v : ℤ) → changed (with_min_order v (plain_account a).settings) (plain_account a) ≡ plain_changed (changed (with_min_order v a.settings) a)
  plain-set-min-order v = plain-changed (with_min_order v a.settings) a

  pub plain-set-max-order : (v : ℤ) → changed (with_max_order v (plain_account a).settings) (plain_account a) ≡ plain_changed (changed (with_max_order v a.settings) a)
  plain-set-max-order v = plain-changed (with_max_order v a.settings) a

  pub plain-set_trade_cap : (c : TradeCap) → changed (with_trade_cap c (plain_account a).settings) (plain_account a) ≡ plain_changed (changed (with_trade_cap c a.settings) a)
  plain-set_trade_cap c = plain-changed (with_trade_cap c a.settings) a

  pub plain-set-max-notional : (v : ℤ) → changed (with_max_notional v (plain_account a).settings) (plain_account a) ≡ plain_changed (changed (with_max_notional v a.settings) a)
  plain-set-max-notional v = plain-changed (with_max_notional v a.settings) a

  pub plain-set-recording : (on : Bool) → changed (with_recording on (plain_account a).settings) (plain_account a) ≡ plain_changed (changed (with_recording on a.settings) a)
  plain-set-recording on = plain-changed (with_recording on a.settings) a

  pub plain-set-cash-first : (on : Bool) → changed (with_cash_first on (plain_account a).settings) (plain_account a) ≡ plain_changed (changed (with_cash_first on a.settings) a)
  plain-set-cash-first on = plain-changed (with_cash_first on a.settings) a

  -- the band is set as it is given, -0.0 too, so that only what is given otherwise leaves an account with plain zeros
  pub plain-set-band : (x : Float) → plain_zero x ≡ x → changed (with_band x (plain_account a).settings) (plain_account a) ≡ plain_changed (changed (with_band x a.settings) a)
  plain-set-band x e = ap (λ y. changed (with_band y (plain_account a).settings) (plain_account a)) (sym e) ∙ plain-changed (with_band x a.settings) a

-- every setter on accounts that are alike: one answer, and accounts that are alike
module _ (a b : Account) (e : Alike a b) where
  alike_settings : (x : Setter) → plain_settings (set_by x a.settings) ≡ plain_settings (set_by x b.settings)
  alike_settings (step k) = ap (λ (c : Account). with_step k c.settings) e
  alike_settings (minOrder v) = ap (λ (c : Account). with_min_order v c.settings) e
  alike_settings (maxOrder v) = ap (λ (c : Account). with_max_order v c.settings) e
  alike_settings (maxNotional v) = ap (λ (c : Account). with_max_notional v c.settings) e
  alike_settings (band x) = ap (λ (c : Account). with_band (plain_zero x) c.settings) e
  alike_settings (trade_cap k) = ap (λ (c : Account). with_trade_cap k c.settings) e
  alike_settings (recording on) = ap (λ (c : Account). with_recording on c.settings) e
  alike_settings (cash_first_of on) = ap (λ (c : Account). with_cash_first on c.settings) e

  pub alike_set : (x : Setter) → plain_changed (changed (set_by x a.settings) a) ≡ plain_changed (changed (set_by x b.settings) b)
  alike_set x = sym (plain-changed (set_by x a.settings) a) ∙ (λ i. changed (alike_settings x i) (e i)) ∙ plain-changed (set_by x b.settings) b
