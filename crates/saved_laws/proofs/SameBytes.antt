-- Sound accounts that are equal, zeros' signs apart, have one file, and accounts that have one file are equal, zeros' signs apart.
use mathlib.Core.Path.{◌≡◌, refl, sym, ◌∙◌, ap}
use mathlib.Core.Bool.{true, false}
use mathlib.Core.Logic.{◌↔◌}
use mathlib.Core.List.{List, ◌++◌}
use Prim.Native.Nat.{ℕ}
use borrow.Author.Tests.{not-true}
use lib.Dec.{T, eqb}
use lib.Ieee.{Float, binary64, fits}
use Rattle.account.specs.declared.account.Account.{Account}
use Rattle.account.specs.Account.{held_in, sound_account}
use Rattle.account_bytes.specs.Settings.{costs_of}
use Rattle.account_bytes.proofs.AccountKept.{KeptAccount}
use Rattle.word_bytes.specs.Numbers.{pattern_of}
use Rattle.seven_bit.specs.Groups.{groups}
use Rattle.saved_form.specs.Fields.{newest, head_fields, negative_zero, allowed}
use Rattle.saved_form.specs.Values.{scalars_of, rate_pattern, setting_values, counter_values, head_values}
use Rattle.saved_form.specs.Writing.{fields_file, positions_file, file_of}
use Rattle.loading.specs.Loading.{file_account}
use Rattle.zero_laws.specs.Zeros.{plain_zero, plain_account}
use Rattle.zero_laws.proofs.Patterns.{plain_pattern}
use Rattle.saved_laws.proofs.Values.{rate_allowed}
use Rattle.saved_laws.proofs.ReadsBack.{file_account_lem}

plain_rate_lem : (x : Float) → T (fits binary64 x) → rate_pattern (plain_zero x) ≡ rate_pattern x
unfolding rate_pattern allowed
plain_rate_lem x f =
    let p : pattern_of (plain_zero x) ≡ rate_pattern x = plain_pattern x f in
    let n : eqb (rate_pattern x) negative_zero ≡ false = not-true (eqb (rate_pattern x) negative_zero) (rate_allowed x) in
    rw p (rw n refl)

plain-values : (a : Account) → KeptAccount a → head_values (scalars_of (plain_account a)) ≡ head_values (scalars_of a)
unfolding head_values setting_values counter_values
plain-values a k =
    simp (
      plain_rate_lem (costs_of a.settings).commission_bps k.settings.commission,
      plain_rate_lem (costs_of a.settings).slippage_bps k.settings.slippage,
      plain_rate_lem a.settings.no_trade_band_bps k.settings.band,
    )

-- "Floating zero settings are written with positive sign."
pub plain_file : (a : Account) → KeptAccount a → file_of (plain_account a) ≡ file_of a
unfolding file_of
plain_file a k = ap (λ (vs : List ℕ). groups newest ++ (fields_file newest head_fields 0 vs ++ positions_file (held_in a.positions))) (plain-values a k)

module _ (a b : Account) (j : KeptAccount a) (k : KeptAccount b) where
  -- "equal accounts (zeros' signs apart) give equal bytes"
  pub alike_bytes : plain_account a ≡ plain_account b → file_of a ≡ file_of b
  alike_bytes e = sym (plain_file a j) ∙ ap file_of e ∙ plain_file b k

  module _ (d : sound_account a ≡ true) (e : sound_account b ≡ true) where
    pub bytes_alike : file_of a ≡ file_of b → plain_account a ≡ plain_account b
    bytes_alike q = sym (file_account_lem a d j) ∙ ap file_account q ∙ file_account_lem b e k

    pub same_bytes : (file_of a ≡ file_of b) ↔ (plain_account a ≡ plain_account b)
    same_bytes = (bytes_alike, alike_bytes)
