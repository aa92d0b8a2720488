-- A sound account whose file is the longest.
use mathlib.Core.Path.{◌≡◌, refl}
use Prim.Native.Nat.{ℕ, zero, suc, ◌+◌, ◌≤◌, ◌^◌}
use native.Mathlib.Omega.{arith}
use mathlib.Core.Bool.{true, false}
use mathlib.Core.List.{List, [], ◌∷◌}
use lib.IntN.{ℤ, pos}
use lib.ListN.{length}
use lib.Ieee.{Float, fin, to_bits, lt, eq, le, size, is_nan, fits}
use mir.Syntax.{w64}
use mir.Val.{SFits}
use Rattle.position.specs.declared.position.Position.{Position}
use Rattle.position.specs.Rows.{row}
use Rattle.position.specs.Symbols.{bytes_from, padded, good_symbol}
use Rattle.position.specs.Shares.{is_zero}
use Rattle.position.specs.Fills.{sound_numbers, sound}
use Rattle.sums.specs.Sums.{clamp64, value}
use Rattle.table.specs.Rows.{unused, ordered, zipped}
use Rattle.cost_model.specs.Costs.{model, with_ceiling, good_rate, good_ceiling, good_costs}
use Rattle.account.specs.declared.account.Account.{Account}
use Rattle.account.specs.declared.settings.TradeCap.TheVariants.{AtMost}
use Rattle.account.specs.Settings.{settings, of_costs, good_rules, good_settings}
use Rattle.account.specs.Calls.{series}
use Rattle.account.specs.Account.{sound_places, sound_columns, sound_scalars, sound_account, table_of}
use Rattle.seven_bit.specs.Groups.{write}
use Rattle.seven_bit.specs.Signed.{folded}
use Rattle.saved_form.specs.Fields.{head_fields, position_fields, follows, has_field}
use Rattle.saved_form.specs.Texts.{unpadded, symbol_file}
use Rattle.saved_form.specs.Values.{rate_pattern, setting_values, counter_values, head_values}
use Rattle.saved_form.specs.Writing.{field_file, fields_file, position_file, positions_file, file_of}
use Rattle.account_bytes.proofs.AccountKept.{KeptAccount}
use Rattle.saved_laws.specs.Statement.{longest}
use Rattle.saved_laws.proofs.Positions.{Kept}
use Rattle.saved_laws.proofs.Kept.{kept_table}

-- 2^63 - 1 cents, and 2^64 - 1
abbrev most : ℤ
most = pos 9223372036854775807

abbrev count : ℕ
count = 18446744073709551615

-- AAAAAAA! and those after it
abbrev symbols : ℕ → ℕ → List Position
symbols zero s = []
symbols (suc n) s = row s most most most most ∷ symbols n (suc s)

-- 2^8, in basis points
abbrev rate : Float
rate = fin false 1 (pos 8)

abbrev pub fullest : Account
fullest = record {
  cash = most;
  settings = settings (of_costs (with_ceiling most (model rate rate most))) most most most rate (AtMost count) most true true;
  counters = record { last_rebalance_order_count = count; last_rebalance_notional = most; trimmed_fill_count = count; trimmed_shortfall_cents = most; record_count = count };
  series = series count count most;
  positions = table_of (symbols 64 4702111234474983713);
}

pub fullest_length : length (file_of fullest) ≡ longest
unfolding file_of fields_file field_file head_fields position_fields has_field follows head_values setting_values counter_values rate_pattern to_bits size folded write positions_file position_file symbol_file unpadded bytes_from zipped table_of
fullest_length = refl

pub fullest_sound : sound_account fullest ≡ true
unfolding sound_account sound_scalars good_settings good_rules good_costs good_rate good_ceiling le lt eq is_zero sound_columns sound_places ordered unused table_of sound sound_numbers value clamp64 good_symbol bytes_from padded
fullest_sound = refl

-- its fields fit their widths
most-fits : SFits w64 most
most-fits = record { sfits = omega arith }

symbols-kept : (n s : ℕ) → s + n ≤ 2 ^ 64 → Kept (symbols n s)
symbols-kept zero s h = omega arith
symbols-kept (suc n) s h = (omega arith, (most-fits, (most-fits, (most-fits, (most-fits, omega arith)))), symbols-kept n (suc s) (omega arith))

pub fullest_kept : KeptAccount fullest
unfolding is_nan fits
fullest_kept = record {
  cash = most-fits;
  settings = record {
    rates = record { commission = refl; slippage = refl; band = refl };
    commission = tt;
    slippage = tt;
    floor = most-fits;
    ceiling = most-fits;
    step = most-fits;
    lowest = most-fits;
    highest = most-fits;
    band = tt;
    cap = omega arith;
    notional = most-fits;
  };
  counts = record {
    orders = omega arith;
    notional = most-fits;
    trimmed = omega arith;
    shortfall = most-fits;
    records = omega arith;
    equities = omega arith;
    returns = omega arith;
    previous = most-fits;
  };
  positions = kept_table (symbols 64 4702111234474983713) (omega arith) (symbols-kept 64 4702111234474983713 (omega arith));
}
