-- Every query, on accounts that differ in the sign of a zero setting alone.
use Prim.Native.Nat.{ℕ}
use mathlib.Core.Path.{◌≡◌, refl, sym, ap, ◌∙◌}
use mathlib.Core.Bool.{Bool, true, false}
use mathlib.Core.List.{List}
use lib.IntN.{ℤ}
use lib.Ieee.{Float}
use Rattle.cost_model.specs.declared.CostModel.{CostModel}
use Rattle.account.specs.declared.account.Account.{Account}
use Rattle.account.specs.Account.{sound_account}
use Rattle.account.specs.Calls.{told, told_cents, told_step, told_count, told_rate, told_flag, told_cap, told_costs, position_of, position_at_of}
use Rattle.portfolio.specs.Queries.{told_equity}
use Rattle.queries.specs.Answers.{snapshot_of, told_snapshot, weights_now, told_weights, told_unpriced}
use Rattle.zero_laws.specs.Zeros.{plain_zero, plain_costs, plain_account, Alike}
use Rattle.zero_laws.specs.Calls.{plain_rate, plain_told}
use Rattle.zero_laws.specs.Told.{SameTold}
use Rattle.zero_laws.proofs.Sound.{plain-sound, plain_query_answer}
use Rattle.zero_laws.proofs.Changes.{read_back_alike}

-- ---- of an account that is read back
module _ (a : Account) where
  plain-position : (s : ℕ) → position_of s (plain_account a) ≡ position_of s a
  unfolding position_of
  plain-position s = rw (plain-sound a)

  plain-position_at : (i : ℕ) → position_at_of i (plain_account a) ≡ position_at_of i a
  unfolding position_at_of
  plain-position_at i = rw (plain-sound a)

  plain-equity : (ps : List ℕ) (vs : List ℤ) → told_equity (plain_account a) ps vs ≡ told_equity a ps vs
  unfolding told_equity
  plain-equity ps vs = rw (plain_query_answer a ps vs)

  plain-snapshot : (ps : List ℕ) (vs : List ℤ) → told_snapshot (plain_account a) ps vs ≡ told_snapshot a ps vs
  unfolding told_snapshot snapshot_of
  plain-snapshot ps vs = rw (plain_query_answer a ps vs)

  plain-weights : (ps : List ℕ) (vs : List ℤ) → told_weights (plain_account a) ps vs ≡ told_weights a ps vs
  unfolding told_weights weights_now
  plain-weights ps vs = rw (plain_query_answer a ps vs)

  plain-unpriced : (ps : List ℕ) (vs : List ℤ) → told_unpriced (plain_account a) ps vs ≡ told_unpriced a ps vs
  unfolding told_unpriced
  plain-unpriced ps vs = rw (plain_query_answer a ps vs)

-- the two that tell a rate
plain_rate_told : (sound : Bool) (x : Float) → told_rate sound (plain_zero x) ≡ plain_rate (told_rate sound x)
unfolding told plain_zero
plain_rate_told true x = refl
plain_rate_told false x = refl

plain-costs-told : (sound : Bool) (m : CostModel) → told_costs sound (plain_costs m) ≡ plain_told (told_costs sound m)
unfolding told plain_zero
plain-costs-told true m = refl
plain-costs-told false m = refl

-- ---- of two that are read back as one
module _ (a b : Account) (e : Alike a b) where
  through : {A : Type 0} (f : Account → A) → ((a : Account) → f (plain_account a) ≡ f a) → f a ≡ f b
  through f h = sym (h a) ∙ ap f e ∙ h b

  same-sound : sound_account a ≡ sound_account b
  same-sound = through sound_account plain-sound

  -- a figure of the account that is read back
  same_figure : {A B : Type 0} (f : Bool → A → B) (figure : Account → A) → f (sound_account a) (figure (plain_account a)) ≡ f (sound_account b) (figure (plain_account b))
  same_figure f figure = λ i. f (same-sound i) (figure (e i))

  pub same-told : SameTold a b
  same-told = record {
    sound = same-sound;
    cash = same_figure told_cents (λ c. c.cash);
    step = same_figure told_step (λ c. c.settings.quantity_step);
    min-order = same_figure told_cents (λ c. c.settings.min_order_value);
    max-order = same_figure told_cents (λ c. c.settings.max_order_value);
    trade_cap_lem = same_figure told_cap (λ c. c.settings.max_trades_per_rebalance);
    max-notional = same_figure told_cents (λ c. c.settings.max_rebalance_notional);
    recording = same_figure told_flag (λ c. c.settings.recording);
    cash-first = same_figure told_flag (λ c. c.settings.cash_first);
    band = sym (plain_rate_told (sound_account a) _) ∙ same_figure told_rate (λ c. c.settings.no_trade_band_bps) ∙ plain_rate_told (sound_account b) _;
    costs = sym (plain-costs-told (sound_account a) _) ∙ same_figure told_costs (λ c. c.settings.rules.cost_model) ∙ plain-costs-told (sound_account b) _;
    order-count = same_figure told_count (λ c. c.counters.last_rebalance_order_count);
    last-notional = same_figure told_cents (λ c. c.counters.last_rebalance_notional);
    trimmed = same_figure told_count (λ c. c.counters.trimmed_fill_count);
    shortfall = same_figure told_cents (λ c. c.counters.trimmed_shortfall_cents);
    record_count_lem = same_figure told_count (λ c. c.counters.record_count);
    equity-count = same_figure told_count (λ c. c.series.equity_count);
    return-count = same_figure told_count (λ c. c.series.return_count);
    previous_equity = same_figure told_cents (λ c. c.series.prev_equity);
    position-count = same_figure told_count (λ c. c.positions.count);
    position = λ s. through (position_of s) (λ x. plain-position x s);
    position_at = λ i. through (position_at_of i) (λ x. plain-position_at x i);
    equity = λ ps vs. through (λ x. told_equity x ps vs) (λ x. plain-equity x ps vs);
    snapshot = λ ps vs. through (λ x. told_snapshot x ps vs) (λ x. plain-snapshot x ps vs);
    weights = λ ps vs. through (λ x. told_weights x ps vs) (λ x. plain-weights x ps vs);
    unpriced = λ ps vs. through (λ x. told_unpriced x ps vs) (λ x. plain-unpriced x ps vs);
  }

pub read_back_tells_same : (a : Account) → SameTold (plain_account a) a
read_back_tells_same a = same-told (plain_account a) a (read_back_alike a)
