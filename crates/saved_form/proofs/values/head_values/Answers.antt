-- Each number from its own field.
use mir.Syntax.{w64}
use mir.Val.{SFits}
use Rattle.account.specs.declared.account.Ledger.{Ledger}
use Rattle.account_bytes.specs.Settings.{costs_of}
use Rattle.saved_form.specs.Values.{head_values, setting_values, counter_values}
use Rattle.saved_form.proofs.Signed.{folds}
use borrow.Author.Rules.{rules}
use Rattle.saved_form.proofs.values.head_values.Goals as goal

-- every signed field fits its 64 bits
record SignedFit (h : Ledger) : Type 0 where
  cash : SFits w64 h.cash
  floor : SFits w64 (costs_of h.settings).min_commission
  lowest : SFits w64 h.settings.min_order_value
  highest : SFits w64 h.settings.max_order_value
  notional : SFits w64 h.settings.max_rebalance_notional
  step : SFits w64 h.settings.quantity_step
  ceiling : SFits w64 (costs_of h.settings).max_commission
  last : SFits w64 h.counters.last_rebalance_notional
  shortfall : SFits w64 h.counters.trimmed_shortfall_cents
  equity : SFits w64 h.series.prev_equity

pub returns : goal.returns
unfolding head_values setting_values counter_values
returns c =
    let f : SignedFit c.args.h = search rules in
    simp (
      folds f.cash c.folded.ensures,
      folds f.floor c.folded-2.ensures,
      folds f.lowest c.folded-3.ensures,
      folds f.highest c.folded-4.ensures,
      folds f.notional c.folded-5.ensures,
      folds f.step c.folded-6.ensures,
      c.rate_pattern.ensures,
      c.rate_pattern-2.ensures,
      c.rate_pattern-3.ensures,
      c.cap_mark.ensures,
      c.cap_count.ensures,
      folds f.ceiling c.folded-7.ensures,
      c.flag_word.ensures,
      c.flag_word-2.ensures,
      folds f.last c.folded-8.ensures,
      folds f.shortfall c.folded-9.ensures,
      folds f.equity c.folded-10.ensures,
    )
