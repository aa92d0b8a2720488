-- Each word from its own field.
use mir.Syntax.{w64}
use mir.Val.{SFits}
use Rattle.account_bytes.specs.Settings.{costs_of, settings_words}
use Rattle.account_bytes.proofs.Runs.{stored}
use borrow.Author.Rules.{rules}
use Rattle.account_bytes.proofs.setting_words.settings_words.Goals as goal

pub returns : goal.returns
unfolding settings_words
returns c =
    let s = c.args.s in
    let floor : SFits w64 (costs_of s).min_commission = search rules in
    let step : SFits w64 s.quantity_step = search rules in
    let lowest : SFits w64 s.min_order_value = search rules in
    let highest : SFits w64 s.max_order_value = search rules in
    let notional : SFits w64 s.max_rebalance_notional = search rules in
    let ceiling : SFits w64 (costs_of s).max_commission = search rules in
    simp (
      c.pattern.ensures,
      c.pattern-2.ensures,
      stored floor c.unsigned.ensures,
      stored step c.unsigned-2.ensures,
      stored lowest c.unsigned-3.ensures,
      stored highest c.unsigned-4.ensures,
      c.pattern-3.ensures,
      c.cap_mark.ensures,
      c.cap_count.ensures,
      stored notional c.unsigned-5.ensures,
      c.flag_word.ensures,
      c.flag_word-2.ensures,
      stored ceiling c.unsigned-6.ensures,
    )
