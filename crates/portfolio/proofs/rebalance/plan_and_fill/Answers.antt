-- The plan stands in columns of 64 places, and running them is the rebalance.
use mathlib.Core.Path.{refl, ap, ◌∙◌}
use lib.IntN.{pos}
use lib.Ieee.{binary64, of_bits}
use lib.ListN.{length, replicate}
use mir.Facts.{to_z-of_z}
use mir.Syntax.{w64}
use mir.Val.{SFits}
use borrow.Author.Rules.{rules}
use Rattle.table.specs.Rows.{cols}
use Rattle.call_lists.specs.Lists.{price_of}
use Rattle.account.specs.Inner.Account.{account_with}
use Rattle.admission.specs.Inner.Columns.{PlanCols, plan_cols, FullPlan}
use Rattle.portfolio.specs.Rebalance.{admitted_plan}
use Rattle.portfolio.specs.Answers.{record_places}
use Rattle.portfolio.specs.Trades.{filed}
use Rattle.portfolio.specs.Inner.Trades.{Fillable}
use Rattle.portfolio.proofs.Plans.{account_stands, room_for, run_rebalances}
use Rattle.portfolio.proofs.rebalance.plan_and_fill.Goals as goal

-- the columns before they are planned into
abbrev blank : PlanCols
blank = plan_cols (replicate 64 0) (replicate 64 (pos 0)) (replicate 64 (pos 0)) (replicate 64 (of_bits binary64 0))

blank-full : FullPlan blank
blank-full = record { symbol = refl; quantity = refl; price = refl; drift = refl }

pub returns : goal.returns
returns c =
    let x = c.args in
    let a = account_with x.h x.columns.now in
    let n = c.plan_on-p.new in
    let d = plan_cols n.symbol n.quantity n.price n.drift in
    let p = c.plan_on-p.result in
    let plan = admitted_plan a x.targets.now x.weights.now (price_of x.symbols.now x.prices.now) in
    let fc : SFits w64 x.h.cash = search rules in
    let fn : SFits w64 p.notional = search rules in
    λ y.
    let h = account_stands a _ _ _ _ _ y blank d p blank-full (simp (to_z-of_z fc) at c.plan_on-p.ensures) in
    let f : Fillable a p.count (record_places (length x.words.now) (length x.ints.now)) n.symbol n.quantity n.price = record {
      sound = y.sound;
      roomy = room_for _ _ _ h.few y.roomy;
      full = y.full;
      symbols = h.full.symbol;
      quantities = h.full.quantity;
      prices = h.full.price;
    } in
    (simp (to_z-of_z fn) at (c.run.ensures f))
    ∙ ap (λ o. filed o x.words.now x.ints.now) (run_rebalances a plan d p h x.period x.kind)
