-- The worth of the account's columns.
use mathlib.Core.Path.{◌∙◌, ap}
use mir.Facts.{to_z-of_z}
use mir.Syntax.{w64}
use mir.Val.{SFits}
use borrow.Author.Rules.{rules}
use Rattle.account.proofs.Full.{account-full}
use Rattle.portfolio.specs.Answers.{is_done}
use Rattle.portfolio.proofs.Refusals.{query_done}
use Rattle.portfolio.proofs.Worths.{equity_of_places}
use Rattle.portfolio.proofs.equity.equity_of.Goals as goal

pub equity_on-requires : goal.equity_on-requires
equity_on-requires c = (query_done c.args.a c.args.symbols.now c.args.prices.now (ap is_done c.requires)).prices

pub returns : goal.returns
returns c =
    let q = query_done c.args.a c.args.symbols.now c.args.prices.now (ap is_done c.requires) in
    let fc : SFits w64 c.args.a.cash = search rules in
    let fr : SFits w64 c.equity_on.result = search rules in
    let e = simp (to_z-of_z fc) at c.equity_on.ensures in
    simp (to_z-of_z fr) (e ∙ equity_of_places _ c.args.a q.sound (account-full c.args.a _ c.well_formed.0))
