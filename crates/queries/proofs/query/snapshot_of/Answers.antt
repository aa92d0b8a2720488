-- The prices of the places, the sums at them, the equity, and the weights at that.
use mathlib.Core.Path.{ap}
use mir.Syntax.{w64}
use mir.Val.{SFits}
use mir.Facts.{to_z-of_z}
use borrow.Author.Rules.{rules}
use Rattle.table.specs.Rows.{columns_of}
use Rattle.call_lists.specs.Lists.{price_of}
use Rattle.account.proofs.Full.{account-full}
use Rattle.account.proofs.SoundAccounts.{account-ordered}
use Rattle.portfolio.specs.Answers.{is_done}
use Rattle.portfolio.proofs.Refusals.{query_done}
use Rattle.queries.proofs.Walks.{places-priced}
use Rattle.queries.proofs.Snapshots.{snapshot-made}
use Rattle.queries.proofs.query.snapshot_of.Goals as goal

pub prices_of-listed-requires : goal.prices_of-listed-requires
prices_of-listed-requires c =
    let a = c.args.a in
    let q = query_done a c.args.symbols.now c.args.prices.now (ap is_done c.requires) in
    ((account-ordered a q.sound (account-full a _ c.well_formed.0)).small, q.prices)

pub summed-sums-requires : goal.summed-sums-requires
summed-sums-requires c =
    let a = c.args.a in
    let q = query_done a c.args.symbols.now c.args.prices.now (ap is_done c.requires) in
    account-ordered a q.sound (account-full a _ c.well_formed.0)

pub weights_on-requires : goal.weights_on-requires
weights_on-requires c =
    let a = c.args.a in
    let q = query_done a c.args.symbols.now c.args.prices.now (ap is_done c.requires) in
    account-ordered a q.sound (account-full a _ c.well_formed.0)

pub returns : goal.returns
returns c =
    let a = c.args.a in
    let price = price_of c.args.symbols.now c.args.prices.now in
    let q = query_done a c.args.symbols.now c.args.prices.now (ap is_done c.requires) in
    let o = account-ordered a q.sound (account-full a _ c.well_formed.0) in
    let s = c.summed-sums.result in
    let g = c.saturating_add-equity.result in
    let fc : SFits w64 a.cash = search rules in
    let fs : SFits w64 s.worth = search rules in
    let fp : SFits w64 s.profit = search rules in
    let fe : SFits w64 g = search rules in
    let listed = places-priced price a.positions.count (columns_of a.positions) c.prices_of-listed.result o c.prices_of-listed.ensures in
    let e = simp (to_z-of_z fc, to_z-of_z fs) at c.saturating_add-equity.ensures in
    let w = simp (to_z-of_z fe) at c.weights_on.ensures in
    simp (to_z-of_z fc, to_z-of_z fe, to_z-of_z fp) (snapshot-made price a _ listed s c.summed-sums.ensures g e c.weights_on.result w)
