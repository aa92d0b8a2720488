-- A refusal leaves all as it was; else the equity and the return go to the account's counts.
use Prim.Native.Nat.{◌<◌}
use mathlib.Core.Path.{◌∙◌, ap}
use mathlib.Core.List.{List}
use mir.Syntax.{w64}
use mir.Val.{SFits}
use mir.Facts.{to_z-of_z}
use borrow.Author.Rules.{rules}
use lib.IntN.{ℤ}
use lib.Ieee.{Float}
use lib.ListN.{length, set}
use Rattle.answer.specs.declared.Answer.{Answer}
use Rattle.answer.specs.declared.Answer.TheVariants.{Done}
use Rattle.account.specs.declared.account.Account.{Account}
use Rattle.account.specs.declared.account.Series.{Series}
use Rattle.account.specs.Account.{with_series}
use Rattle.account.specs.Inner.Account.{account_with}
use Rattle.call_lists.specs.Lists.{price_of}
use Rattle.table.specs.Keyed.{pick}
use Rattle.table.specs.Rows.{Full, cols}
use Rattle.portfolio.specs.Answers.{is_done}
use Rattle.portfolio.specs.Returns.{Recorded, recorded, return_of, is_due, next_series}
use Rattle.portfolio.proofs.Refusals.{full, no_error, return-done, query_done}
use Rattle.portfolio.proofs.Worths.{equity_of_places}
use Rattle.portfolio.proofs.returns.return_on.Goals as goal

abbrev made : Account → List ℤ → Answer → Series → ℤ → List Float → Recorded
made a equities w x e l = record { answer = w; account = with_series x a; equities = set equities a.series.equity_count e; returns = l }

pub equity_on-worth-requires : goal.equity_on-worth-requires
equity_on-worth-requires c = (query_done _ _ _ (ap is_done (return-done _ _ _ _ _ (no_error _ c.in_default.ensures)).query)).prices

pub offset_bounds-equity-s : goal.offset_bounds-equity-s
offset_bounds-equity-s c =
    let h : c.args.h.series.equity_count < length c.args.equity.now = (return-done _ _ _ _ _ (no_error _ c.in_default.ensures)).equities in
    search rules

pub bounds-equity-s : goal.bounds-equity-s
bounds-equity-s c =
    let h : c.args.h.series.equity_count < length c.args.equity.now = (return-done _ _ _ _ _ (no_error _ c.in_default.ensures)).equities in
    search rules

pub write_return-requires : goal.write_return-requires
write_return-requires c = (return-done _ _ _ _ _ (no_error _ c.in_default.ensures)).returns

pub next_series-requires : goal.next_series-requires
next_series-requires c =
    let r = return-done _ _ _ _ _ (no_error _ c.in_default.ensures) in
    (r.equities, r.returns)

pub returns : goal.returns
unfolding recorded
returns c =
    let x = c.args in
    let a = account_with x.h x.columns.now in
    let s = x.h.series in
    let d = no_error _ c.in_default.ensures in
    let y = query_done a x.symbols.now x.prices.now (ap is_done (return-done _ _ _ _ _ d).query) in
    let v = c.equity_on-worth.result in
    let fc : SFits w64 x.h.cash = search rules in
    let fv : SFits w64 v = search rules in
    let n = simp (to_z-of_z fv) at c.next_series.ensures in
    let l = simp (to_z-of_z fv) at c.write_return.ensures in
    let e = (simp (to_z-of_z fc) at c.equity_on-worth.ensures) ∙ equity_of_places (price_of x.symbols.now x.prices.now) a y.sound (full c.told-columns.0 c.told-columns.1 c.told-columns.2 c.told-columns.3 c.told-columns.4) in
    rw d
    (simp (to_z-of_z fv)
    (ap (λ k. made a x.equity.now Done k v c.write_return.new.returns) n
    ∙ ap (made a x.equity.now Done (next_series s v) v) l
    ∙ ap (λ k. made a x.equity.now Done (next_series s k) k (pick (is_due s) (set x.returns.now s.return_count (return_of s.prev_equity k)) x.returns.now)) e))
