-- The call, and the series written where it was done.
use mathlib.Core.Path.{◌≡◌, sym, ap, ◌∙◌}
use Rattle.table.specs.Rows.{cols}
use Rattle.account.specs.declared.account.Account.{Account}
use Rattle.account.specs.Inner.Account.{account_with}
use Rattle.list_bytes.specs.Lists.{symbols_in, prices_in}
use Rattle.list_bytes.proofs.Lists.{price_fronts}
use Rattle.portfolio.specs.Returns.{recorded}
use Rattle.portfolio.specs.Inner.Returns.{noted_by}
use Rattle.c_trades.specs.Asked.{account_in}
use Rattle.c_trades.specs.Returns.{return_told}
use Rattle.c_trades.proofs.Holding.{series-kept}
use Rattle.c_trades.proofs.recording.file_return.Goals as goal

-- what is lent of each column of the prices
pub slice_bounds-ss-end : goal.slice_bounds-ss-end
slice_bounds-ss-end c = (price_fronts _ _ _ c.prices_into-m.ensures).symbols-room

pub slice_bounds-return_on-end : goal.slice_bounds-return_on-end
slice_bounds-return_on-end c = sym (price_fronts _ _ _ c.prices_into-m.ensures).symbols-long

pub slice_bounds-ps-end : goal.slice_bounds-ps-end
slice_bounds-ps-end c = (price_fronts _ _ _ c.prices_into-m.ensures).values-room

pub slice_bounds-return_on-end-2 : goal.slice_bounds-return_on-end-2
slice_bounds-return_on-end-2 c = sym (price_fronts _ _ _ c.prices_into-m.ensures).values-long

pub returns : goal.returns
returns c =
    let s = c.args in
    let b = s.account.now in
    let l = s.prices.now in
    let d = s.columns.now in
    let n = c.return_on-c.new in
    let f = price_fronts _ _ _ c.prices_into-m.ensures in
    let made : noted_by c.return_on-c.result (account_with s.h d) n.equity n.returns ≡ recorded (account_in b) (symbols_in l) (prices_in l) s.equities.now s.returns.now =
    (simp (f.symbols c.requires.0, f.values c.requires.0) at c.return_on-c.ensures)
    ∙ ap (λ (a : Account). recorded a (symbols_in l) (prices_in l) s.equities.now s.returns.now) c.requires.1.same in
    simp (c.keep.ensures.0, c.keep.ensures.1) (series-kept b s.h d c.requires.1 c.return_on-c.result _ _ ∙ ap (λ o. return_told o b) made)
