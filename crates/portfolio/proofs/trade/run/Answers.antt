-- The run on the columns, put together.
use mathlib.Core.Path.{sym, ap, subst, ◌∙◌}
use mir.Facts.{to_z-of_z}
use Rattle.table.specs.Rows.{cols}
use Rattle.table.specs.Inner.Rows.{Ordered}
use Rattle.fills.specs.declared.terms.Book.{Book}
use Rattle.fills.specs.declared.terms.Terms.{Terms}
use Rattle.fills.specs.Records.{buffers}
use Rattle.fills.specs.Inner.Runs.{orders, Runs}
use Rattle.account.specs.Inner.Account.{account_with}
use Rattle.account.proofs.SoundAccounts.{account-ordered}
use Rattle.portfolio.specs.Inner.Trades.{book_of_ledger}
use Rattle.portfolio.proofs.Trading.{orders-most, filing, run-filed}
use Rattle.portfolio.proofs.trade.run.Goals as goal

pub returns : goal.returns
returns c =
    let x = c.args in
    let k = x.columns.now in
    let os = orders x.m x.os.now x.oq.now x.op.now in
    let r = c.fill_all-b.result in
    let n = c.fill_all-b.new in
    let d = n.columns in
    let bs = buffers n.words n.ints r.written in
    let p = simp (to_z-of_z c.ranges.notional) at c.put_together.ensures in
    λ f.
    let g = c.fill_all-b.ensures (record {
      ordered = subst (λ (b : Book). Ordered b.count k) (sym c.book_of.ensures) (account-ordered (account_with x.h k) f.sound f.full);
      symbols = f.symbols;
      quantities = f.quantities;
      prices = f.prices;
    }) in
    let runs = subst (λ (t : Terms). Runs t os (book_of_ledger x.h) k (buffers x.words.now x.ints.now 0) r d bs) c.terms_of-t.ensures
    (subst (λ (b : Book). Runs c.terms_of-t.result os b k (buffers x.words.now x.ints.now b.written) r d bs) c.book_of.ensures g) in
    ap (λ l. filing (account_with l d) bs) p
    ∙ run-filed x.h k os x.period x.kind x.words.now x.ints.now r d n.words n.ints
    x.m (orders-most x.m x.os.now x.oq.now x.op.now) f.roomy runs x.order_count x.notional
