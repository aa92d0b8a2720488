-- The position entered into an empty table, the fill on it, and the position found after it.
use mir.Syntax.{w64}
use mir.Val.{SFits}
use mir.Facts.{to_z-of_z}
use borrow.Author.Rules.{rules}
use Rattle.table.specs.Rows.{cols}
use Rattle.table.specs.declared.table.Columns.{Columns}
use Rattle.table.specs.Inner.Rows.{Ordered}
use Rattle.fills.specs.Inner.Runs.{Fills}
use Rattle.c_fill.specs.Single.{asked_terms, asked_order}
use Rattle.c_fill.proofs.Alone.{entered-holds, with_count, filled_seen}
use Rattle.c_fill.proofs.fill_alone.Goals as goal

pub returns : goal.returns
returns c =
    let x = c.args in
    let l = c.enter-count.new in
    let m = c.fill_one-filled.new in
    let before : Columns = l.columns in
    let after : Columns = m.columns in
    let cash : SFits w64 x.b.cash = search rules in
    let shortfall : SFits w64 x.b.shortfall = search rules in
    let quantity : SFits w64 x.a.quantity = search rules in
    let price : SFits w64 x.a.price = search rules in
    let fills : (Ordered c.enter-count.result before → Fills (asked_terms x.a) (asked_order x.a) (with_count c.enter-count.result x.b) before c.fill_one-filled.result after) =
    simp (to_z-of_z cash, to_z-of_z shortfall, to_z-of_z quantity, to_z-of_z price, c.from_raw.ensures, c.terms_of.ensures) at c.fill_one-filled.ensures
    in
    filled_seen x.a x.b x.p c.enter-count.result before after c.fill_one-filled.result (entered-holds _ _ (rw c.empty-columns.ensures at c.enter-count.ensures)) fills
    c.find-f.result c.held-position.result c.find-f.ensures c.held-position.ensures
