-- Each column is opened at the same place by its own call.
use mathlib.Core.Path.{◌≡◌, ◌∙◌}
use mathlib.Core.List.{List}
use Prim.Native.Nat.{ℕ}
use lib.IntN.{ℤ}
use mir.Syntax.{w64}
use mir.Val.{SFits}
use mir.Facts.{to_z-of_z}
use Rattle.table.specs.Rows.{cols}
use Rattle.table.proofs.Opening.{opened_in}
use borrow.Author.Rules.{rules}
use Rattle.table.proofs.table.Columns.insert.Goals as goal

same-cols : {k k' : List ℕ} {q q' a a' g g' t t' : List ℤ} → k ≡ k' → q ≡ q' → a ≡ a' → g ≡ g' → t ≡ t' → cols k q a g t ≡ cols k' q' a' g' t'
same-cols ek eq ea eg et = rw (ek, eq, ea, eg, et)

pub returns : goal.returns
returns c =
    let fq : SFits w64 c.raw.result = search rules in
    let fa : SFits w64 c.args.p.avg_entry_price = search rules in
    let fg : SFits w64 c.args.p.realized_pnl = search rules in
    let ft : SFits w64 c.args.p.total_cost = search rules in
    let h = c.requires.1 in
    let g = c.requires.0 in
    same-cols
    (c.open.ensures ∙ opened_in _ _ _ _ h g)
    (simp (to_z-of_z fq ∙ c.raw.ensures) at c.open-2.ensures ∙ opened_in _ _ _ _ h g)
    (simp (to_z-of_z fa) at c.open-3.ensures ∙ opened_in _ _ _ _ h g)
    (simp (to_z-of_z fg) at c.open-4.ensures ∙ opened_in _ _ _ _ h g)
    (simp (to_z-of_z ft) at c.open-5.ensures ∙ opened_in _ _ _ _ h g)
