-- The symbol, then the four numbers after it.
use mathlib.Core.Path.{ap, ◌∙◌}
use mir.Syntax.{w64}
use mir.Val.{SFits}
use mir.Facts.{to_z-of_z}
use borrow.Author.Rules.{rules}
use Rattle.std.proofs.lemmas.Result.{err_from_is_err_and}
use Rattle.position.specs.Rows.{shares}
use Rattle.loading.proofs.Entries as E
use Rattle.loading.proofs.entry.position_at.Goals as goal

pub returns-in_err-symbol : goal.returns-in_err-symbol
returns-in_err-symbol c =
    let p = err_from_is_err_and c.from_residual.result c.from_residual.ensures.1 in
    rw (p.1, p.2) (E.no_symbol _ _ _ _ c.in_err-symbol.ensures)

pub returns-in_err-next : goal.returns-in_err-next
returns-in_err-next c =
    let p = err_from_is_err_and c.from_residual-in_err-next.result c.from_residual-in_err-next.ensures.1 in
    rw (p.1, p.2) (E.no_numbers _ _ _ _ c.in_ok-symbol.ensures _ c.in_err-next.ensures.0)

pub returns : goal.returns
returns c =
    let fq : SFits w64 c.unfolded.result = search rules in
    let fa : SFits w64 c.unfolded-2.result = search rules in
    let fg : SFits w64 c.unfolded-3.result = search rules in
    let ft : SFits w64 c.unfolded-4.result = search rules in
    simp (to_z-of_z fa, to_z-of_z fg, to_z-of_z ft)
    (E.read _ _ _ _ c.in_ok-symbol.ensures _ _ c.in_ok-next.ensures.0 c.in_ok-next.ensures.1 _ _ _ _
    (c.from_raw.ensures ∙ ap shares (to_z-of_z fq ∙ c.unfolded.ensures)) c.unfolded-2.ensures c.unfolded-3.ensures c.unfolded-4.ensures)
