-- The place of the loop is unpriced, or it is one that is passed.
use Prim.Native.Nat.{◌≤◌, ◌<◌}
use mathlib.Core.Path.{refl, sym, ◌∙◌}
use native.Mathlib.Omega.{arith}
use lib.IntN.{pos}
use lib.ListN.{length, get_or}
use mir.Syntax.{w64}
use mir.Val.{SFits}
use mir.Facts.{to_z-of_z}
use borrow.Author.Rules.{rules}
use Rattle.table.specs.Rows.{cols, rows}
use Rattle.account.proofs.Holdings.{place_holds}
use Rattle.account.proofs.Columns.{rows-length}
use Rattle.queries.proofs.Walks.{first_found, first_passed, first-end}
use Rattle.queries.proofs.unpriced.first_unpriced.Goals as goal

pub loop-i-init : goal.loop-i-init
loop-i-init c = λ listed e. refl

pub returns-then-is_unpriced : goal.returns-then-is_unpriced
returns-then-is_unpriced c =
    let x = c.args in
    let l = c.loop-i in
    let t = x.columns.now in
    let ps = rows x.n t in
    let k : l.i < length ps = omega (arith, rows-length t c.requires.full x.n c.requires.small) in
    let p = c.held-p.ensures ∙ place_holds x.n l.i t c.requires (omega arith) in
    let f : SFits w64 (get_or x.price.now l.i (pos 0)) = search rules in
    let u = sym (simp (to_z-of_z f) at c.is_unpriced.ensures) ∙ c.if-is_unpriced.true in
    record { settled = λ listed e. sym (sym (l.invariant listed e) ∙ first_found ps x.price.now l.i k c.held-p.result p listed e u) }

pub loop-i-preserved : goal.loop-i-preserved
loop-i-preserved c =
    let x = c.args in
    let l = c.loop-i in
    let t = x.columns.now in
    let ps = rows x.n t in
    let k : l.i < length ps = omega (arith, rows-length t c.requires.full x.n c.requires.small) in
    let p = c.held-p.ensures ∙ place_holds x.n l.i t c.requires (omega arith) in
    let f : SFits w64 (get_or x.price.now l.i (pos 0)) = search rules in
    let u = sym (simp (to_z-of_z f) at c.is_unpriced.ensures) ∙ c.if-is_unpriced.false in
    λ listed e. first_passed ps x.price.now l.i k c.held-p.result p listed e u ∙ l.invariant listed e

pub returns : goal.returns
returns c =
    let x = c.args in
    let l = c.loop-i in
    let t = x.columns.now in
    let ps = rows x.n t in
    let k : length ps ≤ l.i = omega (arith, rows-length t c.requires.full x.n c.requires.small) in
    record { settled = λ listed e. sym (first-end ps l.i k listed) ∙ l.invariant listed e }
