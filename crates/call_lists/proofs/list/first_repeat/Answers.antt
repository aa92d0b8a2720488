-- A list that ascends has no symbol twice. Otherwise: each symbol passed is new after those before it, so the first repeat is among those that are left.
use mathlib.Core.Path.{sym, ◌∙◌}
use native.Mathlib.Omega.{arith}
use Rattle.call_lists.specs.Lists.{first_repeat}
use Rattle.call_lists.proofs.Firsts.{repeats_at, new_at, ascending-none}
use Rattle.call_lists.proofs.Lists.{place_past, place_at}
use Rattle.call_lists.proofs.list.first_repeat.Goals as goal

pub returns-then-is_ascending : goal.returns-then-is_ascending
returns-then-is_ascending c =
    let l = c.args.symbols.now in
    let e = ascending-none l (sym c.is_ascending.ensures ∙ c.if-is_ascending.true) in
    place_past l (first_repeat l) (omega arith)

pub returns-then-is_among : goal.returns-then-is_among
returns-then-is_among c =
    let l = c.args.symbols.now in
    place_at l (first_repeat l) c.loop-i.i c.loop-i-test.true (repeats_at l c.loop-i.i c.loop-i.invariant c.loop-i-test.true (sym c.is_among.ensures ∙ c.if-is_among.true))

pub loop-i-preserved : goal.loop-i-preserved
loop-i-preserved c =
    new_at c.args.symbols.now c.loop-i.i c.loop-i.invariant c.loop-i-test.true (sym c.is_among.ensures ∙ c.if-is_among.false)
