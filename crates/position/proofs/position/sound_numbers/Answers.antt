-- Of a flat position the two numbers are compared as bits.
use Rattle.std.proofs.Common.{sym, ◌∙◌}
use borrow.Author.Tests.{eq-eqb, ne_eqb}
use Rattle.position.specs.Fills.{sound_numbers}
use Rattle.position.proofs.Counts.{zero_bits}
use Rattle.position.proofs.position.sound_numbers.Goals as goal

pub returns-then-average-eq0 : goal.returns-then-average-eq0
unfolding sound_numbers
returns-then-average-eq0 c =
    let t = sym c.is_zero.ensures ∙ c.if-is_zero.true in
    let a = sym (zero_bits c.args.average c.ranges.average) ∙ eq-eqb _ 0 c.if-average-eq0.true in
    rw (t, a) (zero_bits c.args.total c.ranges.total)

pub returns-else-average-eq0 : goal.returns-else-average-eq0
unfolding sound_numbers
returns-else-average-eq0 c =
    let t = sym c.is_zero.ensures ∙ c.if-is_zero.true in
    let a = sym (zero_bits c.args.average c.ranges.average) ∙ ne_eqb _ 0 c.if-average-eq0.false in
    rw (t, a) (ne_eqb _ 0 c.if-average-eq0.false)
