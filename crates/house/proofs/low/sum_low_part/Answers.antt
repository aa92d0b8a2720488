-- An account's two words go into the part's sums and its change into its own total.
use Rattle.std.proofs.Common.{◌≡◌, ◌+◌, ◌*◌, eqb, get_or, pos, refl, ap, ◌∙◌, arith, w64, SFits, of_z, rules}
use mir.ValLaws.{to_z-of_z}
use lib.Bits.{bit_or}
use Rattle.house.specs.Group.{first_of}
use Rattle.house.specs.Places.{group_in}
use Rattle.house.specs.Inner.Low.{last_of}
use Rattle.house.proofs.Marks.{ends, first_taken, last_taken, known_is}
use Rattle.house.proofs.LowAdding.{low_adding_first, low_adding_on, low_adding_last}
use Rattle.house.proofs.low.sum_low_part.Goals as goal

pub loop-a-init : goal.loop-a-init
loop-a-init c = low_adding_first _ _ c.requires.lo_len.0 c.requires.lo_len.1

pub loop-a-preserved : goal.loop-a-preserved
loop-a-preserved c =
    let l = c.loop-a in
    let k = 2 * (c.args.p * c.args.n + l.a) in
    let f = get_or c.args.equities.now k (pos 0) in
    let g = get_or c.args.equities.now (k + 1) (pos 0) in
    let gf : SFits w64 f = search rules in
    let gg : SFits w64 g = search rules in
    let there = c.present-there.ensures in
    let from = c.word_if.ensures in
    let to = c.word_if-in-loop-a.ensures in
    let e = c.low_entry-e.ensures in
    let a = eqb (get_or c.args.marks.now k 0) 1 in
    let d = eqb (get_or c.args.marks.now (k + 1) 0) 1 in
    let x : c.word_if.result ≡ of_z w64 (first_of (ends a d f g)) = from ∙ rw (there, to_z-of_z w64 f gf) (first_taken (of_z w64) f g a d) in
    let y : c.word_if-in-loop-a.result ≡ of_z w64 (last_of (ends a d f g)) = to ∙ rw (there, to_z-of_z w64 g gg) (last_taken (of_z w64) f g a d) in
    low_adding_on _ _ l.lo l.first l.gain l.spread l.a _ _ _ _ _ _ (omega arith) l.invariant (known_is f g gf gg a d)
    (e.0 ∙ x) (e.1 ∙ rw (x, y)) (ap (bit_or l.spread) (e.2 ∙ rw (x, y))) refl refl refl

pub returns : goal.returns
returns c =
    let l = c.loop-a in
    let e : l.a ≡ c.args.n = omega (arith, c.loop-a-test.false, l.auto.a-end) in
    low_adding_last _ _ (group_in c.args.n c.args.marks.now c.args.equities.now) _ l.lo l.first l.gain l.spread l.a e l.invariant
