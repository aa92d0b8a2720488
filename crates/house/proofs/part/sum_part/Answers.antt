-- An account goes into the part's sums and into its own total; the first change that is not in i64 ends the loop.
use Rattle.std.proofs.Common.{◌≡◌, ◌+◌, ◌*◌, ◌<◌, eqb, get_or, pos, ap, ◌∙◌, arith, w64, SFits, to_z, of_z, rules}
use mir.ValLaws.{to_z-of_z}
use Rattle.sums.specs.Wide.{value_of}
use Rattle.house.specs.Places.{group_in}
use Rattle.house.specs.declared.entry.Entry.{Entry}
use Rattle.house.proofs.Raised.{holds-low, in_yes}
use Rattle.house.proofs.Columns.{test_passed, test_failed}
use Rattle.house.proofs.Marks.{known_is}
use Rattle.house.proofs.Adding.{raised_of, total-next, adding_first, adding_on, change_out, all-totals, first-ended, gain-ended, first_out, gain-out, part_in}
use Rattle.house.proofs.part.sum_part.Goals as goal

pub loop-a-init : goal.loop-a-init
loop-a-init c = adding_first _ _ _ _ _ c.requires.sums_with_room.long c.start-first.ensures

pub returns-in_err-entry : goal.returns-in_err-entry
returns-in_err-entry c =
    let l = c.loop-a in
    let k = 2 * (c.args.p * c.args.n + l.a) in
    let f = get_or c.args.equities.now k (pos 0) in
    let g = get_or c.args.equities.now (k + 1) (pos 0) in
    let zf : to_z w64 (of_z w64 f) ≡ f = to_z-of_z w64 f (search rules) in
    let zg : to_z w64 (of_z w64 g) ≡ g = to_z-of_z w64 g (search rules) in
    rw c.from_residual.ensures
    (change_out c.args.n c.args.p (group_in c.args.n c.args.marks.now c.args.equities.now) l.a c.loop-a-test.true (test_failed _ _ (rw (zf, zg) at c.in_err-entry.ensures)))

pub plus-first-requires : goal.plus-first-requires
plus-first-requires c =
    let l = c.loop-a in
    holds-low _ _ l.a l.first (omega arith) l.auto.a-end l.invariant.first_holds

pub plus-gain-requires : goal.plus-gain-requires
plus-gain-requires c =
    let l = c.loop-a in
    holds-low _ _ l.a l.gain (omega arith) l.auto.a-end l.invariant.gain_holds

pub plus-requires : goal.plus-requires
unfolding value_of
plus-requires c =
    let l = c.loop-a in
    let b : l.a < 32 = omega arith in
    omega (arith, total-next _ _ _ l.a l.invariant.totals b, c.requires.sums_with_room.low l.a b)

pub loop-a-preserved : goal.loop-a-preserved
loop-a-preserved c =
    let l = c.loop-a in
    let k = 2 * (c.args.p * c.args.n + l.a) in
    let f = get_or c.args.equities.now k (pos 0) in
    let g = get_or c.args.equities.now (k + 1) (pos 0) in
    let gf : SFits w64 f = search rules in
    let gg : SFits w64 g = search rules in
    let zf : to_z w64 (of_z w64 f) ≡ f = to_z-of_z w64 f gf in
    let zg : to_z w64 (of_z w64 g) ≡ g = to_z-of_z w64 g gg in
    let e = test_passed _ _ _ (rw (zf, zg) at c.in_ok-entry.ensures) in
    let k = known_is f g gf gg (eqb (get_or c.args.marks.now k 0) 1) (eqb (get_or c.args.marks.now (k + 1) 0) 1) in
    adding_on _ _ _ _ l.totals l.first l.gain l.a _ _ _ _ _ (omega arith) l.invariant e.0 k.first
    (c.raise.ensures ∙ raised_of _ _ k.first (ap (λ (x : Entry). x.first) e.1)) (omega (arith, c.raise.type_inv))
    (c.raise-change.ensures ∙ raised_of _ _ (in_yes _ e.0) (ap (λ (x : Entry). x.change) e.1)) (omega (arith, c.raise-change.type_inv))
    c.plus-first.ensures c.plus-gain.ensures c.plus.ensures

pub returns-in_err-first : goal.returns-in_err-first
returns-in_err-first c =
    let l = c.loop-a in
    let e : l.a ≡ c.args.n = omega (arith, c.loop-a-test.false, l.auto.a-end) in
    let q = first-ended _ _ _ _ l.totals l.first l.gain l.a e l.invariant in
    rw c.from_residual-in_err-first.ensures
    (first_out _ _ _ _ l.totals l.first l.gain l.a e l.invariant (test_failed _ _ (c.in_err-first.ensures ∙ q)))

pub returns-in_err-gain : goal.returns-in_err-gain
returns-in_err-gain c =
    let l = c.loop-a in
    let e : l.a ≡ c.args.n = omega (arith, c.loop-a-test.false, l.auto.a-end) in
    let q = first-ended _ _ _ _ l.totals l.first l.gain l.a e l.invariant in
    let r = gain-ended _ _ _ _ l.totals l.first l.gain l.a e l.invariant in
    rw c.from_residual-in_err-gain.ensures
    (gain-out _ _ _ _ l.totals l.first l.gain l.a e l.invariant (test_passed _ _ _ (c.in_ok-first.ensures ∙ q)).0 (test_failed _ _ (c.in_err-gain.ensures ∙ r)))

pub returns : goal.returns
returns c =
    let l = c.loop-a in
    let e : l.a ≡ c.args.n = omega (arith, c.loop-a-test.false, l.auto.a-end) in
    let x = test_passed _ _ _ (c.in_ok-first.ensures ∙ first-ended _ _ _ _ l.totals l.first l.gain l.a e l.invariant) in
    let y = test_passed _ _ _ (c.in_ok-gain.ensures ∙ gain-ended _ _ _ _ l.totals l.first l.gain l.a e l.invariant) in
    record {
      fits = part_in _ _ _ _ l.totals l.first l.gain l.a e l.invariant x.0 y.0;
      first = ap (λ z. to_z w64 (of_z w64 z)) x.1 ∙ to_z-of_z w64 _ (in_yes _ x.0);
      gain = ap (λ z. to_z w64 (of_z w64 z)) y.1 ∙ to_z-of_z w64 _ (in_yes _ y.0);
      long = l.invariant.long;
      totals = all-totals _ _ _ _ l.totals l.first l.gain l.a e l.invariant;
    }
