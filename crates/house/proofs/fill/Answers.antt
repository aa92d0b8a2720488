-- The sums that are there give the report or its refusal.
use Rattle.std.proofs.Common.{◌≡◌, sym, ◌∙◌, w64, rules}
use Rattle.std.proofs.lemmas.Option.{MatchOption-at_none, MatchOption-at_some}
use mir.ValLaws.{to_z-of_z}
use Rattle.answer.specs.declared.Answer.TheVariants.{OutOfRange, NoFirstSum}
use Rattle.house.specs.Places.{group_in}
use Rattle.house.specs.House.{refusal, house_of_group}
use Rattle.house.proofs.Reporting.{emptied, out_of_range, group_out, no_first-sum, report_is}
use Rattle.house.proofs.fill.Goals as goal

pub sum_parts-requires-clause-empty : goal.sum_parts-requires-clause-empty
sum_parts-requires-clause-empty c =
    let h = emptied _ c.requires.empty in
    (h.firsts, h.gains, h.changes)

pub returns-in_err-ok_or : goal.returns-in_err-ok_or
returns-in_err-ok_or c =
    let w = MatchOption-at_none _ _ c.in_err-ok_or.ensures.ok_part c.sum_parts.ensures in
    let e : refusal OutOfRange ≡ house_of_group c.args.n c.args.m (group_in c.args.n c.args.marks.now c.args.equities.now) = out_of_range _ _ _ w in
    search (rules, e)

pub returns-in_err-house : goal.returns-in_err-house
returns-in_err-house c =
    let s = MatchOption-at_some _ _ _ c.in_ok-ok_or.ensures.ok_part c.sum_parts.ensures in
    let e : refusal OutOfRange ≡ house_of_group c.args.n c.args.m (group_in c.args.n c.args.marks.now c.args.equities.now) =
    group_out _ _ _ c.requires.sizes.1 _ _ _ s (sym c.in_err-house.ensures.ok_part ∙ c.sum_group.ensures) in
    search (rules, e)

pub grow-requires-clause-empty : goal.grow-requires-clause-empty
grow-requires-clause-empty c = (emptied _ c.requires.empty).growths

pub returns-in_err-house-2 : goal.returns-in_err-house-2
returns-in_err-house-2 c =
    let s = MatchOption-at_some _ _ _ c.in_ok-ok_or.ensures.ok_part c.sum_parts.ensures in
    let w = MatchOption-at_none _ _ c.in_err-house-2.ensures.ok_part c.grow.ensures in
    let e : refusal NoFirstSum ≡ house_of_group c.args.n c.args.m (group_in c.args.n c.args.marks.now c.args.equities.now) =
    no_first-sum _ _ _ c.requires.sizes.1 _ _ _ s _ (sym c.in_ok-house.ensures.ok_part ∙ c.sum_group.ensures) w in
    search (rules, e)

pub returns : goal.returns
returns c =
    let h = emptied _ c.requires.empty in
    let s = MatchOption-at_some _ _ _ c.in_ok-ok_or.ensures.ok_part c.sum_parts.ensures in
    let w = MatchOption-at_some _ _ _ c.in_ok-house-2.ensures.ok_part c.grow.ensures in
    let z = to_z-of_z w64 c.in_ok-house.field-0 (search rules) in
    rw (z, h.answer) (report_is _ _ _ c.requires.sizes.1 _ _ _ s _ (sym c.in_ok-house.ensures.ok_part ∙ c.sum_group.ensures) _ _ w)
