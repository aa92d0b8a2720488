-- "one account alone in one part gives its own return as `record_return` gives it"
use mathlib.Core.Path.{◌≡◌, refl, sym, ap, ◌∙◌}
use mathlib.Core.Bool.{true}
use mathlib.Core.List.{[], ◌∷◌}
use native.Mathlib.Omega.{arith}
use lib.IntN.{ℤ, pos, ◌-ℤ◌, +ℤ_idl}
use lib.Signed.{lt_z}
use mir.Syntax.{w64}
use mir.Val.{SFits}
use Rattle.answer.specs.declared.Answer.TheVariants.{Done}
use Rattle.sums.proofs.Ints.{sat_sub_exact}
use lib.ListN.{get_or}
use Rattle.metrics.specs.Double.{zero}
use Rattle.metrics.specs.Series.{total_return_of}
use Rattle.portfolio.specs.Returns.{return_of}
use Rattle.house.specs.declared.House.{House}
use Rattle.house.specs.Group.{given, Group, first_of, change_of, sum_to, every, first_sum, summed_change, growth, figure, in_i64}
use Rattle.house.specs.Places.{each, group_in}
use Rattle.house.specs.House.{group_answer, report, house_of}
use Rattle.house_laws.specs.Groups.{alone}
use Rattle.house.proofs.Raised.{in_yes}
use Rattle.house.proofs.Columns.{column_at}
use Rattle.house_laws.proofs.Answers.{done_tells, answer_is, done-report}
use Rattle.house_laws.proofs.Figure.{figure_is}

module _ (g : Group) (previous equity : ℤ) (there : g 0 0 ≡ record { first = given previous; last = given equity }) where
  first-sum : first_sum 1 g 0 ≡ previous
  unfolding sum_to
  first-sum = +ℤ_idl (first_of (g 0 0)) ∙ ap first_of there

  summed-change : summed_change 1 g 0 ≡ equity -ℤ previous
  unfolding sum_to
  summed-change = +ℤ_idl (change_of (g 0 0)) ∙ ap change_of there

  module _ (done : group_answer 1 1 g ≡ Done) where
    -- No change saturates where the answer is done, so the saturating change is the change.
    pub alone-growth : growth 1 g 0 ≡ return_of previous equity
    unfolding return_of
    alone-growth =
        let holds = done_tells 1 1 g done in
        let above-0 : lt_z (pos 0) previous ≡ true = ap (lt_z (pos 0)) (sym first-sum) ∙ holds.positive 0 (omega arith) in
        let fits : SFits w64 (equity -ℤ previous) = in_yes (equity -ℤ previous) (ap in_i64 (sym summed-change) ∙ holds.summed-change 0 (omega arith)) in
        rw (first-sum, summed-change, above-0, sat_sub_exact equity previous fits)

    -- The figure is 1 times 1 plus that return, less 1, in binary64: the total return of the series of this one return, and not in general the return itself.
    pub alone-figure : figure 1 1 g ≡ total_return_of (return_of previous equity ∷ [])
    unfolding each
    alone-figure = figure_is 1 1 g ∙ ap (λ r. total_return_of (r ∷ [])) alone-growth

-- the same of lists
pub alone_in_lists : (previous equity : ℤ) → (alone previous equity).answer ≡ Done → (alone previous equity).figure ≡ total_return_of (return_of previous equity ∷ [])
unfolding house_of every report
alone_in_lists previous equity done =
    let answered : group_answer 1 1 g ≡ Done = sym (answer_is 1 1 g) ∙ done in
    ap (λ (r : House). r.figure) (done-report 1 1 g answered) ∙ alone-figure g previous equity refl answered
  where
    g : Group
    g = group_in 1 (1 ∷ 1 ∷ []) (previous ∷ equity ∷ [])

-- and its growth, as the report has it, is that return
pub alone-growth_in_lists : (previous equity : ℤ) → (alone previous equity).answer ≡ Done → get_or (alone previous equity).growths 0 zero ≡ return_of previous equity
unfolding house_of every report
alone-growth_in_lists previous equity done =
    let answered : group_answer 1 1 g ≡ Done = sym (answer_is 1 1 g) ∙ done in
    ap (λ (r : House). get_or r.growths 0 zero) (done-report 1 1 g answered) ∙ column_at 64 zero 1 (growth 1 g) 0 zero (omega arith) (omega arith) ∙ alone-growth g previous equity refl answered
  where
    g : Group
    g = group_in 1 (1 ∷ 1 ∷ []) (previous ∷ equity ∷ [])
