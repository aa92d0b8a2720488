-- By the places' lengths, then by the answer: after 0 both are stored whole, else nothing is.
use mathlib.Core.Path.{◌≡◌, ◌∙◌, ap, sym}
use mathlib.Core.Bool.{false}
use lib.Dec.{eqb}
use lib.ListN.{length}
use Rattle.answer.specs.Numbers.{number_of}
use Rattle.metrics.specs.declared.Metrics.{Metrics}
use Rattle.metrics.specs.Answers.{metrics_of}
use borrow.Author.Tests.{eq-eqb, ne_eqb}
use Rattle.c_leaves.specs.Lent.{rates_of, counts_of, answer_to_figures, rates_after, counts_after}
use Rattle.c_leaves.proofs.figures.tc_figures.Goals as goal
use Rattle.c_leaves.proofs.figures.tc_figures.Goals.{then-rates-ne6-via-then-rates-ne6, then-rates-ne6-via-else-rates-ne6+then-counts-ne3}

pub returns-then-rates-ne6 : goal.returns-then-rates-ne6
unfolding answer_to_figures rates_after counts_after
returns-then-rates-ne6 c =
    elim c.then-rates-ne6.branch [
      | then-rates-ne6-via-then-rates-ne6 w ↦
          let no = ne_eqb (length c.args.rates.now) 6 w.if-rates-ne6.true in
          record { value = c.number.ensures ∙ simp no; rates_after = simp no; counts_after = simp no }
      | then-rates-ne6-via-else-rates-ne6+then-counts-ne3 w ↦
          let yes = eq-eqb (length c.args.rates.now) 6 w.if-rates-ne6.false in
          let no = ne_eqb (length c.args.counts.now) 3 w.if-counts-ne3.true in
          record { value = c.number.ensures ∙ simp (yes, no); rates_after = simp (yes, no); counts_after = simp (yes, no) }
    ]

pub returns-then-number-ne0 : goal.returns-then-number-ne0
unfolding answer_to_figures rates_after counts_after
returns-then-number-ne0 c =
    let yes = eq-eqb (length c.args.rates.now) 6 c.if-rates-ne6.false in
    let too = eq-eqb (length c.args.counts.now) 3 c.if-counts-ne3.false in
    let n : c.number-number.result ≡ number_of (metrics_of c.args.returns.now).answer =
    c.number-number.ensures ∙ ap (λ (x : Metrics). number_of x.answer) c.compute_metrics-metrics.ensures in
    let no : eqb (number_of (metrics_of c.args.returns.now).answer) 0 ≡ false = rw n at (ne_eqb c.number-number.result 0 c.if-number-ne0.true) in
    record { value = n ∙ simp (yes, too); rates_after = simp (yes, too, no); counts_after = simp (yes, too, no) }

pub returns : goal.returns
unfolding answer_to_figures rates_after counts_after
returns c =
    let yes = eq-eqb (length c.args.rates.now) 6 c.if-rates-ne6.false in
    let too = eq-eqb (length c.args.counts.now) 3 c.if-counts-ne3.false in
    let m = c.compute_metrics-metrics.ensures in
    let n : c.number-number.result ≡ number_of (metrics_of c.args.returns.now).answer = c.number-number.ensures ∙ ap (λ (x : Metrics). number_of x.answer) m in
    let done : number_of (metrics_of c.args.returns.now).answer ≡ 0 = sym n ∙ c.if-number-ne0.false in
    record {
      value = simp (yes, too, done);
      rates_after = c.put_rates.ensures ∙ ap (λ (x : Metrics). rates_of x.figures) m ∙ simp (yes, too, done);
      counts_after = c.put_counts.ensures ∙ ap (λ (x : Metrics). counts_of x.figures) m ∙ simp (yes, too, done);
    }
