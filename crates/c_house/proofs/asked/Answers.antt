-- By the count of accounts, then by the places.
use Rattle.std.proofs.Common.{sym, ◌∙◌}
use Rattle.c_house.specs.Lent.{lent}
use Rattle.c_house.proofs.Telling.{no_group, no_places, all_there}
use Rattle.c_house.proofs.asked.Goals as goal

pub returns-then-not-good_group : goal.returns-then-not-good_group
returns-then-not-good_group c =
    let s = c.args in
    no_group s.accounts s.parts (lent s.rates.now s.changes.now s.firsts.now s.gains.now) (sym c.good_group.ensures ∙ c.if-not-good_group.true)

pub returns-then-not-has_places : goal.returns-then-not-has_places
returns-then-not-has_places c =
    let s = c.args in
    no_places s.accounts s.parts (lent s.rates.now s.changes.now s.firsts.now s.gains.now) (sym c.good_group.ensures ∙ c.if-not-good_group.false)
    (sym c.has_places.ensures ∙ c.if-not-has_places.true)

pub returns : goal.returns
returns c =
    let s = c.args in
    all_there s.accounts s.parts (lent s.rates.now s.changes.now s.firsts.now s.gains.now) (sym c.good_group.ensures ∙ c.if-not-good_group.false)
    (sym c.has_places.ensures ∙ c.if-not-has_places.false)
