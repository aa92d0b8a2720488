-- The words of the position, told.
use mathlib.Core.Path.{refl, ◌∙◌}
use Rattle.answer.specs.declared.Answer.TheVariants.{Done}
use Rattle.account.specs.Calls.{position_at_of}
use Rattle.c_accounts.proofs.Telling.{told-held, place_answer}
use Rattle.c_accounts.proofs.query.tc_position_at.Goals as goal

pub returns : goal.returns
returns c =
    let s = c.args in
    c.tell.ensures ∙ told-held (position_at_of s.index) Done refl (place_answer s.index) s.account.now s.out.now c.account_in-a.ensures c.position_at-h.ensures c.held_words.ensures
