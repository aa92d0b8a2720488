-- The words of the position, told.
use mathlib.Core.Path.{◌∙◌}
use Rattle.account.specs.Calls.{position_of}
use Rattle.c_accounts.proofs.Telling.{told-held, position-answer, good-told}
use Rattle.c_accounts.proofs.query.tc_position.Goals as goal

pub returns : goal.returns
returns c =
    let s = c.args in
    c.tell.ensures ∙ told-held (position_of s.symbol) _ (good-told _) (position-answer s.symbol) s.account.now s.out.now c.account_in-a.ensures c.position-h.ensures c.held_words.ensures
