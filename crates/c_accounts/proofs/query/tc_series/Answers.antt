-- The words of the series, told.
use mathlib.Core.Path.{refl, ◌∙◌}
use Rattle.answer.specs.declared.Answer.TheVariants.{Done}
use Rattle.account.specs.declared.account.Account.{Account}
use Rattle.account_bytes.specs.Account.{series_words}
use Rattle.c_accounts.proofs.Telling.{told-queried}
use Rattle.c_accounts.proofs.query.tc_series.Goals as goal

pub returns : goal.returns
returns c =
    let s = c.args in
    c.tell.ensures ∙ told-queried (λ (x : Account). series_words x.series) Done refl s.account.now s.out.now c.account_in-a.ensures c.soundness.ensures c.series_words.ensures
