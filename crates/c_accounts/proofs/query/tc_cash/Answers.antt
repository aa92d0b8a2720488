-- The word of the cash, told.
use Prim.Native.Nat.{ℕ}
use mathlib.Core.List.{[], ◌∷◌}
use mathlib.Core.Path.{refl, ◌∙◌, ap}
use mir.Val.{SFits}
use mir.Syntax.{w64}
use borrow.Author.Rules.{rules}
use Rattle.answer.specs.declared.Answer.TheVariants.{Done}
use Rattle.word_bytes.specs.Numbers.{unsigned_of}
use Rattle.account.specs.declared.account.Account.{Account}
use Rattle.account_bytes.proofs.Runs.{stored}
use Rattle.c_accounts.proofs.Telling.{told-queried}
use Rattle.c_accounts.proofs.query.tc_cash.Goals as goal

pub returns : goal.returns
returns c =
    let s = c.args in
    let f : SFits w64 c.account_in-a.result.cash = search rules in
    let e = stored f c.unsigned.ensures in
    c.tell.ensures
    ∙ told-queried (λ (x : Account). unsigned_of x.cash ∷ []) Done refl s.account.now s.out.now c.account_in-a.ensures c.soundness.ensures (ap (λ (w : ℕ). w ∷ []) e)
