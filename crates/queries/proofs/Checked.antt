-- What a check tells of the answer that it gives.
use mathlib.Core.Path.{◌≡◌, refl}
use mathlib.Core.Bool.{Bool, true, false}
use Rattle.std.specs.Prelude.{Result, Ok, Err}
use Rattle.answer.specs.declared.Answer.{Answer}
use Rattle.answer.specs.declared.Answer.TheVariants.{Done}
use Rattle.answer.specs.Numbers.{is_done, checked}
use Rattle.answer.specs.Choice.{pick}
use Rattle.answer.proofs.Answers.{done_is}

module _ (w : Answer) where
  pub was_refused : (e : Answer) → Err e ≡ checked w → (is_done w ≡ false) × (e ≡ w)
  was_refused e = go (is_done w)
    where
      go : (b : Bool) → ◌≡◌ {A = Result Unit Answer} (Err e) (pick b (Ok tt) (Err w)) → (b ≡ false) × (e ≡ w)
      go true h = absurd (cc)
      go false h = (refl, cc)

  pub was_done : (u : Unit) → Ok u ≡ checked w → (is_done w ≡ true) × (w ≡ Done)
  was_done u h = let e = go (is_done w) h in (e, done_is w e)
    where
      go : (b : Bool) → ◌≡◌ {A = Result Unit Answer} (Ok u) (pick b (Ok tt) (Err w)) → b ≡ true
      go true h = refl
      go false h = absurd (cc)
