-- What a check says of an account, told by the figure or the account that goes with it.
use mathlib.Core.Path.{◌≡◌, refl}
use mathlib.Core.Bool.{Bool, true, false}
use Rattle.std.specs.Prelude.{Ok, Err}
use Rattle.answer.specs.declared.Answer.{Answer}
use Rattle.answer.specs.declared.Answer.TheVariants.{Done, BadSetting, Unsound}
use Rattle.answer.specs.Numbers.{unless, checked}
use Rattle.table.specs.Keyed.{pick}
use Rattle.account.specs.declared.settings.Settings.{Settings}
use Rattle.account.specs.declared.account.Account.{Account}
use Rattle.account.specs.declared.query.Told.{Told}
use Rattle.account.specs.Settings.{good_settings}
use Rattle.account.specs.Account.{sound_account, with_settings}
use Rattle.account.specs.Calls.{answered, changed, told}
use Rattle.account.specs.Inner.Answers.{settings_answer}

-- ---- 11 or nothing
module _ (sound : Bool) where
  pub check_ok : Ok tt ≡ checked (unless sound Unsound Done) → sound ≡ true
  check_ok e = go sound e
    where
      go : (b : Bool) → Ok tt ≡ checked (unless b Unsound Done) → b ≡ true
      go true e = refl
      go false e = cc

  module _ {w : Answer} where
    pub check_err : Err w ≡ checked (unless sound Unsound Done) → (sound ≡ false) × (w ≡ Unsound)
    check_err e = go sound e
      where
        go : (b : Bool) → Err w ≡ checked (unless b Unsound Done) → (b ≡ false) × (w ≡ Unsound)
        go true e = (cc, cc)
        go false e = (refl, cc)

  module _ {A : Type 0} (z x : A) where
    pub told_done : Ok tt ≡ checked (unless sound Unsound Done) → ◌≡◌ {A = Told A} (record { answer = Done; value = x }) (told z sound x)
    unfolding told
    told_done e = let h = check_ok e in rw h

    pub told_refused : {w : Answer} → Err w ≡ checked (unless sound Unsound Done) → ◌≡◌ {A = Told A} (record { answer = w; value = z }) (told z sound x)
    unfolding told
    told_refused e = let h = check_err e in simp (h.0, h.1)

-- ---- then 1
module _ (s : Settings) (a : Account) where
  pub changed_done : Ok tt ≡ checked (settings_answer s a) → answered Done (with_settings s a) ≡ changed s a
  unfolding changed
  changed_done e = go (sound_account a) (good_settings s) e
    where
      go : (b g : Bool) → Ok tt ≡ checked (unless b Unsound (unless g BadSetting Done)) → answered Done (with_settings s a) ≡ pick b (pick g (answered Done (with_settings s a)) (answered BadSetting a)) (answered Unsound a)
      go true true e = refl
      go true false e = cc
      go false g e = cc

  pub changed_refused : {w : Answer} → Err w ≡ checked (settings_answer s a) → answered w a ≡ changed s a
  unfolding changed
  changed_refused {w} e = go (sound_account a) (good_settings s) e
    where
      go : (b g : Bool) → Err w ≡ checked (unless b Unsound (unless g BadSetting Done)) → answered w a ≡ pick b (pick g (answered Done (with_settings s a)) (answered BadSetting a)) (answered Unsound a)
      go true true e = cc
      go true false e = let h : w ≡ BadSetting = cc in rw h
      go false g e = let h : w ≡ Unsound = cc in rw h
