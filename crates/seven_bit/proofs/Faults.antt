-- What a result says of the answer and the place that it was made of.
use mathlib.Core.Path.{◌≡◌, refl, ◌∙◌, ap}
use Prim.Native.Nat.{ℕ}
use mathlib.Core.Bool.{Bool, true, false}
use Rattle.std.specs.Prelude.{Ok, Err}
use Rattle.answer.specs.Choice.{pick}
use Rattle.answer.specs.Numbers.{is_done}
use Rattle.answer.specs.declared.Answer.{Answer}
use Rattle.seven_bit.specs.declared.read.Fault.{Fault}
use Rattle.seven_bit.specs.Placed.{or_fault}

module _ {A E : Type 0} (x y : A) (e f : E) where
  ok_by : (t : Bool) → Ok x ≡ pick t (Ok y) (Err e) → (t ≡ true) × (x ≡ y)
  ok_by true h = (refl, cc)
  ok_by false h = cc

  err_by : (t : Bool) → Err f ≡ pick t (Ok y) (Err e) → (t ≡ false) × (f ≡ e)
  err_by true h = cc
  err_by false h = (refl, cc)

module _ {A : Type 0} (answer : Answer) (place : ℕ) (x : A) where
  pub ok_of : (y : A) → Ok y ≡ or_fault answer place x → (is_done answer ≡ true) × (y ≡ x)
  ok_of y h = ok_by y x (record { answer = answer; place = place }) (record { answer = answer; place = place }) (is_done answer) h

  pub err_of : (f : Fault) → Err f ≡ or_fault answer place x → (is_done answer ≡ false) × (f ≡ record { answer = answer; place = place })
  err_of f h = err_by x x (record { answer = answer; place = place }) f (is_done answer) h

  pub to_ok : is_done answer ≡ true → Ok x ≡ or_fault answer place x
  to_ok d = simp d

  pub to_err : is_done answer ≡ false → Err (record { answer = answer; place = place }) ≡ or_fault answer place x
  to_err d = simp d

-- a fault that is passed on, whatever would have been read
pub err_through : {A B : Type 0} (answer : Answer) (place : ℕ) (x : A) (z : B) (f : Fault) → Err f ≡ or_fault answer place x → Err f ≡ or_fault answer place z
err_through answer place x z f h = let o = err_of answer place x f h in ap Err o.1 ∙ to_err answer place z o.0
