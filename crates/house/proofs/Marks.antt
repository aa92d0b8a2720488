-- What an account adds, by its two marks: at both of them 1 its own numbers, else those of 0.
use Rattle.std.proofs.Common.{◌≡◌, ℕ, Bool, true, false, cond, ◌&&◌, ℤ, pos, refl, arith, w64, SFits}
use Rattle.house.specs.Group.{Ends, given, absent, first_of}
use Rattle.house.specs.Inner.Low.{last_of, Known}

abbrev pub ends : Bool → Bool → ℤ → ℤ → Ends
ends a b f l = record { first = cond a (given f) absent; last = cond b (given l) absent }

pub none : SFits w64 (pos 0)
none = record { sfits = omega arith }

module _ (h : ℤ → ℕ) (f l : ℤ) where
  pub first_taken : (a b : Bool) → cond (a && b) (h f) (h (pos 0)) ≡ h (first_of (ends a b f l))
  first_taken true true = refl
  first_taken true false = refl
  first_taken false b = refl

  pub last_taken : (a b : Bool) → cond (a && b) (h l) (h (pos 0)) ≡ h (last_of (ends a b f l))
  last_taken true true = refl
  last_taken true false = refl
  last_taken false b = refl

pub known_is : (f l : ℤ) → SFits w64 f → SFits w64 l → (a b : Bool) → Known (ends a b f l)
known_is f l gf gl true true = record { first = gf; last = gl }
known_is f l gf gl true false = record { first = none; last = none }
known_is f l gf gl false b = record { first = none; last = none }
