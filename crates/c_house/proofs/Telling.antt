-- What is told, case by case, and what an answer of done tells of the places.
use Rattle.std.proofs.Common.{◌≡◌, ℕ, ◌+◌, ◌-◌, ◌≤◌, Bool, true, false, ◌&&◌, eqb, Ok, Err, List, ◌∷◌, length, take, ℤ, refl, ap, arith, eqb-true}
use lib.Ieee.{Float}
use Rattle.answer.specs.Choice.{pick}
use Rattle.answer.specs.Numbers.{number_of, is_done, unless, checked}
use Rattle.answer.specs.declared.Answer.{Answer}
use Rattle.answer.specs.declared.Answer.TheVariants.{Done, BadGroup, TooLong}
use Rattle.answer.proofs.Choice.{both_true}
use Rattle.house.specs.House.{within, house_of}
use Rattle.house.specs.declared.House.{House}
use Rattle.house.proofs.Reporting.{early-done, house-done}
use Rattle.c_house.specs.Lent.{Lent, lent, places, lent_answer, report_in, told, house_told}
use Rattle.c_house.specs.Inner.Asked.{first_answer}

module _ (n m : ℕ) (l : Lent) where
  pub no_group : within n 32 ≡ false → Err BadGroup ≡ checked (first_answer n m l)
  no_group e = rw e

  module _ (g : within n 32 ≡ true) where
    pub no_places : places n m l ≡ false → Err TooLong ≡ checked (first_answer n m l)
    no_places e = rw (g, e)

    pub all_there : places n m l ≡ true → Ok tt ≡ checked (first_answer n m l)
    all_there e = rw (g, e)

  -- what was asked for is there
  pub there : Ok tt ≡ checked (first_answer n m l) → (within n 32 ≡ true) × (places n m l ≡ true)
  there e = go (within n 32) refl (places n m l) refl e
    where
      go : (a : Bool) → within n 32 ≡ a → (b : Bool) → places n m l ≡ b → Ok tt ≡ checked (unless a BadGroup (unless b TooLong Done)) → (within n 32 ≡ true) × (places n m l ≡ true)
      go true p true q w = (p, q)
      go true p false q w = cc
      go false p b q w = cc

  module _ (marks : List ℕ) (equities : List ℤ) where
    abbrev house : House
    house = house_of n m marks equities

    -- what the places are told
    pub told_first : (x : Answer) → Err x ≡ checked (first_answer n m l) → told (number_of x) l ≡ house_told n m marks equities l
    unfolding house_told lent_answer
    told_first x e = go (within n 32) (places n m l) e
      where
        after : Bool → Bool → Answer
        after a b = unless a BadGroup (unless b TooLong house.answer)

        go : (a b : Bool) → Err x ≡ checked (unless a BadGroup (unless b TooLong Done))
            → told (number_of x) l ≡ pick (is_done (after a b)) (told 0 (report_in n m house)) (told (number_of (after a b)) l)
        go false b q = let s : x ≡ BadGroup = cc in ap (λ y. told (number_of y) l) s
        go true false q = let s : x ≡ TooLong = cc in ap (λ y. told (number_of y) l) s
        go true true q = cc

    module _ (e : Ok tt ≡ checked (first_answer n m l)) where
      pub told_refused : is_done house.answer ≡ false → told (number_of house.answer) l ≡ house_told n m marks equities l
      unfolding house_told lent_answer
      told_refused d = let t = there e in rw (t.0, t.1, d)

      pub told_reported : is_done house.answer ≡ true → told 0 (report_in n m house) ≡ house_told n m marks equities l
      unfolding house_told lent_answer
      told_reported d = let t = there e in rw (t.0, t.1, d)

-- the places as they are counted
pub record Counted (n m : ℕ) (l : Lent) : Type 0 where
  pub few : m ≤ 64
  pub accounts : n ≤ 32
  pub firsts : length l.firsts ≡ m
  pub gains : length l.gains ≡ m
  pub rates : length l.rates ≡ m + 1
  pub changes : length l.changes ≡ n + 1

pub counted : (n m : ℕ) (marks : List ℕ) (equities : List ℤ) (l : Lent) → Ok tt ≡ checked (first_answer n m l) → is_done (house_of n m marks equities).answer ≡ true → Counted n m l
counted n m marks equities l q e =
    let a = both_true (eqb (length l.firsts) m) (eqb (length l.gains) m && (eqb (length l.rates) (m + 1) && eqb (length l.changes) (n + 1))) (there n m l q).1 in
    let b = both_true (eqb (length l.gains) m) (eqb (length l.rates) (m + 1) && eqb (length l.changes) (n + 1)) a.1 in
    let c = both_true (eqb (length l.rates) (m + 1)) (eqb (length l.changes) (n + 1)) b.1 in
    let d = early-done n m marks equities (house-done n m marks equities e) in
    record {
      few = d.1;
      accounts = d.0;
      firsts = eqb-true (length l.firsts) m a.0;
      gains = eqb-true (length l.gains) m b.0;
      rates = eqb-true (length l.rates) (m + 1) c.0;
      changes = eqb-true (length l.changes) (n + 1) c.1;
    }

-- places that were written whole have the report
pub all-written : (n m : ℕ) (l : Lent) (h : House) (r : List Float) (c f g : List ℤ) → Counted n m l
    → r ≡ h.figure ∷ take (length l.rates - 1) h.growths → c ≡ h.change ∷ take (length l.changes - 1) h.changes
    → f ≡ take (length l.firsts) h.firsts → g ≡ take (length l.gains) h.gains
    → lent r c f g ≡ report_in n m h
all-written n m l h r c f g k er ec ef eg =
    let a : length l.rates - 1 ≡ m = omega (arith, k.rates) in
    let b : length l.changes - 1 ≡ n = omega (arith, k.changes) in
    rw (er, ec, ef, eg, a, b, k.firsts, k.gains)
