-- A part's loop: what it has come to after some of the accounts, one account more, and the part's sums.
use Rattle.std.proofs.Common.{◌≡◌, ℕ, ◌+◌, ◌^◌, ◌<◌, Bool, true, false, cond, eqb, ltb, List, length, set, ℤ, sym, refl, ap, ◌∙◌, add-one, arith, length-set, get_or-set_other, get_or-set_same, ltb-false, ltb-true, le-ltb, lt-ltb, eqb-true, w64, SFits, to_z, of_z}
use borrow.Author.Tests.{eqb-false}
use mir.ValLaws.{to_z-of_z}
use Rattle.sums.specs.declared.Wide.{Wide}
use Rattle.sums.specs.Wide.{value_of, wide}
use Rattle.sums.proofs.TwoWords.{value_of-wide}
use Rattle.house.specs.Group.{Group, first_of, change_of, in_i64, every, first_sum, summed_change, part_in_i64}
use Rattle.house.specs.Inner.Raised.{raised, begun, ended, fitting}
use Rattle.house.specs.Inner.Parts.{total_at}
use Rattle.house.proofs.Raised.{Holds, holds-first, holds_on, holds-last, in_yes, ended-is}
use Rattle.house.proofs.Columns.{every_on, every_at, every_no, below_or_at}

-- each account's total, with what it has of this part
abbrev pub Totals : (ℕ → ℕ) → List Wide → List Wide → ℕ → Type 0
Totals moves before now a = (i : ℕ) → i < 32 → total_at now i ≡ total_at before i + cond (ltb i a) (moves i) 0

pub totals-first : (moves : ℕ → ℕ) (before : List Wide) → Totals moves before before 0
totals-first moves before i h = rw (le-ltb i 0 (omega arith)) (omega arith)

module _ (moves : ℕ → ℕ) (before now : List Wide) (a : ℕ) (t : Totals moves before now a) (ha : a < 32) where
  -- the total of the account that is next is as it was
  pub total-next : total_at now a ≡ total_at before a
  total-next = t a ha ∙ rw (le-ltb a a (omega arith)) (omega arith)

  module _ (w : Wide) (x : ℕ) (l : length now ≡ 32) (e : w ≡ wide (total_at now a + x)) (g : x ≡ moves a) where
    pub totals_on : Totals moves before (set now a w) (a + 1)
    totals_on i h = go (eqb i a) refl
      where
        inside : a < length now
        inside = omega arith

        sum : value_of w ≡ total_at now a + x
        sum = ap value_of e ∙ value_of-wide _

        here : total_at (set now a w) a ≡ total_at before a + cond (ltb a (a + 1)) (moves a) 0
        here =
            ap value_of (get_or-set_same now a w (record { hi = 0; lo = 0 }) inside) ∙ rw (lt-ltb a (a + 1) (omega arith)) (omega (arith, sum, total-next))

        same : (i ≡ a → ⊥) → (q : Bool) → ltb i a ≡ q → cond q (moves i) 0 ≡ cond (ltb i (a + 1)) (moves i) 0
        same d true p = let l = ltb-true i a p in rw (lt-ltb i (a + 1) (omega arith))
        same d false p = let l = ltb-false i a p in rw (le-ltb i (a + 1) (omega arith))

        go : (q : Bool) → eqb i a ≡ q → total_at (set now a w) i ≡ total_at before i + cond (ltb i (a + 1)) (moves i) 0
        go true p = rw (eqb-true i a p) here
        go false p =
            let d : (i ≡ a → ⊥) = eqb-false i a p in
            ap value_of (get_or-set_other now a i w (record { hi = 0; lo = 0 }) d) ∙ t i h ∙ ap (λ y. total_at before i + y) (same d (ltb i a) refl)

-- a number raised, as the code has it
pub raised_of : (x y : ℤ) → SFits w64 y → x ≡ y → raised (to_z w64 (of_z w64 x)) ≡ raised y
raised_of x y f e = rw (e, to_z-of_z w64 y f)

module _ (n p : ℕ) (g : Group) where
  -- some accounts of the part, whose changes are in i64
  pub record Adding (before now : List Wide) (first gain : Wide) (a : ℕ) : Type 0 where
    pub long : length now ≡ 32
    pub first_holds : Holds n (λ i. raised (first_of (g p i))) a first
    pub gain_holds : Holds n (λ i. raised (change_of (g p i))) a gain
    pub fits : every a (λ i. in_i64 (change_of (g p i))) ≡ true
    pub known : (i : ℕ) → i < a → SFits w64 (first_of (g p i))
    pub totals : Totals (λ i. raised (change_of (g p i))) before now a

  pub adding_first : (before : List Wide) (w : Wide) → length before ≡ 32 → w ≡ wide (begun n) → Adding before before w w 0
  unfolding every
  adding_first before w l e =
      record { long = l; first_holds = holds-first n _ w e; gain_holds = holds-first n _ w e; fits = refl; known = λ i h. absurd (omega arith); totals = totals-first _ before }

  pub adding_on : (before now : List Wide) (first gain : Wide) (a x y : ℕ) (first' gain' total : Wide)
      → a < 32
      → Adding before now first gain a → in_i64 (change_of (g p a)) ≡ true → SFits w64 (first_of (g p a))
      → x ≡ raised (first_of (g p a)) → x < 2 ^ 64 → y ≡ raised (change_of (g p a)) → y < 2 ^ 64
      → first' ≡ wide (value_of first + x) → gain' ≡ wide (value_of gain + y) → total ≡ wide (total_at now a + y)
      → Adding before (set now a total) first' gain' (a + 1)
  adding_on before now first gain a x y first' gain' total m h f k ex fx ey fy u v t =
      record {
        long = length-set now a total ∙ h.long;
        first_holds = holds_on n _ a first first' x h.first_holds ex fx u;
        gain_holds = holds_on n _ a gain gain' y h.gain_holds ey fy v;
        fits = sym (every_on _ a true true (sym h.fits) (sym f));
        known = λ i z. below_or_at (λ j. SFits w64 (first_of (g p j))) a i (rw (add-one a) at z) (h.known i) k;
        totals = totals_on _ before now a h.totals m total y h.long t ey;
      }

  pub change_out : (a : ℕ) → a < n → in_i64 (change_of (g p a)) ≡ false → part_in_i64 n g p ≡ false
  change_out a h e = rw (every_no n (λ i. in_i64 (change_of (g p i))) a h e)

  -- all accounts of the part
  module _ (before now : List Wide) (first gain : Wide) (a : ℕ) (l : a ≡ n) (h : Adding before now first gain a) where
    pub all-in : every n (λ i. in_i64 (change_of (g p i))) ≡ true
    all-in = rw (← l) h.fits

    pub all-totals : Totals (λ i. raised (change_of (g p i))) before now n
    all-totals i q = h.totals i q ∙ rw l

    pub first-ended : ended n (value_of first) ≡ fitting (first_sum n g p)
    first-ended =
        ap (ended n) (holds-last n (λ i. raised (first_of (g p i))) a first l h.first_holds) ∙ ended-is n (λ i. first_of (g p i)) (λ i q. h.known i (omega arith))

    pub gain-ended : ended n (value_of gain) ≡ fitting (summed_change n g p)
    gain-ended =
        ap (ended n) (holds-last n (λ i. raised (change_of (g p i))) a gain l h.gain_holds)
        ∙ ended-is n (λ i. change_of (g p i)) (λ i q. in_yes _ (every_at n (λ j. in_i64 (change_of (g p j))) all-in i q))

    pub first_out : in_i64 (first_sum n g p) ≡ false → part_in_i64 n g p ≡ false
    first_out e = rw (all-in, e)

    pub gain-out : in_i64 (first_sum n g p) ≡ true → in_i64 (summed_change n g p) ≡ false → part_in_i64 n g p ≡ false
    gain-out e f = rw (all-in, e, f)

    pub part_in : in_i64 (first_sum n g p) ≡ true → in_i64 (summed_change n g p) ≡ true → part_in_i64 n g p ≡ true
    part_in e f = rw (all-in, e, f)
