-- The value, and the column's first places after it.
use Rattle.std.proofs.Common.{◌≡◌, ℕ, ◌-◌, ◌≤◌, List, [], ◌∷◌, ◌++◌, length, set, ap, ◌∙◌, arith}
use mathlib.Core.List.{append-nil}
use lib.ListN.{drop_of_length-le}
use borrow.Rule.Slice.PartMut.{put_mid, post_of}
use Rattle.c_house.proofs.put_after.Goals as goal

none_after : {A : Type 0} (x : A) (ys : List A) (k : ℕ) → length ys ≤ k → post_of 1 k (x ∷ ys) ≡ []
none_after x ys k h = drop_of_length-le ys h

put_rest : {A : Type 0} (x : A) (places rest : List A) → 1 ≤ length places → put_mid 1 (length (set places 0 x) - 1) (set places 0 x) rest ≡ x ∷ rest
put_rest x [] rest h = absurd (omega arith)
put_rest x (y ∷ ys) rest h = ap (λ z. x ∷ rest ++ z) (none_after x ys _ (omega arith)) ∙ ap (λ z. x ∷ z) (append-nil rest)

pub returns : goal.returns
returns g c =
    put_rest c.args.first c.args.places.now c.copy_from_slice.new.self c.requires.0 ∙ ap (λ z. c.args.first ∷ z) c.copy_from_slice.ensures.after
