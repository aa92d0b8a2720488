-- The length, then the bytes.
use native.Mathlib.Omega.{arith}
use mathlib.Core.Path.{◌≡◌, ap}
use mathlib.Core.List.{List}
use Prim.Native.Nat.{ℕ, ◌+◌, ◌≤◌}
use lib.ListN.{length}
use Rattle.seven_bit.specs.Groups.{groups}
use Rattle.seven_bit.specs.Placed.{put_number, put_next_of}
use Rattle.seven_bit.proofs.Groups.{write-few}
use Rattle.saved_form.specs.Texts.{text_of, symbol_file}
use Rattle.saving.specs.Inner.Putting.{Put}
use Rattle.saving.proofs.Putting as P
use Rattle.saving.proofs.text.put_symbol.Goals as goal

number_put : {l l' : List ℕ} {place n r : ℕ} (s : ℕ) → place + 18 ≤ length l → n ≡ length (text_of s) → r ≡ put_next_of (length l) place n → l' ≡ put_number l place n
    → Put l place (groups (length (text_of s))) l' r
number_put {n = n} s h e f g = P.put_same (P.put-groups _ _ _ _ _ (omega (arith, write-few 9 n)) f g) (ap groups e)

pub put_text-requires : goal.put_text-requires
put_text-requires c =
    let w = number_put c.args.s c.requires c.text_length.ensures c.put_number-at.ensures.0 c.put_number-at.ensures.1 in
    omega (arith, w.next, P.put-long w, write-few 9 (length (text_of c.args.s)))

pub returns : goal.returns
unfolding symbol_file
returns c = P.put_then (number_put c.args.s c.requires c.text_length.ensures c.put_number-at.ensures.0 c.put_number-at.ensures.1) c.put_text.ensures
