-- The form, the numbers before the positions, the positions.
use native.Mathlib.Omega.{arith}
use mathlib.Core.Path.{◌≡◌, ◌∙◌, ap}
use mathlib.Core.List.{List}
use Prim.Native.Nat.{ℕ, ◌≤◌}
use lib.ListN.{length}
use mir.Syntax.{w64}
use mir.Val.{SFits}
use mir.Facts.{to_z-of_z}
use borrow.Author.Rules.{rules}
use Rattle.account.specs.declared.account.Account.{Account}
use Rattle.account.specs.Inner.Account.{ledger_of}
use Rattle.account.proofs.Full.{account-full}
use Rattle.seven_bit.specs.Groups.{groups}
use Rattle.seven_bit.specs.Placed.{put_number, put_next_of}
use Rattle.seven_bit.proofs.Groups.{write-few}
use Rattle.saved_form.specs.Fields.{newest}
use Rattle.saved_form.specs.Inner.Fields.{fields_from}
use Rattle.saved_form.specs.Values.{head_values}
use Rattle.saving.specs.Inner.Putting.{Put}
use Rattle.saving.proofs.Putting as P
use Rattle.saving.proofs.FieldRuns.{fields_short}
use Rattle.saving.proofs.Files as F
use Rattle.saving.proofs.file.put_account.Goals as goal

form-put : {l l' : List ℕ} {r : ℕ} → 4096 ≤ length l → r ≡ put_next_of (length l) 0 newest → l' ≡ put_number l 0 newest → Put l 0 (groups newest) l' r
form-put h e f = P.put-groups _ _ _ _ _ (omega (arith, write-few 9 newest)) e f

many : {vs : List ℕ} (a : Account) → vs ≡ head_values (ledger_of a) → length vs ≡ 23
many a e = ap length e ∙ F.head_length (ledger_of a)

pub put_fields-rest-requires : goal.put_fields-rest-requires
put_fields-rest-requires c =
    let k : SFits w64 c.args.a.cash = search rules in
    let vs : c.head_values-values.result ≡ head_values (ledger_of c.args.a) = simp (to_z-of_z k) at c.head_values-values.ensures in
    let n : length c.head_values-values.result ≡ 23 = many c.args.a vs in
    let w = form-put c.requires.0 c.put_number-head.ensures.0 c.put_number-head.ensures.1 in
    (omega (arith, n), omega (arith, n, w.next, P.put-long w, write-few 9 newest))

pub put_positions-requires : goal.put_positions-requires
put_positions-requires c =
    let k : SFits w64 c.args.a.cash = search rules in
    let vs : c.head_values-values.result ≡ head_values (ledger_of c.args.a) = simp (to_z-of_z k) at c.head_values-values.ensures in
    let n : length c.head_values-values.result ≡ 23 = many c.args.a vs in
    let w = form-put c.requires.0 c.put_number-head.ensures.0 c.put_number-head.ensures.1 in
    let r = c.put_fields-rest.ensures in
    let f = fields_short newest (fields_from 0 (length c.head_values-values.result)) 0 c.head_values-values.result in (
      c.requires.1,
      omega (arith, r.next, P.put-long r, f, n, w.next, P.put-long w, write-few 9 newest),
      account-full c.args.a _ c.well_formed.1.0,
    )

pub returns : goal.returns
returns c =
    let k : SFits w64 c.args.a.cash = search rules in
    let vs : c.head_values-values.result ≡ head_values (ledger_of c.args.a) = simp (to_z-of_z k) at c.head_values-values.ensures in
    F.file_put c.args.a _ vs (form-put c.requires.0 c.put_number-head.ensures.0 c.put_number-head.ensures.1) c.put_fields-rest.ensures c.put_positions.ensures
