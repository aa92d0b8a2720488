-- Refused, short of room, or copied.
use native.Mathlib.Omega.{arith}
use mathlib.Core.Path.{◌≡◌, ◌∙◌, refl}
use Prim.Native.Nat.{◌≤◌}
use mathlib.Core.Bool.{true}
use mathlib.Core.List.{◌++◌}
use lib.ListN.{length, length-take, drop}
use lib.Seq.{sets}
use Rattle.std.proofs.lemmas.Result.{err_from_is_err_and}
use Rattle.account.specs.declared.account.Account.{Account}
use Rattle.account.specs.Account.{sound_account}
use Rattle.account.proofs.SoundAccounts.{account-small}
use Rattle.saved_form.specs.Writing.{file_of}
use Rattle.saving.proofs.Putting as P
use Rattle.saving.proofs.Files as F
use Rattle.saving.proofs.Copies as C
use Rattle.saving.proofs.file.save_whole.Goals as goal

long-enough : (a : Account) → sound_account a ≡ true → length (file_of a) ≤ 4096
long-enough a e = omega (arith, F.file_short a (account-small a e))

pub returns-in_err-check_sound-clause-told : goal.returns-in_err-check_sound-clause-told
returns-in_err-check_sound-clause-told c =
    let p = err_from_is_err_and c.from_residual.result c.from_residual.ensures.1 in
    rw (p.1, p.2) (F.saved_unsound c.args.a c.args.file.now _ c.in_err-check_sound.ensures).0

pub returns-in_err-check_sound-clause-left : goal.returns-in_err-check_sound-clause-left
returns-in_err-check_sound-clause-left c = (F.saved_unsound c.args.a c.args.file.now _ c.in_err-check_sound.ensures).1

pub put_account-n-requires : goal.put_account-n-requires
put_account-n-requires c = (omega arith, account-small _ (F.is_sound c.args.a c.args.file.now c.in_ok-check_sound.ensures))

pub returns-then-file-n-clause-told : goal.returns-then-file-n-clause-told
returns-then-file-n-clause-told c =
    (F.saved_short c.args.a c.args.file.now (F.is_sound c.args.a c.args.file.now c.in_ok-check_sound.ensures) (omega (arith, c.if-file-n.true, c.put_account-n.ensures.next))).0

pub returns-then-file-n-clause-left : goal.returns-then-file-n-clause-left
returns-then-file-n-clause-left c =
    (F.saved_short c.args.a c.args.file.now (F.is_sound c.args.a c.args.file.now c.in_ok-check_sound.ensures) (omega (arith, c.if-file-n.true, c.put_account-n.ensures.next))).1

pub slice_bounds-bytes-end : goal.slice_bounds-bytes-end
slice_bounds-bytes-end c =
    let e = long-enough c.args.a (F.is_sound c.args.a c.args.file.now c.in_ok-check_sound.ensures) in
    omega (arith, e, c.put_account-n.ensures.next, P.put-long c.put_account-n.ensures)

pub slice_bounds-copy_from_slice-end-3 : goal.slice_bounds-copy_from_slice-end-3
slice_bounds-copy_from_slice-end-3 c =
    let e = long-enough c.args.a (F.is_sound c.args.a c.args.file.now c.in_ok-check_sound.ensures) in
    omega (arith, e, c.put_account-n.ensures.next, P.put-long c.put_account-n.ensures, length-take c.put_account-n.result c.put_account-n.new.bytes)

pub copy_from_slice-requires : goal.copy_from_slice-requires
copy_from_slice-requires c =
    let e = long-enough c.args.a (F.is_sound c.args.a c.args.file.now c.in_ok-check_sound.ensures) in
    omega (arith, e, c.put_account-n.ensures.next, P.put-long c.put_account-n.ensures, length-take c.put_account-n.result c.put_account-n.new.bytes, length-take c.put_account-n.result c.args.file.now, c.if-file-n.false)

pub returns-clause-told : goal.returns-clause-told
returns-clause-told c =
    let s = F.is_sound c.args.a c.args.file.now c.in_ok-check_sound.ensures in
    (F.saved_whole c.args.a c.args.file.now s (omega (arith, c.if-file-n.false, c.put_account-n.ensures.next)) _ (sets c.args.file.now 0 (file_of c.args.a)) (omega (arith, c.put_account-n.ensures.next)) refl).0

pub returns-clause-left : goal.returns-clause-left
returns-clause-left c =
    let s = F.is_sound c.args.a c.args.file.now c.in_ok-check_sound.ensures in
    let t = c.copy_from_slice.ensures.after ∙ C.written_front _ _ _ _ (long-enough c.args.a s) c.put_account-n.ensures in
    let n : length (file_of c.args.a) ≡ c.put_account-n.result = omega (arith, c.put_account-n.ensures.next) in
    let e : c.copy_from_slice.new.self ++ drop c.put_account-n.result c.args.file.now ≡ sets c.args.file.now 0 (file_of c.args.a) =
    rw t (C.copied c.args.file.now (file_of c.args.a) c.put_account-n.result n c.if-file-n.false)
    in
    (F.saved_whole c.args.a c.args.file.now s (omega (arith, c.if-file-n.false, c.put_account-n.ensures.next)) (length (file_of c.args.a)) _ refl e).1
