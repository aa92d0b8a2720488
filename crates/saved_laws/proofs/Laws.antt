-- The laws of the saved form, of every account and of every file.
use Prim.Native.Nat.{ℕ}
use mathlib.Core.Path.{◌≡◌, refl, sym, ap, ◌∙◌}
use mathlib.Core.Bool.{true, false}
use mathlib.Core.List.{List, [], ◌∷◌}
use borrow.Author.Tests.{lt-ltb}
use Rattle.answer.specs.Numbers.{is_done}
use Rattle.answer.specs.declared.Answer.TheVariants.{Done}
use Rattle.account.specs.declared.account.Account.{Account}
use Rattle.account.specs.Account.{sound_account}
use Rattle.account_bytes.proofs.AccountKept.{KeptAccount}
use Rattle.seven_bit.proofs.Groups.{Octets}
use Rattle.saved_form.specs.Writing.{file_of}
use Rattle.loading.specs.Loading.{file_account, load_answer}
use Rattle.saved_laws.specs.Statement.{are_bytes, Saved, SameFile, Accepted, Refused, Placed}
use Rattle.saved_laws.proofs.ReadsBack.{file_account_lem, reads_back, ends-early}
use Rattle.saved_laws.proofs.PlacesTold.{taken_ends, places-told}
use Rattle.saved_laws.proofs.OneFile.{one_file, loads_sound, loads_kept, refused-zeros}
use Rattle.saved_laws.proofs.SameBytes.{bytes_alike, alike_bytes}
use Rattle.saved_laws.proofs.Bytes.{file_octets}
use Rattle.saved_laws.proofs.Longest.{at_most_3328}

octets_bytes : (l : List ℕ) → Octets l → are_bytes l ≡ true
octets_bytes [] o = refl
octets_bytes (b ∷ l) o = simp (lt-ltb b 256 o.0, octets_bytes l o.1)

-- `KeptAccount` asks that fields fit their widths and columns have 64 places, as those of every account in a program do, and that no rate is a NaN, which soundness gives.
pub saved : (a : Account) → sound_account a ≡ true → KeptAccount a → Saved a
saved a e k = record {
  reads_back = reads_back a e k;
  ends-early = ends-early a e k;
  bytes = octets_bytes (file_of a) (file_octets a e k);
  short = at_most_3328 a e k;
}

pub same_file : (a b : Account) → sound_account a ≡ true → sound_account b ≡ true → KeptAccount a → KeptAccount b → SameFile a b
same_file a b d e j k = (bytes_alike a b j k d e, alike_bytes a b j k)

pub accepted : (l : List ℕ) → Octets l → load_answer l ≡ Done → Accepted l
accepted l o e =
    let s = loads_sound l e in
    let k = loads_kept l o e in
    let f = one_file l o e in
    record {
      sound = s;
      plain = sym (file_account_lem (file_account l) s k) ∙ ap file_account f;
      one_file = f;
      ends-early = taken_ends l e;
    }

-- of every list of numbers, bytes or not
pub placed : (l : List ℕ) → Placed l
placed l = places-told l

pub refused : (l : List ℕ) → is_done (load_answer l) ≡ false → Refused l
refused l e = refused-zeros l e

-- two files of one account are one file
pub no_other_file : (l m : List ℕ) → Octets l → Octets m → load_answer l ≡ Done → load_answer m ≡ Done → file_account l ≡ file_account m → l ≡ m
no_other_file l m o p d e q = sym (one_file l o d) ∙ ap file_of q ∙ one_file m p e
