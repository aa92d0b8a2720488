-- A file's length and its answer fit one number; a loaded account goes into its bytes, and a refusal leaves them.
use mathlib.Core.Path.{◌≡◌, refl, ◌∙◌, ap}
use Prim.Native.Nat.{ℕ, ◌*◌, ◌≤◌}
use native.Mathlib.Omega.{arith}
use mathlib.Core.Bool.{Bool, true, false}
use mathlib.Core.List.{List}
use lib.Dec.{leb}
use lib.ListN.{length}
use borrow.Author.Tests.{eq-eqb, ne_eqb}
use Rattle.answer.specs.Choice.{pick}
use Rattle.answer.specs.Numbers.{number_of, is_done, unless}
use Rattle.answer.specs.Places.{word_of}
use Rattle.answer.specs.declared.Answer.{Answer}
use Rattle.answer.specs.declared.Answer.TheVariants.{Done, Unsound, NoFileRoom}
use Rattle.account.specs.declared.account.Account.{Account}
use Rattle.account.specs.declared.change.Changed.{Changed}
use Rattle.account.specs.Account.{sound_account}
use Rattle.account.proofs.SoundAccounts as Sound
use Rattle.account_bytes.specs.Sizes.{account_length}
use Rattle.account_bytes.specs.Account.{account_in, written_account}
use Rattle.saved_form.specs.Writing.{file_of}
use Rattle.saving.specs.declared.file.Saved.{Saved}
use Rattle.saving.specs.Saving.{save_answer, saved_told, saved_into}
use Rattle.saving.proofs.Files.{file_short}
use Rattle.loading.specs.Loading.{loaded}
use Rattle.c_saved.specs.Saved.{Told, told, saved_number, save_in, filed_in, load_in}

-- ---- saving
abbrev told_as : Answer → ℕ → Saved
told_as w n = pick {A = Saved} (is_done w) (record { answer = Done; length = n }) (record { answer = w; length = 0 })

pub told-short : (a : Account) (room : ℕ) → (saved_told a room).length ≤ 3952
unfolding saved_told save_answer
told-short a room = go (sound_account a) (leb (length (file_of a)) room) refl
  where
    go : (s t : Bool) → sound_account a ≡ s
        → (told_as (unless s Unsound (unless t NoFileRoom Done)) (length (file_of a))).length ≤ 3952
    go true true e = file_short a (Sound.account-small a e)
    go true false e = omega arith
    go false t e = omega arith

module _ (b : List ℕ) (a : Account) (e : a ≡ account_in b) (l l' : List ℕ) (s : Saved) (f : s ≡ saved_told a (length l)) (g : l' ≡ saved_into a l) where
  saved_in : (n : ℕ) → n ≡ saved_number s → told n l' ≡ save_in b l
  unfolding save_in
  saved_in n h =
      let m : n ≡ saved_number (saved_told (account_in b) (length l)) = h ∙ ap saved_number (f ∙ ap (λ (x : Account). saved_told x (length l)) e) in
      let o : l' ≡ saved_into (account_in b) l = g ∙ ap (λ (x : Account). saved_into x l) e in
      λ i. told (m i) (o i)

  pub save_refused : (n : ℕ) → is_done s.answer ≡ false → n ≡ number_of s.answer → told n l' ≡ save_in b l
  unfolding saved_number
  save_refused n d h = saved_in n (simp d h)

  pub save_done : is_done s.answer ≡ true → told (256 * s.length) l' ≡ save_in b l
  unfolding saved_number
  save_done d = saved_in (256 * s.length) (simp d)

  pub length-small : s.length ≤ 3952
  length-small = rw f (told-short a (length l))

-- ---- loading
pub load_length : (f b : List ℕ) (n : ℕ) → n ≡ number_of Unsound → (length b ≡ account_length → ⊥) → told n b ≡ load_in f b
unfolding load_in
load_length f b n e d = simp (ne_eqb (length b) account_length d) (ap (λ (k : ℕ). told k b) e)

module _ (f b : List ℕ) (long : length b ≡ account_length) (c : Changed) (e : c ≡ loaded f) where
  load_filed : (t : Told) → t ≡ filed_in c b → t ≡ load_in f b
  unfolding load_in
  load_filed t h = simp (eq-eqb (length b) account_length long) (h ∙ ap (λ (x : Changed). filed_in x b) e)

  pub load_refused : (n : ℕ) → is_done c.answer ≡ false → n ≡ word_of c.answer → told n b ≡ load_in f b
  unfolding filed_in
  load_refused n d h = load_filed (told n b) (simp d (ap (λ (k : ℕ). told k b) h))

  pub load_done : (n : ℕ) (b' : List ℕ) → is_done c.answer ≡ true → n ≡ word_of c.answer → b' ≡ written_account c.account b → told n b' ≡ load_in f b
  unfolding filed_in
  load_done n b' d h g = load_filed (told n b') (simp d (λ i. told (h i) (g i)))
