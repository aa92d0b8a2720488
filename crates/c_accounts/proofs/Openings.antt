-- Bytes that hold no settings are refused as bad settings; each way out of an opening is as its definition says.
use mathlib.Core.Path.{◌≡◌, refl, sym, ◌∙◌, ap}
use Prim.Native.Nat.{ℕ, ◌≤◌, ◌<◌}
use mathlib.Core.Bool.{Bool, true, false}
use mathlib.Core.List.{List}
use lib.IntN.{ℤ}
use lib.ListN.{length, set}
use borrow.Author.Tests.{eq-eqb, ne_eqb, lt-ltb, le-ltb}
use Rattle.std.specs.Prelude.{Some, None}
use Rattle.answer.specs.declared.Answer.TheVariants.{Done, BadSetting, BufferFull, Unsound}
use Rattle.table.specs.Keyed.{pick}
use Rattle.word_bytes.specs.Words.{bytes_of}
use Rattle.account.specs.declared.settings.Settings.{Settings}
use Rattle.account.specs.Account.{sound_scalars}
use Rattle.account.specs.Calls.{open_account}
use Rattle.account_bytes.specs.Sizes.{account_length}
use Rattle.account_bytes.specs.Settings.{hold_settings, read_settings, given_settings}
use Rattle.account_bytes.specs.Account.{account_words_of, written_account}
use Rattle.c_accounts.specs.Entries.{account_bytes_of}
use Rattle.c_accounts.specs.Opening.{answering_open, sound_opening, open_in}

held : {A : Type 0} (t : Bool) (x : A) {y : A} → pick t (Some x) None ≡ Some y → (t ≡ true) × (y ≡ x)
held true x e = (refl, cc)
held false x e = cc

not_held : {A : Type 0} (t : Bool) (x : A) → pick t (Some x) None ≡ None → t ≡ false
not_held true x e = cc
not_held false x e = refl

-- ---- each way out
module _ (cash : ℤ) (g b : List ℕ) (es : List ℤ) where
  pub open_short : (length b ≡ account_length → ⊥) → answering_open Unsound b es ≡ open_in cash g b es
  unfolding open_in
  open_short n = simp (ne_eqb (length b) account_length n)

  pub open_none : length b ≡ account_length → read_settings g ≡ None → answering_open BadSetting b es ≡ open_in cash g b es
  unfolding open_in sound_opening read_settings
  open_none n e = simp (eq-eqb (length b) account_length n, not_held (hold_settings g) _ e)

  pub open_bad : {s : Settings} → length b ≡ account_length → read_settings g ≡ Some s → sound_scalars cash s ≡ false → answering_open BadSetting b es ≡ open_in cash g b es
  unfolding open_in sound_opening read_settings given_settings
  open_bad n r e = let h = held (hold_settings g) _ r in simp (eq-eqb (length b) account_length n, h.0, ap (sound_scalars cash) (sym h.1) ∙ e)

  pub open_full : {s : Settings} → length b ≡ account_length → read_settings g ≡ Some s → sound_scalars cash s ≡ true → length es ≤ 0 → answering_open BufferFull b es ≡ open_in cash g b es
  unfolding open_in sound_opening read_settings given_settings
  open_full n r e f = let h = held (hold_settings g) _ r in simp (eq-eqb (length b) account_length n, h.0, ap (sound_scalars cash) (sym h.1) ∙ e, le-ltb 0 (length es) f)

  pub open_done : {s : Settings} (l : List ℕ) → length b ≡ account_length → read_settings g ≡ Some s → sound_scalars cash s ≡ true → 0 < length es → l ≡ written_account (open_account cash s) b
      → answering_open Done l (set es 0 cash) ≡ open_in cash g b es
  unfolding open_in sound_opening read_settings given_settings written_account account_bytes_of
  open_done {s} l n r e f w =
      let h = held (hold_settings g) _ r in
      let q = eq-eqb (length b) account_length n in
      let v : l ≡ bytes_of (account_words_of (open_account cash s)) = simp q at w in
      simp (q, h.0, ap (sound_scalars cash) (sym h.1) ∙ e, lt-ltb 0 (length es) f)
      (ap (λ (x : List ℕ). answering_open Done x (set es 0 cash)) (v ∙ ap (λ (x : Settings). bytes_of (account_words_of (open_account cash x))) h.1))
