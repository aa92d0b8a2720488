-- What is told is as the definition of a question says, and a position that the account lacks is all zeros.
use mathlib.Core.Path.{◌≡◌, refl, sym, ◌∙◌, ap}
use Prim.Native.Nat.{ℕ, ◌*◌}
use mathlib.Core.Bool.{Bool, true, false}
use mathlib.Core.List.{List}
use mathlib.Core.Option.{Option, none, some}
use lib.Dec.{eqb, ltb}
use lib.ListN.{length, replicate}
use borrow.Author.Tests.{eq-eqb, ne_eqb}
use Rattle.std.specs.Prelude.{Ok, Err}
use Rattle.answer.specs.declared.Answer.{Answer}
use Rattle.answer.specs.declared.Answer.TheVariants.{Done, BadSymbol, TooLong, Unsound}
use Rattle.answer.specs.Numbers.{is_done, checked}
use Rattle.answer.specs.Places.{alone}
use Rattle.position.specs.declared.position.Position.{Position}
use Rattle.position.specs.Rows.{key_of}
use Rattle.position.specs.Symbols.{good_symbol}
use Rattle.table.specs.Keyed.{pick, seek}
use Rattle.word_bytes.specs.Words.{bytes_of, turned}
use Rattle.account.specs.declared.account.Account.{Account}
use Rattle.account.specs.declared.holding.Held.{Held}
use Rattle.account.specs.Account.{held_in, sound_account}
use Rattle.account.specs.Calls.{absent, present, present_or, position_of, position_at_of}
use Rattle.account_bytes.specs.Sizes.{settings_length}
use Rattle.account_bytes.specs.Settings.{settings_words, written_settings}
use Rattle.c_accounts.specs.Entries.{account_in, settings_in, sound_in, answering}
use Rattle.account.specs.Inner.Answers.{unless_unsound}
use Rattle.c_accounts.specs.Queries.{queried, held_words, settings_told}
use Rattle.c_accounts.specs.Inner.Queries.{is_unsound, tell_in}
use Rattle.account_bytes.proofs.Sound.{sound_in_lem}

-- ---- whether an account is sound, as code asks
pub unsound_is : (t : Bool) {e : Answer} → checked (pick t Done Unsound) ≡ Err e → (t ≡ false) × (e ≡ Unsound)
unsound_is true e = cc
unsound_is false e = (refl, cc)

pub sound_is : (t : Bool) {u : Unit {0}} → checked (pick t Done Unsound) ≡ Ok u → t ≡ true
sound_is true e = refl
sound_is false e = cc

-- ---- words told, by each way out
module _ (w : Answer) (words out : List ℕ) where
  pub tell_unsound : is_unsound w ≡ true → answering w out ≡ tell_in w words out
  unfolding tell_in
  tell_unsound e = simp e

  pub tell_short : is_unsound w ≡ false → (length out ≡ 8 * length words → ⊥) → answering TooLong out ≡ tell_in w words out
  unfolding tell_in
  tell_short e f = simp (e, ne_eqb (length out) (8 * length words) f)

  pub tell_made : (l : List ℕ) → is_unsound w ≡ false → length out ≡ 8 * length words → l ≡ pick (is_done w) (bytes_of words) out → answering w l ≡ tell_in w words out
  unfolding tell_in
  tell_made l e f h = simp (e, eq-eqb (length out) (8 * length words) f, h)

-- an answer that is given of a sound account alone, and is not 11 itself
told_by : (t : Bool) (w : Answer) → is_unsound w ≡ false → (words out : List ℕ)
    → tell_in (pick t w Unsound) words out ≡ pick t (pick (eqb (length out) (8 * length words)) (answering w (pick (is_done w) (bytes_of words) out)) (answering TooLong out)) (answering Unsound out)
unfolding tell_in
told_by true w e words out = simp e
told_by false w e words out = refl

-- ---- what is told, of the account that bytes hold
-- the words that the account gives
pub told-queried : (gives : Account → List ℕ) (w : Answer) → is_unsound w ≡ false → (b out : List ℕ) {a : Account} {v : Answer} {ws : List ℕ}
    → a ≡ account_in b → v ≡ unless_unsound a w → ws ≡ gives a → let words = gives (account_in b) in tell_in v ws out ≡ queried b (8 * length words) w words out
unfolding queried
told-queried gives w u b out {a} {v} {ws} h m k =
    ap (λ (x : Answer). tell_in x ws out) m
    ∙ ap (λ (l : List ℕ). tell_in (unless_unsound a w) l out) k
    ∙ ap (λ (x : Account). tell_in (unless_unsound x w) (gives x) out) h
    ∙ told_by (sound_account (account_in b)) w u (gives (account_in b)) out
    ∙ rw (sound_in_lem b) refl

-- ---- positions
present-done : (o : Option Position) → (present_or o).answer ≡ Done
present-done none = refl
present-done (some p) = refl

position_by : (t g : Bool) (o : Option Position) → (pick t (pick g (present_or o) (absent (BadSymbol alone))) (absent Unsound)).answer ≡ pick t (pick g Done (BadSymbol alone)) Unsound
position_by true true o = present-done o
position_by true false o = refl
position_by false g o = refl

pub position-answer : (s : ℕ) (a : Account) → (position_of s a).answer ≡ unless_unsound a (pick (good_symbol s) Done (BadSymbol alone))
unfolding position_of
position-answer s a = position_by (sound_account a) (good_symbol s) (seek key_of s (held_in a.positions))

place_by : (t g : Bool) (p : Position) → (pick t (pick g (present p) (absent Done)) (absent Unsound)).answer ≡ pick t Done Unsound
place_by true true p = refl
place_by true false p = refl
place_by false g p = refl

pub place_answer : (i : ℕ) (a : Account) → (position_at_of i a).answer ≡ unless_unsound a Done
unfolding position_at_of
place_answer i a = place_by (sound_account a) (ltb i a.positions.count) _

-- the words of the position that the account gives
pub told-held : (gives : Account → Held) (w : Answer) → is_unsound w ≡ false → ((a : Account) → (gives a).answer ≡ unless_unsound a w) → (b out : List ℕ) {a : Account} {h : Held} {ws : List ℕ}
    → a ≡ account_in b → h ≡ gives a → ws ≡ held_words h → tell_in h.answer ws out ≡ queried b 48 w (held_words (gives (account_in b))) out
told-held gives w u each b out {a} {h} {ws} e g k =
    told-queried (λ (x : Account). held_words (gives x)) w u b out e (ap (λ (x : Held). x.answer) g ∙ each a) (k ∙ ap held_words g)

pub good-told : (g : Bool) → is_unsound (pick g Done (BadSymbol alone)) ≡ false
good-told true = refl
good-told false = refl

-- "a position the account lacks is 0 with an absent mark"
pub absent_is_zeros : (w : Answer) → bytes_of (held_words (absent w)) ≡ replicate 48 0
unfolding bytes_of turned
absent_is_zeros w = refl

-- ---- settings
module _ (b out : List ℕ) (a : Account) (h : a ≡ account_in b) where
  sound_as : sound_in b ≡ sound_account a
  sound_as = sound_in_lem b ∙ ap sound_account (sym h)

  pub settings_unsound : {e : Answer} → checked (unless_unsound a Done) ≡ Err e → answering e out ≡ settings_told b out
  unfolding queried
  settings_unsound e = let q = unsound_is (sound_account a) e in simp (sound_as ∙ q.0, q.1)

  pub settings-short : {u : Unit {0}} → checked (unless_unsound a Done) ≡ Ok u → (length out ≡ settings_length → ⊥) → answering TooLong out ≡ settings_told b out
  unfolding queried
  settings-short e f = simp (sound_as ∙ sound_is (sound_account a) e, ne_eqb (length out) settings_length f)

  pub settings-done : {u : Unit {0}} (l : List ℕ) → checked (unless_unsound a Done) ≡ Ok u → length out ≡ settings_length → l ≡ written_settings a.settings out → answering Done l ≡ settings_told b out
  unfolding queried written_settings
  settings-done l e f w =
      let q = eq-eqb (length out) settings_length f in
      let v : l ≡ bytes_of (settings_words a.settings) = simp q at w in
      let r : l ≡ bytes_of (settings_words (settings_in b)) = v ∙ ap (λ (x : Account). bytes_of (settings_words x.settings)) h in
      simp (sound_as ∙ sound_is (sound_account a) e, q, r)
