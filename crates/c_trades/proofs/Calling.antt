-- Every call over bytes is one law: what is refused before the call, and the call. Each says what it gives, what it tells, and what a refusal leaves.
use Prim.Native.Nat.{ℕ, ◌/◌}
use mathlib.Core.Path.{◌≡◌, refl, sym, ap, ◌∙◌}
use mathlib.Core.Bool.{Bool, true, false}
use mathlib.Core.List.{List}
use lib.IntN.{ℤ}
use lib.Ieee.{Float}
use lib.ListN.{length}
use Rattle.answer.specs.declared.Answer.{Answer}
use Rattle.answer.specs.declared.Answer.TheVariants.{Unsound}
use Rattle.answer.specs.Places.{word_of}
use Rattle.table.specs.Keyed.{pick}
use Rattle.table.specs.declared.table.Columns.{Columns}
use Rattle.account.specs.declared.account.Account.{Account}
use Rattle.account.specs.declared.account.Ledger.{Ledger}
use Rattle.account.specs.Account.{sound_account}
use Rattle.account.specs.Inner.Account.{account_with}
use Rattle.account_bytes.specs.Account.{hold_account}
use Rattle.fills.specs.Records.{kind_of}
use Rattle.list_bytes.specs.Lists.{symbols_in, weights_in, prices_in}
use Rattle.portfolio.specs.Answers.{is_done}
use Rattle.portfolio.specs.Rebalance.{Outcome, rebalanced}
use Rattle.portfolio.specs.Close.{position_closed}
use Rattle.portfolio.specs.Returns.{Recorded, recorded}
use Rattle.c_trades.specs.Asked.{account_in, asked}
use Rattle.c_trades.specs.Inner.Asked.{early, early_on, HoldsAccount}
use Rattle.c_trades.specs.Calls.{refused_in}
use Rattle.c_trades.specs.Told.{TradeTold, tell_trade, trade_told}
use Rattle.c_trades.specs.Returns.{ReturnTold, tell_return, return_told, unrecorded}
use Rattle.std.proofs.Common.{Ok, Err}
use Rattle.answer.specs.Numbers.{checked}
use Rattle.portfolio.proofs.Refusals.{no_error, an_error}
use Rattle.c_trades.proofs.Asking.{asked-early, early-bad, early-good, early-whole, close_unsound, rebalance_unsound, return_unsound}

-- ---- what a call on the account of the bytes gives, what is told of it, and what a refusal leaves, as of an account that is not sound
pub record CallOnBytes (X Y : Type 0) (b : List ℕ) : Type 0 where
  pub gives : Account → X
  pub refuses : Answer → X
  pub tells : X → Y
  pub leaves : ℕ → Y
  pub refused : (w : Answer) → is_done w ≡ false → tells (refuses w) ≡ leaves (word_of w)
  pub unsound : sound_account (account_in b) ≡ false → gives (account_in b) ≡ refuses Unsound

module _ {X Y : Type 0} {b : List ℕ} (k : CallOnBytes X Y b) (kind : ℕ) (whole : Bool) where
  abbrev call_in : X
  call_in = asked k.refuses b kind whole (k.gives (account_in b))

  by_answer : (w : Answer) → w ≡ early b kind whole → call_in ≡ pick (is_done w) (k.gives (account_in b)) (k.refuses w)
  by_answer w e = asked-early k.refuses (k.gives (account_in b)) b kind whole k.unsound ∙ ap (λ x. pick (is_done x) (k.gives (account_in b)) (k.refuses x)) (sym e)

  refused_in_lem : (w : Answer) → w ≡ early b kind whole → is_done w ≡ false → k.leaves (word_of w) ≡ k.tells call_in
  refused_in_lem w e d = sym (ap k.tells (by_answer w e ∙ ap (λ t. pick t (k.gives (account_in b)) (k.refuses w)) d) ∙ k.refused w d)

  -- of bytes that hold no account
  pub no_account_lem : hold_account b ≡ false → k.leaves (word_of Unsound) ≡ k.tells call_in
  no_account_lem e = refused_in_lem Unsound (sym (early-bad b kind whole e)) refl

  -- of an account that was read as a ledger and five columns
  module _ (h : Ledger) (c : Columns) (r : HoldsAccount b h c) where
    abbrev first : Answer
    first = early_on (account_with h c) kind whole

    first_is : first ≡ early b kind whole
    first_is = ap (λ (a : Account). early_on a kind whole) r.same ∙ sym (early-good b kind whole r.good)

    pub refused-call : (w : Answer) → Err w ≡ checked first → k.leaves (word_of w) ≡ k.tells call_in
    refused-call w e =
        let x = an_error w first e in
        refused_in_lem w (x.0 ∙ first_is) (ap is_done x.0 ∙ x.1)

    pub made_in : Ok tt ≡ checked first → k.tells (k.gives (account_in b)) ≡ k.tells call_in
    made_in e = ap k.tells (sym (by_answer first first_is ∙ ap (λ x. pick x (k.gives (account_in b)) (k.refuses first)) (no_error first e)))

    pub made-call : Ok tt ≡ checked first → k.tells (k.gives (account_with h c)) ≡ k.tells call_in
    made-call e = ap (λ (a : Account). k.tells (k.gives a)) r.same ∙ made_in e

    -- it was given whole lists
    pub all_whole : Ok tt ≡ checked first → whole ≡ true
    all_whole e = early-whole (account_with h c) kind whole (no_error first e)

-- ---- the calls
pub told-refused : (b rs : List ℕ) (w : Answer) → is_done w ≡ false → trade_told (refused_in b w) b rs ≡ tell_trade (word_of w) b rs
unfolding trade_told
told-refused b rs w e = simp e

pub noted-refused : (b : List ℕ) (es : List ℤ) (rs : List Float) (w : Answer) → is_done w ≡ false → return_told (unrecorded b es rs w) b ≡ tell_return (word_of w) b es rs
unfolding return_told
noted-refused b es rs w e = simp e

module _ (b rs : List ℕ) (period kind : ℕ) where
  abbrev pub close-call : ℕ → ℤ → CallOnBytes Outcome TradeTold b
  close-call s price =
      record {
        gives = λ a. position_closed a s price period (kind_of kind) (length rs / 96);
        refuses = refused_in b;
        tells = λ o. trade_told o b rs;
        leaves = λ n. tell_trade n b rs;
        refused = told-refused b rs;
        unsound = close_unsound (account_in b) s price period (kind_of kind) (length rs / 96);
      }

  abbrev pub rebalance-call : List ℕ → List ℕ → CallOnBytes Outcome TradeTold b
  rebalance-call ts ps =
      record {
        gives = λ a. rebalanced a (symbols_in ts) (weights_in ts) (symbols_in ps) (prices_in ps) period (kind_of kind) (length rs / 96);
        refuses = refused_in b;
        tells = λ o. trade_told o b rs;
        leaves = λ n. tell_trade n b rs;
        refused = told-refused b rs;
        unsound = rebalance_unsound (account_in b) (symbols_in ts) (weights_in ts) (symbols_in ps) (prices_in ps) period (kind_of kind) (length rs / 96);
      }

abbrev pub return-call : (b ps : List ℕ) (es : List ℤ) (rs : List Float) → CallOnBytes Recorded ReturnTold b
return-call b ps es rs =
    record {
      gives = λ a. recorded a (symbols_in ps) (prices_in ps) es rs;
      refuses = unrecorded b es rs;
      tells = λ o. return_told o b;
      leaves = λ n. tell_return n b es rs;
      refused = noted-refused b es rs;
      unsound = return_unsound (account_in b) (symbols_in ps) (prices_in ps) es rs;
    }
