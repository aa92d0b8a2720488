-- A refusal leaves all as it was; else a run of one order.
use mathlib.Core.Path.{◌≡◌, refl, ◌∙◌, ap}
use lib.ListN.{length}
use mir.Syntax.{w64}
use mir.Val.{SFits, to_z, of_z}
use mir.Facts.{to_z-of_z}
use borrow.Author.Rules.{rules}
use Rattle.sums.specs.Sums.{sat_neg}
use Rattle.table.specs.Rows.{Full, cols}
use Rattle.fills.specs.Records.{all_words, all_ints}
use Rattle.account.specs.Inner.Account.{account_with}
use Rattle.account.proofs.SoundAccounts.{account-ordered}
use Rattle.portfolio.specs.Answers.{record_places}
use Rattle.portfolio.specs.Rebalance.{refused}
use Rattle.portfolio.specs.Close.{position_closed}
use Rattle.portfolio.specs.Trades.{filed}
use Rattle.portfolio.proofs.Refusals.{full, no_error, an_error, close-done}
use Rattle.portfolio.proofs.Trading.{closed_by_run}
use Rattle.portfolio.proofs.close.close_on.Goals as goal

pub returns-in-Err : goal.returns-in-Err
unfolding position_closed all_words all_ints
returns-in-Err c =
    let x = c.args in
    let a = account_with x.h x.columns.now in
    let e = an_error _ _ (simp (to_z-of_z c.ranges.price, c.places-room.ensures) at c.in-Err.ensures) in
    rw e.1 (ap (λ w. filed (refused w a) x.words.now x.ints.now) e.0)

pub returns : goal.returns
returns c =
    let x = c.args in
    let a = account_with x.h x.columns.now in
    let room = record_places (length x.words.now) (length x.ints.now) in
    let f = c.whole_columns.ensures in
    let d = no_error _ (simp (to_z-of_z c.ranges.price, c.places-room.ensures) at c.in_default.ensures) in
    let k = close-done a x.s x.price room d in
    let fn : SFits w64 x.h.counters.last_rebalance_notional = search rules in
    let fr : SFits w64 c.raw.result = search rules in
    let shares : to_z w64 (of_z w64 c.raw.result) ≡ c.neg.result.0 = to_z-of_z fr ∙ c.raw.ensures in
    let q = ap (λ k. k.0) c.neg.ensures ∙ ap (λ p. sat_neg p.quantity.0) (c.holding_of-p.ensures (account-ordered a k.sound f)) in
    let r = simp (shares, to_z-of_z c.ranges.price, to_z-of_z fn) at (c.run.ensures (record {
      sound = k.sound;
      roomy = k.roomy;
      full = f;
      symbols = refl;
      quantities = refl;
      prices = refl;
    })) in
    r ∙ ap (λ k. filed k x.words.now x.ints.now) (closed_by_run a x.s x.price x.period x.kind room d c.neg.result.0 q)
