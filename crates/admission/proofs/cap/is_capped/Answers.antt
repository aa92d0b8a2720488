-- A trade cap settles it; without one the notional cap does.
use mathlib.Core.Path.{◌≡◌, sym}
use mathlib.Core.Bool.{true}
use Prim.Native.Nat.{ℕ}
use lib.IntN.{pos}
use lib.Signed.{lt_z}
use mir.Syntax.{w64}
use mir.Val.{SFits}
use mir.Facts.{to_z-of_z}
use Rattle.account.specs.declared.settings.Settings.{Settings}
use Rattle.account.specs.declared.settings.TradeCap.TheVariants.{Absent, AtMost}
use Rattle.admission.specs.Admission.{capped}
use borrow.Author.Rules.{rules}
use Rattle.admission.proofs.cap.is_capped.Goals as goal

by-trades : (s : Settings) (n : ℕ) → s.max_trades_per_rebalance ≡ AtMost n → capped s ≡ true
unfolding capped
by-trades s n e = rw e

by-notional : (s : Settings) → s.max_trades_per_rebalance ≡ Absent → capped s ≡ lt_z (pos 0) s.max_rebalance_notional
unfolding capped
by-notional s e = rw e

pub returns-in-AtMost : goal.returns-in-AtMost
returns-in-AtMost c = sym (by-trades c.args.s _ c.in-AtMost.is)

pub returns-in-Absent : goal.returns-in-Absent
returns-in-Absent c =
    let f : SFits w64 c.args.s.max_rebalance_notional = search rules in
    simp (to_z-of_z f) (sym (by-notional c.args.s c.in-Absent.is))
