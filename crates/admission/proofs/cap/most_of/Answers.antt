-- The trade cap, or the count of the places.
use Prim.Native.Nat.{ℕ}
use mathlib.Core.Path.{◌≡◌, sym, ◌∙◌}
use Rattle.table.specs.Inner.Places.{shorter}
use Rattle.account.specs.declared.settings.Settings.{Settings}
use Rattle.account.specs.declared.settings.TradeCap.TheVariants.{Absent, AtMost}
use Rattle.admission.specs.Inner.Admission.{most_of}
use Rattle.admission.proofs.cap.most_of.Goals as goal

by-trades : (s : Settings) (n : ℕ) → s.max_trades_per_rebalance ≡ AtMost n → most_of s ≡ shorter n 64
unfolding most_of
by-trades s n e = rw e

by-places : (s : Settings) → s.max_trades_per_rebalance ≡ Absent → most_of s ≡ 64
unfolding most_of
by-places s e = rw e

pub returns-in-AtMost : goal.returns-in-AtMost
returns-in-AtMost c = c.used.ensures ∙ sym (by-trades c.args.s _ c.in-AtMost.is)

pub returns-in-Absent : goal.returns-in-Absent
returns-in-Absent c = sym (by-places c.args.s c.in-Absent.is)
