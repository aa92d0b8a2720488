-- The call on the first places of two arrays of zeros, and what it filed there stored into the run.
use mathlib.Core.Path.{ap, ◌∙◌}
use native.Mathlib.Omega.{arith}
use lib.IntN.{pos}
use lib.ListN.{length, replicate}
use mir.Facts.{to_z-of_z}
use Rattle.portfolio.specs.Close.{position_closed}
use Rattle.portfolio.proofs.Rooms.{close-room}
use Rattle.records.proofs.Writing.{all_is_handed}
use Rattle.records.proofs.into.close_position_into.Goals as goal

pub returns : goal.returns
returns c =
    let x = c.args in
    let t = c.close_position_at-closed in
    let closed = position_closed x.a x.symbol x.price x.period x.kind in
    all_is_handed closed c.min-room.result (replicate 4 0) t.new.words (replicate 8 (pos 0)) t.new.ints x.out.now c.collect.new.out t.result
    (omega arith) (omega arith) t.auto.words (omega arith)
    (ap closed c.min-room.ensures ∙ close-room x.a x.symbol x.price x.period x.kind 1 (length x.out.now) (omega arith))
    (simp (to_z-of_z c.ranges.price) at t.ensures) c.collect.ensures
