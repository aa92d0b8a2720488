-- The call in a slice of one place, where the buffer has one, and what it leaves.
use mathlib.Core.Path.{◌∙◌}
use Prim.Native.Nat.{ℕ, ◌*◌, ◌/◌}
use native.Mathlib.Omega.{arith}
use lib.IntN.{pos}
use lib.ListN.{length, replicate, take}
use mir.Facts.{to_z-of_z}
use Rattle.table.specs.Rows.{cols}
use Rattle.account.specs.Inner.Account.{account_with}
use Rattle.portfolio.specs.Answers.{record_places}
use Rattle.portfolio.specs.Inner.Trades.{traded_on}
use Rattle.portfolio.specs.Close.{position_closed}
use Rattle.fills.specs.Records.{kind_of}
use Rattle.portfolio.proofs.Rooms.{close-room}
use Rattle.c_trades.proofs.Finishing.{roomed, told_roomed, finishing}
use Rattle.c_trades.proofs.closing.close_in_room.Goals as goal

pub finish-requires : goal.finish-requires
finish-requires c =
    let s = c.args in
    let n = c.close_on-t.new in
    let closing = λ (n : ℕ). position_closed (account_with s.h s.columns.now) s.s s.price s.period (kind_of s.kind) n in
    let r = roomed (length s.records.now / 96) 1 c.min-room.result (replicate 4 0) (replicate 8 (pos 0)) c.min-room.ensures (omega arith) (omega arith) in
    let e = simp (to_z-of_z c.ranges.price, c.kind_of-kind.ensures) at c.close_on-t.ensures in
    let l = finishing (closing (record_places (length (take (4 * c.min-room.result) (replicate 4 0))) (length (take (8 * c.min-room.result) (replicate 8 (pos 0))))))
    (traded_on c.close_on-t.result n.columns) n.words (take (4 * c.min-room.result) (replicate 4 0)) n.ints (take (8 * c.min-room.result) (replicate 8 (pos 0)))
    s.records.now e c.close_on-t.auto.words (omega (arith, r.words_long, c.min-room.ensures)) in
    l.few

pub returns : goal.returns
returns c =
    let s = c.args in
    let n = c.close_on-t.new in
    let closing = λ (n : ℕ). position_closed (account_with s.h s.columns.now) s.s s.price s.period (kind_of s.kind) n in
    let r = roomed (length s.records.now / 96) 1 c.min-room.result (replicate 4 0) (replicate 8 (pos 0)) c.min-room.ensures (omega arith) (omega arith) in
    let e = simp (to_z-of_z c.ranges.price, c.kind_of-kind.ensures) at c.close_on-t.ensures in
    let l = finishing (closing (record_places (length (take (4 * c.min-room.result) (replicate 4 0))) (length (take (8 * c.min-room.result) (replicate 8 (pos 0))))))
    (traded_on c.close_on-t.result n.columns) n.words (take (4 * c.min-room.result) (replicate 4 0)) n.ints (take (8 * c.min-room.result) (replicate 8 (pos 0)))
    s.records.now e c.close_on-t.auto.words (omega (arith, r.words_long, c.min-room.ensures)) in
    c.finish.ensures ∙ l.written s.account.now ∙ told_roomed r closing (close-room _ _ _ _ _ 1 _ (omega arith)) _ _
