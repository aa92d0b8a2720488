-- The call, and what it leaves.
use Prim.Native.Nat.{ℕ, ◌*◌, ◌/◌}
use mathlib.Core.Path.{sym, ◌∙◌}
use lib.IntN.{pos}
use lib.ListN.{length, replicate, take}
use native.Mathlib.Omega.{arith}
use Rattle.table.specs.Rows.{cols}
use Rattle.account.specs.Inner.Account.{account_with}
use Rattle.list_bytes.specs.Lists.{symbols_in, weights_in, prices_in}
use Rattle.list_bytes.proofs.Lists.{target_fronts, price_fronts}
use Rattle.portfolio.proofs.Rooms.{rebalance-room}
use Rattle.portfolio.specs.Answers.{record_places}
use Rattle.portfolio.specs.Rebalance.{rebalanced}
use Rattle.portfolio.specs.Inner.Trades.{traded_on}
use Rattle.fills.specs.Records.{kind_of}
use Rattle.c_trades.proofs.Finishing.{finishing, roomed, told_roomed}
use Rattle.c_trades.proofs.rebalancing.rebalance_in_room.Goals as goal

-- what is lent of each column of the lists
pub slice_bounds-ts-end : goal.slice_bounds-ts-end
slice_bounds-ts-end c = (target_fronts _ _ _ c.targets_into-n.ensures).symbols-room

pub slice_bounds-rebalance_on-end : goal.slice_bounds-rebalance_on-end
slice_bounds-rebalance_on-end c = sym (target_fronts _ _ _ c.targets_into-n.ensures).symbols-long

pub slice_bounds-ws-end : goal.slice_bounds-ws-end
slice_bounds-ws-end c = (target_fronts _ _ _ c.targets_into-n.ensures).values-room

pub slice_bounds-rebalance_on-end-2 : goal.slice_bounds-rebalance_on-end-2
slice_bounds-rebalance_on-end-2 c = sym (target_fronts _ _ _ c.targets_into-n.ensures).values-long

pub slice_bounds-ss-end : goal.slice_bounds-ss-end
slice_bounds-ss-end c = (price_fronts _ _ _ c.prices_into-m.ensures).symbols-room

pub slice_bounds-rebalance_on-end-3 : goal.slice_bounds-rebalance_on-end-3
slice_bounds-rebalance_on-end-3 c = sym (price_fronts _ _ _ c.prices_into-m.ensures).symbols-long

pub slice_bounds-ps-end : goal.slice_bounds-ps-end
slice_bounds-ps-end c = (price_fronts _ _ _ c.prices_into-m.ensures).values-room

pub slice_bounds-rebalance_on-end-4 : goal.slice_bounds-rebalance_on-end-4
slice_bounds-rebalance_on-end-4 c = sym (price_fronts _ _ _ c.prices_into-m.ensures).values-long

-- what is left
pub finish-requires : goal.finish-requires
finish-requires c =
    let s = c.args in
    let n = c.rebalance_on-t.new in
    let rebalancing = λ (n : ℕ). rebalanced (account_with s.h s.columns.now)
    (symbols_in s.targets.now) (weights_in s.targets.now) (symbols_in s.prices.now) (prices_in s.prices.now) s.period (kind_of s.kind) n in
    let f = target_fronts _ _ _ c.targets_into-n.ensures in
    let g = price_fronts _ _ _ c.prices_into-m.ensures in
    let r = roomed (length s.records.now / 96) 64 c.min-room.result (replicate 256 0) (replicate 512 (pos 0)) c.min-room.ensures (omega arith) (omega arith) in
    let e = simp (c.kind_of-kind.ensures, f.symbols c.requires.0, f.values c.requires.0, g.symbols c.requires.1, g.values c.requires.1) at c.rebalance_on-t.ensures in
    let l = finishing (rebalancing (record_places (length (take (4 * c.min-room.result) (replicate 256 0))) (length (take (8 * c.min-room.result) (replicate 512 (pos 0))))))
    (traded_on c.rebalance_on-t.result n.columns) n.words (take (4 * c.min-room.result) (replicate 256 0)) n.ints (take (8 * c.min-room.result) (replicate 512 (pos 0)))
    s.records.now e c.rebalance_on-t.auto.words (omega (arith, r.words_long, c.min-room.ensures)) in
    l.few

pub returns : goal.returns
returns c =
    let s = c.args in
    let n = c.rebalance_on-t.new in
    let rebalancing = λ (n : ℕ). rebalanced (account_with s.h s.columns.now)
    (symbols_in s.targets.now) (weights_in s.targets.now) (symbols_in s.prices.now) (prices_in s.prices.now) s.period (kind_of s.kind) n in
    let f = target_fronts _ _ _ c.targets_into-n.ensures in
    let g = price_fronts _ _ _ c.prices_into-m.ensures in
    let r = roomed (length s.records.now / 96) 64 c.min-room.result (replicate 256 0) (replicate 512 (pos 0)) c.min-room.ensures (omega arith) (omega arith) in
    let e = simp (c.kind_of-kind.ensures, f.symbols c.requires.0, f.values c.requires.0, g.symbols c.requires.1, g.values c.requires.1) at c.rebalance_on-t.ensures in
    let l = finishing (rebalancing (record_places (length (take (4 * c.min-room.result) (replicate 256 0))) (length (take (8 * c.min-room.result) (replicate 512 (pos 0))))))
    (traded_on c.rebalance_on-t.result n.columns) n.words (take (4 * c.min-room.result) (replicate 256 0)) n.ints (take (8 * c.min-room.result) (replicate 512 (pos 0)))
    s.records.now e c.rebalance_on-t.auto.words (omega (arith, r.words_long, c.min-room.ensures)) in
    c.finish.ensures ∙ l.written s.account.now ∙ told_roomed r rebalancing (rebalance-room _ _ _ _ _ _ _ _) _ _
