-- The price of one place more.
use Prim.Native.Nat.{◌<◌}
use mathlib.Core.Path.{◌≡◌, refl, ap}
use native.Mathlib.Omega.{arith}
use lib.ListN.{length, length-set}
use mir.Syntax.{w64}
use mir.Val.{SFits}
use mir.Facts.{to_z-of_z}
use borrow.Author.Rules.{rules}
use Rattle.call_lists.specs.Lists.{price_of}
use Rattle.queries.proofs.Walks.{price-more}
use Rattle.queries.proofs.price.looked_up.Goals as goal

pub loop-i-init : goal.loop-i-init
loop-i-init c = (refl, λ r i h. absurd (omega arith))

pub loop-i-preserved : goal.loop-i-preserved
loop-i-preserved c =
    let x = c.args in
    let l = c.loop-i in
    let q = c.quote-q.result in
    let f : SFits w64 q.price = search rules in
    let h : l.i < length l.price = omega (arith, l.invariant.0) in (
      simp length-set l.invariant.0,
      λ r.
          simp (to_z-of_z f)
          (price-more (price_of x.symbols.now x.prices.now) l.i x.symbol.now l.price q.price h (l.invariant.1 r) (ap (λ k. k.price) (c.quote-q.ensures.settled r))),
    )

pub returns : goal.returns
returns c =
    let e : c.loop-i.i ≡ c.args.n = omega arith in
    record { settled = λ r. rw e at (c.loop-i.invariant.1 r) }
