-- The constant's pattern is the double of a million.
use mathlib.Core.Path.{◌≡◌, refl, ◌∙◌, ap}
use lib.IntN.{pos}
use lib.Ieee.{Float, binary64, div, of_int, of_bits}
use mir.Syntax.{w64}
use mir.Val.{SFits}
use mir.Facts.{to_z-of_z}
use borrow.Author.Rules.{rules}
use Rattle.position.specs.Shares.{to_f64}
use Rattle.position.proofs.shares.Shares.to_f64.Goals as goal

million : of_bits binary64 4696837146684686336 ≡ of_int binary64 (pos 1000000)
unfolding of_bits of_int
million = refl

pub returns : goal.returns
unfolding to_f64
returns c =
    let f : SFits w64 c.args.self.0 = search rules in
    let e = simp (to_z-of_z f) at c.i64_to_f64.ensures in
    ap (λ (x : Float). div binary64 c.i64_to_f64.result x) million ∙ ap (λ (x : Float). div binary64 x (of_int binary64 (pos 1000000))) e
