-- The symbol, then the four numbers.
use native.Mathlib.Omega.{arith}
use mathlib.Core.Path.{◌≡◌, ◌∙◌, ap}
use mathlib.Core.List.{[], ◌∷◌, map}
use mir.Syntax.{w64}
use mir.Val.{SFits}
use borrow.Author.Rules.{rules}
use Rattle.position.specs.declared.position.Position.{Position}
use Rattle.position.specs.Rows.{avg, realized, total, numbers_of}
use Rattle.seven_bit.specs.Signed.{folded}
use Rattle.saved_form.proofs.Signed.{folds}
use Rattle.saving.proofs.Putting as P
use Rattle.saving.proofs.Texts.{symbol-short}
use Rattle.saving.proofs.PositionRuns as R
use Rattle.saving.proofs.positions.put_position.Goals as goal

record SignedFit (p : Position) : Type 0 where
  average : SFits w64 (avg p)
  realized : SFits w64 (realized p)
  total : SFits w64 (total p)

pub put_fields-requires : goal.put_fields-requires
put_fields-requires c = (omega arith, omega (arith, c.put_symbol-at.ensures.next, P.put-long c.put_symbol-at.ensures, symbol-short c.args.p.symbol.0))

pub returns : goal.returns
returns c =
    let f : SignedFit c.args.p = search rules in
    let r : SFits w64 c.raw.result = search rules in
    -- the four numbers as they are written
    let values : c.folded.result ∷ c.folded-2.result ∷ c.folded-3.result ∷ c.folded-4.result ∷ [] ≡ map folded (numbers_of c.args.p) =
    simp (
      folds r c.folded.ensures ∙ ap folded c.raw.ensures,
      folds f.average c.folded-2.ensures,
      folds f.realized c.folded-3.ensures,
      folds f.total c.folded-4.ensures,
    )
    in
    R.position-put c.args.p _ values c.put_symbol-at.ensures c.put_fields.ensures
