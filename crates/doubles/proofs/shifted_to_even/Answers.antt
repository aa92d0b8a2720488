-- The mask leaves the remainder, and the remainder against a half says whether the quotient goes up: the three cases of `closest`.
use Rattle.doubles.proofs.Even.{even_below, even_above, even_tied}
use Rattle.doubles.proofs.shifted_to_even.Goals as goal

pub returns-then-rest-half : goal.returns-then-rest-half
returns-then-rest-half c =
    even_below c.args.n c.args.k c.requires.0 c.requires.1 c.if-rest-half.true

pub returns-then-rest-half-2 : goal.returns-then-rest-half-2
returns-then-rest-half-2 c =
    even_above c.args.n c.args.k c.requires.0 c.requires.1 c.if-rest-half-2.true

pub returns : goal.returns
returns c =
    even_tied c.args.n c.args.k c.requires.0 c.requires.1 c.if-rest-half.false c.if-rest-half-2.false
