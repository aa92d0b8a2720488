-- Two columns of zeros.
use lib.Ieee.{of_bits}
use borrow.Author.Rules.{rules}
use Rattle.queries.specs.Answers.{weighed}
use Rattle.queries.proofs.weight.no_weights.Goals as goal

pub returns : goal.returns
unfolding of_bits weighed
returns c = search rules
