-- Eight bytes, the first one highest.
use Rattle.std.proofs.Common.{ap, arith}
use Rattle.position.specs.Rows.{symbol}
use Rattle.position.specs.Symbols.{leading}
use Rattle.position.proofs.symbol.Symbol.from_bytes.Goals as goal

pub returns : goal.returns
unfolding leading
returns c = ap symbol (omega arith)
