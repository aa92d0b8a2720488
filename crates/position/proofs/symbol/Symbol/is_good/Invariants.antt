-- At each turn the bytes still to be read are padded exactly when the symbol is good; the places already left are zeros, so a rest of 0 is padding alone.
use Rattle.std.proofs.Common.{◌≡◌, ◌-◌}
use Rattle.position.specs.Symbols.{bytes_from, padded, good_symbol}
use Rattle.position.proofs.Symbols.{Spaced}
use Rattle.position.proofs.symbol.Symbol.is_good.Given as goal

abbrev pub invariant-loop : goal.invariant-loop
invariant-loop l = record { spaced : Spaced l.counter l.rest; same : padded (bytes_from (8 - l.counter) l.rest) ≡ good_symbol l.initial.rest }
