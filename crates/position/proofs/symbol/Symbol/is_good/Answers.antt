-- A byte that is neither good nor padding ends the search, and so does a rest of 0, which is padding alone.
use Rattle.std.proofs.Common.{◌≡◌, ℕ, suc, ◌+◌, ◌-◌, sym, ap, ◌∙◌, add-one, arith}
use Rattle.position.specs.Symbols.{bytes_from, padded, good_symbol}
use Rattle.position.proofs.Symbols.{next_spaced, all_spaced, some_bytes, zero-zeros, zero-padded, bad_byte, good_byte_lem}
use Rattle.position.proofs.symbol.Symbol.is_good.Goals as goal

pub returns-then-rest-eq0 : goal.returns-then-rest-eq0
unfolding good_symbol
returns-then-rest-eq0 c = rw (c.if-rest-eq0.true, zero-zeros 8)

pub loop-init : goal.loop-init
unfolding good_symbol
loop-init c =
    let n = c.args.self.0 in
    record { spaced = all_spaced n (omega arith); same = rw (some_bytes n (omega arith) c.if-rest-eq0.false) }

pub returns-then-rest-eq0-2 : goal.returns-then-rest-eq0-2
returns-then-rest-eq0-2 c =
    let l = c.loop in
    sym (zero-padded (8 - l.counter)) ∙ ap (λ (n : ℕ). padded (bytes_from (8 - l.counter) n)) (sym c.if-rest-eq0-2.true) ∙ l.invariant.same

pub returns-then-not-good_byte : goal.returns-then-not-good_byte
returns-then-not-good_byte c =
    let l = c.loop in
    let more : 8 - l.counter ≡ suc (7 - l.counter) = omega arith in
    let here : suc (7 - l.counter) + l.counter ≡ 8 = omega arith in
    let bad = sym c.good_byte.ensures ∙ c.if-not-good_byte.true in
    sym (bad_byte (7 - l.counter) l.counter l.rest here l.invariant.spaced c.if-rest-eq0-2.false bad)
    ∙ ap (λ (x : ℕ). padded (bytes_from x l.rest)) (sym more) ∙ l.invariant.same

pub loop-preserved : goal.loop-preserved
loop-preserved c =
    let l = c.loop in
    let more : 8 - l.counter ≡ suc (7 - l.counter) = omega arith in
    let left : 8 - (l.counter + 1) ≡ 7 - l.counter = omega arith in
    let here : suc (7 - l.counter) + l.counter ≡ 8 = omega arith in
    let good = sym c.good_byte.ensures ∙ c.if-not-good_byte.false in
    record {
      spaced = rw add-one (next_spaced (7 - l.counter) l.counter l.rest here l.invariant.spaced);
      same = rw left (sym (good_byte_lem (7 - l.counter) l.rest good) ∙ ap (λ (x : ℕ). padded (bytes_from x l.rest)) (sym more) ∙ l.invariant.same);
    }

pub returns : goal.returns
unfolding padded bytes_from
returns c =
    let l = c.loop in
    let none : 8 - l.counter ≡ 0 = omega arith in
    sym (ap (λ (x : ℕ). padded (bytes_from x l.rest)) none) ∙ l.invariant.same
