-- After i turns the columns hold the first i entries, and what was found after them.
use Prim.Native.Nat.{ℕ, ◌+◌, ◌*◌, ◌<◌}
use mathlib.Core.Path.{◌≡◌, refl, ap, ◌∙◌}
use native.Mathlib.Omega.{arith}
use borrow.Author.Rules.{rules}
use lib.ListN.{length}
use Rattle.word_bytes.specs.Words.{word_at}
use Rattle.list_bytes.specs.Entries.{at_places_of}
use Rattle.list_bytes.specs.Inner.Entries.{count_of}
use Rattle.list_bytes.specs.Lists.{entry_symbol}
use Rattle.list_bytes.proofs.Columns.{put_on, read_all}
use Rattle.list_bytes.proofs.entry.entries_into.Goals as goal

pub loop-i-init : goal.loop-i-init
unfolding at_places_of
loop-i-init g c = (refl, refl)

pub loop-i-preserved : goal.loop-i-preserved
loop-i-preserved g c =
    let s = c.args in
    let b = s.bytes.now in
    let i = c.loop-i.i in
    let f = λ (i : ℕ). g.T.Stored.of_word (word_at b (2 * i + 1)) in
    let k : i < length s.symbol.now = search rules in
    let h : i < length s.value.now = search rules in (
      put_on i (entry_symbol b) s.symbol.now c.loop-i.invariant.0 c.symbol_at.ensures k,
      put_on i f s.value.now c.loop-i.invariant.1 (c.from_word.ensures ∙ ap g.T.Stored.of_word {y = word_at b (2 * i + 1)} c.word_at.ensures) h,
    )

pub returns : goal.returns
returns g c =
    let s = c.args in
    let b = s.bytes.now in
    let f = λ (i : ℕ). g.T.Stored.of_word (word_at b (2 * i + 1)) in
    let e : c.loop-i.i ≡ count_of g.row.N (length b) = omega (arith, c.count_of-count.ensures) in
    simp (
      c.count_of-count.ensures,
      read_all _ (length b) c.loop-i.i (entry_symbol b) s.symbol.now c.loop-i.invariant.0 e,
      read_all _ (length b) c.loop-i.i f s.value.now c.loop-i.invariant.1 e,
    )
