-- Figures and weights, or nothing.
use borrow.Author.Rules.{rules}
use Prim.Native.Nat.{ℕ}
use mathlib.Core.Path.{◌≡◌, sym, ap, ◌∙◌}
use mathlib.Core.List.{List}
use mir.Syntax.{w64}
use mir.Val.{SFits}
use mir.Facts.{to_z-of_z}
use Rattle.word_bytes.specs.Words.{bytes_of, put_word}
use Rattle.c_queries.specs.Reports.{snapshot_words, snapshot_told}
use Rattle.c_queries.proofs.Telling.{five_puts}
use Rattle.c_queries.proofs.summary.put_snapshot.Goals as goal

pub returns-then-not-is_done : goal.returns-then-not-is_done
unfolding snapshot_told
returns-then-not-is_done c = simp (sym c.is_done.ensures ∙ c.if-not-is_done.true, c.word.ensures)

pub returns : goal.returns
unfolding snapshot_told
returns c =
    let s = c.args.s in
    let d = sym c.is_done.ensures ∙ c.if-not-is_done.false in
    let cash : SFits w64 s.cash = search rules in
    let equity : SFits w64 s.equity = search rules in
    let realized : SFits w64 s.total_realized_pnl = search rules in
    let four = simp (to_z-of_z cash, to_z-of_z equity, to_z-of_z realized) at c.write_figures.ensures in
    let five : c.put_word.new.bytes ≡ bytes_of (snapshot_words s) =
    c.put_word.ensures ∙ ap (λ (l : List ℕ). put_word l 4 s.weights.count) four ∙ five_puts c.args.figures.now _ _ _ _ _ c.requires.0 in
    simp (d, five, c.write_weights.ensures)
