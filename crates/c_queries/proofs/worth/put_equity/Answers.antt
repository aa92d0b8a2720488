-- One word over all eight bytes, or nothing.
use borrow.Author.Rules.{rules}
use mathlib.Core.Path.{◌≡◌, sym, ap, ◌∙◌}
use Prim.Native.Nat.{ℕ}
use mathlib.Core.List.{[], ◌∷◌}
use mir.Syntax.{w64}
use mir.Val.{SFits}
use Rattle.word_bytes.specs.Words.{bytes_of}
use Rattle.word_bytes.specs.Numbers.{unsigned_of}
use Rattle.account_bytes.proofs.Runs.{stored}
use Rattle.c_queries.specs.Reports.{equity_told}
use Rattle.c_queries.proofs.Telling.{one-put}
use Rattle.c_queries.proofs.worth.put_equity.Goals as goal

pub returns-then-not-is_done : goal.returns-then-not-is_done
unfolding equity_told
returns-then-not-is_done c = simp (sym c.is_done.ensures ∙ c.if-not-is_done.true, c.word.ensures)

pub returns : goal.returns
unfolding equity_told
returns c =
    let d = sym c.is_done.ensures ∙ c.if-not-is_done.false in
    let f : SFits w64 c.args.c.value = search rules in
    let w : c.put_word.new.bytes ≡ bytes_of (unsigned_of c.args.c.value ∷ []) =
    c.put_word.ensures ∙ one-put c.args.out.now c.unsigned.result c.requires ∙ ap (λ (x : ℕ). bytes_of (x ∷ [])) (stored f c.unsigned.ensures) in
    simp (d, w)
