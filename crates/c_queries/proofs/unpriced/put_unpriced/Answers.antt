-- Two words over all sixteen bytes, or nothing.
use Prim.Native.Nat.{ℕ}
use mathlib.Core.Path.{◌≡◌, sym, ap, ◌∙◌}
use mathlib.Core.List.{List, [], ◌∷◌}
use Rattle.word_bytes.specs.Words.{bytes_of, turned, put_word}
use Rattle.account_bytes.specs.Settings.{flag_word}
use Rattle.c_queries.specs.Reports.{unpriced_told}
use Rattle.c_queries.proofs.Telling.{two_puts}
use Rattle.c_queries.proofs.unpriced.put_unpriced.Goals as goal

pub returns-then-not-is_done : goal.returns-then-not-is_done
unfolding unpriced_told
returns-then-not-is_done c = simp (sym c.is_done.ensures ∙ c.if-not-is_done.true, c.word.ensures)

pub returns : goal.returns
unfolding unpriced_told
returns c =
    let out = c.args.out.now in
    let u = c.args.u in
    let d = sym c.is_done.ensures ∙ c.if-not-is_done.false in
    let m = c.put_word.ensures ∙ ap (put_word out 0) c.flag_word.ensures in
    let w : c.put_symbol.new.bytes ≡ bytes_of (flag_word u.present ∷ turned u.symbol ∷ []) =
    c.put_symbol.ensures ∙ ap (λ (k : List ℕ). put_word k 1 (turned u.symbol)) m ∙ two_puts out (flag_word u.present) (turned u.symbol) c.requires in
    simp (d, w)
