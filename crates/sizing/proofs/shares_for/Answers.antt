-- Each step answers the two words of its number; where the total takes one word, so does what is left of it.
use Rattle.std.proofs.Common.{◌≡◌, ℕ, ◌*◌, ◌/◌, ◌^◌, ◌<◌, ap, ◌∙◌, arith, rules}
use Rattle.sums.specs.Sums.{SCALE, snap}
use Rattle.sums.proofs.TwoWords.{words_of, value_of-wide, one_word}
use Rattle.sizing.specs.Sizing.{shares_for}
use Rattle.sizing.proofs.shares_for.Goals as goal

pub returns-then-step-lt4294967296 : goal.returns-then-step-lt4294967296
unfolding shares_for
returns-then-step-lt4294967296 c =
    let m = c.mul_wide-total in
    let q = c.snapped_quotient in
    let a = c.args in
    let w = one_word m.result (a.value * SCALE) m.ensures c.if-total-eq0.true in
    let e : q.result ≡ snap (a.value * SCALE / a.price) a.step = q.ensures ∙ ap (λ (n : ℕ). snap (n / a.price) a.step) w.0 in
    let l : q.result < 2 ^ 64 = search rules in
    words_of 0 _ _ l (omega (arith, e))

pub returns : goal.returns
unfolding shares_for
returns c =
    rw (c.snap_wide.ensures, c.div_wide.ensures, value_of-wide, c.mul_wide-total.ensures, value_of-wide)
