-- A NaN stays; a double whose exponent field says 2 ^ 52 or more stays; any other is its size, rounded, with its sign.
use mathlib.Core.Path.{◌≡◌, sym, ap, ◌∙◌, subst}
use mathlib.Core.Bool.{Bool, true, false, not}
use Prim.Native.Nat.{ℕ, ◌^◌, ◌≤◌, ◌<◌}
use native.Mathlib.Omega.{arith}
use lib.Dec.{T, leb, le→leb}
use lib.Ieee.{Float, binary64, fits, is_nan, neg, of_int, in_float, to_bits, round}
use Rattle.doubles.specs.Doubles.{round_away}
use Rattle.doubles.specs.Fields.{exponent_of, nearest_of}
use Rattle.doubles.proofs.Fields.{yes, no, nan_is, sign_set, sign_clear, sized}
use Rattle.doubles.proofs.Away.{away_below, away-above, nearest-le}
use Rattle.doubles.proofs.Signs.{round_neg}
use Rattle.doubles.proofs.round.Goals as goal

pub returns-then-is_nan : goal.returns-then-is_nan
unfolding round_away
returns-then-is_nan c =
    let e = nan_is c.args.x (sym c.is_nan.ensures.value ∙ c.if-is_nan.true) in
    e ∙ ap round_away (sym e)

pub returns-then-exponent-ge1075 : goal.returns-then-exponent-ge1075
returns-then-exponent-ge1075 c =
    let x = c.args.x in
    let b = to_bits binary64 x in
    let h = yes c.well_formed.0.1 in
    away-above x h (leb (2 ^ 63) b) b c.exponent.result (sized x h (no (sym c.is_nan.ensures.value ∙ c.if-is_nan.false))) c.exponent.ensures c.if-exponent-ge1075.true

pub int_to_float-size : goal.int_to_float-size
unfolding in_float
int_to_float-size c =
    let b = to_bits binary64 c.args.x in
    let n = c.nearest_whole-size.result in
    let small : exponent_of b < 1075 = subst (λ (e : ℕ). e < 1075) c.exponent.ensures c.if-exponent-ge1075.false in
    let h : n ≤ 2 ^ 52 = subst (λ (n : ℕ). n ≤ 2 ^ 52) (sym c.nearest_whole-size.ensures) (nearest-le b small) in
    le→leb n (2 ^ 53) (omega arith)

-- the result, by the sign
answer : (x : Float) (h : T (fits binary64 x)) (e : ℕ) (s : Bool) → T (not (is_nan x)) → e ≡ exponent_of (to_bits binary64 x) → e < 1075
    → s ≡ leb (2 ^ 63) (to_bits binary64 x) → round binary64 s (nearest_of (to_bits binary64 x)) 1 ≡ round_away x
answer x h e s n f l g =
    let b = to_bits binary64 x in
    ap (λ (s : Bool). round binary64 s (nearest_of b) 1) g ∙ away_below x h (leb (2 ^ 63) b) b e (sized x h n) f l

pub returns-then-bits-eq1 : goal.returns-then-bits-eq1
unfolding of_int
returns-then-bits-eq1 c =
    let x = c.args.x in
    ap (λ (n : ℕ). neg (round binary64 false n 1)) c.nearest_whole-size.ensures ∙ sym (round_neg binary64 false (nearest_of (to_bits binary64 x)) 1)
    ∙ answer x (yes c.well_formed.0.1) c.exponent.result true (no (sym c.is_nan.ensures.value ∙ c.if-is_nan.false)) c.exponent.ensures c.if-exponent-ge1075.false (sign_set x (yes c.well_formed.0.1) c.if-bits-eq1.true)

pub returns : goal.returns
unfolding of_int
returns c =
    let x = c.args.x in
    ap (λ (n : ℕ). round binary64 false n 1) c.nearest_whole-size.ensures
    ∙ answer x (yes c.well_formed.0.1) c.exponent.result false (no (sym c.is_nan.ensures.value ∙ c.if-is_nan.false)) c.exponent.ensures c.if-exponent-ge1075.false (sign_clear x (yes c.well_formed.0.1) c.if-bits-eq1.false)
