-- By what is asked first, then by the report's answer: after 0 all four are written whole, else nothing is.
use Rattle.std.proofs.Common.{◌≡◌, ◌-◌, ◌∷◌, true, Ok, length, take, sym, ap, ◌∙◌, arith, w64, to_z, of_z, rules, List, ℕ, ℤ, Bool}
use mir.ValLaws.{to_z-of_z}
use Rattle.answer.specs.Numbers.{number_of, is_done, checked}
use Rattle.house.specs.House.{house_of}
use Rattle.house.specs.declared.House.{House}
use Rattle.c_house.specs.Lent.{Lent, lent, report_in, told}
use Rattle.c_house.specs.Inner.Asked.{first_answer}
use Rattle.c_house.proofs.Telling.{told_first, told_refused, told_reported, Counted, counted, all-written}
use Rattle.c_house.proofs.tc_house_return.Goals as goal

-- the places, where they were asked for and the report is done
count : (n m : ℕ) (marks : List ℕ) (equities : List ℤ) (l : Lent) (h : House) (done : Bool) → Ok tt ≡ checked (first_answer n m l)
    → h ≡ house_of n m marks equities → done ≡ is_done h.answer → done ≡ true → Counted n m l
count n m marks equities l h done q e d y = counted n m marks equities l q (rw e at (sym d ∙ y))

pub returns-in-Err : goal.returns-in-Err
returns-in-Err c =
    let s = c.args in
    let l = lent s.rates.now s.changes.now s.firsts.now s.gains.now in
    ap (λ n. told n l) c.number.ensures ∙ told_first s.accounts s.parts l s.marks.now s.equities.now _ c.in-Err.ensures

pub returns-then-not-is_done : goal.returns-then-not-is_done
returns-then-not-is_done c =
    let s = c.args in
    let l = lent s.rates.now s.changes.now s.firsts.now s.gains.now in
    let is = c.house_return-house.ensures in
    ap (λ n. told n l) (c.number-then-not-is_done.ensures ∙ ap (λ (x : House). number_of x.answer) is)
    ∙ told_refused s.accounts s.parts l _ _ c.in_default.ensures (rw is at (sym c.is_done.ensures ∙ c.if-not-is_done.true))

pub put_after-requires : goal.put_after-requires
put_after-requires c =
    let s = c.args in
    let l = lent s.rates.now s.changes.now s.firsts.now s.gains.now in
    let h = c.house_return-house in
    let k = count s.accounts s.parts s.marks.now s.equities.now l h.result c.is_done.result c.in_default.ensures h.ensures c.is_done.ensures c.if-not-is_done.false in
    let e : length h.result.growths ≡ 64 = search rules in
    (omega (arith, k.rates), omega (arith, k.rates, k.few, e))

pub put_after-requires-2 : goal.put_after-requires-2
put_after-requires-2 c =
    let s = c.args in
    let l = lent s.rates.now s.changes.now s.firsts.now s.gains.now in
    let h = c.house_return-house in
    let k = count s.accounts s.parts s.marks.now s.equities.now l h.result c.is_done.result c.in_default.ensures h.ensures c.is_done.ensures c.if-not-is_done.false in
    let e : length h.result.changes ≡ 32 = search rules in
    (omega (arith, k.changes), omega (arith, k.changes, k.accounts, e))

pub put_sums-requires : goal.put_sums-requires
put_sums-requires c =
    let s = c.args in
    let l = lent s.rates.now s.changes.now s.firsts.now s.gains.now in
    let h = c.house_return-house in
    let k = count s.accounts s.parts s.marks.now s.equities.now l h.result c.is_done.result c.in_default.ensures h.ensures c.is_done.ensures c.if-not-is_done.false in
    omega (arith, k.firsts, k.few)

pub put_sums-requires-2 : goal.put_sums-requires-2
put_sums-requires-2 c =
    let s = c.args in
    let l = lent s.rates.now s.changes.now s.firsts.now s.gains.now in
    let h = c.house_return-house in
    let k = count s.accounts s.parts s.marks.now s.equities.now l h.result c.is_done.result c.in_default.ensures h.ensures c.is_done.ensures c.if-not-is_done.false in
    omega (arith, k.gains, k.few)

pub returns : goal.returns
returns c =
    let s = c.args in
    let l = lent s.rates.now s.changes.now s.firsts.now s.gains.now in
    let r = c.house_return-house in
    let h = r.result in
    let is = r.ensures in
    let k = count s.accounts s.parts s.marks.now s.equities.now l h c.is_done.result c.in_default.ensures is c.is_done.ensures c.if-not-is_done.false in
    let z : to_z w64 (of_z w64 h.change) ≡ h.change = to_z-of_z w64 _ (search rules) in
    let written = c.put_after-2.ensures ∙ ap (λ z. z ∷ take (length s.changes.now - 1) h.changes) z in
    ap (told 0)
    (all-written s.accounts s.parts l h _ _ _ _ k c.put_after.ensures written c.put_sums.ensures c.put_sums-2.ensures ∙ ap (report_in s.accounts s.parts) is)
    ∙ told_reported s.accounts s.parts l _ _ c.in_default.ensures (rw is at (sym c.is_done.ensures ∙ c.if-not-is_done.false))
