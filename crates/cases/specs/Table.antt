-- Cases a to l of document 01, each with its words.
use Rattle.std.specs.Prelude.{ℕ, suc, ◌*◌, Bool, true, false, List, [], ◌∷◌, ℤ, pos, negsuc, neg_ℤ, Float}
use Rattle.std.specs.Float.{fin}
use Rattle.sums.specs.Sums.{value}
use Rattle.position.specs.declared.position.Position.{Position}
use Rattle.position.specs.Rows.{fresh, held, avg, realized, total, numbers_of as figures}
use Rattle.position.specs.Fills.{applied}
use Rattle.cost_model.specs.declared.CostModel.{CostModel}
use Rattle.cost_model.specs.Costs.{cost, model, zero, free}
use Rattle.sizing.specs.Sizing.{sized, drift}
use Rattle.sizing.specs.Afford.{need}
use Rattle.table.specs.Rows.{holding}
use Rattle.fills.specs.declared.terms.Terms.{Terms}
use Rattle.fills.specs.declared.record.ExecutionKind.TheVariants.{Rebalance}
use Rattle.fills.specs.Orders.{State, cash_only, order}
use Rattle.fills.specs.Fill.{fill, fill_all}
use Rattle.account.specs.declared.settings.Settings.{Settings}
use Rattle.account.specs.Settings.{of_costs, opening_settings, with_band}
use Rattle.wanted.specs.Plan.{within_band}
use Rattle.cases.specs.Rows.{Row, says}

-- whole shares as micro-shares
abbrev pub whole : ℤ → ℤ
whole (pos n) = pos (n * 1000000)
whole (negsuc n) = neg_ℤ (pos (suc n * 1000000))

-- "10 bps, minimum 100" and "1,000 bps, minimum 0"; no slippage
abbrev pub ten_bps : CostModel
ten_bps = model (fin false 5 (pos 1)) zero (pos 100)

abbrev pub thousand_bps : CostModel
thousand_bps = model (fin false 125 (pos 3)) zero (pos 0)

-- a. Value of 1 micro-share at 999,999: 0; at 1,000,000: 1; of -1 at 999,999: 0.
abbrev pub case_a : Row
case_a = says (value (pos 1) (pos 999999) ∷ value (pos 1) (pos 1000000) ∷ value (negsuc 0) (pos 999999) ∷ []) (pos 0 ∷ pos 1 ∷ pos 0 ∷ [])

-- b. 10 bps, minimum 100: commission on 1,000,000 is 1,000; on 10,000 it is 100.
abbrev pub case_b : Row
case_b = says (cost ten_bps (pos 1000000) ∷ cost ten_bps (pos 10000) ∷ []) (pos 1000 ∷ pos 100 ∷ [])

-- c. 1,000 bps, minimum 0: on 5 it is 1; on 4 it is 0.
abbrev pub case_c : Row
case_c = says (cost thousand_bps (pos 5) ∷ cost thousand_bps (pos 4) ∷ []) (pos 1 ∷ pos 0 ∷ [])

-- ---- fills: of an order for symbol 1 on an account with this cash and no positions
abbrev pub terms_at : CostModel → ℤ → Terms
terms_at m step = record { costs = m; quantity_step = step; recording = false; period_index = 0; kind = Rebalance }

abbrev pub floor100 : CostModel
floor100 = model zero zero (pos 100)

-- what is held of a symbol
abbrev pub amount : ℕ → State → ℤ
amount s st = held (holding s st.held)

abbrev pub outcome : State → List ℤ
outcome st = amount 1 st ∷ pos st.trimmed ∷ st.shortfall ∷ st.cash ∷ []

-- d. Cash 100,000, 100 shares at 1,000, case b's costs, whole-share step: 99 fill, shortfall 1,000, cash 900.
abbrev pub case_d : Row
case_d =
    says (outcome (fill (terms_at ten_bps (whole (pos 1))) (order 1 (whole (pos 100)) (pos 1000)) (cash_only (pos 100000))))
    (whole (pos 99) ∷ pos 1 ∷ pos 1000 ∷ pos 900 ∷ [])

-- e. Cash 50, one share at 10, minimum 100: nothing fills, count 1, shortfall 10.
abbrev pub case_e : Row
case_e =
    says (outcome (fill (terms_at floor100 (whole (pos 1))) (order 1 (whole (pos 1)) (pos 10)) (cash_only (pos 50))))
    (pos 0 ∷ pos 1 ∷ pos 10 ∷ pos 50 ∷ [])

-- f. Cash 0, no costs, step 1, 2,000,000 micro-shares at 1: nothing, though 999,999 would need 0.
abbrev pub case_f : Row
case_f =
    says (need free (pos 999999) (pos 1) ∷ outcome (fill (terms_at free (pos 1)) (order 1 (pos 2000000) (pos 1)) (cash_only (pos 0))))
    (pos 0 ∷ pos 0 ∷ pos 1 ∷ pos 2 ∷ pos 0 ∷ [])

-- g. Minimum 100, one share sold at 20: cash 5 skips; cash 80 fills to cash 0.
abbrev pub sale_at20 : ℤ → State
sale_at20 cash = fill (terms_at floor100 (whole (pos 1))) (order 1 (whole (negsuc 0)) (pos 20)) (cash_only cash)

abbrev pub case_g : Row
case_g =
    says (amount 1 (sale_at20 (pos 5)) ∷ (sale_at20 (pos 5)).cash ∷ pos (sale_at20 (pos 5)).trimmed ∷ amount 1 (sale_at20 (pos 80)) ∷ (sale_at20 (pos 80)).cash ∷ [])
    (pos 0 ∷ pos 5 ∷ pos 0 ∷ whole (negsuc 0) ∷ pos 0 ∷ [])

-- h. Gap 1,999 at price 1,000: whole step gives 1,000,000; -1,999 gives -1,000,000; step 1,000 gives 1,999,000.
abbrev pub case_h : Row
case_h =
    says (sized (pos 1999) (pos 1000) (pos 1000000) ∷ sized (negsuc 1998) (pos 1000) (pos 1000000) ∷ sized (pos 1999) (pos 1000) (pos 1000) ∷ [])
    (pos 1000000 ∷ negsuc 999999 ∷ pos 1999000 ∷ [])

-- i. Buy 10 at 100, 10 at 201: average 150, total 3,010. Sell 5 at 160: profit 50, total 2,260. Sell 20 at 140: quantity -5 shares, average 140,
-- total -700, realized -100.
abbrev pub bought : Position
bought = applied (applied (fresh 0) (whole (pos 10)) (pos 100)) (whole (pos 10)) (pos 201)

abbrev pub sold : Position
sold = applied bought (whole (negsuc 4)) (pos 160)

abbrev pub flipped : Position
flipped = applied sold (whole (negsuc 19)) (pos 140)

abbrev pub case_i : Row
case_i =
    says (avg bought ∷ total bought ∷ realized sold ∷ total sold ∷ figures flipped)
    (pos 150 ∷ pos 3010 ∷ pos 50 ∷ pos 2260 ∷ whole (negsuc 4) ∷ pos 140 ∷ negsuc 99 ∷ negsuc 699 ∷ [])

-- j. Sell 10 at 100, buy 4 at 90: realized 40, total -1,400, average 233.
abbrev pub covered : Position
covered = applied (applied (fresh 0) (whole (negsuc 9)) (pos 100)) (whole (pos 4)) (pos 90)

abbrev pub case_j : Row
case_j = says (realized covered ∷ total covered ∷ avg covered ∷ []) (pos 40 ∷ negsuc 1399 ∷ pos 233 ∷ [])

-- k. Equity 20,000, gap 5,000, band 2,500: skipped; gap 5,001 is not skipped by the band.
abbrev pub banded : Settings
banded = with_band (fin false 625 (pos 2)) (opening_settings (of_costs free) (whole (pos 1)))

abbrev pub one_if : Bool → ℤ
one_if true = pos 1
one_if false = pos 0

abbrev pub case_k : Row
case_k =
    says (one_if (within_band banded (drift (pos 5000) (pos 20000))) ∷ one_if (within_band banded (drift (pos 5001) (pos 20000))) ∷ [])
    (pos 1 ∷ pos 0 ∷ [])

-- l. No costs, cash 50, buy worth 100, sale worth 80: sale first fills both, cash 30.
abbrev pub sale_first : State
sale_first =
    fill_all (terms_at free (whole (pos 1))) (order 2 (whole (negsuc 0)) (pos 80) ∷ order 1 (whole (pos 1)) (pos 100) ∷ []) (cash_only (pos 50))

abbrev pub case_l : Row
case_l =
    says (amount 1 sale_first ∷ amount 2 sale_first ∷ pos sale_first.trimmed ∷ sale_first.cash ∷ [])
    (whole (pos 1) ∷ whole (negsuc 0) ∷ pos 0 ∷ pos 30 ∷ [])

abbrev pub table : List Row
table =
    case_a ∷ case_b ∷ case_c ∷ case_d ∷ case_e ∷ case_f ∷ case_g ∷ case_h ∷ case_i ∷ case_j ∷ case_k ∷ case_l ∷ []
