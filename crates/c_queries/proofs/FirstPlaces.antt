-- The weights of an account stand in the first places, in their order, and the rest is as found.
use Prim.Native.Nat.{ℕ, ◌*◌, ◌-◌, ◌≤◌}
use mathlib.Core.Path.{◌≡◌, sym, ap, ◌∙◌}
use mathlib.Core.Bool.{true, false}
use mathlib.Core.List.{List, ◌++◌, map}
use native.Mathlib.Omega.{arith}
use lib.IntN.{ℤ, pos}
use lib.Ieee.{Float, fin}
use lib.ListN.{length, drop, replicate, length-map}
use Rattle.call_lists.specs.Lists.{price_of}
use Rattle.account.specs.declared.account.Account.{Account}
use Rattle.list_bytes.specs.Weights.{weight_bytes, written_weights}
use Rattle.list_bytes.proofs.Weights.{weights-written}
use Rattle.portfolio.specs.Answers.{is_done, query_answer}
use Rattle.queries.specs.Queries.{Weight}
use Rattle.queries.specs.Answers.{weighed, weights_now, told_weights}
use Rattle.c_queries.specs.Told.{tell_query}
use Rattle.c_queries.specs.Reports.{weights_told}

abbrev symbols_of : List Weight → List ℕ
symbols_of l = map (λ (w : Weight). w.symbol) l

abbrev parts_of : List Weight → List Float
parts_of l = map (λ (w : Weight). w.weight) l

module _ (l : List Weight) (out : List ℕ) (h : length l ≤ 64) (g : length out ≡ 1024) where
  weighed-written : written_weights (weighed l).count (weighed l).symbol (weighed l).weight out ≡ weight_bytes (symbols_of l) (parts_of l) ++ drop (16 * length l) out
  unfolding weighed
  weighed-written =
      let n : length (symbols_of l) ≡ length l = length-map l (λ (w : Weight). w.symbol) in
      let m : length (parts_of l) ≡ length l = length-map l (λ (w : Weight). w.weight) in
      let x : List ℕ = replicate (64 - length (symbols_of l)) 0 in
      let y : List Float = replicate (64 - length (parts_of l)) (fin false 0 (pos 0)) in
      sym (ap (λ (k : ℕ). written_weights k (symbols_of l ++ x) (parts_of l ++ y) out) n)
      ∙ weights-written (symbols_of l) (parts_of l) x y out (n ∙ sym m) (omega (arith, n)) (omega (arith, n))
      ∙ ap (λ (k : ℕ). weight_bytes (symbols_of l) (parts_of l) ++ drop (16 * k) out) n

-- of a query that is done
pub weights-first : (a : Account) (ss : List ℕ) (vs : List ℤ) (out : List ℕ) → is_done (query_answer a ss vs) ≡ true → let ws = weights_now (price_of ss vs) a in
    length ws ≤ 64 → length out ≡ 1024 → weights_told (told_weights a ss vs) out ≡ tell_query (256 * length ws) (weight_bytes (symbols_of ws) (parts_of ws) ++ drop (16 * length ws) out)
unfolding weights_told told_weights weighed
weights-first a ss vs out d h g =
    let ws = weights_now (price_of ss vs) a in
    rw d (ap (tell_query (256 * length ws)) (weighed-written ws out h g))
