-- What a call answers depends on the lengths of the slices that it is lent, and not on what stands in them.
use Prim.Native.Nat.{ℕ}
use mathlib.Core.Path.{◌≡◌, refl, sym, ap, ◌∙◌}
use mathlib.Core.Bool.{Bool, true, false}
use mathlib.Core.List.{List}
use lib.IntN.{ℤ, pos}
use lib.Ieee.{Float, binary64, of_bits}
use lib.ListN.{length, take, replicate}
use Rattle.std.specs.Prelude.{Some}
use Rattle.answer.specs.declared.Answer.{Answer}
use Rattle.answer.specs.declared.Answer.TheVariants.{Done}
use Rattle.answer.specs.Numbers.{is_done}
use Rattle.table.specs.Keyed.{pick}
use Rattle.fills.specs.declared.record.ExecutionKind.TheVariants.{Rebalance}
use Rattle.call_lists.specs.Lists.{price_of}
use Rattle.account.specs.declared.account.Account.{Account}
use Rattle.account.specs.declared.change.Changed.{Changed}
use Rattle.account.specs.Calls.{answered}
use Rattle.account.specs.Account.{held_in, with_series}
use Rattle.wanted.specs.Equity.{equity_of}
use Rattle.list_bytes.specs.declared.price.Prices.{Prices}
use Rattle.list_bytes.specs.Lists.{symbols_in, prices_in}
use Rattle.list_bytes.specs.Inner.Lists.{prices_of}
use Rattle.list_bytes.proofs.Lists.{price-symbols, price-prices}
use Rattle.portfolio.specs.declared.trade.Traded.{Traded}
use Rattle.portfolio.specs.Answers.{record_places, return_answer}
use Rattle.portfolio.specs.Rebalance.{rebalanced}
use Rattle.portfolio.specs.Returns.{Recorded, next_series, recorded, recorded_by}
use Rattle.portfolio.specs.Trades.{Filed, filed, filed_by}
use Rattle.c_timed.specs.Calls.{account_in, of_outcome, rebalance_call, of_recorded, return_call}

-- ---- a return
of_pick : (t : Bool) (x y : Recorded) → of_recorded (pick t x y) ≡ pick t (of_recorded x) (of_recorded y)
of_pick true x y = refl
of_pick false x y = refl

module _ (a : Account) (ps : List ℕ) (vs : List ℤ) where
  by_answer : Answer → Changed
  by_answer answer =
      pick (is_done answer)
      (answered Done (with_series (next_series a.series (equity_of (price_of ps vs) a.cash (held_in a.positions))) a))
      (answered answer a)

  return_by_answer : (es : List ℤ) (rs : List Float) → of_recorded (recorded a ps vs es rs) ≡ by_answer (return_answer a ps vs (length es) (length rs))
  unfolding recorded by_answer
  return_by_answer es rs = of_pick (is_done (return_answer a ps vs (length es) (length rs))) _ _

  pub return-made : (c : Changed) (es' es : List ℤ) (rs' rs : List Float) → length es ≡ 64 → length rs ≡ 64 → recorded_by c es' rs' ≡ recorded a ps vs es rs → c ≡ return_call a ps vs
  unfolding return_call
  return-made c es' es rs' rs m n e =
      ap of_recorded e
      ∙ return_by_answer es rs
      ∙ ap (λ k. by_answer (return_answer a ps vs k (length rs))) m
      ∙ ap (λ k. by_answer (return_answer a ps vs 64 k)) n
      ∙ sym (return_by_answer (replicate 64 (pos 0)) (replicate 64 (of_bits binary64 0)))

-- ---- a rebalance
pub rebalance-made : (a : Account) (ts : List ℕ) (ws : List Float) (ps : List ℕ) (vs : List ℤ) (t : Traded) (xs' xs : List ℕ) (ys' ys : List ℤ)
    → length xs ≡ 256 → length ys ≡ 512
    → filed_by t xs' ys' ≡ filed (rebalanced a ts ws ps vs 0 Rebalance (record_places (length xs) (length ys))) xs ys
    → answered t.answer t.account ≡ rebalance_call a ts ws ps vs
unfolding rebalance_call
rebalance-made a ts ws ps vs t xs' xs ys' ys m n e =
    ap (λ (f : Filed). answered f.answer f.account) e
    ∙ ap (λ k. of_outcome (rebalanced a ts ws ps vs 0 Rebalance (record_places k (length ys)))) m
    ∙ ap (λ k. of_outcome (rebalanced a ts ws ps vs 0 Rebalance (record_places 256 k))) n

-- a call on the account that was read, at the prices of a list that was read
pub called_at : {X : Type 0} (call : Account → List ℕ → List ℤ → X) (b l : List ℕ) {a : Account} {p : Prices} {x : X} → a ≡ account_in b → prices_of l ≡ Some p
    → x ≡ call a (take p.count p.symbol) (take p.count p.price) → x ≡ call (account_in b) (symbols_in l) (prices_in l)
called_at call b l ea ep e = simp (ea, price-symbols l ep, price-prices l ep) at e
