-- One fill: it is what the deal says, and what the code does on columns is it.
use Prim.Native.Nat.{ℕ}
use mathlib.Core.Path.{◌≡◌, refl, sym, ap, ◌∙◌, subst}
use mathlib.Core.Bool.{Bool, true, false}
use mathlib.Core.List.{List, [], ◌∷◌, ◌++◌, append-nil}
use mathlib.Core.Option.{Option, none, some}
use Rattle.std.specs.Prelude.{Some, None, option_to_list}
use Rattle.std.specs.Bool.{then_some}
use lib.IntN.{ℤ, pos}
use lib.ListN.{take}
use lib.Signed.{le_z}
use Rattle.sums.specs.Sums.{sat_sub, notional}
use Rattle.position.specs.declared.position.Position.{Position}
use Rattle.position.specs.Rows.{fresh, key_of}
use Rattle.position.specs.Shares.{is_zero}
use Rattle.position.specs.Fills.{applied}
use Rattle.position.proofs.Fills.{applied_keeps_symbol}
use Rattle.sizing.specs.Afford.{need, affordable}
use Rattle.sizing.specs.Cash.{cash_taken}
use Rattle.table.specs.declared.found.Found.{Found}
use Rattle.table.specs.Keyed.{pick, or_else, seek, put64}
use Rattle.table.specs.Inner.Places.{Finds, found}
use Rattle.table.specs.Rows.{rows, holding}
use Rattle.table.specs.declared.table.Columns.{Columns}
use Rattle.table.specs.Inner.Rows.{CountedCols, counted_cols, Ordered, Puts, held_at, posted}
use Rattle.table.proofs.Keyed.{seek_key}
use Rattle.table.proofs.Posting.{held_is_holding, posted_puts}
use Rattle.fills.specs.declared.deal.Deal.{Deal}
use Rattle.fills.specs.declared.fill.Filled.{Filled}
use Rattle.fills.specs.declared.terms.Book.{Book}
use Rattle.fills.specs.declared.terms.Order.{Order}
use Rattle.fills.specs.declared.terms.Terms.{Terms}
use Rattle.fills.specs.declared.record.ExecutionRecord.{ExecutionRecord}
use Rattle.fills.specs.Orders.{State, buys, paid}
use Rattle.fills.specs.Records.{record_of}
use Rattle.fills.specs.Fill.{fills_whole, made, counted, settled, trimmed_fill, fill}
use Rattle.fills.specs.Inner.Deal.{dealt, no_deal, trimmed_to, buy_deal, sale_deal, deal_of, record_by, counted_by, settled_by, after_deal}
use Rattle.fills.specs.Inner.Runs.{state, counted_in, settled_in, records_of, Fills}

-- ---- a fill is what its deal says
module _ (t : Terms) (o : Order) (s : State) where
  nothing-done : after_deal t o (no_deal (paid t o) s.cash None) s ≡ s
  unfolding after_deal no_deal counted_by is_zero
  nothing-done = refl

  all_done : (q : ℤ) → is_zero q ≡ false → after_deal t o (dealt t q (paid t o) s.cash None) s ≡ settled t o q s
  unfolding after_deal dealt counted_by settled_by settled made record_by record_of
  all_done q z = simp z

  part_done : (got : ℤ) (b : Bool) → is_zero got ≡ b
      → after_deal t o (pick b (no_deal (paid t o) s.cash (Some (sat_sub (notional o.quantity.0 (paid t o)) (notional got (paid t o)))))
      (dealt t got (paid t o) s.cash (Some (sat_sub (notional o.quantity.0 (paid t o)) (notional got (paid t o)))))) s
      ≡ pick b (counted t o got s) (settled t o got (counted t o got s))
  unfolding after_deal no_deal dealt counted_by settled_by settled counted made record_by record_of is_zero
  part_done got true z = refl
  part_done got false z = simp z

  trim_done : after_deal t o (trimmed_to t o.quantity.0 (affordable t.costs t.quantity_step s.cash o.quantity.0 (paid t o)) (paid t o) s.cash) s ≡ trimmed_fill t o s
  unfolding trimmed_to trimmed_fill
  trim_done =
      let got = affordable t.costs t.quantity_step s.cash o.quantity.0 (paid t o) in
      part_done got (is_zero got) refl

  by_tests : (z b w v : Bool) → is_zero o.quantity.0 ≡ z
      → pick z s (pick (pick b w v) (settled t o o.quantity.0 s) (pick b (trimmed_fill t o s) s))
      ≡ after_deal t o
      (pick z (no_deal (paid t o) s.cash None)
      (pick b
      (pick w (dealt t o.quantity.0 (paid t o) s.cash None)
      (trimmed_to t o.quantity.0 (affordable t.costs t.quantity_step s.cash o.quantity.0 (paid t o)) (paid t o) s.cash))
      (pick v (dealt t o.quantity.0 (paid t o) s.cash None) (no_deal (paid t o) s.cash None)))) s
  by_tests true b w v e = sym nothing-done
  by_tests false true true v e = sym (all_done o.quantity.0 e)
  by_tests false true false v e = sym trim_done
  by_tests false false w true e = sym (all_done o.quantity.0 e)
  by_tests false false w false e = sym nothing-done

  pub fill_is_deal : fill t o s ≡ after_deal t o (deal_of t o s.cash) s
  unfolding fill fills_whole deal_of buy_deal sale_deal
  fill_is_deal = by_tests (is_zero o.quantity.0) (buys o) (le_z (need t.costs o.quantity.0 (paid t o)) s.cash) (le_z (pos 0) (sat_sub s.cash (cash_taken t.costs o.quantity.0 (paid t o)))) refl

  -- a deal of nothing, and of something
  pub none_after : (d : Deal) → is_zero d.quantity.0 ≡ true → after_deal t o d s ≡ counted_by d s
  unfolding after_deal
  none_after d z = simp z

  pub some_after : (d : Deal) → is_zero d.quantity.0 ≡ false → after_deal t o d s ≡ settled_by t o d (counted_by d s)
  unfolding after_deal
  some_after d z = simp z

-- ---- the position that is posted has the order's symbol
named : (s : ℕ) (ps : List Position) → key_of (holding s ps) ≡ s
named s ps = go (seek key_of s ps) refl
  where
    go : (x : Option Position) → seek key_of s ps ≡ x → key_of (or_else (fresh s) x) ≡ s
    go none e = refl
    go (some p) e = seek_key key_of s ps p e

-- ---- what the code does on columns
abbrev state_of_lem : ℤ → List Position → ℕ → ℤ → ℕ → List ExecutionRecord → State
state_of_lem x l n y m rs = record { cash = x; held = l; trimmed = n; shortfall = y; sequence = m; records = rs }

same-state : {x x' : ℤ} {l l' : List Position} {n n' : ℕ} {y y' : ℤ} {m m' : ℕ} {rs rs' : List ExecutionRecord}
    → x ≡ x' → l ≡ l' → n ≡ n' → y ≡ y' → m ≡ m' → rs ≡ rs' → state_of_lem x l n y m rs ≡ state_of_lem x' l' n' y' m' rs'
same-state {x} {x'} {l} {l'} {n} {n'} {y} {y'} {m} {m'} {rs} {rs'} a b c d e f =
    ap (λ u. state_of_lem u l n y m rs) a
    ∙ ap (λ u. state_of_lem x' u n y m rs) b
    ∙ ap (λ u. state_of_lem x' l' u y m rs) c
    ∙ ap (λ u. state_of_lem x' l' n' u m rs) d
    ∙ ap (λ u. state_of_lem x' l' n' y' u rs) e
    ∙ ap (state_of_lem x' l' n' y' m') f

joined : (x : Bool) (rs : List ExecutionRecord) (r : ExecutionRecord) → rs ++ option_to_list (then_some x r) ≡ pick x (rs ++ (r ∷ [])) rs
joined true rs r = refl
joined false rs r = append-nil rs

module _ (t : Terms) (o : Order) (b : Book) (c : Columns) (d : Deal) (e : d ≡ deal_of t o b.cash) (s : Ordered b.count c) (r : Filled) where
  after_is : (rs : List ExecutionRecord) → fill t o (state b c rs) ≡ after_deal t o d (state b c rs)
  after_is rs = fill_is_deal t o (state b c rs) ∙ ap (λ x. after_deal t o x (state b c rs)) (sym e)

  -- what is made, given what the deal comes to
  record_is : (x : Bool) → r.«record» ≡ then_some x (record_by t o d b.sequence b.cash)
      → pick (is_zero d.quantity.0) false t.recording ≡ x
      → r.«record» ≡ then_some (pick (is_zero (deal_of t o b.cash).quantity.0) false t.recording) (record_by t o (deal_of t o b.cash) b.sequence b.cash)
  record_is x h k =
      h
      ∙ ap (λ y. then_some y (record_by t o d b.sequence b.cash)) (sym k)
      ∙ ap (λ (y : Deal). then_some (pick (is_zero y.quantity.0) false t.recording) (record_by t o y b.sequence b.cash)) e

  all_is : r.made ≡ record_by t o d b.sequence b.cash → r.made ≡ record_by t o (deal_of t o b.cash) b.sequence b.cash
  all_is h = h ∙ ap (λ (y : Deal). record_by t o y b.sequence b.cash) e

  pub none_filled : is_zero d.quantity.0 ≡ true → r.book ≡ counted_in d b → r.made ≡ record_by t o d b.sequence b.cash → r.«record» ≡ None → Fills t o b c r c
  unfolding counted_in counted_by
  none_filled z hb ha hr = record {
    ordered = subst (λ n. Ordered n c) (sym (ap (λ x. x.count) hb)) s;
    done = λ rs.
        ap (λ x. state x c (rs ++ records_of r)) hb
        ∙ ap (λ x. state (counted_in d b) c (rs ++ option_to_list x)) hr
        ∙ ap (state (counted_in d b) c) (append-nil rs)
        ∙ sym (after_is rs ∙ none_after t o (state b c rs) d z);
    written = ap (λ x. x.written) hb;
    all = all_is ha;
    made = record_is false hr (simp z);
  }

  module _ (z : is_zero d.quantity.0 ≡ false) (f : Found) (p w : Position) (m h : ℕ) (c' : Columns)
      (hf : Finds o.symbol.0 (take b.count c.symbol) f) (hp : p ≡ held_at f o.symbol.0 c) (hw : w ≡ applied p d.quantity.0 d.price)
      (hn : counted_cols m c' ≡ posted f w (counted_cols b.count c)) where
    found-is : f ≡ found o.symbol.0 (take b.count c.symbol)
    found-is = hf.settled s.rising

    held-is : p ≡ holding o.symbol.0 (rows b.count c)
    held-is = hp ∙ held_is_holding b.count o.symbol.0 c f s found-is

    symbol-is : key_of w ≡ o.symbol.0
    symbol-is = ap key_of hw ∙ applied_keeps_symbol p d.quantity.0 d.price ∙ ap key_of held-is ∙ named o.symbol.0 (rows b.count c)

    puts : Puts w b.count c m c'
    puts = subst (λ (x : CountedCols). Puts w b.count c x.count x.columns) (sym hn)
        (posted_puts b.count c f w s (found-is ∙ ap (λ k. found k (take b.count c.symbol)) (sym symbol-is)))

    rows_are : rows m c' ≡ put64 key_of (applied (holding o.symbol.0 (rows b.count c)) d.quantity.0 d.price) (rows b.count c)
    rows_are = puts.same ∙ ap (λ x. put64 key_of x (rows b.count c)) (hw ∙ ap (λ x. applied x d.quantity.0 d.price) held-is)

    pub one_filled : r.book ≡ settled_in d.cash_after m t.recording h (counted_in d b) → r.made ≡ record_by t o d b.sequence b.cash → r.«record» ≡ then_some t.recording (record_by t o d b.sequence b.cash)
        → Fills t o b c r c'
    unfolding settled_in counted_in counted_by settled_by
    one_filled hb ha hr = record {
      ordered = subst (λ n. Ordered n c') (sym (ap (λ x. x.count) hb)) puts.ordered;
      done = λ rs.
          let k = ap (λ x. rs ++ option_to_list x) hr ∙ joined t.recording rs (record_by t o d b.sequence b.cash) in
          ap (λ x. state x c' (rs ++ records_of r)) hb ∙ same-state refl rows_are refl refl refl k ∙ sym (after_is rs ∙ some_after t o (state b c rs) d z);
      written = ap (λ x. x.written) hb;
      all = all_is ha;
      made = record_is t.recording hr (simp z);
    }
