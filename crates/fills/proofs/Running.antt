-- A run of fills: what has been done before the k-th order, and what is left.
use Prim.Native.Nat.{ℕ, suc, ◌+◌, ◌≤◌, ◌<◌, min}
use mathlib.Core.Path.{◌≡◌, refl, sym, ap, ◌∙◌, subst}
use mathlib.Core.Bool.{Bool, true, false}
use mathlib.Core.List.{List, [], ◌∷◌, ◌++◌}
use native.Mathlib.Omega.{arith}
use native.Mathlib.Numerals.{add-one}
use lib.IntN.{ℤ, pos}
use lib.ListN.{length, take, drop, get_or, length-take, drop_of_length-le}
use lib.Seq.{drop-cons, get_or-take, length-sets}
use Rattle.table.specs.Keyed.{pick}
use Rattle.table.specs.Rows.{zip2, give}
use Rattle.table.specs.declared.table.Columns.{Columns}
use Rattle.table.specs.Inner.Rows.{Ordered}
use Rattle.table.proofs.Opening.{zip_length, zip_get_d}
use Rattle.fills.specs.declared.fill.Filled.{Filled}
use Rattle.fills.specs.declared.terms.Book.{Book}
use Rattle.fills.specs.declared.terms.Order.{Order}
use Rattle.fills.specs.declared.terms.Terms.{Terms}
use Rattle.fills.specs.declared.record.ExecutionRecord.{ExecutionRecord}
use Rattle.fills.specs.Records.{words_of_record, ints_of_record, Buffers, buffers, room, stored, stored_all}
use Rattle.fills.specs.Fill.{fill_all}
use Rattle.fills.specs.Orders.{order}
use Rattle.fills.specs.Inner.Runs.{orders, state, kept_in, records_of, Fills, Runs, Given}

-- ---- records in the lent slices
pub stored-append : (rs qs : List ExecutionRecord) (l : Buffers) → stored_all (rs ++ qs) l ≡ stored_all qs (stored_all rs l)
unfolding stored_all
stored-append [] qs l = refl
stored-append (r ∷ rs) qs l = stored-append rs qs (stored r l)

-- the slices keep their lengths
pub record SameLengths (l k : Buffers) : Type 0 where
  pub words : length k.words ≡ length l.words
  pub ints : length k.ints ≡ length l.ints

either : (b : Bool) (l k : Buffers) → SameLengths l k → SameLengths l (pick b k l)
either true l k h = h
either false l k h = record { words = refl; ints = refl }

stored_keeps : (r : ExecutionRecord) (l : Buffers) → SameLengths l (stored r l)
unfolding stored
stored_keeps r l = either (room l.written l) l _ (record { words = length-sets l.words _ (words_of_record r); ints = length-sets l.ints _ (ints_of_record r) })

pub stored-all_keeps : (rs : List ExecutionRecord) (l : Buffers) → SameLengths l (stored_all rs l)
unfolding stored_all
stored-all_keeps [] l = record { words = refl; ints = refl }
stored-all_keeps (r ∷ rs) l =
    let h = stored_keeps r l in
    let g = stored-all_keeps rs (stored r l) in
    record { words = g.words ∙ h.words; ints = g.ints ∙ h.ints }

-- ---- the orders of three columns
module _ (m : ℕ) (s : List ℕ) (q p : List ℤ) (hs : length s ≡ 64) (hq : length q ≡ 64) (hp : length p ≡ 64) where
  all-length : length (zip2 give (zip2 order s q) p) ≡ 64
  all-length = zip_length give 64 (zip2 order s q) p (zip_length order 64 s q hs hq) hp

  pub next-order : (k : ℕ) → k < min m 64 → drop k (orders m s q p) ≡ order (get_or s k 0) (get_or q k (pos 0)) (get_or p k (pos 0)) ∷ drop (k + 1) (orders m s q p)
  unfolding orders
  next-order k h =
      let l : k < length (take m (zip2 give (zip2 order s q) p)) = simp length-take (omega (arith, all-length)) in
      let u : k < m = omega arith in
      let e1 = zip_get_d order s q k 0 (pos 0) (hs ∙ sym hq) in
      let e2 = zip_get_d give (zip2 order s q) p k (order 0 (pos 0)) (pos 0) (zip_length order 64 s q hs hq ∙ sym hp) in
      let e3 = get_or-take m (zip2 give (zip2 order s q) p) k (order 0 (pos 0) (pos 0)) u in
      rw add-one
      (drop-cons (take m (zip2 give (zip2 order s q) p)) k (order 0 (pos 0) (pos 0)) l
      ∙ ap (λ x. x ∷ drop (suc k) (take m (zip2 give (zip2 order s q) p))) (e3 ∙ e2 ∙ ap (λ f. f (get_or p k (pos 0))) e1))

  pub no_order : (k : ℕ) → min m 64 ≤ k → drop k (orders m s q p) ≡ []
  unfolding orders
  no_order k h =
      let l : length (take m (zip2 give (zip2 order s q) p)) ≤ k = simp length-take (omega (arith, all-length)) in
      drop_of_length-le (take m (zip2 give (zip2 order s q) p)) l

-- ---- before the k-th order: the records made so far, and that the orders left complete the run
pub record Running (t : Terms) (os : List Order) (b₀ : Book) (c₀ : Columns) (l₀ : Buffers) (b : Book) (c : Columns) (l : Buffers) (k : ℕ) : Type 0 where
  pub made : List ExecutionRecord
  pub ordered : Ordered b.count c
  pub same : fill_all t (drop k os) (state b c made) ≡ fill_all t os (state b₀ c₀ [])
  pub kept : l ≡ stored_all made l₀

-- of any columns, the lengths of the slices; of given ones, the run
pub record Going (t : Terms) (m : ℕ) (os : List ℕ) (oq op : List ℤ) (b₀ : Book) (c₀ : Columns) (l₀ : Buffers) (b : Book) (c : Columns) (l : Buffers) (k : ℕ) : Type 0 where
  pub long : SameLengths l₀ l
  pub run : Given b₀.count c₀ os oq op → Running t (orders m os oq op) b₀ c₀ l₀ b c l k

module _ (t : Terms) (m : ℕ) (os : List ℕ) (oq op : List ℤ) (b₀ : Book) (c₀ : Columns) (l₀ : Buffers) where
  pub going_first : Going t m os oq op b₀ c₀ l₀ b₀ c₀ l₀ 0
  unfolding stored_all
  going_first = record { long = record { words = refl; ints = refl }; run = λ g. record { made = []; ordered = g.ordered; same = refl; kept = refl } }

  module _ (b : Book) (c : Columns) (ws : List ℕ) (is : List ℤ) (k : ℕ) (h : Going t m os oq op b₀ c₀ l₀ b c (buffers ws is b.written) k) where
    pub going_on : (f : Filled) (r : Book) (c' : Columns) (ws' : List ℕ) (is' : List ℤ) → k < min m 64
        → (Ordered b.count c → Fills t (order (get_or os k 0) (get_or oq k (pos 0)) (get_or op k (pos 0))) b c f c')
        → r ≡ kept_in r.written f.book → buffers ws' is' r.written ≡ stored_all (records_of f) (buffers ws is f.book.written)
        → Going t m os oq op b₀ c₀ l₀ r c' (buffers ws' is' r.written) (k + 1)
    unfolding fill_all
    going_on f r c' ws' is' u hf hr hk =
        let g = stored-all_keeps (records_of f) (buffers ws is f.book.written) in
        record {
          long = record { words = ap (λ x. length x.words) hk ∙ g.words ∙ h.long.words; ints = ap (λ x. length x.ints) hk ∙ g.ints ∙ h.long.ints };
          run = λ v.
              let w = h.run v in
              let d = hf w.ordered in
              let n = next-order m os oq op v.symbols v.quantities v.prices k u in
              record {
                made = w.made ++ records_of f;
                ordered = subst (λ (x : Book). Ordered x.count c') (sym hr) d.ordered;
                same =
                    ap (λ x. fill_all t (drop (k + 1) (orders m os oq op)) (state x c' (w.made ++ records_of f))) hr
                    ∙ ap (fill_all t (drop (k + 1) (orders m os oq op))) (d.done w.made)
                    ∙ sym (ap (λ x. fill_all t x (state b c w.made)) n)
                    ∙ w.same;
                kept =
                    hk
                    ∙ ap (λ x. stored_all (records_of f) (buffers ws is x)) d.written
                    ∙ ap (stored_all (records_of f)) w.kept
                    ∙ sym (stored-append w.made (records_of f) l₀);
              };
        }

    pub going_last : min m 64 ≤ k → Given b₀.count c₀ os oq op → Runs t (orders m os oq op) b₀ c₀ l₀ b c (buffers ws is b.written)
    unfolding fill_all
    going_last u v =
        let w = h.run v in
        let e : state b c w.made ≡ fill_all t (orders m os oq op) (state b₀ c₀ []) =
        sym (ap (λ x. fill_all t x (state b c w.made)) (no_order m os oq op v.symbols v.quantities v.prices k u)) ∙ w.same in
        let g : w.made ≡ (fill_all t (orders m os oq op) (state b₀ c₀ [])).records = ap (λ x. x.records) e in
        record {
          ordered = w.ordered;
          done = ap (state b c) (sym g) ∙ e;
          kept = w.kept ∙ ap (λ x. stored_all x l₀) g;
        }
