-- One fill on an account of at most one position: its table, the place of its record, and what refuses it.
use Prim.Native.Nat.{ℕ, ◌≤◌}
use mathlib.Core.Bool.{Bool, true, false}
use mathlib.Core.List.{List, [], ◌∷◌}
use mathlib.Core.Path.{◌≡◌, refl, sym, ap, subst, ◌∙◌}
use native.Mathlib.Omega.{arith}
use lib.Dec.{eqb, leb}
use lib.IntN.{ℤ, pos}
use lib.ListN.{length, take, replicate, get_or}
use lib.Signed.{le_z}
use borrow.Author.Tests.{eq-eqb, ne_eqb, eqb-true, leb-true}
use Rattle.std.specs.Prelude.{Some, None, Ok, Err}
use Rattle.answer.specs.declared.Answer.{Answer}
use Rattle.answer.specs.declared.Answer.TheVariants.{Done, BadSetting, BadPrice, NoRecordRoom, Unsound}
use Rattle.answer.specs.Numbers.{is_done, checked}
use Rattle.answer.specs.Places.{alone, word_of}
use Rattle.answer.proofs.Answers.{passed}
use Rattle.position.specs.declared.position.Position.{Position}
use Rattle.call_lists.specs.Checks.{unless}
use Rattle.table.specs.declared.found.Found.{Found}
use Rattle.table.specs.declared.found.Found.TheVariants.{Absent}
use Rattle.table.specs.Keyed.{pick, both}
use Rattle.table.specs.Inner.Places.{Finds}
use Rattle.table.specs.Rows.{cols, zipped, rows}
use Rattle.table.specs.declared.table.Columns.{Columns}
use Rattle.table.specs.Inner.Rows.{CountedCols, counted_cols, Ordered, posted, held_at}
use Rattle.table.proofs.Keyed.{both_true}
use Rattle.table.proofs.Posting.{held_is_holding, posted_puts}
use Rattle.fills.specs.declared.fill.Filled.{Filled}
use Rattle.fills.specs.declared.terms.Book.{Book}
use Rattle.fills.specs.declared.record.ExecutionRecord.{ExecutionRecord}
use Rattle.fills.specs.Records.{all_words, all_ints, fronted, buffers, stored}
use Rattle.fills.specs.Fill.{fill}
use Rattle.fills.specs.Inner.Runs.{records_of, Fills}
use Rattle.fills.proofs.Storing.{keeps_one}
use Rattle.fills.proofs.Fronts.{stored_fronts}
use Rattle.c_fill.specs.declared.Ask.{Ask}
use Rattle.c_fill.specs.Single.{asked_terms, asked_order, Slots, slots, held_of, is_none, state_in, position_in, sound_alone, good_ask, room_for_one, refusal_of, answer_to, FillTold, fill_told, counting, done_in, fill_one}
use Rattle.c_fill.specs.Inner.Single.{book_of, entered_in, Sight, seen_by, seen_in, seen_after, sighted}

-- ---- the table of the position
abbrev pub empty : Columns
empty = cols (replicate 64 0) (replicate 64 (pos 0)) (replicate 64 (pos 0)) (replicate 64 (pos 0)) (replicate 64 (pos 0))

empty-ordered : Ordered 0 empty
unfolding zipped
empty-ordered = record {
  small = omega arith;
  full = record { symbol = refl; quantity = refl; average = refl; realized = refl; total = refl };
  rising = omega arith;
  rest = refl;
}

pub record HoldsPositions (ps : List Position) (t : CountedCols) : Type 0 where
  pub ordered : Ordered t.count t.columns
  pub same : rows t.count t.columns ≡ ps

entered_by : (p : Position) (b : Bool) → HoldsPositions (pick b [] (p ∷ [])) (pick b (counted_cols 0 empty) (posted (Absent 0) p (counted_cols 0 empty)))
entered_by p true = record { ordered = empty-ordered; same = refl }
entered_by p false = let h = posted_puts 0 empty (Absent 0) p empty-ordered refl in record { ordered = h.ordered; same = h.same }

pub entered-holds : (p : Position) (t : CountedCols) → t ≡ entered_in p empty → HoldsPositions (held_of p) t
entered-holds p t e = subst (HoldsPositions (held_of p)) (sym e) (entered_by p (is_none p))

-- ---- the fill on it
abbrev pub with_count : ℕ → Book → Book
with_count n b = record { cash = b.cash; count = n; trimmed = b.trimmed; shortfall = b.shortfall; sequence = b.sequence; written = b.written; hint = b.hint }

module _ (a : Ask) (b : Book) (p : Position) (n : ℕ) (c d : Columns) (f : Filled) (h : HoldsPositions (held_of p) (counted_cols n c))
    (hf : Ordered n c → Fills (asked_terms a) (asked_order a) (with_count n b) c f d) where
  pub filled_ordered : Ordered f.book.count d
  filled_ordered = (hf h.ordered).ordered

  pub filled_seen : (w : Found) (z : Position) → Finds a.symbol (take f.book.count d.symbol) w → z ≡ held_at w a.symbol d
      → seen_by (record { filled = f; position = z }) ≡ seen_after a b p
  filled_seen w z hw hz =
      let m = f.book.count in
      let e = hz ∙ held_is_holding m a.symbol d w filled_ordered (hw.settled filled_ordered.rising) in
      ap (λ x. seen_by (record { filled = f; position = x })) e
      ∙ ap (seen_in a.symbol) ((hf h.ordered).done [])
      ∙ ap (λ (ps : List Position). seen_in a.symbol (fill (asked_terms a) (asked_order a) (record { cash = b.cash; held = ps; trimmed = b.trimmed; shortfall = b.shortfall; sequence = b.sequence; records = [] }))) h.same

-- ---- the record of a fill
module _ (f : Filled) (ws : List ℕ) (is : List ℤ) where
  pub none_fronts : f.«record» ≡ None → (ws ≡ fronted (all_words (records_of f)) ws) × (is ≡ fronted (all_ints (records_of f)) is)
  unfolding all_words all_ints
  none_fronts h = (simp h, simp h)

  pub one_fronts : (r : ExecutionRecord) → f.«record» ≡ Some r → 4 ≤ length ws → 8 ≤ length is
      → stored r (buffers ws is 0) ≡ buffers (fronted (all_words (records_of f)) ws) (fronted (all_ints (records_of f)) is) (length (records_of f))
  one_fronts r h a b =
      let n : length (records_of f) ≡ 1 = simp h in
      keeps_one f (buffers ws is 0) r h ∙ stored_fronts (records_of f) ws is (omega arith) (omega arith)

-- ---- the answer, and what is seen where it is done
module _ {X : Type 0} (w : Answer) (s : X) where
  pub seen_done : (x : X) → Ok x ≡ pick (is_done w) (Ok s) (Err w) → (is_done w ≡ true) × (x ≡ s)
  seen_done x = go (is_done w)
    where
      go : (b : Bool) → Ok x ≡ pick b (Ok s) (Err w) → (b ≡ true) × (x ≡ s)
      go true h = (refl, cc)
      go false h = absurd (cc)

  pub seen_refused : (e : Answer) → Err e ≡ pick (is_done w) (Ok s) (Err w) → (is_done w ≡ false) × (e ≡ w)
  seen_refused e = go (is_done w)
    where
      go : (b : Bool) → Err e ≡ pick b (Ok s) (Err w) → (b ≡ false) × (e ≡ w)
      go true h = absurd (cc)
      go false h = (refl, cc)

-- the lent places of a fill that is not refused: six numbers, two counts, and room for one record
pub record Lent (l : Slots) : Type 0 where
  pub money : length l.money ≡ 6
  pub tallies : length l.tallies ≡ 2
  pub words : 4 ≤ length l.words
  pub ints : 8 ≤ length l.ints

module _ (a : Ask) (l : Slots) where
  pub short-money : (length l.money ≡ 6 → ⊥) → Err Unsound ≡ sighted a l
  unfolding answer_to
  short-money h = simp (ne_eqb (length l.money) 6 h)

  abbrev refusal-here : Answer
  refusal-here = refusal_of a (book_of l.money l.tallies).cash (position_in a.symbol l.money) (length l.words) (length l.ints)

  module _ (hm : length l.money ≡ 6) where
    pub short-tallies : (length l.tallies ≡ 2 → ⊥) → Err Unsound ≡ sighted a l
    unfolding answer_to
    short-tallies h = simp (eq-eqb (length l.money) 6 hm, ne_eqb (length l.tallies) 2 h)

    module _ (ht : length l.tallies ≡ 2) where
      answer_is : answer_to a l ≡ refusal-here
      unfolding answer_to
      answer_is = simp (eq-eqb (length l.money) 6 hm, eq-eqb (length l.tallies) 2 ht)

      pub refused-as_seen : (e : Answer) → Err e ≡ checked refusal-here → Err e ≡ sighted a l
      refused-as_seen e h =
          let k = seen_refused refusal-here tt e h in
          rw (answer_is, k.0, k.1)

      pub filled-as_seen : (v : Sight) (u : Unit) → Ok u ≡ checked refusal-here → v ≡ seen_after a (book_of l.money l.tallies) (position_in a.symbol l.money) → Ok v ≡ sighted a l
      filled-as_seen v u h e =
          let k = seen_done refusal-here tt u h in
          rw (answer_is, k.0, e)

  -- a fill that is not refused
  pub done_lends : is_done (answer_to a l) ≡ true → Lent l
  unfolding answer_to refusal_of
  done_lends h =
      let roomy = unless (room_for_one (length l.words) (length l.ints)) NoRecordRoom Done in
      let priced = unless (le_z (pos 1) a.price) (BadPrice alone) roomy in
      let good = unless (good_ask a) BadSetting priced in
      let p = passed (both (eqb (length l.money) 6) (eqb (length l.tallies) 2)) Unsound (refusal_of a (get_or l.money 0 (pos 0)) (position_in a.symbol l.money) (length l.words) (length l.ints)) refl h in
      let n = both_true (eqb (length l.money) 6) (eqb (length l.tallies) 2) p.0 in
      let q = passed (sound_alone (get_or l.money 0 (pos 0)) (position_in a.symbol l.money)) Unsound good refl p.1 in
      let r = passed (good_ask a) BadSetting priced refl q.1 in
      let s = passed (le_z (pos 1) a.price) (BadPrice alone) roomy refl r.1 in
      let t = passed (room_for_one (length l.words) (length l.ints)) NoRecordRoom Done refl s.1 in
      let m = both_true (leb 4 (length l.words)) (leb 8 (length l.ints)) t.0 in
      record {
        money = eqb-true (length l.money) 6 n.0;
        tallies = eqb-true (length l.tallies) 2 n.1;
        words = leb-true 4 (length l.words) m.0;
        ints = leb-true 8 (length l.ints) m.1;
      }

  pub done_as_filled : is_done (answer_to a l) ≡ true → done_in a.symbol (fill (asked_terms a) (asked_order a) (state_in a l)) l ≡ fill_one a l
  unfolding fill_one
  done_as_filled h = simp h

  pub refused_as_found : is_done (answer_to a l) ≡ false → fill_told (word_of (answer_to a l)) l ≡ fill_one a l
  unfolding fill_one
  refused_as_found h = simp h

-- ---- what is put into the places
abbrev pub placed : Sight → Slots → Slots
placed v l = slots v.money v.tallies (fronted (all_words v.records) l.words) (fronted (all_ints v.records) l.ints)

abbrev pub told_of : Sight → Slots → FillTold
told_of v l = fill_told (counting v.records) (placed v l)

pub same-slots : {ms ms' : List ℤ} {ts ts' ws ws' : List ℕ} {is is' : List ℤ} → ms ≡ ms' → ts ≡ ts' → ws ≡ ws' → is ≡ is' → slots ms ts ws is ≡ slots ms' ts' ws' is'
same-slots {ms} {ms'} {ts} {ts'} {ws} {ws'} {is} {is'} a b c d =
    ap (λ x. slots x ts ws is) a ∙ ap (λ x. slots ms' x ws is) b ∙ ap (λ x. slots ms' ts' x is) c ∙ ap (slots ms' ts' ws') d
