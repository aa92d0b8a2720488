-- The parts of the file of a sound account, each where it stands in some bytes, are read.
use mathlib.Core.Path.{◌≡◌, refl, sym, ◌∙◌, ap}
use Prim.Native.Nat.{ℕ, zero, suc, ◌+◌, ◌<◌, ◌≤◌}
use native.Mathlib.Omega.{arith}
use mathlib.Core.Bool.{Bool, true, false}
use mathlib.Core.List.{List, [], ◌∷◌, ◌++◌}
use lib.Dec.{ltb}
use lib.ListN.{length, get_or, drop}
use lib.IntN.{ℤ, pos}
use borrow.Author.Tests.{ltb-false}
use mir.Syntax.{w64}
use mir.Val.{SFits}
use Rattle.answer.specs.Choice.{pick}
use Rattle.answer.specs.declared.Answer.TheVariants.{Done}
use Rattle.position.specs.declared.position.Position.{Position}
use Rattle.position.specs.Rows.{fresh}
use Rattle.position.specs.Fills.{sound}
use Rattle.table.specs.declared.table.Table.{Table}
use Rattle.table.specs.Rows.{columns_of, row_at}
use Rattle.account.specs.declared.account.Account.{Account}
use Rattle.account.specs.Account.{held_in, sound_account}
use Rattle.account.proofs.Columns.{rows-length, row_of, sound_at}
use Rattle.account.proofs.Tables.{held-table}
use Rattle.account.proofs.SoundAccounts.{account-small, account-table}
use Rattle.account_bytes.proofs.Lists.{Numbers, word_lt}
use Rattle.account_bytes.proofs.AccountKept.{KeptTable, KeptAccount}
use Rattle.seven_bit.specs.Placed.{ToldNumber, number_at_of}
use Rattle.seven_bit.specs.Groups.{groups}
use Rattle.seven_bit.proofs.Signed.{folded_fits}
use Rattle.saved_form.specs.Fields.{newest, head_fields}
use Rattle.saved_form.specs.Values.{scalars_of, setting_values, counter_values, head_values}
use Rattle.saved_form.specs.Writing.{fields_file, positions_file}
use Rattle.loading.specs.Reading.{ToldHead, head_of, head_read_of, positions_read, filed, up_to64, table_read, head_in_of, positions_in}
use Rattle.saved_laws.proofs.Places.{was, number_back}
use Rattle.saved_laws.proofs.Fields.{ran, fields_back}
use Rattle.saved_laws.proofs.Texts.{text_of_lem}
use Rattle.saved_laws.proofs.Positions.{Fit, Fits, positions_back, sound-symbol}
use Rattle.saved_laws.proofs.Values.{head_allowed}

-- ---- the positions of a sound account can be written
number_at : (l : List ℤ) (i : ℕ) → Numbers l → SFits w64 (get_or l i (pos 0))
number_at [] i o = record { sfits = omega arith }
number_at (z ∷ l) zero o = o.0
number_at (z ∷ l) (suc i) o = number_at l i o.1

row_fits : (t : Table) (i : ℕ) → KeptTable t → sound (row_at i (columns_of t)) ≡ true → Fit (row_at i (columns_of t))
row_fits t i k s = record {
  small = word_lt t.columns.symbol i k.symbols;
  text = text_of_lem (get_or t.columns.symbol i 0) (word_lt t.columns.symbol i k.symbols) (sound-symbol (row_at i (columns_of t)) s);
  quantity = folded_fits (get_or t.columns.quantity i (pos 0)) (number_at t.columns.quantity i k.quantities);
  average = folded_fits (get_or t.columns.average i (pos 0)) (number_at t.columns.average i k.averages);
  realized = folded_fits (get_or t.columns.realized i (pos 0)) (number_at t.columns.realized i k.realized);
  total = folded_fits (get_or t.columns.total i (pos 0)) (number_at t.columns.total i k.totals);
}

each : (ps : List Position) → ((i : ℕ) → i < length ps → Fit (get_or ps i (fresh 0))) → Fits ps
each [] f = omega arith
each (p ∷ ps) f = (f 0 (omega arith), each ps (λ i h. f (suc i) (omega arith)))

module _ (a : Account) (e : sound_account a ≡ true) (k : KeptAccount a) where
  pub rows-count : length (held_in a.positions) ≡ a.positions.count
  rows-count = rows-length (columns_of a.positions) k.positions.full a.positions.count (account-small a e)

  pub rows_fit : Fits (held_in a.positions)
  rows_fit =
      let t = a.positions in
      let c = columns_of t in
      each (held_in t) (λ i h.
      let m : i < t.count = omega (arith, rows-count) in
      rw (row_of c k.positions.full t.count i m) (row_fits t i k.positions (sound_at t.count c k.positions.full (account-table a e) i m)))

-- ---- where they stand
abbrev pub head_file : Account → List ℕ
head_file a = fields_file newest head_fields 0 (head_values (scalars_of a))

abbrev pub held_file : Account → List ℕ
held_file a = positions_file (held_in a.positions)

abbrev pub head_to : Account → ℕ → ToldHead
head_to a next = record { answer = Done; next = next; count = a.positions.count; values = head_values (scalars_of a) }

head_whole : (a : Account) (next : ℕ) → head_of (ran (head_values (scalars_of a)) next) ≡ head_to a next
unfolding head_of head_values setting_values counter_values
head_whole a next = refl

pub at_most_64 : (n : ℕ) → n ≤ 64 → up_to64 n ≡ n
at_most_64 n h = go (ltb n 64) refl
  where
    go : (t : Bool) → ltb n 64 ≡ t → pick t n 64 ≡ n
    go true e = refl
    go false e = omega (arith, ltb-false n 64 e)

module _ (a : Account) (e : sound_account a ≡ true) (k : KeptAccount a) (l : List ℕ) where
  pub form_in : (rest : List ℕ) → l ≡ groups newest ++ rest → number_at_of l 0 ≡ was newest (0 + length (groups newest))
  form_in rest q = number_back l rest 0 newest (omega arith) q

  module _ (n : ℕ) (f : number_at_of l 0 ≡ was newest n) where
    pub head_in : (rest : List ℕ) → drop n l ≡ head_file a ++ rest → head_in_of l ≡ head_to a (n + length (head_file a))
    unfolding head_read_of
    head_in rest q =
        ap (λ (m : ToldNumber). head_read_of l m.value m.next) f
        ∙ ap head_of (fields_back l rest newest head_fields 0 (head_values (scalars_of a)) n (head_allowed a e k) q)
        ∙ head_whole a (n + length (head_file a))

    module _ (m : ℕ) (g : head_in_of l ≡ head_to a m) where
      places-read : positions_in l ≡ filed (positions_read (length (held_in a.positions)) l newest m)
      unfolding table_read
      places-read =
          ap (λ (h : ToldHead). table_read l (number_at_of l 0).value h.count h.next) g
          ∙ ap (λ (i : ToldNumber). table_read l i.value a.positions.count m) f
          ∙ ap (λ (i : ℕ). filed (positions_read i l newest m)) (at_most_64 a.positions.count (account-small a e) ∙ sym (rows-count a e k))

      pub positions_in_lem : (rest : List ℕ) → drop m l ≡ held_file a ++ rest → positions_in l ≡ record { answer = Done; next = m + length (held_file a); table = a.positions }
      unfolding filed
      positions_in_lem rest q =
          places-read
          ∙ ap filed (positions_back l rest (held_in a.positions) m (rows_fit a e k) q)
          ∙ ap (λ (t : Table). record { answer = Done; next = m + length (held_file a); table = t }) (held-table a.positions k.positions.full (account-table a e))
