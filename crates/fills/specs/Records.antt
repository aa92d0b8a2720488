-- "Each record carries its kind, rebalance or stop exit, beside the figures of `ExecutionRecord`".
use Rattle.std.specs.Prelude.{ℕ, ◌+◌, ◌*◌, Bool, List, [], ◌∷◌, ◌++◌, eqb, leb, ltb, length, drop, ℤ}
use Rattle.std.proofs.lemmas.List.Edits.{sets}
use Rattle.sums.specs.Sums.{sat_sub, notional}
use Rattle.table.specs.Keyed.{pick, both}
use Rattle.position.specs.Rows.{shares}
use Rattle.cost_model.specs.Costs.{cost}
use Rattle.fills.specs.declared.terms.Order.{Order}
use Rattle.fills.specs.declared.terms.Terms.{Terms}
use Rattle.fills.specs.declared.record.ExecutionKind.{ExecutionKind}
use Rattle.fills.specs.declared.record.ExecutionKind.TheVariants.{Rebalance, StopExit}
use Rattle.fills.specs.declared.record.ExecutionRecord.{ExecutionRecord}
use Rattle.fills.specs.Orders.{paid}

abbrev pub kind_number : ExecutionKind → ℕ
kind_number Rebalance = 0
kind_number StopExit = 1

-- 0 is a rebalance, and any other number a stop exit
unfoldable pub kind_of : ℕ → ExecutionKind
kind_of n = pick (eqb n 0) Rebalance StopExit

-- "an unknown kind answers 1"
abbrev pub good_kind : ℕ → Bool
good_kind n = ltb n 2

-- The record of q micro-shares filled, with the running count, and the cash before and after. The change saturates, so that it is defined for
-- every input; of cash of at least 0 before and after it is the plain difference.
unfoldable pub record_of : Terms → Order → ℤ → ℕ → ℤ → ℤ → ExecutionRecord
record_of t o q n before after = record {
  sequence = n;
  period_index = t.period_index;
  kind = t.kind;
  symbol = o.symbol;
  quantity = shares q;
  price = paid t o;
  reference_price = o.price;
  notional = notional q (paid t o);
  reference_notional = notional q o.price;
  cost = cost t.costs (notional q (paid t o));
  cash_delta = sat_sub after before;
  cash_after = after;
}

-- a record as four words and eight signed numbers
abbrev pub words_of_record : ExecutionRecord → List ℕ
words_of_record r = r.sequence ∷ r.period_index ∷ kind_number r.kind ∷ r.symbol.0 ∷ []

abbrev pub ints_of_record : ExecutionRecord → List ℤ
ints_of_record r =
    r.quantity.0 ∷ r.price ∷ r.reference_price ∷ r.notional ∷ r.reference_notional ∷ r.cost ∷ r.cash_delta ∷ r.cash_after ∷ []

unfoldable pub all_words : List ExecutionRecord → List ℕ
all_words [] = []
all_words (r ∷ rs) = words_of_record r ++ all_words rs

unfoldable pub all_ints : List ExecutionRecord → List ℤ
all_ints [] = []
all_ints (r ∷ rs) = ints_of_record r ++ all_ints rs

-- ---- records in lent number slices, four words and eight signed numbers a place, and the count of places written
pub record Buffers : Type 0 where
  pub words : List ℕ
  pub ints : List ℤ
  pub written : ℕ

abbrev pub buffers : List ℕ → List ℤ → ℕ → Buffers
buffers ws is n = record { words = ws; ints = is; written = n }

-- whether both slices have the place n
unfoldable pub room : ℕ → Buffers → Bool
room n b = both (leb (n * 4 + 4) (length b.words)) (leb (n * 8 + 8) (length b.ints))

-- a record goes to the next place, if there is one
unfoldable pub stored : ExecutionRecord → Buffers → Buffers
stored r b = pick (room b.written b)
    (buffers (sets b.words (b.written * 4) (words_of_record r)) (sets b.ints (b.written * 8) (ints_of_record r)) (b.written + 1))
    b

unfoldable pub stored_all : List ExecutionRecord → Buffers → Buffers
stored_all [] b = b
stored_all (r ∷ rs) b = stored_all rs (stored r b)

-- "records fill the first places [..] and the rest are as found"
abbrev pub fronted : {A : Type 0} → List A → List A → List A
fronted xs found = xs ++ drop (length xs) found
