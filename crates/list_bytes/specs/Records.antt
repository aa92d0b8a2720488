-- Records as bytes: twelve words each. Definitions only.
use Rattle.std.specs.Prelude.{ℕ, List, [], ◌∷◌, ◌++◌, map}
use Rattle.word_bytes.specs.Words.{bytes_of, turned}
use Rattle.word_bytes.specs.Numbers.{unsigned_of}
use Rattle.fills.specs.declared.record.ExecutionRecord.{ExecutionRecord}
use Rattle.fills.specs.Records.{kind_number, ints_of_record}

-- "Each record carries its kind, rebalance or stop exit, beside the figures of `ExecutionRecord`": four words, the symbol as its text, and eight signed numbers
abbrev pub record_words : ExecutionRecord → List ℕ
record_words r = r.sequence ∷ r.period_index ∷ kind_number r.kind ∷ turned r.symbol.0 ∷ map unsigned_of (ints_of_record r)

unfoldable pub record_bytes : ExecutionRecord → List ℕ
record_bytes r = bytes_of (record_words r)

unfoldable pub all_bytes : List ExecutionRecord → List ℕ
all_bytes [] = []
all_bytes (r ∷ rs) = record_bytes r ++ all_bytes rs
