-- Records in the first places of a run.
use Rattle.std.specs.Prelude.{ℕ, zero, suc, min, List, [], ◌∷◌, ◌++◌, length, ℤ}
use Rattle.fills.specs.declared.record.ExecutionRecord.{ExecutionRecord}
use Rattle.fills.specs.Records.{fronted}
use Rattle.records.specs.Read.{record_at}

-- the first n records of two number slices
unfoldable pub records_at : List ℕ → List ℤ → ℕ → List ExecutionRecord
records_at ws is zero = []
records_at ws is (suc n) = records_at ws is n ++ (record_at ws is n ∷ [])

-- "records fill the first places [..] and the rest are as found": as many of n as the run has places
abbrev pub collected : List ℕ → List ℤ → ℕ → List ExecutionRecord → List ExecutionRecord
collected ws is n found = fronted (records_at ws is (min n (length found))) found
