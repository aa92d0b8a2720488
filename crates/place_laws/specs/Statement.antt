-- Document 02, 9: what an answer's place says of the lists that were given. Statements only.
use Rattle.std.specs.Prelude.{ℕ, ◌<◌, ◌≡◌, true, false, List, ℤ, pos, Float, length, get_or}
use Rattle.std.specs.Int.Signed.{lt_z}
use Rattle.doubles.specs.Doubles.{all_finite}
use Rattle.position.specs.Symbols.{good_symbol}
use Rattle.answer.specs.declared.Entry.{Entry}
use Rattle.answer.specs.declared.Entry.TheVariants.{Target, Price}
use Rattle.answer.specs.declared.Answer.{Answer}
use Rattle.answer.specs.declared.Answer.TheVariants.{Done, BadSetting, BadSymbol, Twice, BadPrice, BadWeight, TooLong, TooMany, NoRecordRoom, NotHeld, BufferFull, Unsound, BadSeries, BadGroup, NoFirstSum, OutOfRange, EndsEarly, BadNumber, LeftOver, NoFileRoom}
use Rattle.answer.specs.Places.{alone}
use Rattle.call_lists.specs.Checks.{short_enough}

-- ---- what is bad at a place
-- "a symbol is bad"
abbrev pub BadSymbolAt : List ℕ → ℕ → Type 0
BadSymbolAt l i = good_symbol (get_or l i 0) ≡ false

-- "the second appearance": the symbol stands earlier in the same list
pub record EarlierToo (l : List ℕ) (i : ℕ) : Type 0 where
  pub at : ℕ
  pub before : at < i
  pub same : get_or l at 0 ≡ get_or l i 0

-- "a price is below 1"
abbrev pub BadPriceAt : List ℤ → ℕ → Type 0
BadPriceAt l i = lt_z (get_or l i (pos 1)) (pos 1) ≡ true

-- ---- "the first offending index"
-- of n places: this one is bad, and none before it
pub record First (Bad : ℕ → Type 0) (n i : ℕ) : Type 0 where
  pub within : i < n
  pub bad-there : Bad i
  pub none_before : (j : ℕ) → j < i → Bad j → ⊥

-- of n places, none is bad
abbrev pub None : (ℕ → Type 0) → ℕ → Type 0
None Bad n = (j : ℕ) → j < n → Bad j → ⊥

-- ---- what an answer says of the lists: which of them were looked through before, in the order 6, 2, 3, 5, 4
module _ (ts : List ℕ) (ws : List Float) (ps : List ℕ) (vs : List ℤ) where
  -- not 6: "64 targets, 128 prices", in pairs
  abbrev pub Short : Type 0
  Short = short_enough ts ws ps vs ≡ true

  pub record BadTarget (i : ℕ) : Type 0 where
    pub short : Short
    pub first : First (BadSymbolAt ts) (length ts) i

  -- "Targets are examined before prices within each number"
  pub record BadPriceSymbol (i : ℕ) : Type 0 where
    pub short : Short
    pub targets-good : None (BadSymbolAt ts) (length ts)
    pub first : First (BadSymbolAt ps) (length ps) i

  -- not 6, and not 2 in either list: "the order of numbers stays"
  pub record GoodSymbols : Type 0 where
    pub short : Short
    pub targets-good : None (BadSymbolAt ts) (length ts)
    pub prices-good : None (BadSymbolAt ps) (length ps)

  -- "for 3 that is the index of the second appearance whose index is smallest"
  pub record TwiceInTargets (i : ℕ) : Type 0 where
    pub good : GoodSymbols
    pub first : First (EarlierToo ts) (length ts) i

  pub record TwiceInPrices (i : ℕ) : Type 0 where
    pub good : GoodSymbols
    pub targets-once : None (EarlierToo ts) (length ts)
    pub first : First (EarlierToo ps) (length ps) i

  -- not 6, 2 or 3
  pub record Once : Type 0 where
    pub good : GoodSymbols
    pub targets-once : None (EarlierToo ts) (length ts)
    pub prices-once : None (EarlierToo ps) (length ps)

  pub record BadWeights : Type 0 where
    pub once : Once
    pub not_finite : all_finite ws ≡ false

  pub record BadPriceThere (i : ℕ) : Type 0 where
    pub once : Once
    pub finite : all_finite ws ≡ true
    pub first : First (BadPriceAt vs) (length vs) i

  -- nothing is wrong with the lists
  pub record Clear : Type 0 where
    pub once : Once
    pub finite : all_finite ws ≡ true
    pub prices-good : None (BadPriceAt vs) (length vs)

  abbrev pub Says : Answer → Type 0
  -- 11 comes before all that is asked of lists
  Says Unsound = Unit
  Says TooLong = short_enough ts ws ps vs ≡ false
  Says (BadSymbol (Target i)) = BadTarget i
  Says (BadSymbol (Price i)) = BadPriceSymbol i
  Says (Twice (Target i)) = TwiceInTargets i
  Says (Twice (Price i)) = TwiceInPrices i
  Says BadWeight = BadWeights
  -- no price stands in the targets
  Says (BadPrice (Target i)) = ⊥
  Says (BadPrice (Price i)) = BadPriceThere i
  -- what is asked after the lists
  Says NoRecordRoom = Clear
  Says TooMany = Clear
  Says BufferFull = Clear
  Says Done = Clear
  -- no call with lists answers these
  Says BadSetting = ⊥
  Says NotHeld = ⊥
  Says BadSeries = ⊥
  Says BadGroup = ⊥
  Says NoFirstSum = ⊥
  Says OutOfRange = ⊥
  Says (EndsEarly at) = ⊥
  Says (BadNumber at) = ⊥
  Says (LeftOver at) = ⊥
  Says NoFileRoom = ⊥

-- ---- "Calls with one symbol tell index 0"
abbrev pub SaysAlone : ℕ → ℤ → Answer → Type 0
SaysAlone s price (BadSymbol e) = (e ≡ alone) × (good_symbol s ≡ false)
SaysAlone s price (BadPrice e) = (e ≡ alone) × (good_symbol s ≡ true) × (lt_z price (pos 1) ≡ true)
SaysAlone s price Unsound = Unit
-- what is asked after symbol and price
SaysAlone s price NoRecordRoom = good_symbol s ≡ true
SaysAlone s price NotHeld = good_symbol s ≡ true
SaysAlone s price Done = good_symbol s ≡ true
-- no call with one symbol answers these
SaysAlone s price (Twice e) = ⊥
SaysAlone s price BadSetting = ⊥
SaysAlone s price BadWeight = ⊥
SaysAlone s price TooLong = ⊥
SaysAlone s price TooMany = ⊥
SaysAlone s price BufferFull = ⊥
SaysAlone s price BadSeries = ⊥
SaysAlone s price BadGroup = ⊥
SaysAlone s price NoFirstSum = ⊥
SaysAlone s price OutOfRange = ⊥
SaysAlone s price (EndsEarly at) = ⊥
SaysAlone s price (BadNumber at) = ⊥
SaysAlone s price (LeftOver at) = ⊥
SaysAlone s price NoFileRoom = ⊥
