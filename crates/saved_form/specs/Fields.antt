-- Document 02, 5: the numbers of a saved account in their order, and what each may be as the bytes are met.
use Rattle.std.specs.Prelude.{ℕ, ◌^◌, Bool, true, not, List, [], ◌∷◌, ◌++◌, eqb, leb, ltb, get_or}
use Rattle.answer.specs.Choice.{both}
use Rattle.saved_form.specs.declared.field.Kind.{Kind}
use Rattle.saved_form.specs.declared.field.Kind.TheVariants.{Any, Flag, AfterMark, Pattern, Positions}
use Rattle.saved_form.specs.declared.field.Field.{Field}

-- "form number (1 here; ..)"
abbrev pub newest : ℕ
newest = 1

-- a field that a form brought in
abbrev pub since : ℕ → Kind → Field
since form kind = record { since = form; kind = kind }

-- "Order: .. cash, settings in document 01's order without opening cash, the ceiling, recording and cash-first as 0 or 1 (later settings follow here, oldest
-- first), counters in `Portfolio`'s field order, record count, equity and return counts, previous equity, position count"
unfoldable pub head_fields : List Field
head_fields =
    -- cash
    since 1 Any
    -- min_commission, min_order_value, max_order_value, max_rebalance_notional, quantity_step
    ∷ since 1 Any
    ∷ since 1 Any
    ∷ since 1 Any
    ∷ since 1 Any
    ∷ since 1 Any
    -- commission_bps, no_trade_band_bps, slippage_bps
    ∷ since 1 Pattern
    ∷ since 1 Pattern
    ∷ since 1 Pattern
    -- "A trade cap is 0, or 1 and the count"
    ∷ since 1 Flag
    ∷ since 1 AfterMark
    -- the ceiling
    ∷ since 1 Any
    -- recording, cash-first
    ∷ since 1 Flag
    ∷ since 1 Flag
    -- last order count, last notional, trimmed count, trimmed shortfall
    ∷ since 1 Any
    ∷ since 1 Any
    ∷ since 1 Any
    ∷ since 1 Any
    -- record count, equity count, return count, previous equity
    ∷ since 1 Any
    ∷ since 1 Any
    ∷ since 1 Any
    ∷ since 1 Any
    -- position count
    ∷ since 1 Positions
    ∷ []

-- "each in `Position`'s field order", after its symbol: quantity, average entry price, realized profit, total cost
unfoldable pub position_fields : List Field
position_fields = since 1 Any ∷ since 1 Any ∷ since 1 Any ∷ since 1 Any ∷ []

unfoldable pub field_at : ℕ → Field
field_at i = get_or (head_fields ++ position_fields) i (since 1 Any)

-- the bit pattern of -0.0
abbrev pub negative_zero : ℕ
negative_zero = 2 ^ 63

-- "11 for .. a flag or cap mark above 1, a negative zero, over 64 positions"
unfoldable pub allowed : Kind → ℕ → Bool
allowed Any n = true
allowed Flag n = ltb n 2
allowed AfterMark n = true
allowed Pattern n = not (eqb n negative_zero)
allowed Positions n = leb n 64

-- "A trade cap is 0, or 1 and the count"
unfoldable pub follows : Kind → ℕ → Bool
follows Any before = true
follows Flag before = true
follows AfterMark before = eqb before 1
follows Pattern before = true
follows Positions before = true

-- "each later form still reads earlier ones": whether a file of a form has the field, after the number before it
unfoldable pub has_field : ℕ → Field → ℕ → Bool
has_field form f before = both (leb f.since form) (follows f.kind before)
