-- What positions are worth: it depends on their symbols and quantities alone, it is summed place by place, and it fits.
use Prim.Native.Nat.{ℕ, zero, suc, ◌+◌, ◌≤◌, ◌<◌}
use mathlib.Core.Path.{◌≡◌, refl, sym, ap, ◌∙◌}
use mathlib.Core.List.{List, [], ◌∷◌, ◌++◌}
use native.Mathlib.Omega.{arith}
use native.Mathlib.Numerals.{add-one}
use lib.IntN.{ℤ, pos}
use lib.ListN.{length, take, get_or}
use lib.Seq.{take-suc}
use mir.Syntax.{w64}
use mir.Val.{SFits}
use Rattle.sums.specs.Sums.{sat_add, value}
use Rattle.sums.proofs.Ints.{sat_add-fits}
use Rattle.position.specs.declared.position.Position.{Position}
use Rattle.position.specs.Rows.{fresh}
use Rattle.table.specs.Inner.Keyed.{Rising}
use Rattle.table.proofs.Places.{shorter-same}
use Rattle.table.specs.Rows.{rows, zipped, Full}
use Rattle.table.specs.declared.table.Columns.{Columns}
use Rattle.table.proofs.Zipped.{zipped-length, zipped_at}
use Rattle.call_lists.specs.Lists.{price_of}
use Rattle.wanted.specs.Equity.{worth, worth_from, equity_of}
use Rattle.wanted.specs.Inner.Equity.{worth_places, Worth}

-- ---- by places
pub worth-none : (price : ℕ → ℤ) (ks : List ℕ) (qs : List ℤ) → worth_places price 0 ks qs ≡ pos 0
unfolding worth_places
worth-none price ks qs = refl

pub worth_on : (price : ℕ → ℤ) (i : ℕ) (ks : List ℕ) (qs : List ℤ) → worth_places price (i + 1) ks qs ≡ sat_add (worth_places price i ks qs) (value (get_or qs i (pos 0)) (price (get_or ks i 0)))
unfolding worth_places
worth_on price i ks qs = rw add-one

-- ---- the places as a list of positions, whatever the other three columns hold
worth_snoc : (price : ℕ → ℤ) (sum : ℤ) (ps : List Position) (p : Position) → worth_from price sum (ps ++ (p ∷ [])) ≡ sat_add (worth_from price sum ps) (worth price p)
unfolding worth_from
worth_snoc price sum [] p = refl
worth_snoc price sum (q ∷ ps) p = worth_snoc price (sat_add sum (worth price q)) ps p

pub worth_of_rows : (price : ℕ → ℤ) (c : Columns) → Full c → (n : ℕ) → n ≤ 64 → worth_places price n c.symbol c.quantity ≡ worth_from price (pos 0) (rows n c)
unfolding worth_places worth_from
worth_of_rows price c f zero h = refl
worth_of_rows price c f (suc n) h =
    let l : n < length (zipped c) = omega (arith, zipped-length c f) in
    sym (ap (worth_from price (pos 0)) (take-suc (zipped c) n (fresh 0) l) ∙ worth_snoc price (pos 0) (take n (zipped c)) _ ∙ rw (zipped_at c n f, sym (worth_of_rows price c f n (omega arith))))

-- what the function that sums them answers
pub worth-settled : (c : Columns) (n : ℕ) (symbols : List ℕ) (prices : List ℤ) (r : ℤ) → Full c → n ≤ 64 → Rising symbols → Worth c.symbol c.quantity n symbols prices r → r ≡ worth_from (price_of symbols prices) (pos 0) (rows n c)
worth-settled c n symbols prices r f h rises w =
    w.settled rises ∙ ap (λ k. worth_places (price_of symbols prices) k c.symbol c.quantity) (shorter-same n 64 h) ∙ worth_of_rows (price_of symbols prices) c f n h

-- ---- it fits
pub worth-fits : (price : ℕ → ℤ) (sum : ℤ) (ps : List Position) → SFits w64 sum → SFits w64 (worth_from price sum ps)
unfolding worth_from
worth-fits price sum [] h = h
worth-fits price sum (p ∷ ps) h = worth-fits price (sat_add sum (worth price p)) ps (sat_add-fits sum _)

pub equity-fits : (price : ℕ → ℤ) (cash : ℤ) (ps : List Position) → SFits w64 (equity_of price cash ps)
unfolding equity_of
equity-fits price cash ps = sat_add-fits cash _
