-- Targets that the symbols of a column lack are those that the account does not hold.
use Prim.Native.Nat.{ℕ, ◌+◌, ◌≤◌, ◌<◌}
use mathlib.Core.Path.{◌≡◌, refl, sym, ap, ◌∙◌}
use mathlib.Core.Bool.{Bool, true, false}
use mathlib.Core.List.{List, [], ◌∷◌, map}
use mathlib.Core.Option.{Option, none, some}
use native.Mathlib.Omega.{arith}
use native.Mathlib.Numerals.{add-one}
use lib.Dec.{eqb, leb}
use lib.ListN.{length, take, drop, get_or, drop_of_length-le}
use lib.Seq.{drop-cons}
use Rattle.position.specs.declared.position.Position.{Position}
use Rattle.position.specs.Rows.{key_of}
use Rattle.table.specs.Keyed.{pick, there, new, seek}
use Rattle.table.specs.Inner.Places.{found, found_from}
use Rattle.table.specs.Rows.{rows}
use Rattle.table.specs.declared.table.Columns.{Columns}
use Rattle.table.specs.Inner.Rows.{Ordered}
use Rattle.table.specs.declared.found.Found.{Found}
use Rattle.table.specs.declared.found.Found.TheVariants.{At, Absent}
use Rattle.table.proofs.Zipped.{keys_of}
use Rattle.portfolio.specs.Answers.{not_held}
use Rattle.portfolio.specs.Inner.Planned.{lacked_by, lacking}

-- ---- the loop over the targets
pub lacked_most : (f : Found) → lacked_by f ≤ 1
lacked_most (At i) = omega arith
lacked_most (Absent i) = omega arith

pub lacking_on : (ks l : List ℕ) (i : ℕ) → i < length l → lacking (drop i l) ks ≡ lacked_by (found (get_or l i 0) ks) + lacking (drop (i + 1) l) ks
unfolding lacking
lacking_on ks l i h = rw (add-one, drop-cons l i 0)

pub lacking-end : (ks l : List ℕ) (i : ℕ) → length l ≤ i → lacking (drop i l) ks ≡ 0
unfolding lacking
lacking-end ks l i h = let e : drop i l ≡ [] = drop_of_length-le l h in rw e

-- ---- by the list of positions
lacked_new : (i s : ℕ) (ps : List Position) → lacked_by (found_from i s (map key_of ps)) ≡ new (seek key_of s ps)
lacked_new i s [] = refl
lacked_new i s (p ∷ ps) = go (leb s (key_of p)) (eqb (key_of p) s) (lacked_new (i + 1) s ps)
  where
    go : (a b : Bool) → lacked_by (found_from (i + 1) s (map key_of ps)) ≡ new (seek key_of s ps) → lacked_by (pick a (pick b (At i) (Absent i)) (found_from (i + 1) s (map key_of ps))) ≡ new (pick a (pick b (some p) none) (seek key_of s ps))
    go true true ih = refl
    go true false ih = refl
    go false b ih = ih

counted-new : (o : Option Position) (n : ℕ) → new o + n ≡ pick (there o) n (n + 1)
counted-new none n = omega arith
counted-new (some p) n = omega arith

lacking-keys : (ts : List ℕ) (ps : List Position) → lacking ts (map key_of ps) ≡ not_held ts ps
unfolding lacking not_held
lacking-keys [] ps = refl
lacking-keys (t ∷ l) ps = rw (lacked_new 0 t ps, lacking-keys l ps) (counted-new (seek key_of t ps) (not_held l ps))

pub lacking-held : (ts : List ℕ) (n : ℕ) (c : Columns) → Ordered n c → lacking ts (take n c.symbol) ≡ not_held ts (rows n c)
lacking-held ts n c o = sym (ap (lacking ts) (keys_of n c o.full)) ∙ lacking-keys ts (rows n c)
