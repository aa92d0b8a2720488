-- "Each refusal returns its number .. and every lent place as found."
use Prim.Native.Nat.{ℕ}
use mathlib.Core.Bool.{Bool, true, false, not, cond}
use mathlib.Core.List.{List, [], ◌∷◌}
use mathlib.Core.Path.{◌≡◌, refl, ◌∙◌, ap}
use native.Mathlib.Omega.{arith}
use lib.Dec.{eqb}
use lib.IntN.{ℤ, pos}
use lib.Signed.{lt_z}
use lib.Ieee.{Float}
use lib.ListN.{length}
use borrow.Author.Tests.{eqb-true, ne_eqb}
use Rattle.answer.specs.declared.Answer.TheVariants.{Done, BadPrice, Unsound}
use Rattle.answer.specs.Places.{alone, word_of}
use Rattle.position.specs.declared.position.Position.{Position}
use Rattle.position.specs.declared.position.Filled.{Filled}
use Rattle.position.specs.Rows.{numbers_of}
use Rattle.position.specs.Fills.{sound, applied, apply_fill}
use Rattle.c_leaves.specs.Lent.{position_from, answer_to_fill, after_fill, answer_to_figures, rates_after, counts_after}

-- Four numbers are those of their position.
numbers_back : (s : ℕ) (ns : List ℤ) → length ns ≡ 4 → numbers_of (position_from s ns) ≡ ns
numbers_back s [] h = absurd (omega (arith, h))
numbers_back s (a ∷ []) h = absurd (omega (arith, h))
numbers_back s (a ∷ b ∷ []) h = absurd (omega (arith, h))
numbers_back s (a ∷ b ∷ c ∷ []) h = absurd (omega (arith, h))
numbers_back s (a ∷ b ∷ c ∷ d ∷ []) h = refl
numbers_back s (a ∷ b ∷ c ∷ d ∷ e ∷ ns) h = absurd (omega (arith, h))

module _ (s : ℕ) (ns : List ℤ) (q price : ℤ) where
  abbrev found : Position
  found = position_from s ns

  -- By the two refusals of a fill.
  abbrev filled_by : Bool → Bool → Filled
  filled_by unsound below =
      cond unsound
      (record { answer = Unsound; position = found })
      (cond below
      (record { answer = BadPrice alone; position = found })
      (record { answer = Done; position = applied found q price }))

  kept : (unsound below : Bool) → (word_of (filled_by unsound below).answer ≡ 0 → ⊥) → (filled_by unsound below).position ≡ found
  kept true below h = refl
  kept false true h = refl
  kept false false h = absurd (h refl)

  left : (four : Bool) → eqb (length ns) 4 ≡ four → (cond four (word_of (apply_fill found q price).answer) 11 ≡ 0 → ⊥)
      → cond four (numbers_of (apply_fill found q price).position) ns ≡ ns
  unfolding apply_fill
  left true e h = ap numbers_of (kept (not (sound found)) (lt_z price (pos 0)) h) ∙ numbers_back s ns (eqb-true _ _ e)
  left false e h = refl

  pub refused-fill-leaves_as_found : (answer_to_fill s ns q price ≡ 0 → ⊥) → after_fill s ns q price ≡ ns
  unfolding answer_to_fill after_fill
  refused-fill-leaves_as_found h = left (eqb (length ns) 4) refl h

pub refused-figures-leave_as_found : (rs rates : List Float) (counts : List ℕ) → (answer_to_figures rs rates counts ≡ 0 → ⊥)
    → (rates_after rs rates counts ≡ rates) × (counts_after rs rates counts ≡ counts)
unfolding rates_after counts_after
refused-figures-leave_as_found rs rates counts h =
    let no = ne_eqb (answer_to_figures rs rates counts) 0 h in
    (simp no, simp no)
