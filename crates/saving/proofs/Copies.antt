-- Bytes at the front of others, and a run that was written there and is taken back.
use mathlib.Core.Path.{◌≡◌, sym, ◌∙◌, ap}
use Prim.Native.Nat.{ℕ, ◌+◌, ◌≤◌}
use native.Mathlib.Omega.{arith}
use mathlib.Core.List.{List, ◌++◌}
use lib.ListN.{length, take, drop}
use lib.Seq.{sets, sets-eq, take-append_seam}
use Rattle.saving.specs.Inner.Putting.{Put}

-- bytes before what is behind them in others
pub copied : (l t : List ℕ) (n : ℕ) → length t ≡ n → n ≤ length l → t ++ drop n l ≡ sets l 0 t
copied l t n e h =
    let k : 0 + length t ≡ n = omega arith in
    sym (sets-eq t l 0 (omega arith) ∙ ap (λ (k : ℕ). t ++ drop k l) k)

-- what was written from the first byte on
pub written_front : (l t l' : List ℕ) (n : ℕ) → length t ≤ length l → Put l 0 t l' n → take n l' ≡ t
written_front l t l' n h p =
    let e : n ≡ length t = omega (arith, p.next) in
    ap (λ (k : ℕ). take k l') e ∙ ap (take (length t)) (p.same ∙ sets-eq t l 0 (omega arith)) ∙ take-append_seam t (drop (0 + length t) l)
