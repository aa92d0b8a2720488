-- The text where the bytes have it.
use mathlib.Core.Path.{◌≡◌}
use Prim.Native.Nat.{◌+◌, ◌-◌}
use native.Mathlib.Omega.{arith}
use Rattle.loading.proofs.Texts as X
use Rattle.loading.proofs.text.text_at.Goals as goal
use Rattle.loading.proofs.text.text_at.Goals.{then-end-n-via-then-end-n, then-end-n-via-else-end-n+then-end-n-2}

pub returns-then-end-n : goal.returns-then-end-n
returns-then-end-n c =
    X.text_past _ _ _ (elim c.then-end-n.branch [ then-end-n-via-then-end-n w ↦ omega arith | then-end-n-via-else-end-n+then-end-n-2 w ↦ omega arith ])

pub returns : goal.returns
returns c =
    let n : c.args.at + c.args.n - c.args.at ≡ c.args.n = omega arith in
    X.text_in _ _ _ _ (omega arith) (rw n at c.spelt_in.ensures)
