-- The equity curve of compounded returns: the Rust's `compute_max_drawdown`, one return at a time. Definitions only.
use Rattle.std.specs.Prelude.{cond, Float}
use Rattle.std.specs.Float.{binary64}
use Rattle.std.specs.Float.Ieee.{add, sub, mul, div, lt}
use Rattle.metrics.specs.Double.{zero, one}
use Rattle.metrics.specs.declared.curve.Curve.{Curve}

-- `acc * (1.0 + r)`, and `equity *= 1.0 + r`
unfoldable pub compounded : Float → Float → Float
compounded equity r = mul binary64 equity (add binary64 one r)

-- `if other > value { value = other; }`: a NaN is above nothing.
unfoldable pub raised : Float → Float → Float
raised value other = cond (lt value other) other value

-- `(peak - equity) / peak`
unfoldable pub fallen : Float → Float → Float
fallen peak equity = div binary64 (sub binary64 peak equity) peak

-- "let mut peak = 1.0_f64; let mut equity = 1.0_f64; let mut max_dd = 0.0_f64;"
abbrev pub flat : Curve
flat = record { equity = one; peak = one; max_drawdown = zero }

unfoldable pub curve_after : Curve → Float → Curve
curve_after c r =
    let equity = compounded c.equity r in
    let peak = raised c.peak equity in
    record { equity = equity; peak = peak; max_drawdown = raised c.max_drawdown (fallen peak equity) }
