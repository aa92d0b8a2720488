-- An order lowers cash where it takes some.
use Rattle.std.proofs.Common.{sym}
use Rattle.sizing.proofs.Bits.{read_back}
use Rattle.sizing.proofs.Cash.{lowers_is_taken}
use Rattle.sizing.proofs.lowers_cash.Goals as goal

pub returns : goal.returns
returns c =
    let p = c.effective_price-paid in
    let t = c.cash_taken in
    let quote = read_back c.args.price c.ranges.price.sfits in
    rw (read_back t.result t.type_inv, t.ensures, read_back p.result p.type_inv, p.ensures, quote)
    (sym (lowers_is_taken c.args.costs c.args.quantity.0 c.args.price))
