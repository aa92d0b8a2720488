-- What lent columns of a sound account are worth is its equity; prices that serve for others give the same.
use Prim.Native.Nat.{ℕ, zero, suc}
use mathlib.Core.Path.{◌≡◌, refl, ap, ◌∙◌}
use mathlib.Core.Bool.{true}
use mathlib.Core.List.{List}
use lib.IntN.{ℤ}
use Rattle.sums.specs.Sums.{sat_add}
use Rattle.table.specs.Inner.Places.{shorter}
use Rattle.table.proofs.Places.{shorter-same}
use Rattle.table.specs.Rows.{columns_of, Full}
use Rattle.account.specs.declared.account.Account.{Account}
use Rattle.account.specs.Account.{sound_account, held_in}
use Rattle.account.proofs.SoundAccounts.{account-ordered}
use Rattle.wanted.specs.Equity.{equity_of}
use Rattle.wanted.specs.Inner.Equity.{worth_places}
use Rattle.wanted.proofs.Worth.{worth_of_rows}

pub equity_of_places : (price : ℕ → ℤ) (a : Account) → sound_account a ≡ true → Full (columns_of a.positions)
    → sat_add a.cash (worth_places price (shorter a.positions.count 64) a.positions.columns.symbol a.positions.columns.quantity)
    ≡ equity_of price a.cash (held_in a.positions)
unfolding equity_of
equity_of_places price a e f =
    let o = account-ordered a e f in
    ap (sat_add a.cash) (ap (λ n. worth_places price n a.positions.columns.symbol a.positions.columns.quantity) (shorter-same a.positions.count 64 o.small) ∙ worth_of_rows price (columns_of a.positions) f a.positions.count o.small)

-- only the price of each symbol matters
pub worth-same : (p q : ℕ → ℤ) → ((s : ℕ) → p s ≡ q s) → (n : ℕ) (ks : List ℕ) (qs : List ℤ) → worth_places p n ks qs ≡ worth_places q n ks qs
unfolding worth_places
worth-same p q e zero ks qs = refl
worth-same p q e (suc n) ks qs = simp (worth-same p q e n ks qs, e)
