-- The room for the lists' symbols, of a sound account and lists that are not refused.
use Prim.Native.Nat.{ℕ, ◌+◌}
use mathlib.Core.Path.{◌≡◌, ◌∙◌, sym, ap}
use mathlib.Core.Bool.{Bool, true}
use mathlib.Core.List.{List}
use borrow.Author.Rules.{rules}
use lib.Dec.{leb}
use lib.ListN.{length, take}
use Rattle.answer.proofs.Answers.{done_is}
use Rattle.table.specs.Inner.Keyed.{Rising}
use Rattle.table.specs.Rows.{Full}
use Rattle.table.specs.declared.table.Columns.{Columns}
use Rattle.call_lists.proofs.Checks.{done_accepted}
use Rattle.account.specs.declared.account.Ledger.{Ledger}
use Rattle.account.specs.Account.{sound_account, held_in}
use Rattle.account.specs.Inner.Account.{account_with}
use Rattle.account.proofs.Columns.{rows-length}
use Rattle.account.proofs.SoundAccounts.{account-ordered, account-small}
use Rattle.portfolio.specs.Answers.{has_room_of, not_held, rebalance_answer}
use Rattle.portfolio.specs.Inner.Planned.{lacking}
use Rattle.portfolio.proofs.Lacking.{lacking-held}
use Rattle.portfolio.proofs.Refusals.{full, no_error}
use Rattle.portfolio.proofs.refusal.check_rebalance.Goals as goal

-- the places that a sound account's columns leave
places_are : (h : Ledger) (k : Columns) (ts : List ℕ) (b : Bool) → sound_account (account_with h k) ≡ true → Full k
    → (Rising (take h.count k.symbol) → b ≡ leb (h.count + lacking ts (take h.count k.symbol)) 64)
    → b ≡ leb (length (held_in (account_with h k).positions) + not_held ts (held_in (account_with h k).positions)) 64
places_are h k ts b s f e =
    let n = h.count in
    let o = account-ordered (account_with h k) s f in
    e o.rising
    ∙ ap (λ m. leb (n + m) 64) (lacking-held ts n k o)
    ∙ sym (ap (λ m. leb (m + not_held ts (held_in (account_with h k).positions)) 64) (rows-length k f n o.small))

pub has_places-requires : goal.has_places-requires
has_places-requires c =
    (account-small _ (sym c.if-not-sound_account.ensures), (done_accepted _ _ _ _ (done_is _ (no_error _ c.in_ok-check_lists.ensures))).targets_bound)

pub returns-then-not-has_places : goal.returns-then-not-has_places
unfolding rebalance_answer has_room_of
returns-then-not-has_places c =
    let t = places_are c.args.h _ c.args.targets.now _ (sym c.if-not-sound_account.ensures) (full c.told-columns.0 c.told-columns.1 c.told-columns.2 c.told-columns.3 c.told-columns.4) c.if-not-has_places.ensures in
    search rules

pub returns : goal.returns
unfolding rebalance_answer has_room_of
returns c =
    let t = places_are c.args.h _ c.args.targets.now _ (sym c.if-not-sound_account.ensures) (full c.told-columns.0 c.told-columns.1 c.told-columns.2 c.told-columns.3 c.told-columns.4) c.if-not-has_places.ensures in
    search rules
