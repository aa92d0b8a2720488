-- Every query with prices is one law: the code's order of tests and document 01's answer the same, since a query tells an unsound account itself.
use Prim.Native.Nat.{ℕ}
use mathlib.Core.Path.{◌≡◌, refl, sym, ap, ◌∙◌}
use mathlib.Core.Bool.{Bool, true, false}
use mathlib.Core.List.{List}
use lib.IntN.{ℤ}
use lib.ListN.{take}
use Rattle.std.specs.Prelude.{Option, Some, None, Result, Ok, Err, ok_or}
use Rattle.answer.specs.declared.Answer.{Answer}
use Rattle.answer.specs.declared.Answer.TheVariants.{TooLong, Unsound}
use Rattle.answer.specs.Places.{word_of}
use Rattle.table.specs.Keyed.{pick, both}
use Rattle.call_lists.specs.Checks.{unless}
use Rattle.account.specs.declared.account.Account.{Account}
use Rattle.account.specs.Account.{sound_account}
use Rattle.account_bytes.proofs.Sound.{sound_in_lem}
use Rattle.list_bytes.specs.declared.price.Prices.{Prices}
use Rattle.list_bytes.specs.Entries.{whole_list}
use Rattle.list_bytes.specs.Lists.{symbols_in, prices_in}
use Rattle.list_bytes.specs.Inner.Lists.{prices_of}
use Rattle.c_queries.specs.Asked.{account_in, asked_at_prices}
use Rattle.c_queries.specs.Inner.Asked.{asked_prices}
use Rattle.c_queries.proofs.Given.{no-prices, prices-whole, price-symbols, price-prices}

both_none : (t : Bool) → both t false ≡ false
both_none true = refl
both_none false = refl

-- ---- by what was read
module _ (a : Account) (l : List ℕ) (fits : Bool) where
  abbrev refusal : Answer
  refusal = unless (sound_account a) Unsound TooLong

  -- a query that is made was given a whole list and room
  pub made : (p : Prices) → Ok p ≡ asked_prices a l fits → (fits ≡ true) × (prices_of l ≡ Some p)
  unfolding asked_prices
  made p = go fits (prices_of l)
    where
      go : (t : Bool) (o : Option Prices) → ◌≡◌ {A = Result Prices Answer} (Ok p) (pick t (ok_or o refusal) (Err refusal)) → (t ≡ true) × (o ≡ Some p)
      go true None h = absurd (cc)
      go true (Some q) h = (refl, cc)
      go false o h = absurd (cc)

  -- and one that is not lacked one of them
  pub refused : (w : Answer) → Err w ≡ asked_prices a l fits → (both (whole_list 128 l) fits ≡ false) × (w ≡ refusal)
  unfolding asked_prices
  refused w = go fits (prices_of l) refl
    where
      go : (t : Bool) (o : Option Prices) → prices_of l ≡ o → ◌≡◌ {A = Result Prices Answer} (Err w) (pick t (ok_or o refusal) (Err refusal)) → (both (whole_list 128 l) t ≡ false) × (w ≡ refusal)
      go true None e h = (ap (λ (k : Bool). both k true) (no-prices l e), cc)
      go true (Some q) e h = absurd (cc)
      go false o e h = (both_none (whole_list 128 l), cc)

-- ---- what a query tells of what an account at prices gives, and what a refusal leaves, as of an account that is not sound
pub record Query (X Y : Type 0) : Type 0 where
  pub gives : Account → List ℕ → List ℤ → X
  pub tells : X → Y
  pub leaves : ℕ → Y
  pub unsound : (a : Account) (ss : List ℕ) (vs : List ℤ) → sound_account a ≡ false → tells (gives a ss vs) ≡ leaves (word_of Unsound)

module _ {X Y : Type 0} (q : Query X Y) (b l : List ℕ) (fits : Bool) {a : Account} (ea : a ≡ account_in b) where
  abbrev refuse : Answer → Y
  refuse w = q.leaves (word_of w)

  abbrev call : Y
  call = q.tells (q.gives (account_in b) (symbols_in l) (prices_in l))

  abbrev by_tests : Bool → Bool → Y
  by_tests s t = pick s (pick t call (refuse TooLong)) (refuse Unsound)

  told : (t : Bool) → both (whole_list 128 l) fits ≡ t → by_tests (sound_account (account_in b)) t ≡ asked_at_prices refuse b l fits call
  unfolding asked_at_prices
  told t e = sym (ap (by_tests (sound_account (account_in b))) e) ∙ sym (ap (λ (s : Bool). by_tests s (both (whole_list 128 l) fits)) (sound_in_lem b))

  pub refused_query : (w : Answer) → Err w ≡ asked_prices a l fits → {n : ℕ} → n ≡ word_of w → q.leaves n ≡ asked_at_prices refuse b l fits call
  refused_query w h e =
      let k = refused a l fits w h in
      ap q.leaves e ∙ ap refuse (k.1 ∙ ap (λ (x : Account). unless (sound_account x) Unsound TooLong) ea) ∙ go (sound_account (account_in b)) ∙ told false k.0
    where
      go : (s : Bool) → refuse (unless s Unsound TooLong) ≡ by_tests s false
      go true = refl
      go false = refl

  pub made_query : (p : Prices) → Ok p ≡ asked_prices a l fits → {x : X} → x ≡ q.gives a (take p.count p.symbol) (take p.count p.price) → q.tells x ≡ asked_at_prices refuse b l fits call
  made_query p h e =
      let k = made a l fits p h in
      ap q.tells
      (e
      ∙ ap (λ (x : Account). q.gives x (take p.count p.symbol) (take p.count p.price)) ea
      ∙ ap (λ (x : List ℕ). q.gives (account_in b) x (take p.count p.price)) (price-symbols l k.1)
      ∙ ap (q.gives (account_in b) (symbols_in l)) (price-prices l k.1))
      ∙ go (sound_account (account_in b)) refl
      ∙ told true (ap (λ (t : Bool). both t fits) (prices-whole l k.1) ∙ k.0)
    where
      go : (s : Bool) → sound_account (account_in b) ≡ s → call ≡ by_tests s true
      go true z = refl
      go false z = q.unsound (account_in b) (symbols_in l) (prices_in l) z
