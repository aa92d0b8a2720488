-- Kind by kind.
use mathlib.Core.Path.{◌≡◌, sym, ◌∙◌}
use mathlib.Core.Bool.{Bool, true, false}
use Rattle.word_bytes.specs.Words.{words_of}
use Rattle.table.specs.Keyed.{both}
use Rattle.account_bytes.specs.Sizes.{cap_mark_at, cap_count_at}
use Rattle.account_bytes.specs.Settings.{are_rates, is_cap, are_flags, spare_settings, are_settings}
use Rattle.account_bytes.proofs.setting_words.are_settings.Goals as goal
use Rattle.account_bytes.proofs.setting_words.are_settings.Goals.{then-are_rates, else-are_rates, then-is_cap, else-is_cap}
use Prim.Native.Nat.{◌+◌}
use lib.ListN.{get_or}

yes : {a b v : Bool} → a ≡ true → v ≡ b → v ≡ both a b
yes e f = cc

no : {a v : Bool} (b : Bool) → a ≡ false → v ≡ a → v ≡ both a b
no b e f = cc

last : (r k f : Bool) {s u v x : Bool} → u ≡ both r k → v ≡ both u f → v ≡ true → x ≡ s → x ≡ both r (both k (both f s))
last true true true a b c d = cc
last true true false a b c d = cc
last true false f a b c d = cc
last false k f a b c d = cc

before : (r k f s : Bool) {u v : Bool} → u ≡ both r k → v ≡ both u f → v ≡ false → v ≡ both r (both k (both f s))
before true true true s a b c = cc
before true true false s a b c = cc
before true false f s a b c = cc
before false k f s a b c = cc

pub returns-then-are_flags : goal.returns-then-are_flags
unfolding are_settings
returns-then-are_flags c =
    let at = c.args.from in
    let ws = words_of c.args.bytes.now in
    let k = is_cap (get_or ws (at + cap_mark_at) 0) (get_or ws (at + cap_count_at) 0) in
    let u : c.if-are_rates.value ≡ both (are_rates at ws) k =
    elim c.if-are_rates.branch [
      | then-are_rates v ↦ yes (sym c.are_rates.ensures ∙ v.if-are_rates.true) (v.value-is ∙ simp (v.word_at.ensures, v.word_at-then-are_rates.ensures) at v.is_cap.ensures)
      | else-are_rates v ↦ no k (sym c.are_rates.ensures ∙ v.if-are_rates.false) (v.value-is ∙ c.are_rates.ensures)
    ] in
    let v : c.if-is_cap.value ≡ both c.if-are_rates.value (are_flags at ws) =
    elim c.if-is_cap.branch [ then-is_cap w ↦ yes w.if-is_cap.true (w.value-is ∙ w.are_flags.ensures) | else-is_cap w ↦ no (are_flags at ws) w.if-is_cap.false w.value-is ] in
    last (are_rates at ws) k (are_flags at ws) u v c.if-are_flags.true c.spare_settings.ensures

pub returns-else-are_flags : goal.returns-else-are_flags
unfolding are_settings
returns-else-are_flags c =
    let at = c.args.from in
    let ws = words_of c.args.bytes.now in
    let k = is_cap (get_or ws (at + cap_mark_at) 0) (get_or ws (at + cap_count_at) 0) in
    let u : c.if-are_rates.value ≡ both (are_rates at ws) k =
    elim c.if-are_rates.branch [
      | then-are_rates v ↦ yes (sym c.are_rates.ensures ∙ v.if-are_rates.true) (v.value-is ∙ simp (v.word_at.ensures, v.word_at-then-are_rates.ensures) at v.is_cap.ensures)
      | else-are_rates v ↦ no k (sym c.are_rates.ensures ∙ v.if-are_rates.false) (v.value-is ∙ c.are_rates.ensures)
    ] in
    let v : c.if-is_cap.value ≡ both c.if-are_rates.value (are_flags at ws) =
    elim c.if-is_cap.branch [ then-is_cap w ↦ yes w.if-is_cap.true (w.value-is ∙ w.are_flags.ensures) | else-is_cap w ↦ no (are_flags at ws) w.if-is_cap.false w.value-is ] in
    before (are_rates at ws) k (are_flags at ws) (spare_settings at ws) u v c.if-are_flags.false
