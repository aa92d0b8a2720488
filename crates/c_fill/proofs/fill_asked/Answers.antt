-- By whether the fill is refused: its numbers go into the places, or nothing does.
use mathlib.Core.Path.{sym, ap, ◌∙◌}
use Rattle.std.proofs.Common.{ℕ, length}
use Rattle.answer.specs.Places.{word_of}
use Rattle.fills.specs.Inner.Runs.{records_of}
use Rattle.c_fill.specs.Single.{Slots, slots, position_in, answer_to, fill_told, counting}
use Rattle.c_fill.specs.Inner.Single.{book_of, seen_after, Sight, seen_by}
use Rattle.c_fill.proofs.Alone.{seen_done, seen_refused, done_lends, done_as_filled, refused_as_found, told_of, same-slots}
use Rattle.c_fill.proofs.fill_asked.Goals as goal

pub copy_from_slice-requires : goal.copy_from_slice-requires
copy_from_slice-requires c =
    let x = c.args in
    let l : Slots = slots x.money.now x.tallies.now x.words.now x.ints.now in
    let k = seen_done (answer_to x.a l) (seen_after x.a (book_of l.money l.tallies) (position_in x.a.symbol l.money)) (seen_by c.in-Ok.seen) c.in-Ok.ensures in
    (done_lends x.a l k.0).money ∙ sym (ap length c.money_of.ensures)

pub copy_from_slice-requires-in-Ok : goal.copy_from_slice-requires-in-Ok
copy_from_slice-requires-in-Ok c =
    let x = c.args in
    let l : Slots = slots x.money.now x.tallies.now x.words.now x.ints.now in
    let k = seen_done (answer_to x.a l) (seen_after x.a (book_of l.money l.tallies) (position_in x.a.symbol l.money)) (seen_by c.in-Ok.seen) c.in-Ok.ensures in
    (done_lends x.a l k.0).tallies

pub keep-requires : goal.keep-requires
keep-requires c =
    let x = c.args in
    let l : Slots = slots x.money.now x.tallies.now x.words.now x.ints.now in
    let k = seen_done (answer_to x.a l) (seen_after x.a (book_of l.money l.tallies) (position_in x.a.symbol l.money)) (seen_by c.in-Ok.seen) c.in-Ok.ensures in
    let h = done_lends x.a l k.0 in
    (h.words, h.ints)

pub returns-in-Ok : goal.returns-in-Ok
returns-in-Ok c =
    let x = c.args in
    let l : Slots = slots x.money.now x.tallies.now x.words.now x.ints.now in
    let k = seen_done (answer_to x.a l) (seen_after x.a (book_of l.money l.tallies) (position_in x.a.symbol l.money)) (seen_by c.in-Ok.seen) c.in-Ok.ensures in
    ap (λ (n : ℕ). fill_told n (slots c.copy_from_slice.new.self c.copy_from_slice-in-Ok.new.self c.keep.new.words c.keep.new.ints)) c.counting.ensures
    ∙ ap (fill_told (counting (records_of c.in-Ok.seen.filled))) (same-slots (c.copy_from_slice.ensures.after ∙ c.money_of.ensures) c.copy_from_slice-in-Ok.ensures.after c.keep.ensures.0 c.keep.ensures.1)
    ∙ ap (λ (v : Sight). told_of v l) k.1
    ∙ done_as_filled x.a l k.0

pub returns-in-Err : goal.returns-in-Err
returns-in-Err c =
    let x = c.args in
    let l : Slots = slots x.money.now x.tallies.now x.words.now x.ints.now in
    let k = seen_refused (answer_to x.a l) (seen_after x.a (book_of l.money l.tallies) (position_in x.a.symbol l.money)) c.in-Err.answer c.in-Err.ensures in
    ap (λ (n : ℕ). fill_told n l) (c.word.ensures ∙ ap word_of k.1) ∙ refused_as_found x.a l k.0
