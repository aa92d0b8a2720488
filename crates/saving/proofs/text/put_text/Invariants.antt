-- The loop's invariant: what is left of the text, written from here on, makes of the bytes what is asked.
use Rattle.saving.proofs.Texts as T
use Rattle.saving.proofs.text.put_text.Given as goal

abbrev pub invariant-loop-at : goal.invariant-loop-at
invariant-loop-at l = T.Writing l.initial.bytes l.place l.s l.bytes l.rest l.at
