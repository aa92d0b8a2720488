-- The reader's bytes stay those of the file, and each part is read from where the one before it ended.
use Rattle.std.specs.Prelude.{Ok}
use mathlib.Core.Path.{◌≡◌, ap, ◌∙◌}
use Rattle.std.proofs.lemmas.Result.{err_from_is_err_and}
use Rattle.seven_bit.specs.Placed.{number_at_of, number_or_fault}
use Rattle.loading.specs.Reading.{head_in_of, head_or_fault, positions_in, positions_or_fault}
use Rattle.loading.proofs.Loading as L
use Rattle.loading.proofs.reader.parse.Goals as goal
use Rattle.loading.proofs.reader.parse.Goals.{In_ok-form, In_ok-head, In_ok-positions}

form : (c : In_ok-form) → Ok c.in_ok-form.form ≡ number_or_fault (number_at_of c.args.bytes.now 0)
form c = L.form_at _ (ap (λ x. x.now) c.new-reader.ensures.0) c.new-reader.ensures.1 c.in_ok-form.ensures.read

after_form : (c : In_ok-form) → c.number.new.self.place ≡ c.in_ok-form.form.next
after_form c = L.form_moved _ _ (form c) (ap (λ x. x.now) c.new-reader.ensures.0) c.new-reader.ensures.1 c.in_ok-form.ensures.moved

head : (c : In_ok-head) → Ok c.in_ok-head.head ≡ head_or_fault (head_in_of c.args.bytes.now)
head c =
    let at = goal.at.In_ok-head c in
    L.head_at _ _ (form at.In_ok-form) (ap (λ x. x.now) (c.in_ok-form.ensures.same ∙ c.new-reader.ensures.0)) (after_form at.In_ok-form) c.in_ok-head.ensures.read

after_head : (c : In_ok-head) → c.head.new.self.place ≡ c.in_ok-head.head.next
after_head c =
    let at = goal.at.In_ok-head c in
    L.head_moved _ _ (form at.In_ok-form) c.if-form-ne-FORM.false _ (head c)
    (ap (λ x. x.now) (c.in_ok-form.ensures.same ∙ c.new-reader.ensures.0))
    (after_form at.In_ok-form) c.in_ok-head.ensures.moved

positions : (c : In_ok-positions) → Ok c.in_ok-positions.positions ≡ positions_or_fault (positions_in c.args.bytes.now)
positions c =
    let at = goal.at.In_ok-positions c in
    L.positions_at _ _ (form at.In_ok-form) c.if-form-ne-FORM.false _ (head at.In_ok-head)
    (ap (λ x. x.now) (c.in_ok-head.ensures.same ∙ c.in_ok-form.ensures.same ∙ c.new-reader.ensures.0))
    (after_head at.In_ok-head) c.in_ok-positions.ensures.read

after_positions : (c : In_ok-positions) → c.positions.new.self.place ≡ c.in_ok-positions.positions.next
after_positions c =
    let at = goal.at.In_ok-positions c in
    L.positions_moved _ _ (form at.In_ok-form) c.if-form-ne-FORM.false _ (head at.In_ok-head) _ (positions c)
    (ap (λ x. x.now) (c.in_ok-head.ensures.same ∙ c.in_ok-form.ensures.same ∙ c.new-reader.ensures.0))
    (after_head at.In_ok-head) c.in_ok-positions.ensures.moved

pub returns-in_err-form : goal.returns-in_err-form
returns-in_err-form c =
    let p = err_from_is_err_and c.from_residual.result c.from_residual.ensures.1 in
    rw (p.1, p.2) (L.form_refused _ _ (L.form_at _ (ap (λ x. x.now) c.new-reader.ensures.0) c.new-reader.ensures.1 c.in_err-form.ensures.read))

pub returns-then-form-ne-FORM : goal.returns-then-form-ne-FORM
returns-then-form-ne-FORM c = L.form_unknown _ _ (form (goal.at.returns-then-form-ne-FORM c).In_ok-form) c.if-form-ne-FORM.true

pub returns-in_err-head : goal.returns-in_err-head
returns-in_err-head c =
    let p = err_from_is_err_and c.from_residual-in_err-head.result c.from_residual-in_err-head.ensures.1 in
    let at = goal.at.returns-in_err-head c in
    let f = form at.In_ok-form in
    rw (p.1, p.2)
    (L.head_refused _ _ f c.if-form-ne-FORM.false _
    (L.head_at _ _ f (ap (λ x. x.now) (c.in_ok-form.ensures.same ∙ c.new-reader.ensures.0)) (after_form at.In_ok-form) c.in_err-head.ensures.read))

pub returns-in_err-positions : goal.returns-in_err-positions
returns-in_err-positions c =
    let p = err_from_is_err_and c.from_residual-in_err-positions.result c.from_residual-in_err-positions.ensures.1 in
    let at = goal.at.returns-in_err-positions c in
    let f = form at.In_ok-form in
    let h = head at.In_ok-head in
    rw (p.1, p.2)
    (L.positions_refused _ _ f c.if-form-ne-FORM.false _ h _
    (L.positions_at _ _ f c.if-form-ne-FORM.false _ h
    (ap (λ x. x.now) (c.in_ok-head.ensures.same ∙ c.in_ok-form.ensures.same ∙ c.new-reader.ensures.0))
    (after_head at.In_ok-head) c.in_err-positions.ensures.read))

pub returns-then-reader-bytes : goal.returns-then-reader-bytes
returns-then-reader-bytes c =
    let at = goal.at.returns-then-reader-bytes c in
    L.left_over _ _ (form at.In_ok-form) c.if-form-ne-FORM.false _ (head at.In_ok-head) _ (positions at.In_ok-positions) _ (after_positions at.In_ok-positions) c.if-reader-bytes.true

pub returns-in_err-check_sound : goal.returns-in_err-check_sound
returns-in_err-check_sound c =
    let p = err_from_is_err_and c.from_residual-in_err-check_sound.result c.from_residual-in_err-check_sound.ensures.1 in
    let at = goal.at.returns-in_err-check_sound c in
    rw (p.1, p.2)
    (L.not_sound _ _ (form at.In_ok-form) c.if-form-ne-FORM.false _ (head at.In_ok-head) _ (positions at.In_ok-positions)
    _ (after_positions at.In_ok-positions) c.if-reader-bytes.false _ c.account_of-account.ensures _ c.in_err-check_sound.ensures)

pub returns : goal.returns
returns c =
    let at = goal.at.returns c in
    L.all-good _ _ (form at.In_ok-form) c.if-form-ne-FORM.false _ (head at.In_ok-head) _ (positions at.In_ok-positions)
    _ (after_positions at.In_ok-positions) c.if-reader-bytes.false _ c.account_of-account.ensures c.in_ok-check_sound.ensures
