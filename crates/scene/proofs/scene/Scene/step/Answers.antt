use Rattle.std.proofs.Common.{ℕ, List, sym, subst}
use Rattle.region.specs.declared.Rect.{Rect}
use Rattle.scene.specs.declared.Event.{Event}
use Rattle.scene.specs.declared.Event.TheVariants.{Write, Paint, Mark, ScheduleCopy, DoCopy, Bell, CutText}
use Rattle.scene.specs.declared.Answer.{Answer}
use Rattle.scene.specs.Answers.{answer_to}
use Rattle.scene.specs.Alone.{Tells, gives, nothing_to_say}
use Rattle.scene.specs.Refusals.{refusal, Refuses}
use Rattle.scene.proofs.Calls.{tells-answer}
use Rattle.scene.proofs.Due.{refuses-as, refuses-surely}
use Rattle.scene.proofs.scene.Scene.step.Goals as goal

abbrev nothing_told : Unit {0} → Answer
nothing_told u = nothing_to_say

pub returns-in-Write-clause-answer : goal.returns-in-Write-clause-answer
returns-in-Write-clause-answer c = λ config list h.
    let P : Event → Type 0 = λ e. Tells {X = Answer} (λ a. a) c.with_nothing.result (answer_to config list e) in
    let Q : List ℕ → Type 0 = λ l. Tells nothing_told c.write_pixels-written.result (answer_to config list (Write c.in-Write.rect l)) in
    subst P (sym c.in-Write.is) (tells-answer nothing_told c.write_pixels-written.result c.with_nothing.result (answer_to config list (Write c.in-Write.rect c.in-Write.colours)) c.with_nothing.ensures (subst Q c.as_slice.ensures (c.write_pixels-written.ensures.answer config list h)))

pub returns-in-Paint-clause-answer : goal.returns-in-Paint-clause-answer
returns-in-Paint-clause-answer c = λ config list h.
    let P : Event → Type 0 = λ e. Tells {X = Answer} (λ a. a) c.with_nothing-in-Paint.result (answer_to config list e) in
    let Q : List ℕ → Type 0 = λ l. Tells nothing_told c.paint-painted.result (answer_to config list (Paint c.in-Paint.rect l)) in
    subst P (sym c.in-Paint.is) (tells-answer nothing_told c.paint-painted.result c.with_nothing-in-Paint.result (answer_to config list (Paint c.in-Paint.rect c.in-Paint.colours)) c.with_nothing-in-Paint.ensures (subst Q c.as_slice-in-Paint.ensures (c.paint-painted.ensures.answer config list h)))

pub returns-in-Mark-clause-answer : goal.returns-in-Mark-clause-answer
returns-in-Mark-clause-answer c = λ config list h.
    let P : Event → Type 0 = λ e. Tells {X = Answer} (λ a. a) c.with_nothing-in-Mark.result (answer_to config list e) in
    let Q : List Rect → Type 0 = λ l. Tells nothing_told c.mark_rects-marked.result (answer_to config list (Mark l)) in
    subst P (sym c.in-Mark.is) (tells-answer nothing_told c.mark_rects-marked.result c.with_nothing-in-Mark.result (answer_to config list (Mark c.in-Mark.rects)) c.with_nothing-in-Mark.ensures (subst Q c.as_slice-in-Mark.ensures (c.mark_rects-marked.ensures.answer config list h)))

pub returns-in-ScheduleCopy-clause-answer : goal.returns-in-ScheduleCopy-clause-answer
returns-in-ScheduleCopy-clause-answer c = λ config list h.
    let P : Event → Type 0 = λ e. Tells {X = Answer} (λ a. a) c.with_nothing-in-ScheduleCopy.result (answer_to config list e) in
    let Q : List Rect → Type 0 = λ l. Tells nothing_told c.schedule_copy-scheduled.result (answer_to config list (ScheduleCopy l c.in-ScheduleCopy.dx c.in-ScheduleCopy.dy)) in
    subst P (sym c.in-ScheduleCopy.is) (tells-answer nothing_told c.schedule_copy-scheduled.result c.with_nothing-in-ScheduleCopy.result (answer_to config list (ScheduleCopy c.in-ScheduleCopy.rects c.in-ScheduleCopy.dx c.in-ScheduleCopy.dy)) c.with_nothing-in-ScheduleCopy.ensures (subst Q c.as_slice-in-ScheduleCopy.ensures (c.schedule_copy-scheduled.ensures.answer config list h)))

pub returns-in-DoCopy-clause-answer : goal.returns-in-DoCopy-clause-answer
returns-in-DoCopy-clause-answer c = λ config list h.
    let P : Event → Type 0 = λ e. Tells {X = Answer} (λ a. a) c.with_nothing-in-DoCopy.result (answer_to config list e) in
    let Q : List Rect → Type 0 = λ l. Tells nothing_told c.do_copy-copied.result (answer_to config list (DoCopy l c.in-DoCopy.dx c.in-DoCopy.dy)) in
    subst P (sym c.in-DoCopy.is) (tells-answer nothing_told c.do_copy-copied.result c.with_nothing-in-DoCopy.result (answer_to config list (DoCopy c.in-DoCopy.rects c.in-DoCopy.dx c.in-DoCopy.dy)) c.with_nothing-in-DoCopy.ensures (subst Q c.as_slice-in-DoCopy.ensures (c.do_copy-copied.ensures.answer config list h)))

pub returns-in-Bell-clause-answer : goal.returns-in-Bell-clause-answer
returns-in-Bell-clause-answer c = λ config list h.
    let P : Event → Type 0 = λ e. Tells {X = Answer} (λ a. a) c.with_nothing-in-Bell.result (answer_to config list e) in
    subst P (sym c.in-Bell.is) (tells-answer nothing_told c.bell-rung.result c.with_nothing-in-Bell.result (answer_to config list (Bell)) c.with_nothing-in-Bell.ensures (c.bell-rung.ensures.answer config list h))

pub returns-in-CutText-clause-answer : goal.returns-in-CutText-clause-answer
returns-in-CutText-clause-answer c = λ config list h.
    let P : Event → Type 0 = λ e. Tells {X = Answer} (λ a. a) c.with_nothing-in-CutText.result (answer_to config list e) in
    let Q : List ℕ → Type 0 = λ l. Tells nothing_told c.cut_text-told.result (answer_to config list (CutText l)) in
    subst P (sym c.in-CutText.is) (tells-answer nothing_told c.cut_text-told.result c.with_nothing-in-CutText.result (answer_to config list (CutText c.in-CutText.text)) c.with_nothing-in-CutText.ensures (subst Q c.as_slice-in-CutText.ensures (c.cut_text-told.ensures.answer config list h)))

pub returns-in-Connect-clause-answer : goal.returns-in-Connect-clause-answer
returns-in-Connect-clause-answer c = λ config list h.
    let P : Event → Type 0 = λ e. Tells {X = Answer} (λ a. a) c.with_bytes.result (answer_to config list e) in
    subst P (sym c.in-Connect.is) (tells-answer gives c.connect-version.result c.with_bytes.result _ c.with_bytes.ensures (c.connect-version.ensures.answer config list h))

pub returns-in-Cut-clause-answer : goal.returns-in-Cut-clause-answer
returns-in-Cut-clause-answer c = λ config list h.
    let P : Event → Type 0 = λ e. Tells {X = Answer} (λ a. a) c.with_bytes-in-Cut.result (answer_to config list e) in
    subst P (sym c.in-Cut.is) (tells-answer gives c.cut_bytes-bytes.result c.with_bytes-in-Cut.result _ c.with_bytes-in-Cut.ensures (c.cut_bytes-bytes.ensures.answer config list h))

pub returns-in-Write-clause-refused : goal.returns-in-Write-clause-refused
returns-in-Write-clause-refused c =
    let P : Event → Type 0 = λ e. Refuses c.with_nothing.result (refusal c.args.self.now e) in
    let Q : List ℕ → Type 0 = λ l. Refuses c.write_pixels-written.result (refusal c.args.self.now (Write c.in-Write.rect l)) in
    subst P (sym c.in-Write.is) (refuses-as c.write_pixels-written.result c.with_nothing.result nothing_told _ c.with_nothing.ensures (subst Q c.as_slice.ensures c.write_pixels-written.ensures.refused))

pub returns-in-Paint-clause-refused : goal.returns-in-Paint-clause-refused
returns-in-Paint-clause-refused c =
    let P : Event → Type 0 = λ e. Refuses c.with_nothing-in-Paint.result (refusal c.args.self.now e) in
    let Q : List ℕ → Type 0 = λ l. Refuses c.paint-painted.result (refusal c.args.self.now (Paint c.in-Paint.rect l)) in
    subst P (sym c.in-Paint.is) (refuses-as c.paint-painted.result c.with_nothing-in-Paint.result nothing_told _ c.with_nothing-in-Paint.ensures (subst Q c.as_slice-in-Paint.ensures c.paint-painted.ensures.refused))

pub returns-in-Connect-clause-refused : goal.returns-in-Connect-clause-refused
returns-in-Connect-clause-refused c =
    let P : Event → Type 0 = λ e. Refuses c.with_bytes.result (refusal c.args.self.now e) in
    subst P (sym c.in-Connect.is) (refuses-as c.connect-version.result c.with_bytes.result gives _ c.with_bytes.ensures c.connect-version.ensures.refused)

pub returns-in-Cut-clause-refused : goal.returns-in-Cut-clause-refused
returns-in-Cut-clause-refused c =
    let P : Event → Type 0 = λ e. Refuses c.with_bytes-in-Cut.result (refusal c.args.self.now e) in
    subst P (sym c.in-Cut.is) (refuses-as c.cut_bytes-bytes.result c.with_bytes-in-Cut.result gives _ c.with_bytes-in-Cut.ensures c.cut_bytes-bytes.ensures.refused)

pub returns-in-Close-clause-refused : goal.returns-in-Close-clause-refused
returns-in-Close-clause-refused c =
    let P : Event → Type 0 = λ e. Refuses c.with_nothing-in-Close.result (refusal c.args.self.now e) in
    subst P (sym c.in-Close.is) (refuses-as c.close-closed.result c.with_nothing-in-Close.result nothing_told _ c.with_nothing-in-Close.ensures (refuses-surely c.close-closed.result _ c.close-closed.ensures.refused))
