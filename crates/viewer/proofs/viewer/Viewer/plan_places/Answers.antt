use Rattle.std.proofs.Common.{◌≡◌, ℕ, Bool, true, false, cond, ◌++◌, refl, sym, ◌∙◌, ap, subst, Option, Some, None, []}
use Rattle.std.specs.Prelude.{option_map, IfSome}
use Rattle.copy_schedule.specs.declared.Cut.{Cut}
use Rattle.copy_schedule.specs.declared.marks.PreparedCut.{PreparedCut}
use Rattle.copy_schedule.specs.Marks.{Marks, Sent, pending, copies_of, pixels_of, after_sending, cut_of, cut_of_sent, marks_after}
use Rattle.updates.specs.Bytes.{bytes_of}
use Rattle.viewer.specs.Sending.{front_bytes, with_update}
use Rattle.viewer.specs.ViewerStates.{viewer_in}
use Rattle.viewer.specs.Viewer.{KeptViewer}
use Rattle.viewer.proofs.viewer.Viewer.plan_places.Goals as goal

-- what was cut is what the marks send, and the marks after it
record IsSent (limit : ℕ) (marks : Marks) (cut : Cut) (after : Marks) : Type 0 where
  sent : Sent
  is : cut_of limit marks ≡ Some sent
  cut_is : cut_of_sent sent ≡ cut
  after_is : sent.after ≡ after
  width : after.width ≡ marks.width
  height : after.height ≡ marks.height

is_sent : (limit : ℕ) (marks : Marks) (cut : Cut) (after : Marks) → Some cut ≡ option_map cut_of_sent (cut_of limit marks) → after ≡ marks_after limit marks → IsSent limit marks cut after
is_sent limit marks cut after found becomes = go (pending marks) refl
  where
    all : Sent
    all = record { copies = copies_of limit marks; offset = marks.offset; pixels = pixels_of limit marks; after = after_sending (copies_of limit marks) (pixels_of limit marks) marks }

    go : (b : Bool) → pending marks ≡ b → IsSent limit marks cut after
    go false e = absurd (let no : Some cut ≡ None = found ∙ ap (λ t. option_map cut_of_sent (cond t (Some all) None)) e in cc)
    go true e =
        let is : cut_of limit marks ≡ Some all = ap (λ t. cond t (Some all) None) e in
        let same : after ≡ all.after = becomes ∙ ap (λ t. cond t all.after marks) e in
        let given : Some cut ≡ Some (cut_of_sent all) = found ∙ ap (option_map cut_of_sent) is in
        record { sent = all; is = is; cut_is = cc; after_is = sym same; width = ap (λ m. m.width) same; height = ap (λ m. m.height) same }

pub returns-clause-bytes : goal.returns-clause-bytes
returns-clause-bytes c =
    let v = viewer_in c.self.inside in
    let w = c.args.picture.now.width in
    let h = c.args.picture.now.height in
    let picture = c.args.picture.now.colours in
    let cut = is_sent c.args.limit c.self.inside.marks c.in-Some.field-0.cut c.in-Some.field-0.marks
    (ap (option_map (λ (q : PreparedCut). q.cut)) (sym c.in-Some.is) ∙ c.in_ok-cut.ensures.sent)
    (subst (λ (o : Option PreparedCut). IfSome o (λ q. q.marks ≡ marks_after c.args.limit c.self.inside.marks)) c.in-Some.is c.in_ok-cut.ensures.after) in
    rw (← c.self.view_is) (ap (λ l. front_bytes v ++ l) c.in_ok-part.ensures.bytes
    ∙ ap (λ (q : Cut). front_bytes v ++ bytes_of w h picture v.encoding v.format q.copies q.offset q.pixels) (sym cut.cut_is)
    ∙ ap (λ o. (with_update w h picture v o).0) (sym cut.is))

pub returns-clause-viewer : goal.returns-clause-viewer
returns-clause-viewer c =
    let v = viewer_in c.self.inside in
    let cut = is_sent c.args.limit c.self.inside.marks c.in-Some.field-0.cut c.in-Some.field-0.marks
    (ap (option_map (λ (q : PreparedCut). q.cut)) (sym c.in-Some.is) ∙ c.in_ok-cut.ensures.sent)
    (subst (λ (o : Option PreparedCut). IfSome o (λ q. q.marks ≡ marks_after c.args.limit c.self.inside.marks)) c.in-Some.is c.in_ok-cut.ensures.after) in
    rw (← c.self.view_is) (ap (λ m. let u : KeptViewer = record v { map_owed = false; notices = []; marks = m } in u) (c.into_marks.ensures ∙ sym cut.after_is)
    ∙ ap (λ o. (with_update c.args.picture.now.width c.args.picture.now.height c.args.picture.now.colours v o).1) (sym cut.is))

pub returns-clause-width : goal.returns-clause-width
returns-clause-width c =
    rw (← c.self.view_is) (ap (λ (m : Marks). m.width) c.into_marks.ensures
    ∙ (is_sent c.args.limit c.self.inside.marks c.in-Some.field-0.cut c.in-Some.field-0.marks
    (ap (option_map (λ (q : PreparedCut). q.cut)) (sym c.in-Some.is) ∙ c.in_ok-cut.ensures.sent)
    (subst (λ (o : Option PreparedCut). IfSome o (λ q. q.marks ≡ marks_after c.args.limit c.self.inside.marks)) c.in-Some.is c.in_ok-cut.ensures.after)).width)

pub returns-clause-height : goal.returns-clause-height
returns-clause-height c =
    rw (← c.self.view_is) (ap (λ (m : Marks). m.height) c.into_marks.ensures
    ∙ (is_sent c.args.limit c.self.inside.marks c.in-Some.field-0.cut c.in-Some.field-0.marks
    (ap (option_map (λ (q : PreparedCut). q.cut)) (sym c.in-Some.is) ∙ c.in_ok-cut.ensures.sent)
    (subst (λ (o : Option PreparedCut). IfSome o (λ q. q.marks ≡ marks_after c.args.limit c.self.inside.marks)) c.in-Some.is c.in_ok-cut.ensures.after)).height)
