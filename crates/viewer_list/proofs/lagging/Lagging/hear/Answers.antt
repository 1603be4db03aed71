use Rattle.std.proofs.Common.{◌≡◌, ◌∙◌, ◌++◌, ℕ, sym, ap, subst, List, refl}
use Rattle.copy_schedule.specs.declared.LogEntry.{LogEntry}
use Rattle.messages.specs.Reading.{rest, new_items}
use Rattle.viewer.specs.Hearing.{after_items, heard_reply}
use Rattle.viewer.specs.Told.{viewer_told, told_unless}
use Rattle.viewer.specs.Viewer.{KeptViewer}
use Rattle.viewer_list.specs.declared.lagging.Lagging.{Lagging}
use Rattle.viewer_list.specs.Lagging.{waiting, caught_up, Fits}
use Rattle.viewer_list.proofs.LagLemmas.{logged-alike, heard-seen, heard-fits}
use Rattle.viewer_list.proofs.lagging.Lagging.hear.Goals as goal

size-seen : (log : List LogEntry) (l : Lagging) → ((caught_up log l).marks.width ≡ l.viewer.marks.width) × ((caught_up log l).marks.height ≡ l.viewer.marks.height)
size-seen log l = let alike = logged-alike l.viewer.uses_copyrect (waiting log l) l.viewer.marks in (alike.width, alike.height)

pub returns-clause-reply : goal.returns-clause-reply
returns-clause-reply c = λ before h.
    let name = c.args.name.now in
    let piece = c.args.piece.now in
    let size = size-seen c.args.log.now c.args.self.now in
    c.in_ok-heard.ensures.reply before h
    ∙ ap (λ (w : ℕ). heard_reply w c.args.self.now.viewer.marks.height name before piece) (sym size.0)
    ∙ ap (λ (n : ℕ). heard_reply (caught_up c.args.log.now c.args.self.now).marks.width n name before piece) (sym size.1)

pub returns-clause-viewer : goal.returns-clause-viewer
returns-clause-viewer c = λ before h.
    let l : Lagging = c.args.self.now in
    let size = size-seen c.args.log.now l in
    let told : KeptViewer = record (viewer_told (waiting c.args.log.now l) l.viewer) { heard = rest (before ++ c.args.piece.now) } in
    ap (caught_up c.args.log.now) c.move_where_known.ensures
    ∙ heard-seen c.in_ok-heard.heard.knows_log c.args.log.now l (record l { viewer = c.hear_after.new.self }) refl
    ∙ ap (λ (es : List LogEntry). told_unless c.in_ok-heard.heard.knows_log es c.hear_after.new.self) (sym c.lacked-lacked.ensures)
    ∙ c.in_ok-heard.ensures.viewer before h
    ∙ ap (λ (es : List LogEntry). after_items l.viewer.marks.width l.viewer.marks.height (new_items before c.args.piece.now) (record (viewer_told es l.viewer) { heard = rest (before ++ c.args.piece.now) })) c.lacked-lacked.ensures
    ∙ ap (λ (w : ℕ). after_items w l.viewer.marks.height (new_items before c.args.piece.now) told) (sym size.0)
    ∙ ap (λ (n : ℕ). after_items (caught_up c.args.log.now l).marks.width n (new_items before c.args.piece.now) told) (sym size.1)

pub returns-clause-width : goal.returns-clause-width
returns-clause-width c =
    (size-seen c.args.log.now c.move_where_known.new.self).0 ∙ ap (λ (l : Lagging). l.viewer.marks.width) c.move_where_known.ensures ∙ c.hear_after.ensures.width ∙ sym (size-seen c.args.log.now c.args.self.now).0

pub returns-clause-height : goal.returns-clause-height
returns-clause-height c =
    (size-seen c.args.log.now c.move_where_known.new.self).1 ∙ ap (λ (l : Lagging). l.viewer.marks.height) c.move_where_known.ensures ∙ c.hear_after.ensures.height ∙ sym (size-seen c.args.log.now c.args.self.now).1

pub returns-clause-fits : goal.returns-clause-fits
returns-clause-fits c =
    subst (Fits c.args.log.now) (sym c.move_where_known.ensures)
    (heard-fits c.in_ok-heard.heard.knows_log c.args.log.now c.args.self.now (record c.args.self.now { viewer = c.hear_after.new.self }) refl c.hear_after.ensures.width c.hear_after.ensures.height c.requires.fits)
