use Rattle.std.proofs.Common.{◌≡◌, List, ◌++◌, sym, ap, ◌∙◌}
use Rattle.messages.specs.declared.Item.{Item}
use Rattle.messages.specs.Reading.{Rest, rest, new_items}
use Rattle.viewer.specs.Viewer.{KeptViewer}
use Rattle.std.specs.List.{filter_map}
use Rattle.viewer.specs.Hearing.{input_of, after_items}
use Rattle.viewer.specs.ViewerStates.{viewer_in}
use Rattle.viewer.specs.Told.{viewer_told, told_unless}
use Rattle.viewer.proofs.HearingLemmas.{items-size, logged-size, items-heard, told-heard, told-size, reply-so}
use Rattle.viewer.proofs.viewer.Viewer.hear_after.Goals as goal

pub returns-clause-viewer : goal.returns-clause-viewer
returns-clause-viewer c = λ before h.
    let was : KeptViewer = c.args.self.now in
    let told : KeptViewer = viewer_told c.args.log.now was in
    let items : List Item = c.deref-2.result.now in
    let heard : c.self.inside.ear ≡ rest before = ap (λ (v : KeptViewer). v.heard) c.self.view_is ∙ h in
    let heard_items : items ≡ new_items before c.args.piece.now = c.deref-2.ensures.value ∙ c.into_vec-items.ensures ∙ c.in_ok-heard.ensures.items before heard in
    let ear : c.self-2.inside.ear ≡ c.self.inside.ear = ap (λ (v : KeptViewer). v.heard) c.self-2.view_is ∙ c.take_items.ensures.heard ∙ sym (ap (λ (v : KeptViewer). v.heard) c.self.view_is) in
    let becomes : c.commit.new.self ≡ rest (before ++ c.args.piece.now) = rw ear at c.commit.ensures ∙ c.in_ok-heard.ensures.rest before heard in
    told-heard c.in_ok-knows_log.knows_log c.args.log.now (viewer_in c.self-2.inside) c.commit.new.self
    ∙ ap (λ (x : KeptViewer). record x { heard = c.commit.new.self }) (ap (λ (v : KeptViewer). told_unless c.in_ok-knows_log.knows_log c.args.log.now v) c.self-2.view_is ∙ c.in_ok-knows_log.ensures.ok)
    ∙ sym (items-heard was.marks.width was.marks.height items told c.commit.new.self)
    ∙ ap (λ (r : Rest). after_items was.marks.width was.marks.height items (record told { heard = r })) becomes
    ∙ ap (λ (is : List Item). after_items was.marks.width was.marks.height is (record told { heard = rest (before ++ c.args.piece.now) })) heard_items

pub returns-clause-width : goal.returns-clause-width
returns-clause-width c =
    let was : KeptViewer = c.args.self.now in
    ap (λ (v : KeptViewer). v.marks.width) c.self-2.view_is
    ∙ sym (told-size c.in_ok-knows_log.knows_log c.args.log.now c.take_items.new.self).0
    ∙ ap (λ (v : KeptViewer). v.marks.width) c.in_ok-knows_log.ensures.ok
    ∙ (items-size {B = Rest} was.marks.width was.marks.height c.deref-2.result.now (viewer_told c.args.log.now was)).0 ∙ (logged-size was.uses_copyrect c.args.log.now was.marks).0

pub returns-clause-height : goal.returns-clause-height
returns-clause-height c =
    let was : KeptViewer = c.args.self.now in
    ap (λ (v : KeptViewer). v.marks.height) c.self-2.view_is
    ∙ sym (told-size c.in_ok-knows_log.knows_log c.args.log.now c.take_items.new.self).1
    ∙ ap (λ (v : KeptViewer). v.marks.height) c.in_ok-knows_log.ensures.ok
    ∙ (items-size {B = Rest} was.marks.width was.marks.height c.deref-2.result.now (viewer_told c.args.log.now was)).1 ∙ (logged-size was.uses_copyrect c.args.log.now was.marks).1

pub returns-clause-reply : goal.returns-clause-reply
returns-clause-reply c = λ before h.
    let heard : c.self.inside.ear ≡ rest before = ap (λ (v : KeptViewer). v.heard) c.self.view_is ∙ h in
    let heard_items : c.deref.result.now ≡ new_items before c.args.piece.now = c.deref.ensures.value ∙ c.into_vec-items.ensures ∙ c.in_ok-heard.ensures.items before heard in
    rw (← c.self.view_is)
    (reply-so c.width.result c.height.result c.self.inside.marks.width c.self.inside.marks.height c.args.name.now before c.args.piece.now c.phase.result c.deref.result.now c.from_vec.result c.from_vec-2.result _ c.width.ensures.same c.height.ensures.same
    (c.phase.ensures ∙ ap (λ (r : Rest). r.phase) heard) heard_items (c.from_vec.ensures ∙ c.in_ok-bytes.ensures)
    (c.from_vec-2.ensures ∙ c.inputs_of.ensures ∙ ap (λ (is : List Item). filter_map input_of is) (sym c.deref.ensures.value)) (c.in_ok-heard.ensures.fault before heard))
