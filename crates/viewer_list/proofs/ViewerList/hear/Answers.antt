use Rattle.std.proofs.Common.{◌≡◌, ◌≢◌, ◌∙◌, ◌++◌, ℕ, sym, ap, subst, Some, List, All, Result, Ok, Err, OnOk, OnErr, IfOk}
use Rattle.std.proofs.lemmas.Option.{same_Some}
use Rattle.std.proofs.lemmas.Result.{on_ok_weaker, on_err_weaker}
use Rattle.std.specs.declared.alloc.AllocError.{AllocError}
use Rattle.client_list.specs.Connected.{index_of_number}
use Rattle.copy_schedule.specs.declared.LogEntry.{LogEntry}
use Rattle.messages.specs.Reading.{rest, new_items}
use Rattle.viewer.specs.declared.Reply.{Reply}
use Rattle.viewer.specs.Hearing.{after_items, heard_reply}
use Rattle.viewer.specs.Viewer.{KeptViewer}
use Rattle.viewer_list.specs.Lagging.{caught_up, Fits}
use Rattle.viewer_list.proofs.ListLemmas.{viewer-some, viewer-absent, viewer-set, viewer-same, size-set, all-numbered, all-set}
use Rattle.viewer_list.specs.Viewers.{IsOfSize}
use Rattle.viewer_list.specs.SizeLemmas.{heard_size}
use Rattle.viewer_list.proofs.ViewerList.hear.Goals as goal

size-kept : (r : Result Reply AllocError) (w h : ℕ) (piece : List ℕ) (v now : KeptViewer)
    → ((before : List ℕ) → v.heard ≡ rest before → OnOk r (now ≡ after_items v.marks.width v.marks.height (new_items before piece) (record v { heard = rest (before ++ piece) })))
    → OnErr r (now ≡ v) → IsOfSize w h v → IsOfSize w h now
size-kept (Ok reply) w h piece v now becomes same size = heard_size w h piece v now becomes size
size-kept (Err e) w h piece v now becomes same size = subst (IsOfSize w h) (sym same) size

pub unreachable-requires : goal.unreachable-requires
unreachable-requires c = c.requires.there (viewer-absent c.args.self.now c.self.inside.log.items c.self.inside.viewers.pairs _ c.args.number c.self.view_is c.in_default.ensures.value)

pub hear-requires-clause-fits : goal.hear-requires-clause-fits
hear-requires-clause-fits c = subst (λ (es : List LogEntry). Fits es c.in-Some.lagging.now) (sym c.deref.ensures.value) (all-numbered (Fits c.self.inside.log.items) c.self.inside.viewers.pairs c.args.number c.in-Some.lagging.now c.self.invariant.each c.in-Some.ensures.value)

pub invariant_of-self : goal.invariant_of-self
invariant_of-self c = record {
  short = c.self.invariant.short;
  each = all-set (Fits c.self.inside.log.items) c.self.inside.viewers.pairs (index_of_number c.self.inside.viewers c.args.number) c.hear.new.self c.self.invariant.each (subst (λ (es : List LogEntry). Fits es c.hear.new.self) c.deref.ensures.value c.hear.ensures.fits);
}

pub returns-clause-reply : goal.returns-clause-reply
returns-clause-reply c = λ v before is heard.
    let log = c.self.inside.log.items in
    let same : caught_up log c.in-Some.lagging.now ≡ v = same_Some (caught_up log c.in-Some.lagging.now) v (sym (viewer-some c.args.self.now c.self.inside.log.items c.self.inside.viewers.pairs _ c.args.number c.in-Some.lagging.now c.self.view_is c.in-Some.ensures.value) ∙ is) in
    let P : KeptViewer → Type 0 = λ w. w.heard ≡ rest before → IfOk c.hear.result (λ reply. reply ≡ heard_reply w.marks.width w.marks.height c.args.name.now before c.args.piece.now) in
    subst P same (subst (λ (es : List LogEntry). P (caught_up es c.in-Some.lagging.now)) c.deref.ensures.value (c.hear.ensures.reply before)) heard

pub returns-clause-viewer : goal.returns-clause-viewer
returns-clause-viewer c = λ v before is heard.
    let log = c.self.inside.log.items in
    let same : caught_up log c.in-Some.lagging.now ≡ v = same_Some (caught_up log c.in-Some.lagging.now) v (sym (viewer-some c.args.self.now c.self.inside.log.items c.self.inside.viewers.pairs _ c.args.number c.in-Some.lagging.now c.self.view_is c.in-Some.ensures.value) ∙ is) in
    let P : List LogEntry → KeptViewer → Type 0 = λ es w. w.heard ≡ rest before → OnOk c.hear.result (caught_up es c.hear.new.self ≡ after_items w.marks.width w.marks.height (new_items before c.args.piece.now) (record w { heard = rest (before ++ c.args.piece.now) })) in
    on_ok_weaker c.hear.result (λ becomes. viewer-set c.args.self.now c.self.inside.log.items c.self.inside.viewers.pairs _ c.args.number c.hear.new.self _ c.self.view_is becomes)
    (subst (P log) same (subst (λ (es : List LogEntry). P es (caught_up es c.in-Some.lagging.now)) c.deref.ensures.value (c.hear.ensures.viewer before)) heard)

pub returns-clause-size : goal.returns-clause-size
returns-clause-size c = λ w h sized.
    let log = c.self.inside.log.items in
    let es = c.deref.result.now in
    let P : List LogEntry → Type 0 = λ es. IsOfSize w h (caught_up es c.in-Some.lagging.now) → IsOfSize w h (caught_up es c.hear.new.self) in
    let keeps : P log = subst P c.deref.ensures.value (size-kept c.hear.result w h c.args.piece.now (caught_up es c.in-Some.lagging.now) (caught_up es c.hear.new.self) c.hear.ensures.viewer c.hear.ensures.err) in
    size-set c.args.self.now c.self.inside.log.items c.self.inside.viewers.pairs _ c.args.number c.in-Some.lagging.now c.hear.new.self c.self.view_is c.in-Some.ensures.value w h keeps sized

pub returns-clause-err : goal.returns-clause-err
returns-clause-err c =
    let log = c.self.inside.log.items in
    let Q : List LogEntry → Type 0 = λ es. OnErr c.hear.result (caught_up es c.hear.new.self ≡ caught_up es c.in-Some.lagging.now) in
    on_err_weaker c.hear.result (λ same. viewer-same c.args.self.now c.self.inside.log.items c.self.inside.viewers.pairs _ c.args.number c.in-Some.lagging.now c.hear.new.self c.self.view_is c.in-Some.ensures.value same)
    (subst Q c.deref.ensures.value c.hear.ensures.err)
