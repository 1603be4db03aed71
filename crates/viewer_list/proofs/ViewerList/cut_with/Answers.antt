use Rattle.std.proofs.Common.{◌≡◌, ◌∙◌, ℕ, sym, ap, subst, Some, None, List, OnOk, OnErr, IfOk}
use Rattle.std.specs.Prelude.{option_map}
use Rattle.std.proofs.lemmas.Option.{same_Some}
use Rattle.std.proofs.lemmas.Result.{on_ok_weaker, on_err_weaker, IfOk-weaker}
use Rattle.client_list.specs.Connected.{index_of_number}
use Rattle.copy_schedule.specs.declared.LogEntry.{LogEntry}
use Rattle.viewer.specs.Sending.{sending_kept}
use Rattle.viewer.specs.Given.{bytes_given}
use Rattle.viewer.specs.Viewer.{KeptViewer}
use Rattle.viewer_list.specs.Lagging.{caught_up, Fits}
use Rattle.viewer_list.proofs.ListLemmas.{viewer-some, viewer-absent, viewer-set, viewer-same, all-numbered, all-set}
use Rattle.viewer_list.proofs.ViewerList.cut_with.Goals as goal

pub unreachable-requires : goal.unreachable-requires
unreachable-requires g c = c.requires.there (viewer-absent c.args.self.now c.self.inside.log.items c.self.inside.viewers.pairs _ c.args.number c.self.view_is c.in_default.ensures.value)

pub cut_with-requires-clause-fits : goal.cut_with-requires-clause-fits
cut_with-requires-clause-fits g c = subst (λ (es : List LogEntry). Fits es c.in-Some.lagging.now) (sym c.deref.ensures.value) (all-numbered (Fits c.self.inside.log.items) c.self.inside.viewers.pairs c.args.number c.in-Some.lagging.now c.self.invariant.each c.in-Some.ensures.value)

pub cut_with-requires-clause-width : goal.cut_with-requires-clause-width
cut_with-requires-clause-width g c = subst (λ (es : List LogEntry). (caught_up es c.in-Some.lagging.now).marks.width ≡ c.args.picture.now.width) (sym c.deref.ensures.value) (c.requires.width (caught_up c.self.inside.log.items c.in-Some.lagging.now) (viewer-some c.args.self.now c.self.inside.log.items c.self.inside.viewers.pairs _ c.args.number c.in-Some.lagging.now c.self.view_is c.in-Some.ensures.value))

pub cut_with-requires-clause-height : goal.cut_with-requires-clause-height
cut_with-requires-clause-height g c = subst (λ (es : List LogEntry). (caught_up es c.in-Some.lagging.now).marks.height ≡ c.args.picture.now.height) (sym c.deref.ensures.value) (c.requires.height (caught_up c.self.inside.log.items c.in-Some.lagging.now) (viewer-some c.args.self.now c.self.inside.log.items c.self.inside.viewers.pairs _ c.args.number c.in-Some.lagging.now c.self.view_is c.in-Some.ensures.value))

pub invariant_of-self : goal.invariant_of-self
invariant_of-self g c = record {
  short = c.self.invariant.short;
  each = all-set (Fits c.self.inside.log.items) c.self.inside.viewers.pairs (index_of_number c.self.inside.viewers c.args.number) c.cut_with.new.self c.self.invariant.each (subst (λ (es : List LogEntry). Fits es c.cut_with.new.self) c.deref.ensures.value c.cut_with.ensures.fits);
}

pub returns-clause-bytes : goal.returns-clause-bytes
returns-clause-bytes g c = λ v is.
    let log = c.self.inside.log.items in
    let same : caught_up log c.in-Some.lagging.now ≡ v = same_Some (caught_up log c.in-Some.lagging.now) v (sym (viewer-some c.args.self.now c.self.inside.log.items c.self.inside.viewers.pairs _ c.args.number c.in-Some.lagging.now c.self.view_is c.in-Some.ensures.value) ∙ is) in
    let P : KeptViewer → Type 0 = λ w. IfOk c.cut_with.result (λ cut. bytes_given (option_map (λ x. x.0) cut) ≡ (sending_kept c.args.picture.now.width c.args.picture.now.height c.args.limit c.args.picture.now.colours w).0) in
    subst P same (subst (λ (es : List LogEntry). P (caught_up es c.in-Some.lagging.now)) c.deref.ensures.value c.cut_with.ensures.bytes)

pub returns-clause-viewer : goal.returns-clause-viewer
returns-clause-viewer g c = λ v is.
    let log = c.self.inside.log.items in
    let same : caught_up log c.in-Some.lagging.now ≡ v = same_Some (caught_up log c.in-Some.lagging.now) v (sym (viewer-some c.args.self.now c.self.inside.log.items c.self.inside.viewers.pairs _ c.args.number c.in-Some.lagging.now c.self.view_is c.in-Some.ensures.value) ∙ is) in
    let P : List LogEntry → KeptViewer → Type 0 = λ es w. OnOk c.cut_with.result (caught_up es c.cut_with.new.self ≡ (sending_kept c.args.picture.now.width c.args.picture.now.height c.args.limit c.args.picture.now.colours w).1) in
    on_ok_weaker c.cut_with.result (λ becomes. viewer-set c.args.self.now c.self.inside.log.items c.self.inside.viewers.pairs _ c.args.number c.cut_with.new.self _ c.self.view_is becomes)
    (subst (P log) same (subst (λ (es : List LogEntry). P es (caught_up es c.in-Some.lagging.now)) c.deref.ensures.value c.cut_with.ensures.viewer))

pub returns-clause-none : goal.returns-clause-none
returns-clause-none g c =
    let log = c.self.inside.log.items in
    let Q : List LogEntry → Type 0 = λ es. IfOk c.cut_with.result (λ cut. cut ≡ None → caught_up es c.cut_with.new.self ≡ caught_up es c.in-Some.lagging.now) in
    IfOk-weaker c.cut_with.result _ _ (λ cut same none. viewer-same c.args.self.now c.self.inside.log.items c.self.inside.viewers.pairs _ c.args.number c.in-Some.lagging.now c.cut_with.new.self c.self.view_is c.in-Some.ensures.value (same none))
    (subst Q c.deref.ensures.value c.cut_with.ensures.none)

pub returns-clause-err : goal.returns-clause-err
returns-clause-err g c =
    let log = c.self.inside.log.items in
    let Q : List LogEntry → Type 0 = λ es. OnErr c.cut_with.result (caught_up es c.cut_with.new.self ≡ caught_up es c.in-Some.lagging.now) in
    on_err_weaker c.cut_with.result (λ same. viewer-same c.args.self.now c.self.inside.log.items c.self.inside.viewers.pairs _ c.args.number c.in-Some.lagging.now c.cut_with.new.self c.self.view_is c.in-Some.ensures.value same)
    (subst Q c.deref.ensures.value c.cut_with.ensures.err)
