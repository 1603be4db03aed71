use Rattle.std.proofs.Common.{◌∙◌, sym, ap, subst, Some, Bool, List}
use Rattle.std.specs.Option.{option_map}
use Rattle.copy_schedule.specs.declared.LogEntry.{LogEntry}
use Rattle.viewer_list.specs.Viewers.{is_pending}
use Rattle.viewer_list.proofs.ListLemmas.{viewer-some, viewer-absent, all-numbered}
use Rattle.viewer_list.specs.Lagging.{caught_up, Fits}
use Rattle.viewer_list.proofs.ViewerList.is_pending.Goals as goal

pub is_pending-requires : goal.is_pending-requires
is_pending-requires c = subst (λ (es : List LogEntry). Fits es c.in-Some.lagging.now) (sym c.deref.ensures.value) (all-numbered (Fits c.self.inside.log.items) c.self.inside.viewers.pairs c.args.number c.in-Some.lagging.now c.self.invariant.each c.in-Some.ensures)

pub returns-in-Some : goal.returns-in-Some
returns-in-Some c =
    ap (λ (b : Bool). Some b) (c.is_pending.ensures ∙ ap (λ (es : List LogEntry). is_pending (caught_up es c.in-Some.lagging.now)) c.deref.ensures.value)
    ∙ sym (ap (option_map is_pending) (viewer-some c.args.self.now c.self.inside.log.items c.self.inside.viewers.pairs _ c.args.number c.in-Some.lagging.now c.self.view_is c.in-Some.ensures))

pub returns-in-None : goal.returns-in-None
returns-in-None c = sym (ap (option_map is_pending) (viewer-absent c.args.self.now c.self.inside.log.items c.self.inside.viewers.pairs _ c.args.number c.self.view_is c.in-None.ensures))
