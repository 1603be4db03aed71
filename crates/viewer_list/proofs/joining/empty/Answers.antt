use Rattle.std.proofs.Common.{◌≡◌, ◌∙◌, ℕ, sym, ap, subst, List, All}
use Rattle.std.specs.Map.{values_of}
use Rattle.client_list.specs.Connected.{changed}
use Rattle.copy_schedule.specs.declared.LogEntry.{LogEntry}
use Rattle.viewer_list.specs.declared.lagging.Lagging.{Lagging}
use Rattle.viewer_list.specs.Lagging.{seen, brought_up, IsCurrent, Fits}
use Rattle.viewer_list.proofs.ListLemmas.{current-brought_up}
use Rattle.viewer_list.proofs.joining.empty.Goals as goal

pub catch_up_from-requires : goal.catch_up_from-requires
catch_up_from-requires c = subst (λ (es : List LogEntry). All (Fits es) (values_of c.args.viewers.now.pairs)) (sym c.deref.ensures.value) c.requires

pub returns-in_err-catch_up_from-clause-seen : goal.returns-in_err-catch_up_from-clause-seen
returns-in_err-catch_up_from-clause-seen c = subst (λ (es : List LogEntry). seen es c.catch_up_from.new.viewers.pairs ≡ seen es c.args.viewers.now.pairs) c.deref.ensures.value c.catch_up_from.ensures.same

pub returns-in_err-catch_up_from-clause-fits : goal.returns-in_err-catch_up_from-clause-fits
returns-in_err-catch_up_from-clause-fits c = subst (λ (es : List LogEntry). All (Fits es) (values_of c.catch_up_from.new.viewers.pairs)) c.deref.ensures.value c.catch_up_from.ensures.fits

pub start_anew-requires : goal.start_anew-requires
start_anew-requires c =
    subst (λ (ps : List (ℕ × Lagging)). All (IsCurrent c.args.log.now.items) (values_of ps))
    (sym (c.in_ok-catch_up_from.ensures.ok ∙ ap (λ (es : List LogEntry). changed (brought_up es 0) c.args.viewers.now.pairs) c.deref.ensures.value))
    (current-brought_up c.args.log.now.items c.args.viewers.now.pairs c.requires)

pub returns-clause-seen : goal.returns-clause-seen
returns-clause-seen c =
    c.start_anew.ensures.seen
    ∙ subst (λ (es : List LogEntry). seen es c.catch_up_from.new.viewers.pairs ≡ seen es c.args.viewers.now.pairs) c.deref.ensures.value c.catch_up_from.ensures.same
