use Rattle.std.proofs.Common.{◌∙◌, sym, ap, subst, List, All, arith}
use Rattle.std.specs.Map.{values_of}
use Rattle.copy_schedule.specs.declared.LogEntry.{LogEntry}
use Rattle.viewer_list.specs.Lagging.{IsCurrent, IsBounded}
use Rattle.viewer_list.specs.Viewers.{Viewers}
use Rattle.viewer_list.proofs.ViewerList.tidy.Goals as goal

pub start_anew-requires : goal.start_anew-requires
start_anew-requires c = subst (λ (es : List LogEntry). All (IsCurrent es) (values_of c.self.inside.viewers.pairs)) c.deref.ensures.value (c.some_lags.ensures c.if-not-some_lags.true)

pub invariant_of-self : goal.invariant_of-self
invariant_of-self c = record {
  short = subst (λ (es : List LogEntry). IsBounded es 0) (sym c.start_anew.ensures.log) (record { within = omega arith; few = omega arith; others = omega arith });
  each = c.start_anew.ensures.fits;
}

pub returns-then-not-some_lags : goal.returns-then-not-some_lags
returns-then-not-some_lags c = c.start_anew.ensures.seen ∙ ap (λ (s : Viewers). s.pairs) c.self.view_is
