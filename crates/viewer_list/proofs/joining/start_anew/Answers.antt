use Rattle.std.proofs.Common.{◌∙◌, [], ℕ, sym, ap, subst, List, All}
use Rattle.std.specs.Map.{values_of}
use Rattle.copy_schedule.specs.declared.LogEntry.{LogEntry}
use Rattle.viewer_list.specs.declared.lagging.Lagging.{Lagging}
use Rattle.viewer_list.specs.Lagging.{seen, Fits}
use Rattle.viewer_list.proofs.ListLemmas.{seen-started, fit-started}
use Rattle.viewer_list.proofs.joining.start_anew.Goals as goal

pub returns-clause-seen : goal.returns-clause-seen
returns-clause-seen c =
    ap (λ (es : List LogEntry). seen es c.move_all_within.new.viewers.pairs) c.clear.ensures.items
    ∙ ap (seen []) c.move_all_within.ensures
    ∙ seen-started c.args.log.now.items c.args.viewers.now.pairs c.requires

pub returns-clause-fits : goal.returns-clause-fits
returns-clause-fits c =
    subst (λ (es : List LogEntry). All (Fits es) (values_of c.move_all_within.new.viewers.pairs)) (sym c.clear.ensures.items)
    (subst (λ (ps : List (ℕ × Lagging)). All (Fits []) (values_of ps)) (sym c.move_all_within.ensures) (fit-started c.args.log.now.items c.args.viewers.now.pairs c.requires))
