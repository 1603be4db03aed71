use Rattle.std.proofs.Common.{◌∙◌, ◌++◌, ◌∷◌, [], ap, arith, Option}
use Rattle.std.specs.Option.{option_to_list}
use Rattle.copy_schedule.specs.declared.LogEntry.{LogEntry}
use Rattle.viewer_list.proofs.LagLemmas.{joined_is}
use Rattle.viewer_list.proofs.joining.joined_region.Goals as goal

pub returns-in-Some-Mark : goal.returns-in-Some-Mark
returns-in-Some-Mark c =
    joined_is c.args.entries.now c.in_ok-joined.joined.items c.pop.new.self.items c.in-Some-Mark.region (c.are_marks.ensures c.if-not-are_marks.false) c.in_ok-joined.ensures.same
    (c.pop.ensures.items ∙ ap (λ (r : Option LogEntry). c.pop.new.self.items ++ option_to_list r) c.in-Some-Mark.is ∙ ap (λ (e : LogEntry). c.pop.new.self.items ++ e ∷ []) c.in-Some-Mark.field-0-is)
    (omega (arith, c.in_ok-joined.joined.ok.0))
