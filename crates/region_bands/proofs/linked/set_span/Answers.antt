use Rattle.std.proofs.Common.{ℕ, sym, subst, Some}
use Rattle.span_arena.specs.Arena.{SetsSpan}
use Rattle.region_bands.proofs.HasLemmas.{changed, changed_keeps}
use Rattle.region_bands.proofs.linked.set_span.Goals as goal

pub returns-clause-set : goal.returns-clause-set
returns-clause-set c = λ list front p back has same.
    changed c.args.spans.now c.set.new.self list c.lists_are_sound.ensures front p back has c.args.span c.set.ensures.lists
    (subst (λ (k : ℕ). SetsSpan c.args.spans.now c.set.new.self k (Some c.args.span)) (sym same) c.set.ensures.spans)

pub returns-clause-others : goal.returns-clause-others
returns-clause-others c = λ list front p back has same.
    changed_keeps c.args.spans.now c.set.new.self list c.lists_are_sound.ensures front p back has (Some c.args.span) (λ other differs. c.set.ensures.lists other)
    (subst (λ (k : ℕ). SetsSpan c.args.spans.now c.set.new.self k (Some c.args.span)) (sym same) c.set.ensures.spans)
