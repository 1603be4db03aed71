use Rattle.std.proofs.Common.{◌∙◌, [], ◌∷◌, ◌++◌, reverse, ap, arith}
use Rattle.std.specs.List.{filter_map}
use Rattle.viewer.specs.Hearing.{input_of}
use Rattle.viewer.proofs.HearingLemmas.{input-last, other-last}
use Rattle.viewer.proofs.hearing.inputs_of.Goals as goal

pub loop-item-preserved-in-Input : goal.loop-item-preserved-in-Input
loop-item-preserved-in-Input c = record {
  given = ap (λ l. filter_map input_of c.pop.new.self.items ++ reverse l) c.push_reserved.ensures.items
      ∙ input-last c.loop-item.items.items c.pop.new.self.items c.in-Input.input c.loop-item.inputs.items _ (c.in-Some.ensures.items ∙ ap (λ x. c.pop.new.self.items ++ x ∷ []) c.in-Input.is) c.loop-item.invariant.given;
  capacity = omega (arith, c.in-Some.ensures.cases, c.push_reserved.ensures.len, c.push_reserved.ensures.capacity, c.loop-item.invariant.capacity);
}

pub loop-item-preserved : goal.loop-item-preserved
loop-item-preserved c = record {
  given = other-last c.loop-item.items.items c.pop.new.self.items c.in-Some.item c.loop-item.inputs.items _ c.in-Some.ensures.items c.in_default-item.not-Input c.loop-item.invariant.given;
  capacity = omega (arith, c.in-Some.ensures.cases, c.loop-item.invariant.capacity);
}
