use Rattle.std.proofs.Common.{◌≡◌, ◌++◌, ◌∷◌, [], ap, ◌∙◌}
use Rattle.std.specs.Option.{option_to_list}
use Rattle.key_set.proofs.Among.{flagged_popped}
use Rattle.key_set.proofs.take_all.Goals as goal

pub loop-key-preserved : goal.loop-key-preserved
loop-key-preserved c =
    let is : c.loop-key.keys.items ≡ c.pop.new.self.items ++ c.in-Some.key ∷ [] = c.pop.ensures.items ∙ ap (λ o. c.pop.new.self.items ++ option_to_list o) c.in-Some.is in
    flagged_popped c.loop-key.flags.items c.lower.new.flags.items c.in-Some.key c.loop-key.keys.items c.pop.new.self.items is c.loop-key.invariant c.lower.ensures.lowered c.lower.ensures.others
