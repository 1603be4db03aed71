use Rattle.std.proofs.Common.{rules, ap, ◌∙◌, ℕ, List, arith}
use Rattle.c_screen.proofs.Pieces.{some_left}
use Rattle.c_screen.proofs.output.Output.is_ended.Goals as goal

pub returns-then-self-len : goal.returns-then-self-len
returns-then-self-len c = ((λ no. absurd (search rules)), λ none. absurd (some_left c.self.inside.made.items _ c.self.inside.done (grind (arith, c.if-self-len.true, c.len.ensures)) (ap (λ (o : ℕ × List ℕ). o.1) c.self.view_is ∙ none)))
