use Rattle.std.proofs.Common.{rules, ap, ◌∙◌, ◌∷◌, arith}
use Rattle.c_screen.specs.Inputs.{told_as, in_order}
use Rattle.c_screen.proofs.Fetching.{start, one_more, is_no_text, at_text}
use Rattle.c_screen.proofs.inputs.Inputs.fetch.Goals as goal

pub loop-count-init : goal.loop-count-init
loop-count-init c = record { so = start _ _ _; size = search rules; text = search rules }

pub returns-in-Text : goal.returns-in-Text
returns-in-Text c =
    at_text _ _ _ _ _ _ _ c.in-Some.viewer c.in-Text.bytes c.in-Text.shortened _ (omega (c.loop-count-test.true, c.loop-count.invariant.size, arith))
    (c.in-Some.ensures ∙ ap (λ i. (c.in-Some.viewer, i) ∷ in_order c.pop.new.self.next c.pop.new.self.later.items) c.in-Text.is) (c.told_as.ensures ∙ ap (told_as c.in-Some.viewer) c.in-Text.is) c.loop-count.invariant.so

pub loop-count-preserved : goal.loop-count-preserved
loop-count-preserved c = record {
  so = one_more _ _ _ _ _ _ _ (c.in-Some.viewer, c.in-Some.input) _ (is_no_text c.in-Some.viewer c.in-Some.input c.in_default-input.not-Text) (omega (c.loop-count-test.true, c.loop-count.invariant.size, arith)) (c.in-Some.ensures) c.told_as.ensures c.loop-count.invariant.so;
  size = search rules;
  text = c.loop-count.invariant.text;
}
