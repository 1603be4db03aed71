use Rattle.std.proofs.Common.{rules, sym, ap, ◌∙◌, ◌∷◌, arith}
use Rattle.c_screen.specs.Inputs.{told_as}
use Rattle.c_server.proofs.Fits.{no-texts}
use Rattle.c_screen.proofs.Fetching.{start, one_more, is_no_text, at_text}
use Rattle.c_server.proofs.news.fetch_inputs.Goals as goal

pub loop-count-init : goal.loop-count-init
loop-count-init c = record { so = start _ _ _; size = search rules; text = search rules; texts = search rules }

pub returns-in-Text-clause-fetched : goal.returns-in-Text-clause-fetched
returns-in-Text-clause-fetched c =
    at_text _ _ _ _ _ _ _ c.into_parts-viewer.result.0 c.in-Text.bytes c.in-Text.shortened _ (omega (c.loop-count-test.true, c.loop-count.invariant.size, arith))
    (c.in-Some.ensures.items ∙ ap (λ i. i ∷ c.pop_front.new.self.items) (sym c.into_parts-viewer.ensures ∙ ap (λ i. (c.into_parts-viewer.result.0, i)) c.in-Text.is)) (c.told_as.ensures ∙ ap (told_as c.into_parts-viewer.result.0) c.in-Text.is) c.loop-count.invariant.so

pub loop-count-preserved : goal.loop-count-preserved
loop-count-preserved c = record {
  so = one_more _ _ _ _ _ _ _ c.into_parts-viewer.result _ (is_no_text c.into_parts-viewer.result.0 c.into_parts-viewer.result.1 c.in_default-input.not-Text) (omega (c.loop-count-test.true, c.loop-count.invariant.size, arith)) (c.in-Some.ensures.items ∙ ap (λ i. i ∷ c.pop_front.new.self.items) (sym c.into_parts-viewer.ensures)) c.told_as.ensures c.loop-count.invariant.so;
  size = search rules;
  text = c.loop-count.invariant.text;
  texts = no-texts _ _ c.into_parts-viewer.result c.pop_front.new.self.items (is_no_text c.into_parts-viewer.result.0 c.into_parts-viewer.result.1 c.in_default-input.not-Text) (c.in-Some.ensures.items ∙ ap (λ i. i ∷ c.pop_front.new.self.items) (sym c.into_parts-viewer.ensures)) c.loop-count.invariant.texts;
}
