use Rattle.std.proofs.Common.{rules, ◌≡◌, ◌++◌, ◌∷◌, [], ap, sym, ◌∙◌}
use Rattle.std.specs.Prelude.{option_map}
use Rattle.std.specs.Option.{option_map_or}
use Rattle.play_script.specs.Words.{words_of}
use Rattle.replay.specs.Lines.{corners}
use Rattle.replay.proofs.Corners.{corners_more}
use Rattle.replay.proofs.lines.corners_of.Goals as goal

pub loop-rest-preserved : goal.loop-rest-preserved
loop-rest-preserved c =
    let numbers = c.loop-rest.numbers.items in
    let more = option_map_or (λ r. words_of r.now) c.split_word-in-Some.result.1 [] in
    let first : option_map (λ ns. numbers ++ ns) (corners (option_map_or (λ r. words_of r.now) c.loop-rest.rest [])) ≡ option_map (λ ns. numbers ++ ns) (corners (c.split_word-in-Some.result.0.now ∷ more)) =
    ap (λ o. option_map (λ ns. numbers ++ ns) (corners (option_map_or (λ r. words_of r.now) o []))) c.in-Some.is ∙ ap (λ ws. option_map (λ ns. numbers ++ ns) (corners ws)) c.split_word-in-Some.ensures.words in
    let pushed : c.push.new.self.items ≡ numbers ++ c.in-Some-corner.number ∷ [] = search rules in
    ap (λ l. option_map (λ ns. l ++ ns) (corners more)) pushed
    ∙ corners_more numbers c.split_word-in-Some.result.0.now more c.in-Some-corner.number _ (sym c.in-Some-corner.ensures) (sym first ∙ c.loop-rest.invariant)
