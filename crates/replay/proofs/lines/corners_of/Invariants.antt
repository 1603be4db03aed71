use Rattle.std.proofs.Common.{◌≡◌, ◌+◌, ◌++◌, [], length, drop}
use Rattle.std.specs.Prelude.{option_map}
use Rattle.std.specs.Option.{option_map_or}
use Rattle.play_script.specs.Words.{words_of}
use Rattle.replay.specs.Lines.{corners}
use Rattle.replay.proofs.lines.corners_of.Given as goal

-- the numbers so far, and those of what is left
abbrev pub invariant-loop-rest : goal.invariant-loop-rest
invariant-loop-rest l = option_map (λ ns. l.numbers.items ++ ns) (corners (option_map_or (λ r. words_of r.now) l.rest [])) ≡ corners (drop 1 (words_of l.line))

abbrev pub decreases-loop-rest : goal.decreases-loop-rest
decreases-loop-rest l = option_map_or (λ r. length r.now + 1) l.rest 0
