use Rattle.std.proofs.Common.{◌≡◌, ◌+◌, ◌≤◌, length, Option, List, ℕ, map, []}
use Rattle.std.specs.Option.{option_map_or}
use Rattle.std.specs.Io.KnownBytes.{Appends}
use Rattle.play_script.specs.Words.{lines_of}
use Rattle.play_script.specs.Lines.{line_of}
use Rattle.play_script.specs.Transcript.{Played, on, outcome, outcome_from, with_text}
use Rattle.play_script.specs.Playing.{StandsFor}
use Rattle.play_script.proofs.play.play_text.Given as goal

abbrev pub invariant-loop-rest : goal.invariant-loop-rest
invariant-loop-rest g l = record {
  played : (p : Option Played) × (front : List ℕ) × StandsFor l.screen p × Appends (g.W.Write.contents l.initial.writer) (g.W.Write.contents l.writer) front × (with_text front (outcome_from l.number (on p) (map line_of (option_map_or (λ r. lines_of r.now) l.rest []))) ≡ outcome l.script);
  lines : l.number + option_map_or (λ r. length r.now + 1) l.rest 0 ≤ length l.script + 1;
}

abbrev pub decreases-loop-rest : goal.decreases-loop-rest
decreases-loop-rest g l = option_map_or (λ r. length r.now + 1) l.rest 0
