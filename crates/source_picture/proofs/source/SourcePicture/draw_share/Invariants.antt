use Rattle.std.proofs.Common.{◌≡◌, ℕ, ◌+◌, ◌-◌, ◌≤◌, List, ◌++◌, None}
use Rattle.screen.specs.declared.Config.{Config}
use Rattle.screen.specs.declared.Event.{Event}
use Rattle.screen.specs.Alone.{config_refusal}
use Rattle.screen.specs.Frame.{Frame}
use Rattle.screen.specs.State.{state}
use Rattle.connections.specs.Drawing.{Draws}
use Rattle.server_reader.specs.declared.step.Step.{Step}
use Rattle.server_reader.specs.Steps.{work_left}
use Rattle.source_picture.specs.Bands.{with_band}
use Rattle.source_picture.specs.Mirroring.{SourceView, share, costs_of, IsReadAs, IsReadFor, IsMirrored}
use Rattle.source_picture.proofs.source.SourcePicture.draw_share.Given as goal

-- so far the front of the piece is drawn: what is read and drawn of the rest is read and drawn of the piece
abbrev pub invariant-steps : goal.invariant-steps
invariant-steps l = record {
  draws : Draws l.fn.canvas l.canvas;
  front : (front : List ℕ) × (l.piece ≡ front ++ l.left);
  few : l.share ≤ share;
  read : (steps : List Step) (after : SourceView) (rest : List ℕ) → IsReadAs l.self l.left steps after rest → IsReadFor (share - l.share + costs_of steps) l.fn.self l.piece after rest;
  mirrored : (config : Config) (list : List Event) → config_refusal config ≡ None → l.fn.canvas.screen ≡ state config list → (after : SourceView) (rest : List ℕ) (new : Frame)
      → IsMirrored l.self l.left after rest (with_band l.self.waiting l.canvas.screen.picture) new
      → IsMirrored l.fn.self l.piece after rest (with_band l.fn.self.waiting l.fn.canvas.screen.picture) new;
}

abbrev pub decreases-steps : goal.decreases-steps
decreases-steps l = work_left l.self.reader l.left
