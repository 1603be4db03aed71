use Rattle.std.proofs.Common.{◌≡◌, ℕ, None, Result, Ok, Err}
use Rattle.std.specs.Prelude.{IfOk}
use Rattle.std.specs.declared.alloc.AllocError.{AllocError}
use Rattle.framebuffer.specs.Frame.{Frame, IsPicture}
use Rattle.source_pixels.specs.declared.pieces.Differences.{Differences}
use Rattle.source_pixels.specs.Source.{Source, source_refusal}
use Rattle.source_pixels.specs.Differences.{AreDifferences}
use Rattle.screen.specs.Taken.{part_from, painted, taken}
use Rattle.screen.proofs.PaintedLemmas.{painted_is_taken}
use Rattle.screen.proofs.screen.Screen.differences.Goals as goal

made : (s : Source) (f : Frame) (left top : ℕ) (r : Result Differences AllocError) → source_refusal s ≡ None → IsPicture f → IfOk r (λ d. AreDifferences s (part_from f left top) d)
    → IfOk r (λ d. painted left top d.pieces f ≡ taken s left top f)
made s f left top (Ok d) accepted picture differ = painted_is_taken s f left top d accepted picture differ
made s f left top (Err e) accepted picture differ = tt

pub returns-clause-made : goal.returns-clause-made
returns-clause-made c =
    λ picture. made c.args.source.now c.args.self.now.picture c.args.left c.args.top c.find_differences.result c.find_differences.ensures.accepted picture c.find_differences.ensures.differ
