use Rattle.std.proofs.Common.{◌≡◌, map}
use Rattle.serving.specs.Services.{viewer_of}
use Rattle.serving.proofs.service.receipts_of.Given as goal

abbrev pub invariant-loop-service : goal.invariant-loop-service
invariant-loop-service g l = map (λ r. r.viewer) l.receipts.items ≡ map viewer_of l.yielded
