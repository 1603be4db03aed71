use Rattle.std.proofs.Common.{◌^◌, ◌-◌, arith}
use Rattle.subrectangles.specs.Lines.{values_in}
use Rattle.encode_rre.proofs.Plain.{themselves}
use Rattle.encode_rre.proofs.are_pixels.Goals as goal

pub returns-then-has_server_components : goal.returns-then-has_server_components
returns-then-has_server_components c small =
    themselves c.server_pixels_are_colours.ensures.components c.args.format.now (values_in c.args.colours.now) (2 ^ 24 - 1) (c.has_server_components.ensures.0 c.if-has_server_components.true) (omega arith)
    (λ k lt. let low = c.are_low.ensures small k lt in omega (arith, low))
