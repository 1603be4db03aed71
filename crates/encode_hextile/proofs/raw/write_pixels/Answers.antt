use Rattle.std.proofs.Common.{rules}
use Rattle.encode_hextile.proofs.raw.write_pixels.Goals as goal

pub returns : goal.returns
returns c = c.write_pixels.ensures (λ pixel. pixel) (λ v r small answers. search rules)
