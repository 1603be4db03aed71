use Rattle.pixel_translate.proofs.Server.{server_pixel, same_components}
use Rattle.pixel_translate.proofs.server_pixels_are_colours.Goals as goal

pub returns-clause-itself : goal.returns-clause-itself
returns-clause-itself c = server_pixel

pub returns-clause-components : goal.returns-clause-components
returns-clause-components c = same_components
