use Rattle.source_pixels.proofs.FormatLemmas.{all_fit}
use Rattle.source_pixels.proofs.colours.Components.new.Goals as goal

pub new-requires : goal.new-requires
new-requires c = (all_fit c.args.format c.requires).red

pub new-requires-2 : goal.new-requires-2
new-requires-2 c = (all_fit c.args.format c.requires).green

pub new-requires-3 : goal.new-requires-3
new-requires-3 c = (all_fit c.args.format c.requires).blue
