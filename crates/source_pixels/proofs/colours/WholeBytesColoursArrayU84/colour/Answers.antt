use Rattle.source_pixels.proofs.FormatLemmas.{all_fit}
use Rattle.source_pixels.proofs.colours.WholeBytesColoursArrayU84.colour.Goals as goal

pub whole_byte-red-requires-clause-fits : goal.whole_byte-red-requires-clause-fits
whole_byte-red-requires-clause-fits c = (all_fit c.args.self.now.format c.args.self.now.fitting).red

pub whole_byte-green-requires-clause-fits : goal.whole_byte-green-requires-clause-fits
whole_byte-green-requires-clause-fits c = (all_fit c.args.self.now.format c.args.self.now.fitting).green

pub whole_byte-blue-requires-clause-fits : goal.whole_byte-blue-requires-clause-fits
whole_byte-blue-requires-clause-fits c = (all_fit c.args.self.now.format c.args.self.now.fitting).blue
