use Rattle.std.proofs.Common.{◌*◌, length, take, ap, ◌∙◌}
use Rattle.std.specs.Prelude.{flat_map}
use Rattle.recorder.specs.Words.{hex, colour_digits}
use Rattle.recorder.proofs.Lines.{puts-as, hex-colours}
use Rattle.recorder.proofs.words.put_few_colours.Goals as goal

pub returns : goal.returns
returns g c =
    let colours = c.args.colours.now in
    puts-as (hex (take (3 * length colours) c.fill_bytes.new.bytes)) (flat_map colour_digits colours) c.args.scribe.now c.put_few.new.scribe (ap hex c.fill_bytes.ensures ∙ hex-colours colours) c.put_few.ensures
