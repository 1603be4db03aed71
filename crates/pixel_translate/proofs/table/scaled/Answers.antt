use Rattle.std.proofs.Common.{◌<◌, ◌∙◌, length, length-set, arith}
use Rattle.std.proofs.lemmas.List.Edits.{fill_by_more}
use Rattle.pixel_translate.specs.Pixel.{component}
use Rattle.pixel_translate.proofs.table.scaled.Goals as goal

pub loop-value-preserved : goal.loop-value-preserved
loop-value-preserved c =
    let inside : c.loop-value.value < length c.loop-value.row = omega arith in record {
      long = length-set c.loop-value.row c.loop-value.value c.placed.result ∙ c.loop-value.invariant.long;
      done = rw c.placed.ensures (fill_by_more (component c.args.bits c.args.at) c.loop-value.row c.loop-value.value 0 inside c.loop-value.invariant.done);
    }
