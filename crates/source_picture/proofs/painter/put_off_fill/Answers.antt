use Rattle.std.proofs.Common.{◌*◌, ◌∙◌, ap, arith}
use Rattle.std.specs.Prelude.{replicate}
use Rattle.std.specs.List.{flat_map}
use Rattle.server_reader.specs.Groups.{pixel_in}
use Rattle.source_picture.specs.Bands.{with_band}
use Rattle.source_picture.proofs.ColourLemmas.{repeated}
use Rattle.source_picture.proofs.DoneLemmas.{ok_then}
use Rattle.source_picture.proofs.WaitLemmas.{fill_painted}
use Rattle.source_picture.proofs.painter.put_off_fill.Goals as goal

pub returns-clause-painted : goal.returns-clause-painted
returns-clause-painted c config list fine was =
    ok_then c.put_off.result
    (fill_painted c.args.area c.as_flattened.result.now c.args.pixel (with_band c.args.band.now c.args.canvas.now.screen.picture) (with_band c.put_off.new.band c.put_off.new.canvas.screen.picture)
    c.requires.wide
    (λ k less. ap (λ l. pixel_in l (4 * k)) (c.as_flattened.ensures.value ∙ ap (λ v. flat_map (λ x. x) (replicate 16 v)) c.to_le_bytes-row.ensures) ∙ repeated c.args.pixel 16 k (omega arith) less))
    (c.put_off.ensures.painted config list fine was)
