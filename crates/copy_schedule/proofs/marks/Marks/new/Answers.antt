use Rattle.std.proofs.Common.{◌∙◌, ap, replicate, ◌*◌}
use Rattle.std.specs.Prelude.{pos}
use Rattle.region.specs.Region.{covers}
use Rattle.copy_schedule.specs.declared.Mark.TheVariants.{Owed}
use Rattle.region.specs.Places.{by_place}
use Rattle.copy_schedule.specs.Marks.{Marks}
use Rattle.copy_schedule.specs.MarkSetLemmas.{all_owed, none_asked}
use Rattle.copy_schedule.proofs.marks.Marks.new.Goals as goal

pub returns : goal.returns
returns c =
    let w = c.args.width in
    let h = c.args.height in
    ap {B = Marks} (λ marks. record { width = w; height = h; marks = marks; offset = (pos 0, pos 0); asked = by_place w h (covers c.new-2.result.list) }) (all_owed w h c.screen_places.result c.new.result c.screen_places.ensures)
    ∙ ap {B = Marks} (λ asked. record { width = w; height = h; marks = replicate (w * h) Owed; offset = (pos 0, pos 0); asked = asked }) (none_asked w h c.new-2.result.list c.new-2.ensures)
