use Rattle.std.proofs.Common.{◌∙◌, ap, rules}
use Rattle.std.specs.Prelude.{FitsSigned}
use Rattle.std.specs.Int.{w32}
use Rattle.std.proofs.lemmas.Int.{to_z-of_z}
use Rattle.region.specs.declared.Rect.{Rect}
use Rattle.region.specs.Region.{in_rect}
use Rattle.copy_schedule.specs.SetLemmas.{part_places}
use Rattle.copy_schedule.proofs.sets.part_of.Goals as goal

pub returns : goal.returns
returns c = λ x y.
    let dx : FitsSigned w32 c.args.offset.0 = search rules in
    let dy : FitsSigned w32 c.args.offset.1 = search rules in
    let x1 : FitsSigned w32 c.args.rect.x1 = search rules in
    let y1 : FitsSigned w32 c.args.rect.y1 = search rules in
    let x2 : FitsSigned w32 c.args.rect.x2 = search rules in
    let y2 : FitsSigned w32 c.args.rect.y2 = search rules in
    c.from_rect_in_range.ensures x y ∙ ap (λ (r : Rect). in_rect r x y) c.window_rect.ensures ∙ part_places c.args.width c.args.height c.window_of-window.result c.args.rect c.args.offset.0 c.args.offset.1 c.window_of-window.ensures.columns c.window_of-window.ensures.rows
    (λ i j column row. simp to_z-of_z at (c.window_of-window.ensures.places i j column row)) x y
