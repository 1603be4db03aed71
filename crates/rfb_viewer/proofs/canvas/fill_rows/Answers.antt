use Rattle.std.proofs.Common.{Option, arith}
use Rattle.std.proofs.lemmas.List.{length-take, length-drop}
use Rattle.rfb_viewer.specs.declared.canvas.Dot.{Dot}
use Rattle.rfb_viewer.proofs.Rows.{row_inside, one_row, no_row}
use Rattle.rfb_viewer.proofs.canvas.fill_rows.Goals as goal

pub loop-y-init : goal.loop-y-init
loop-y-init c = no_row c.args.columns c.args.across.0 c.args.across.1 c.args.down.0 c.args.dot c.args.dots.now

pub loop-y-preserved : goal.loop-y-preserved
loop-y-preserved c =
    let inside = row_inside c.args.columns c.args.down.1 c.loop-y.y _ c.requires.high c.loop-y-test.true in
    one_row c.args.columns c.args.across.0 c.args.across.1 c.args.down.0 c.loop-y.y _ c.args.dot c.args.dots.now c.loop-y.dots c.fill_row.new.places c.requires.wide c.requires.some (omega arith)
    (omega arith) (omega (arith, c.fill_row.auto.places, length-take {A = Option Dot}, length-drop {A = Option Dot})) (omega (arith, inside))
    (λ j below. c.fill_row.ensures j (simp (length-take, length-drop) (omega (arith, inside))))
    c.loop-y.invariant
