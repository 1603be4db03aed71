use Rattle.std.proofs.Common.{◌/◌, ◌%◌, ◌∙◌, ap, arith}
use Rattle.rfb_viewer.specs.Canvas.{copied_dot}
use Rattle.rfb_viewer.proofs.Places.{one_more, as_many}
use Rattle.rfb_viewer.proofs.canvas.Canvas.copy.Goals as goal

pub loop-k-preserved : goal.loop-k-preserved
loop-k-preserved c = c.in_ok-push.ensures.items ∙ one_more (record { columns = c.self.inside.columns; rows = c.self.inside.rows; dots = c.self.inside.dots.items }) c.args.area c.args.from c.loop-k.k c.loop-k.dots.items _ c.loop-k.invariant (c.dot_behind.ensures ∙ ap (λ d. copied_dot d c.args.area c.args.from (c.loop-k.k % c.self.inside.columns) (c.loop-k.k / c.self.inside.columns)) (search))

pub invariant_of-self : goal.invariant_of-self
invariant_of-self c =
    let count = as_many _ _ _ c.loop-k.k c.loop-k.dots.items c.loop-k.invariant in
    record { columns = c.self.invariant.columns; rows = c.self.invariant.rows; places = omega (arith, count, c.self.invariant.places) }
