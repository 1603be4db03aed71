use Rattle.std.proofs.Common.{◌+◌, ◌*◌, ◌<◌, length, get_or, ap, ◌∙◌, arith}
use Rattle.framebuffer.specs.Rows.{row_colours}
use Rattle.framebuffer.specs.Frame.{Frame}
use Rattle.framebuffer.proofs.RowLemmas.{place_read}
use Rattle.framebuffer.proofs.frame.Framebuffer.colour.Goals as goal

pub returns-then-y-self-clause-colour : goal.returns-then-y-self-clause-colour
returns-then-y-self-clause-colour c =
    let rows = c.self.inside.rows.items in
    let below : c.args.y < length rows = omega (arith, c.if-y-self.true, c.self.invariant.count) in
    ap (λ l. get_or l c.args.x 0) (c.colours_of.ensures ∙ ap row_colours c.index.ensures)
    ∙ place_read c.self.inside.width rows c.args.y c.args.x c.index.result.now c.self.invariant.wide below c.if-x-self.true
    ∙ ap (λ (f : Frame). get_or f.colours (c.args.y * f.width + c.args.x) 0) c.self.view_is
