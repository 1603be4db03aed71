use Rattle.std.proofs.Common.{◌<◌, ◌*◌, List, length, take, drop, ℕ, sym, ap, ◌∙◌, arith}
use Rattle.framebuffer.specs.Rows.{row_colours}
use Rattle.framebuffer.specs.Frame.{Frame}
use Rattle.framebuffer.proofs.RowLemmas.{flat_row}
use Rattle.framebuffer.proofs.frame.Framebuffer.row.Goals as goal

pub returns-then-y-self-clause-colours : goal.returns-then-y-self-clause-colours
returns-then-y-self-clause-colours c =
    let rows = c.self.inside.rows.items in
    let below : c.args.y < length rows = omega (arith, c.if-y-self.true, c.self.invariant.count) in
    c.colours_of.ensures ∙ ap row_colours c.index.ensures
    ∙ sym (flat_row row_colours c.self.inside.width rows c.args.y c.index.result.now c.self.invariant.wide below)
    ∙ ap row_in c.self.view_is
  where
    row_in : Frame → List ℕ
    row_in f = take f.width (drop (c.args.y * f.width) f.colours)
