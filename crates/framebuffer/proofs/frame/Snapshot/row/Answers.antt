use Rattle.std.proofs.Common.{◌≡◌, ◌<◌, ℕ, ◌+◌, ◌-◌, ◌*◌, List, length, take, drop, get_or, sym, ap, ◌∙◌, arith}
use Rattle.framebuffer.specs.Rows.{row_colours, row_part}
use Rattle.framebuffer.specs.Frame.{Frame}
use Rattle.framebuffer.proofs.RowLemmas.{flat_row, part_long}
use Rattle.framebuffer.proofs.frame.Snapshot.row.Goals as goal

pub returns : goal.returns
returns c =
    let left = c.self.inside.left in
    let columns = c.self.inside.columns in
    let rows = c.self.inside.rows.items in
    let here = c.index.result.now in
    let below : c.args.y < length rows = omega (arith, c.requires, ap (λ (f : Frame). f.height) c.self.view_is) in
    ap (λ n. take n (drop left c.colours_of.result.now)) (let e : left + columns - left ≡ columns = omega arith in e)
    ∙ ap (λ l. take columns (drop left l)) (c.colours_of.ensures ∙ ap row_colours c.index.ensures)
    ∙ sym (flat_row (row_part left columns) columns rows c.args.y here (λ k d inside. part_long left columns (row_colours (get_or rows k d)) (c.self.invariant.wide k d inside)) below)
    ∙ ap row_in c.self.view_is
  where
    row_in : Frame → List ℕ
    row_in f = take f.width (drop (c.args.y * f.width) f.colours)
