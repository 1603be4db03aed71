use Rattle.std.proofs.Common.{ℕ, ◌+◌, ◌-◌, ◌*◌, List, take, drop, ap, arith, ◌∙◌}
use Rattle.source_picture.specs.Bands.{BandView, beside}
use Rattle.source_picture.proofs.BandLemmas.{row_put, row_cut, row_length}
use Rattle.source_picture.proofs.band.Band.put.Goals as goal

pub loop-row-preserved : goal.loop-row-preserved
loop-row-preserved c =
    let area = c.args.area in
    let band = c.args.self.now.area in
    let rows : List ℕ = c.args.rows.now in
    let from = c.args.stride * c.loop-row.row in
    let row : List ℕ = take (from + 4 * c.from-length.result - from) (drop from rows) in
    record {
      area = c.loop-row.invariant.area;
      long = c.put_row.ensures.long ∙ c.loop-row.invariant.long;
      pixels = row_put (beside band area) c.args.self.now.bytes c.loop-row.self-inside.bytes.items c.put_row.new.bytes.items rows row c.loop-row.row c.args.stride
          (8192 * (c.from-top.result + c.loop-row.row) + 4 * c.from-left.result)
          (let on = c.requires.goes_on.right in let left = c.requires.goes_on.left in omega (arith, on, left))
          (let left = c.from-left.ensures in let top = c.from-top.ensures in let x = ap (λ (v : BandView). v.area.x) c.self.view_is in let y = ap (λ (v : BandView). v.area.y) c.self.view_is in omega (arith, left, top, x, y))
          (row_cut rows from c.from-length.result area.w c.from-length.ensures)
          (row_length rows from (4 * c.from-length.result) (let enough = c.requires.enough c.loop-row.row (let end = c.from-row-end.ensures in omega (arith, c.loop-row-test.true, end)) in let wide = c.from-length.ensures in omega (arith, enough, wide)) ∙ (let wide = c.from-length.ensures in omega (arith, wide)))
          (record { there = c.put_row.ensures.row; before = c.put_row.ensures.before; behind = c.put_row.ensures.behind })
          c.loop-row.invariant.pixels;
    }
