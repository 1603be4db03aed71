use Rattle.std.proofs.Common.{◌≡◌, ◌-◌, ℕ, List, length, map, get_or, ap, sym, ◌∙◌, arith}
use Rattle.std.proofs.lemmas.List.{get_or-map}
use Rattle.pixel_translate.specs.Pixel.{pixel}
use Rattle.subrectangles.specs.Lines.{values_in, lines_in}
use Rattle.subrectangles.specs.Subrectangles.{row_at}
use Rattle.subrectangles.proofs.RowsAsPixels.{row_map, translated_length}
use Rattle.subrectangles.proofs.scan.translated_subrectangle_at.Goals as goal

pub has_run-requires-clause-inside : goal.has_run-requires-clause-inside
has_run-requires-clause-inside c =
    let above = translated_length c.args.table.now c.args.pixels.now.colours (c.args.y - 1) (omega (arith, c.requires.inside)) in
    omega (arith, ap (length {A = ℕ}) c.deref.ensures.value, ap (length {A = ℕ}) c.requires.above, above, c.requires.within)

pub has_run-requires-clause-columns : goal.has_run-requires-clause-columns
has_run-requires-clause-columns c =
    let above = translated_length c.args.table.now c.args.pixels.now.colours (c.args.y - 1) (omega (arith, c.requires.inside)) in
    omega (arith, ap (length {A = ℕ}) c.deref.ensures.value, ap (length {A = ℕ}) c.requires.above, above, c.args.pixels.now.colours.columns)

pub invariant_of-sought : goal.invariant_of-sought
invariant_of-sought c =
    let f = pixel c.args.table.now in
    let colours = c.args.pixels.now.colours in
    let row : c.args.rows.now.row.items ≡ map f (row_at (lines_in colours) c.args.y) = c.requires.row ∙ row_map f colours.width colours.height (values_in colours) c.args.y c.requires.inside in
    record {
      same = c.index.ensures ∙ ap (λ (r : List ℕ). get_or r c.args.x c.index.result.now) row ∙ get_or-map f (row_at (lines_in colours) c.args.y) c.args.x 0 c.index.result.now (omega (arith, ap (length {A = ℕ}) c.row.ensures.row, c.row.ensures.len, c.requires.within, c.requires.some))
          ∙ ap (λ (r : List ℕ). f (get_or r c.args.x 0)) (sym c.row.ensures.row);
      some = c.requires.some;
    }
