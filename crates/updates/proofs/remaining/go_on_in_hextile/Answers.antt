use Rattle.std.proofs.Common.{◌+◌, ◌*◌, ℕ, List, ◌++◌, length, map, arith, sym, ap, ap₂, ◌∙◌}
use Rattle.pixel_translate.specs.Pixel.{pixel}
use Rattle.encode_hextile.specs.Pieces.{hextile_from, no_data}
use Rattle.updates.proofs.RunLemmas.{lines_inside, lines_long}
use Rattle.updates.proofs.remaining.go_on_in_hextile.Goals as goal

pub part-requires-clause-inside : goal.part-requires-clause-inside
part-requires-clause-inside c =
    let r = c.args.rectangle.now in
    lines_inside c.columns_of-width.result c.from-height.result (16 * c.args.row) c.min-lines.result (length r.colours) (omega (arith, c.min-lines.ensures, c.requires, c.from-height.ensures))
    (r.whole ∙ sym (ap₂ (λ (w h : ℕ). w * h) c.columns_of-width.ensures.columns c.from-height.ensures))

pub invariant_of-rows : goal.invariant_of-rows
invariant_of-rows c =
    let r = c.args.rectangle.now in
    let inside = lines_inside c.columns_of-width.result c.from-height.result (16 * c.args.row) c.min-lines.result (length r.colours) (omega (arith, c.min-lines.ensures, c.requires, c.from-height.ensures))
    (r.whole ∙ sym (ap₂ (λ (w h : ℕ). w * h) c.columns_of-width.ensures.columns c.from-height.ensures)) in
    record {
      whole = ap (λ (l : List ℕ). length l) c.deref.ensures.value ∙ ap (λ (l : List ℕ). length l) c.in_ok-values.ensures
          ∙ lines_long c.columns_of-width.result c.min-lines.result (16 * c.args.row * c.columns_of-width.result) r.colours inside;
      wide = omega (arith, r.wide, c.columns_of-width.ensures.columns);
      high = omega (arith, c.min-lines.ensures, c.requires, c.from-height.ensures);
      columns = c.columns_of-width.ensures.few;
      lines = omega (arith, c.min-lines.ensures);
    }

pub returns-clause-bytes : goal.returns-clause-bytes
returns-clause-bytes c =
    let r = c.args.rectangle.now in
    let on = c.in_ok-remaining.ensures.goes_on c.from-height.result r.colours c.args.row (record {
      inside = omega (arith, c.requires, c.from-height.ensures);
      high = omega (arith, c.min-lines.ensures);
      places = c.deref.ensures.value ∙ c.in_ok-values.ensures;
    }) in
    let over = no_data c.args.table.now c.columns_of-width.result c.from-height.result (map (pixel c.args.table.now) r.colours) c.in_ok-remaining.remaining (c.args.row + 1) c.if-row-height.false in
    ap (λ (l : List ℕ). c.encode_row_of_tiles.new.out.items ++ l) (sym over) ∙ on
    ∙ ap₂ (λ (w h : ℕ). c.args.out.now.items ++ hextile_from c.args.table.now w h (map (pixel c.args.table.now) r.colours) c.args.carried c.args.row) c.columns_of-width.ensures.columns c.from-height.ensures
