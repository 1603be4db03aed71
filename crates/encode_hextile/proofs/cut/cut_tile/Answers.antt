use Rattle.std.proofs.Common.{◌≡◌, ◌<◌, ◌+◌, ◌-◌, ◌*◌, min, ℕ, List, [], length, take, drop, map, get_or, arith, sym, ap, ◌∙◌}
use Rattle.std.specs.List.{concat}
use Rattle.pixel_translate.specs.Pixel.{pixel}
use Rattle.subrectangles.specs.Subrectangles.{rows_of}
use Rattle.encode_hextile.specs.Tiles.{tile_rows}
use Rattle.encode_hextile.proofs.Cuts.{tile_at, tile_height, tile_width, source_row, places_inside, rows_length, row_written, all_written}
use Rattle.encode_hextile.proofs.cut.cut_tile.Goals as goal

pub slice_bounds-write_either-end-in-loop-y : goal.slice_bounds-write_either-end-in-loop-y
slice_bounds-write_either-end-in-loop-y c =
    let size : length c.args.places.now ≡ c.side_of-across.result * c.side_of-down.result =
    c.requires.size ∙ ap (λ (k : ℕ). k * min 16 (c.args.colours.now.height - 16 * c.args.row)) (sym c.side_of-across.ensures.size) ∙ ap (λ (k : ℕ). c.side_of-across.result * k) (sym c.side_of-down.ensures.size) in
    let inside = places_inside c.loop-y.y c.side_of-across.result c.side_of-down.result (length c.args.places.now) c.loop-y-test.true size in
    omega (arith, inside, c.loop-y.auto.places)

pub loop-y-preserved : goal.loop-y-preserved
loop-y-preserved c =
    let f : ℕ → ℕ = pixel c.args.table.now in
    let y : ℕ = c.loop-y.y in
    let across : ℕ = c.side_of-across.result in
    let rows : List (List ℕ) = tile_rows (rows_of c.args.colours.now.width c.args.colours.now.height (map f c.args.colours.now.values.now)) (tile_at c.args.column c.args.row) in
    let high : length rows ≡ c.side_of-down.result = tile_height c.args.colours.now.width c.args.colours.now.height (map f c.args.colours.now.values.now) c.args.column c.args.row ∙ sym c.side_of-down.ensures.size in
    let lt : y < min 16 (c.args.colours.now.height - 16 * c.args.row) = omega (arith, c.loop-y-test.true, c.side_of-down.ensures.size) in
    let len : length (concat (take y rows)) ≡ y * across =
    rows_length rows across y (λ k below. tile_width f c.args.colours.now.width c.args.colours.now.height c.args.colours.now.values.now c.args.column c.args.row k c.args.colours.now.whole c.requires.left (omega (arith, below, high, c.side_of-down.ensures.size)) ∙ sym c.side_of-across.ensures.size)
    (omega (arith, high, c.loop-y-test.true)) in
    let new : c.write_either.new.places ≡ get_or rows y [] =
    c.write_either.ensures
    ∙ ap (λ (n : ℕ). map f (take n (drop (16 * c.args.column) c.row-source.result.now))) (let e : 16 * c.args.column + across - 16 * c.args.column ≡ min 16 (c.args.colours.now.width - 16 * c.args.column) = omega (arith, c.side_of-across.ensures.size) in e)
    ∙ sym (source_row f c.args.colours.now.width c.args.colours.now.height c.args.colours.now.values.now c.args.column c.args.row y c.row-source.result.now c.requires.left lt c.row-source.ensures.row) in
    row_written rows c.args.places.now c.loop-y.places c.write_either.new.places y across (y * across + across - y * across) (omega (arith, high, c.loop-y-test.true)) len (omega arith) c.loop-y.invariant new

pub returns : goal.returns
returns c =
    let f : ℕ → ℕ = pixel c.args.table.now in
    let y : ℕ = c.loop-y.y in
    let rows : List (List ℕ) = tile_rows (rows_of c.args.colours.now.width c.args.colours.now.height (map f c.args.colours.now.values.now)) (tile_at c.args.column c.args.row) in
    let high : length rows ≡ c.side_of-down.result = tile_height c.args.colours.now.width c.args.colours.now.height (map f c.args.colours.now.values.now) c.args.column c.args.row ∙ sym c.side_of-down.ensures.size in
    let size : length c.args.places.now ≡ c.side_of-across.result * c.side_of-down.result =
    c.requires.size ∙ ap (λ (k : ℕ). k * min 16 (c.args.colours.now.height - 16 * c.args.row)) (sym c.side_of-across.ensures.size) ∙ ap (λ (k : ℕ). c.side_of-across.result * k) (sym c.side_of-down.ensures.size) in
    let all : y ≡ c.side_of-down.result = omega (arith, c.loop-y-test.false, c.loop-y.auto.y-end) in
    let same : y * c.side_of-across.result ≡ c.side_of-down.result * c.side_of-across.result = ap (λ (k : ℕ). k * c.side_of-across.result) all in
    c.loop-y.invariant ∙ all_written rows c.args.places.now y (y * c.side_of-across.result) (all ∙ sym high) (omega (arith, size, same))
