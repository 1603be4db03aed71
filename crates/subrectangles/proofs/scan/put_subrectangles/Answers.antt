use Rattle.std.proofs.Common.{◌≡◌, ◌++◌, ◌+◌, ◌-◌, ℕ, List, length, length-append, flat_map, arith, ap, ◌∙◌}
use Rattle.std.specs.List.{range_with_len}
use Rattle.std.specs.Vec.{with_items}
use Rattle.subrectangles.specs.declared.Subrectangle.{Subrectangle}
use Rattle.subrectangles.specs.Begins.{begins_more}
use Rattle.subrectangles.specs.Pixels.{pixel_lines, pixels_in}
use Rattle.subrectangles.specs.Bytes.{subrectangle_bytes}
use Rattle.subrectangles.specs.Scans.{rows_count}
use Rattle.subrectangles.specs.Subrectangles.{subrectangles_in}
use Rattle.subrectangles.proofs.Coded.{rows_more, rows_fewer}
use Rattle.subrectangles.proofs.RowsAsPixels.{next_rows}
use Rattle.subrectangles.proofs.scan.put_subrectangles.Goals as goal

pub returns-in_err-put_row-clause-front : goal.returns-in_err-put_row-clause-front
returns-in_err-put_row-clause-front c = begins_more c.args.out.now.items c.loop-y.out.items c.put_row.new.out.items _ c.loop-y.invariant.found c.in_err-put_row.ensures.err

pub returns-then-end-len-clause-longer : goal.returns-then-end-len-clause-longer
returns-then-end-len-clause-longer c less =
    let rows : List (List ℕ) = pixel_lines c.args.pixels.now in
    let found : ℕ → List Subrectangle = subrectangles_in c.args.background rows in
    let sb = subrectangle_bytes c.args.format.now in
    let now = rows_more sb found c.loop-y.y c.args.out.now.items c.loop-y.out.items c.put_row.new.out.items c.loop-y.invariant.found c.in_ok-put_row.ensures.ok in
    let e : c.loop-y.y + 1 + (length rows - (c.loop-y.y + 1)) ≡ length rows =
    omega (arith, rows_count c.args.pixels.now.colours.width c.args.pixels.now.colours.height (pixels_in c.args.pixels.now)) in
    let fewer = rows_fewer c.args.format.now found (c.loop-y.y + 1) (length rows - (c.loop-y.y + 1)) in
    omega (
      arith,
      fewer,
      ap (λ (n : ℕ). length (flat_map sb (flat_map found (range_with_len 0 n)))) e,
      ap (length {A = ℕ}) now,
      length-append c.args.out.now.items (flat_map sb (flat_map found (range_with_len 0 (c.loop-y.y + 1)))),
      c.if-end-len.true,
      c.len.ensures,
    )

pub loop-y-preserved : goal.loop-y-preserved
loop-y-preserved c =
    let found : ℕ → List Subrectangle = subrectangles_in c.args.background (pixel_lines c.args.pixels.now) in
    record {
      found = rows_more (subrectangle_bytes c.args.format.now) found c.loop-y.y c.args.out.now.items c.loop-y.out.items c.put_row.new.out.items c.loop-y.invariant.found c.in_ok-put_row.ensures.ok;
      short = λ some. omega (arith, c.if-end-len.false, c.len.ensures);
      rows = next_rows c.args.pixels.now c.loop-y.y c.go_on.new.rows c.go_on.ensures;
      room = omega (arith, c.loop-y.invariant.room, (with_items c.loop-y.starts c.put_row.new.starts).ok.0, c.loop-y.starts.ok.0);
    }

pub returns-clause-all : goal.returns-clause-all
returns-clause-all c shorter =
    let rows : List (List ℕ) = pixel_lines c.args.pixels.now in
    let e : c.loop-y.y ≡ length rows = omega (arith, rows_count c.args.pixels.now.colours.width c.args.pixels.now.colours.height (pixels_in c.args.pixels.now)) in
    c.loop-y.invariant.found
    ∙ ap (λ (n : ℕ). c.args.out.now.items ++ flat_map (subrectangle_bytes c.args.format.now) (flat_map (subrectangles_in c.args.background rows) (range_with_len 0 n))) e
