use Rattle.std.proofs.Common.{◌≡◌, ◌+◌, ◌-◌, ◌*◌, ◌/◌, ℕ, List, length, arith, ap, ◌∙◌}
use Rattle.std.specs.List.{flat_map, range_with_len}
use Rattle.std.proofs.Math.Nat.{mul-div_cancel}
use Rattle.subrectangles.specs.declared.Subrectangle.{Subrectangle}
use Rattle.subrectangles.specs.Subrectangles.{subrectangles_in, subrectangles}
use Rattle.subrectangles.specs.Scans.{rows_count}
use Rattle.subrectangles.specs.Rows.{rows_in}
use Rattle.encode_hextile.specs.Hextile.{subrectangle_bytes}
use Rattle.encode_hextile.proofs.Lists.{unit, unit_some, list_length, fewer_bytes, more_bytes, raw_most, few_bytes_a_pixel}
use Rattle.encode_hextile.proofs.scan.list_subrectangles.Goals as goal

pub returns-then-raw_len-len : goal.returns-then-raw_len-len
returns-then-raw_len-len c =
    let rows : List (List ℕ) = rows_in c.args.pixels.now in
    let g : ℕ → List Subrectangle = subrectangles_in c.args.background rows in
    let now = more_bytes c.args.format.now c.args.coloured g c.loop-y.y c.loop-y.list.items c.put_row.new.list.items c.loop-y.invariant.found c.put_row.ensures in
    let e : c.loop-y.y + 1 + (length rows - (c.loop-y.y + 1)) ≡ length rows = omega (arith, rows_count c.args.pixels.now.width c.args.pixels.now.height c.args.pixels.now.values.now) in
    let fewer = fewer_bytes c.args.format.now c.args.coloured g (c.loop-y.y + 1) (length rows - (c.loop-y.y + 1)) in
    omega (
      arith,
      fewer,
      ap (λ (n : ℕ). length (flat_map (subrectangle_bytes c.args.format.now c.args.coloured) (flat_map g (range_with_len 0 n)))) e,
      ap (length {A = ℕ}) now,
      c.if-raw_len-len.true,
      c.len.ensures.value,
      ap (λ (p : ℕ). length c.args.pixels.now.values.now * p) c.bytes_per_pixel.ensures,
    )

pub loop-y-preserved : goal.loop-y-preserved
loop-y-preserved c =
    let g : ℕ → List Subrectangle = subrectangles_in c.args.background (rows_in c.args.pixels.now) in
    let raw = raw_most c.args.pixels.now.width c.args.pixels.now.height (length c.args.pixels.now.values.now) c.bytes_per_pixel.result c.args.pixels.now.whole c.requires.columns c.requires.rows (omega (arith, c.bytes_per_pixel.ensures, few_bytes_a_pixel c.args.format.now)) in
    record {
      room = omega (arith, raw, c.if-raw_len-len.false, c.len.ensures.value);
      found = more_bytes c.args.format.now c.args.coloured g c.loop-y.y c.loop-y.list.items c.put_row.new.list.items c.loop-y.invariant.found c.put_row.ensures;
    }

pub returns : goal.returns
returns c =
    let f = c.args.format.now in
    let rows : List (List ℕ) = rows_in c.args.pixels.now in
    let subs : List Subrectangle = subrectangles c.args.background rows in
    let e : c.loop-y.y ≡ length rows = omega (arith, rows_count c.args.pixels.now.width c.args.pixels.now.height c.args.pixels.now.values.now) in
    let all : c.loop-y.list.items ≡ flat_map (subrectangle_bytes f c.args.coloured) subs =
    c.loop-y.invariant.found ∙ ap (λ (n : ℕ). flat_map (subrectangle_bytes f c.args.coloured) (flat_map (subrectangles_in c.args.background rows) (range_with_len 0 n))) e in
    let len : c.len-2.result ≡ length subs * unit f c.args.coloured = c.len-2.ensures.value ∙ ap (length {A = ℕ}) all ∙ list_length f c.args.coloured subs in (
      ap (λ (n : ℕ). n / c.unit_of.result) len ∙ ap (λ (u : ℕ). length subs * unit f c.args.coloured / u) c.unit_of.ensures
          ∙ mul-div_cancel (length subs) (unit_some f c.args.coloured),
      all,
    )
