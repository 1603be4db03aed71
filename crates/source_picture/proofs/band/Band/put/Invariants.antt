use Rattle.std.proofs.Common.{◌≡◌, ℕ, ◌+◌, ◌-◌, ◌*◌, ◌<◌, cond, length}
use Rattle.encode_raw.specs.Reading.{is_inside}
use Rattle.server_reader.specs.Groups.{pixel_in}
use Rattle.source_picture.specs.Bands.{beside}
use Rattle.source_picture.proofs.band.Band.put.Given as goal

-- so far the first rows are put
abbrev pub invariant-loop-row : goal.invariant-loop-row
invariant-loop-row l = record {
  area : l.self-inside.area ≡ l.fn.self.area;
  long : length l.self-inside.bytes.items ≡ 131072;
  pixels : (x y : ℕ) → x < 2048 → pixel_in l.self-inside.bytes.items (4 * (y * 2048 + x))
      ≡ cond (is_inside (record (beside l.fn.self.area l.area) { h = l.row }) x y)
      (pixel_in l.rows (l.stride * (y - (l.area.y - l.fn.self.area.y)) + 4 * (x - (l.area.x - l.fn.self.area.x))))
      (pixel_in l.fn.self.bytes (4 * (y * 2048 + x)));
}
