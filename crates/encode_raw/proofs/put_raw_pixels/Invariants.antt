use Rattle.std.proofs.Common.{◌≡◌, ◌≤◌, ◌-◌, ◌++◌, length, take, flat_map}
use Rattle.pixel_translate.specs.Pixel.{colour_bytes}
use Rattle.encode_raw.proofs.put_raw_pixels.Given as goal

-- the colours passed are written
abbrev pub invariant-loop-from : goal.invariant-loop-from
invariant-loop-from l = record {
  written : l.out.items ≡ l.fn.out.items ++ flat_map (colour_bytes l.table) (take l.from l.colours);
  within : l.from ≤ length l.colours;
}

abbrev pub decreases-loop-from : goal.decreases-loop-from
decreases-loop-from l = length l.colours - l.from
