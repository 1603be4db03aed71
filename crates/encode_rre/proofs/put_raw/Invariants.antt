use Rattle.std.proofs.Common.{◌≡◌, ◌*◌, ◌++◌, take, pos}
use Rattle.std.specs.List.{flat_map}
use Rattle.pixel_translate.specs.Pixel.{colour_bytes}
use Rattle.encode_raw.specs.Raw.{head}
use Rattle.subrectangles.specs.Lines.{values_in}
use Rattle.encode_rre.proofs.put_raw.Given as goal

-- the head and the rows passed are there
abbrev pub invariant-loop-y : goal.invariant-loop-y
invariant-loop-y l = l.out.items ≡ l.fn.out.items ++ (head l.fn.area (pos 0) ++ flat_map (colour_bytes l.table) (take (l.y * l.colours.width) (values_in l.colours)))
