-- What is left of an update while it is encoded part by part.
use Rattle.std.specs.Prelude.{ℕ, Bool, List, [], ◌++◌, drop, flat_map}
use Rattle.updates.specs.declared.notices.Notice.{Notice}
use Rattle.updates.specs.declared.remaining.RemainingPart.{RemainingPart}
use Rattle.updates.specs.declared.remaining.RemainingPart.TheVariants as remaining
use Rattle.updates.specs.Bytes.{map_bytes, notice_bytes, size_bytes}

-- what is left of a size or of rectangles
abbrev pub remaining_part : RemainingPart → List ℕ
remaining_part remaining.Nothing = []
remaining_part (remaining.NewSize size) = size_bytes size.width size.height
remaining_part (remaining.Places bytes) = bytes
remaining_part (remaining.Shared bytes) = bytes

-- the colour map is left where it is owed and not sent yet
abbrev pub remaining_update : Bool → List Notice → ℕ → RemainingPart → List ℕ
remaining_update map_owed notices sent part = (map_bytes map_owed ++ flat_map notice_bytes (drop sent notices)) ++ remaining_part part
