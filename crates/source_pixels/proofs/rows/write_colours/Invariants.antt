use Rattle.std.proofs.Common.{◌≡◌, ◌<◌, length, map, get_or, ℕ}
use Rattle.source_pixels.proofs.rows.write_colours.Given as goal

abbrev pub invariant-loop-x : goal.invariant-loop-x
invariant-loop-x g l = (length l.places ≡ length l.pixels) × ((k : ℕ) → k < l.x → get_or l.places k 0 ≡ get_or (map (g.C.Colours.colour_of l.colours) l.pixels) k 0)
