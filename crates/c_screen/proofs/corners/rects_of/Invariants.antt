use Rattle.std.proofs.Common.{◌≡◌, map, drop, ◌++◌}
use Rattle.c_screen.specs.Desk.{rect_of}
use Rattle.c_screen.proofs.corners.rects_of.Given as goal

abbrev pub invariant-loop-corners : goal.invariant-loop-corners
invariant-loop-corners l = record { made : l.rects.items ++ map rect_of (drop l.corners-index l.list) ≡ map rect_of l.list }
