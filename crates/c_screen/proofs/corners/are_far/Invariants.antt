use Rattle.std.proofs.Common.{◌≡◌, map, not, drop}
use Rattle.std.specs.List.{list_any}
use Rattle.region.specs.RegionView.{in_range}
use Rattle.c_screen.specs.Desk.{rect_of}
use Rattle.c_screen.proofs.corners.are_far.Given as goal

abbrev pub invariant-loop-corners : goal.invariant-loop-corners
invariant-loop-corners l = record { none : list_any (λ r. not (in_range r)) (map rect_of (drop l.corners-index l.list)) ≡ list_any (λ r. not (in_range r)) (map rect_of l.list) }
