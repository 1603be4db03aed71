-- Rectangles of a screen, as the areas that a viewer is sent (RFC 6143, 7.6.1).
use Rattle.std.specs.Prelude.{◌-ℤ◌, nat_abs}
use Rattle.pixel_translate.specs.declared.Area.{Area}
use Rattle.region.specs.declared.Rect.{Rect}

abbrev pub area_of : Rect → Area
area_of r = record { x = nat_abs r.x1; y = nat_abs r.y1; w = nat_abs (r.x2 -ℤ r.x1); h = nat_abs (r.y2 -ℤ r.y1) }
