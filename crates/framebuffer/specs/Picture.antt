-- A screen's picture: the colours of its places, row by row.
use Rattle.std.specs.Prelude.{ℕ, ◌+◌, ◌*◌, ◌%◌, ◌^◌, Bool, if◌then◌else◌, List, map, get_or, replicate, ℤ, ◌+ℤ◌, ◌-ℤ◌, nat_abs}
use Rattle.std.specs.Int.{int_min, int_max}
use Rattle.region.specs.declared.Rect.{Rect}
use Rattle.region.specs.Region.{in_rect, covers}
use Rattle.region.specs.Places.{by_place, at_place, cut_destination}

abbrev pub blank : ℕ → ℕ → List ℕ
blank w h = replicate (w * h) 0

abbrev pub colour_at : ℕ → ℕ → List ℕ → ℤ → ℤ → ℕ
colour_at w h picture x y = at_place 0 w h picture x y

-- the colour that a list of a rectangle's colours, row by row, has for a place
abbrev pub colour_in : Rect → List ℕ → ℤ → ℤ → ℕ
colour_in r colours x y = get_or colours (nat_abs (y -ℤ r.y1) * nat_abs (r.x2 -ℤ r.x1) + nat_abs (x -ℤ r.x1)) 0

-- the colours of a rectangle are replaced; their top bytes are cleared
abbrev pub written : ℕ → ℕ → Rect → List ℕ → List ℕ → List ℕ
written w h r colours picture = by_place w h (λ x y. if in_rect r x y then colour_in r colours x y % 2 ^ 24 else colour_at w h picture x y)

-- the places of a set get the colours of the places that lie (dx, dy) before them, all at once
abbrev pub moved_colours : ℕ → ℕ → (ℤ → ℤ → Bool) → ℤ × ℤ → List ℕ → List ℕ
moved_colours w h set by picture = by_place w h (λ x y. if set x y then colour_at w h picture (x -ℤ by.0) (y -ℤ by.1) else colour_at w h picture x y)

-- a copy of a set moves the colours of its places that are on the screen with their sources
abbrev pub copied_colours : ℕ → ℕ → (ℤ → ℤ → Bool) → ℤ × ℤ → List ℕ → List ℕ
copied_colours w h set by picture = moved_colours w h (cut_destination w h set by) by picture

-- a rectangle whose corners may stand in the wrong order
abbrev pub straight : Rect → Rect
straight r = record { x1 = int_min r.x1 r.x2; y1 = int_min r.y1 r.y2; x2 = int_max r.x1 r.x2; y2 = int_max r.y1 r.y2 }

-- the places of rectangles, with corners in either order
abbrev pub places_in : List Rect → ℤ → ℤ → Bool
places_in rects x y = covers (map straight rects) x y

-- a rectangle's colours, row by row
abbrev pub colours_of : ℕ → ℕ → List ℕ → Rect → List ℕ
colours_of w h picture r = by_place (nat_abs (r.x2 -ℤ r.x1)) (nat_abs (r.y2 -ℤ r.y1)) (λ x y. colour_at w h picture (x +ℤ r.x1) (y +ℤ r.y1))
