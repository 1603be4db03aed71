-- Worked examples, which compute.
use Rattle.std.specs.Prelude.{◌≡◌, ℕ, ◌*◌, ◌/◌, ◌%◌, map, flat_map, List, [], ◌∷◌, replicate, refl, Option, Some}
use Rattle.std.specs.List.{range_with_len}
use Rattle.pixel_translate.specs.declared.Area.{Area}
use Rattle.pixel_translate.specs.Pixel.{server_format}
use Rattle.encode_raw.specs.Raw.{raw}
use Rattle.encode_raw.specs.Reading.{◌>>=◌, Patch}
use Rattle.subrectangles.specs.Subrectangles.{rows_of, subrectangles}
use Rattle.encode_rre.specs.Rre.{rre, rre_of}
use Rattle.subrectangles.specs.Reading.{rre_at, subrectangles_at}

abbrev at_corner : ℕ → ℕ → Area
at_corner w h = record { x = 0; y = 0; w = w; h = h }

-- 4 by 4 of one colour
one_colour : rre server_format (at_corner 4 4) (replicate 16 0x112233)
    ≡ 0 ∷ 0 ∷ 0 ∷ 0 ∷ 0 ∷ 4 ∷ 0 ∷ 4 ∷ 0 ∷ 0 ∷ 0 ∷ 2 ∷ 0 ∷ 0 ∷ 0 ∷ 0 ∷ 0x33 ∷ 0x22 ∷ 0x11 ∷ 0x00 ∷ []
unfolding rows_of
one_colour = refl

-- 8 bytes either way
two_places : rre server_format (at_corner 2 1) (0x112233 ∷ 0x112233 ∷ [])
    ≡ 0 ∷ 0 ∷ 0 ∷ 0 ∷ 0 ∷ 2 ∷ 0 ∷ 1 ∷ 0 ∷ 0 ∷ 0 ∷ 0 ∷ 0x33 ∷ 0x22 ∷ 0x11 ∷ 0x00 ∷ 0x33 ∷ 0x22 ∷ 0x11 ∷ 0x00 ∷ []
unfolding rows_of
two_places = refl

-- four colours
four_colours : rre server_format (at_corner 2 2) (1 ∷ 2 ∷ 3 ∷ 4 ∷ []) ≡ raw server_format (at_corner 2 2) (1 ∷ 2 ∷ 3 ∷ 4 ∷ [])
unfolding rows_of
four_colours = refl

-- a column of another colour
column : rre server_format (at_corner 3 2) (1 ∷ 2 ∷ 1 ∷ 1 ∷ 2 ∷ 1 ∷ [])
    ≡ 0 ∷ 0 ∷ 0 ∷ 0 ∷ 0 ∷ 3 ∷ 0 ∷ 2 ∷ 0 ∷ 0 ∷ 0 ∷ 2 ∷ 0 ∷ 0 ∷ 0 ∷ 1 ∷ 1 ∷ 0 ∷ 0 ∷ 0 ∷ 2 ∷ 0 ∷ 0 ∷ 0 ∷ 0 ∷ 1 ∷ 0 ∷ 0 ∷ 0 ∷ 1 ∷ 0 ∷ 2 ∷ []
unfolding rows_of
column = refl

-- runs of one pixel that stand apart in one row, of other lengths below, and that come again
abbrev pub steps : List (List ℕ)
steps = (1 ∷ 2 ∷ 2 ∷ 1 ∷ 2 ∷ []) ∷ (1 ∷ 2 ∷ 2 ∷ 2 ∷ 2 ∷ []) ∷ (1 ∷ 2 ∷ 2 ∷ 1 ∷ 2 ∷ []) ∷ (1 ∷ 2 ∷ 2 ∷ 1 ∷ 2 ∷ []) ∷ []

in_order : subrectangles 1 steps
    ≡ record { x = 1; y = 0; w = 2; h = 1; pixel = 2 } ∷ record { x = 4; y = 0; w = 1; h = 1; pixel = 2 }
    ∷ record { x = 1; y = 1; w = 4; h = 1; pixel = 2 }
    ∷ record { x = 1; y = 2; w = 2; h = 2; pixel = 2 } ∷ record { x = 4; y = 2; w = 1; h = 2; pixel = 2 } ∷ []
in_order = refl

-- reading back the column
abbrev column_read : ℕ → ℕ → Option ℕ
column_read x y = do
  patch ← rre_at server_format (0 ∷ 0 ∷ 0 ∷ 1 ∷ 1 ∷ 0 ∷ 0 ∷ 0 ∷ 2 ∷ 0 ∷ 0 ∷ 0 ∷ 0 ∷ 1 ∷ 0 ∷ 0 ∷ 0 ∷ 1 ∷ 0 ∷ 2 ∷ [])
  Some (patch.0 x y)

column_inside : column_read 1 1 ≡ Some 2
unfolding subrectangles_at
column_inside = refl

column_beside : column_read 2 1 ≡ Some 1
unfolding subrectangles_at
column_beside = refl

-- ---- reading back what was coded, by a reader that knows nothing of the coding

abbrev pub pixels_of : ℕ → ℕ → Patch → List ℕ
pixels_of w h patch = flat_map (λ y. map (λ x. patch x y) (range_with_len 0 w)) (range_with_len 0 h)

abbrev pub read_back : ℕ → ℕ → List ℕ → Option (List ℕ × List ℕ)
read_back w h bytes = do
  patch ← rre_at server_format bytes
  Some (pixels_of w h patch.0, patch.1)

-- 9 by 8
abbrev pub chequered : List ℕ
chequered = pixels_of 9 8 (λ x y. (x * y / 4) % 3)

chequered_read : read_back 9 8 (rre_of server_format 9 8 chequered) ≡ Some (chequered, [])
unfolding rows_of subrectangles_at
chequered_read = refl
