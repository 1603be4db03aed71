-- Worked examples, which compute.
use Rattle.std.specs.Prelude.{◌≡◌, ℕ, ◌*◌, ◌/◌, ◌%◌, List, [], ◌∷◌, ◌++◌, map, flat_map, replicate, refl, Option, Some, None}
use Rattle.pixel_translate.specs.declared.Area.{Area}
use Rattle.pixel_translate.specs.Pixel.{server_format}
use Rattle.encode_raw.specs.Reading.{◌>>=◌, Patch, pixels_at}
use Rattle.subrectangles.specs.Subrectangles.{rows_of}
use Rattle.std.specs.List.{range_with_len}
use Rattle.encode_hextile.specs.Hextile.{hextile, hextile_of}
use Rattle.encode_hextile.specs.Reading.{hextile_at, subrectangles_at}

abbrev at_corner : ℕ → ℕ → Area
at_corner w h = record { x = 0; y = 0; w = w; h = h }

-- 17 by 1 of one colour
one_colour : hextile_of server_format 17 1 (replicate 17 0x112233) ≡ 0x02 ∷ 0x33 ∷ 0x22 ∷ 0x11 ∷ 0x00 ∷ 0x00 ∷ []
unfolding rows_of
one_colour = refl

-- 17 by 1 of one colour, as an update sends it
as_sent : hextile server_format (at_corner 17 1) (replicate 17 0x112233) ≡ 0 ∷ 0 ∷ 0 ∷ 0 ∷ 0 ∷ 0x11 ∷ 0 ∷ 1 ∷ 0 ∷ 0 ∷ 0 ∷ 5 ∷ 0x02 ∷ 0x33 ∷ 0x22 ∷ 0x11 ∷ 0x00 ∷ 0x00 ∷ []
unfolding rows_of
as_sent = refl

-- 34 by 1, with sixteen colours in the middle tile
sixteen : List ℕ
sixteen = 0 ∷ 1 ∷ 2 ∷ 3 ∷ 4 ∷ 5 ∷ 6 ∷ 7 ∷ 8 ∷ 9 ∷ 10 ∷ 11 ∷ 12 ∷ 13 ∷ 14 ∷ 15 ∷ []

sixteen_bytes : List ℕ
sixteen_bytes = 0 ∷ 0 ∷ 0 ∷ 0 ∷ 1 ∷ 0 ∷ 0 ∷ 0 ∷ 2 ∷ 0 ∷ 0 ∷ 0 ∷ 3 ∷ 0 ∷ 0 ∷ 0 ∷ 4 ∷ 0 ∷ 0 ∷ 0 ∷ 5 ∷ 0 ∷ 0 ∷ 0 ∷ 6 ∷ 0 ∷ 0 ∷ 0 ∷ 7 ∷ 0 ∷ 0 ∷ 0
    ∷ 8 ∷ 0 ∷ 0 ∷ 0 ∷ 9 ∷ 0 ∷ 0 ∷ 0 ∷ 10 ∷ 0 ∷ 0 ∷ 0 ∷ 11 ∷ 0 ∷ 0 ∷ 0 ∷ 12 ∷ 0 ∷ 0 ∷ 0 ∷ 13 ∷ 0 ∷ 0 ∷ 0 ∷ 14 ∷ 0 ∷ 0 ∷ 0 ∷ 15 ∷ 0 ∷ 0 ∷ 0 ∷ []

raw_between : hextile_of server_format 34 1 (replicate 16 0x112233 ++ sixteen ++ replicate 2 0x112233)
    ≡ 0x02 ∷ 0x33 ∷ 0x22 ∷ 0x11 ∷ 0x00 ∷ 0x01 ∷ sixteen_bytes ++ 0x02 ∷ 0x33 ∷ 0x22 ∷ 0x11 ∷ 0x00 ∷ []
unfolding rows_of sixteen sixteen_bytes
raw_between = refl

-- 1 by 1
one_place : hextile_of server_format 1 1 (0x112233 ∷ []) ≡ 0x01 ∷ 0x33 ∷ 0x22 ∷ 0x11 ∷ 0x00 ∷ []
unfolding rows_of
one_place = refl

-- 48 by 1 of colour 1, but 2 at x = 0, 16, 32 and 3 at x = 17
abbrev pub three_tiles : List ℕ
three_tiles = 2 ∷ replicate 15 1 ++ 2 ∷ 3 ∷ replicate 14 1 ++ 2 ∷ replicate 15 1

abbrev pub three_tiles_bytes : List ℕ
three_tiles_bytes = 0x0e ∷ 1 ∷ 0 ∷ 0 ∷ 0 ∷ 2 ∷ 0 ∷ 0 ∷ 0 ∷ 1 ∷ 0x00 ∷ 0x00
    ∷ 0x18 ∷ 2 ∷ 2 ∷ 0 ∷ 0 ∷ 0 ∷ 0x00 ∷ 0x00 ∷ 3 ∷ 0 ∷ 0 ∷ 0 ∷ 0x10 ∷ 0x00
    ∷ 0x0c ∷ 2 ∷ 0 ∷ 0 ∷ 0 ∷ 1 ∷ 0x00 ∷ 0x00 ∷ []

coloured_between : hextile_of server_format 48 1 three_tiles ≡ three_tiles_bytes
unfolding rows_of
coloured_between = refl

-- ---- reading back, by a reader that knows nothing of the encoder

-- the pixels of a patch, row by row
abbrev pub pixels_of : ℕ → ℕ → Patch → List ℕ
pixels_of w h patch = flat_map (λ y. map (λ x. patch x y) (range_with_len 0 w)) (range_with_len 0 h)

abbrev pub read_back : ℕ → ℕ → List ℕ → Option (List ℕ × List ℕ)
read_back w h bytes = do
  patch ← hextile_at server_format w h bytes
  Some (pixels_of w h patch.0, patch.1)

three_tiles_read : read_back 48 1 three_tiles_bytes ≡ Some (three_tiles, [])
unfolding rows_of pixels_at subrectangles_at
three_tiles_read = refl

-- a reader must not carry a foreground over a coloured tile: here the third tile specifies none
carried_foreground : read_back 33 1 (0x0e ∷ 1 ∷ 0 ∷ 0 ∷ 0 ∷ 2 ∷ 0 ∷ 0 ∷ 0 ∷ 1 ∷ 0x00 ∷ 0x00
    ∷ 0x18 ∷ 1 ∷ 3 ∷ 0 ∷ 0 ∷ 0 ∷ 0x10 ∷ 0x00
    ∷ 0x08 ∷ 1 ∷ 0x00 ∷ 0x00 ∷ []) ≡ None
unfolding rows_of pixels_at subrectangles_at
carried_foreground = refl

-- 20 by 18, four tiles, pixels x*y mod 3
abbrev pub big : List ℕ
big = flat_map (λ y. map (λ x. (x * y / 4) % 3) (range_with_len 0 20)) (range_with_len 0 18)

big_read : read_back 20 18 (hextile_of server_format 20 18 big) ≡ Some (big, [])
unfolding rows_of pixels_at subrectangles_at
big_read = refl
