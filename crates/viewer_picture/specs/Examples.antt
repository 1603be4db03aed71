-- Worked examples, which compute.
use Rattle.std.specs.Prelude.{◌≡◌, ℕ, ℤ, pos, List, [], ◌∷◌, ◌++◌, map, option_map, codes, take, Option, None, Some, refl}
use Rattle.std.specs.List.{range_with_len}
use Rattle.pixel_translate.specs.declared.BitsPerPixel.TheVariants.{Eight}
use Rattle.pixel_translate.specs.declared.PixelFormat.{PixelFormat}
use Rattle.pixel_translate.specs.declared.Pixels.TheVariants.{TrueColour}
use Rattle.pixel_translate.specs.Pixel.{server_format, red_in, green_in, blue_in}
use Rattle.pixel_translate.specs.Examples.{F}
use Rattle.encode_raw.specs.Reading.{◌>>=◌, Shown, pixels_at}
use Rattle.subrectangles.specs.Reading.{subrectangles_at}
use Rattle.messages.specs.Grammar.{desktop_size}
use Rattle.messages.specs.declared.Version.TheVariants.{V33, V37, V38}
use Rattle.viewer_picture.specs.Messages.{rectangles_at, entries_at, messages_in, messages_at, nothing_mapped}
use Rattle.viewer_picture.specs.Opening.{security_at, result_at, init_at}

abbrev one_byte : PixelFormat
one_byte = record server_format { pixels = TrueColour Eight (red_in server_format.pixels) (green_in server_format.pixels) (blue_in server_format.pixels) }

abbrev blank : Shown
blank x y = None

-- what the first four places show, by the encodings that were listed
abbrev shows_by : List ℤ → List ℕ → Option (List (Option ℕ))
shows_by listed bytes = do
  d ← messages_at (record { agreed = record { width = 4; height = 1; format = one_byte; listed = listed }; shown = blank; colours = nothing_mapped }) bytes
  Some (map (λ x. option_map (λ dot. dot.pixel) (d.shown x 0)) (range_with_len 0 4))

abbrev shows : List ℕ → Option (List (Option ℕ))
shows bytes = shows_by (pos 1 ∷ pos 2 ∷ []) bytes

abbrev three_pixels : List ℕ
three_pixels = 0 ∷ 0 ∷ 0 ∷ 1 ∷ 0 ∷ 0 ∷ 0 ∷ 0 ∷ 0 ∷ 3 ∷ 0 ∷ 1 ∷ 0 ∷ 0 ∷ 0 ∷ 0 ∷ 1 ∷ 2 ∷ 3 ∷ []

in_raw : shows three_pixels ≡ Some (Some 1 ∷ Some 2 ∷ Some 3 ∷ None ∷ [])
unfolding pixels_at rectangles_at messages_in
in_raw = refl

-- a bell and a text, and then an update of two copies: the first moves all its places at once, the second copies what it left
abbrev bell_and_text : List ℕ
bell_and_text = 2 ∷ 3 ∷ 0 ∷ 0 ∷ 0 ∷ 0 ∷ 0 ∷ 0 ∷ 2 ∷ 0x68 ∷ 0x69 ∷ []

abbrev two_copies : List ℕ
two_copies = 0 ∷ 0 ∷ 0 ∷ 2
    ∷ 0 ∷ 1 ∷ 0 ∷ 0 ∷ 0 ∷ 2 ∷ 0 ∷ 1 ∷ 0 ∷ 0 ∷ 0 ∷ 1 ∷ 0 ∷ 0 ∷ 0 ∷ 0
    ∷ 0 ∷ 3 ∷ 0 ∷ 0 ∷ 0 ∷ 1 ∷ 0 ∷ 1 ∷ 0 ∷ 0 ∷ 0 ∷ 1 ∷ 0 ∷ 2 ∷ 0 ∷ 0 ∷ []

copied_in_turn : shows (three_pixels ++ bell_and_text ++ two_copies) ≡ Some (Some 1 ∷ Some 1 ∷ Some 2 ∷ Some 2 ∷ [])
unfolding pixels_at rectangles_at messages_in
copied_in_turn = refl

-- what is copied from a place that shows nothing shows nothing
nothing_copied : shows (two_copies ++ three_pixels) ≡ Some (Some 1 ∷ Some 2 ∷ Some 3 ∷ None ∷ [])
unfolding pixels_at rectangles_at messages_in
nothing_copied = refl

-- RRE whose subrectangles lie over one another
overlapping : shows (0 ∷ 0 ∷ 0 ∷ 1 ∷ 0 ∷ 0 ∷ 0 ∷ 0 ∷ 0 ∷ 4 ∷ 0 ∷ 1 ∷ 0 ∷ 0 ∷ 0 ∷ 2 ∷ 0 ∷ 0 ∷ 0 ∷ 2 ∷ 7
    ∷ 8 ∷ 0 ∷ 0 ∷ 0 ∷ 0 ∷ 0 ∷ 3 ∷ 0 ∷ 1
    ∷ 9 ∷ 0 ∷ 2 ∷ 0 ∷ 0 ∷ 0 ∷ 1 ∷ 0 ∷ 1 ∷ []) ≡ Some (Some 8 ∷ Some 8 ∷ Some 9 ∷ Some 7 ∷ [])
unfolding rectangles_at messages_in subrectangles_at
overlapping = refl

-- bytes that end too early, a message of no type, and a rectangle of an encoding that isn't known
cut_short : shows (take 18 three_pixels) ≡ None
unfolding pixels_at rectangles_at messages_in
cut_short = refl

no_type : shows (three_pixels ++ 9 ∷ []) ≡ None
unfolding pixels_at rectangles_at messages_in
no_type = refl

no_encoding : shows_by (pos 16 ∷ []) (0 ∷ 0 ∷ 0 ∷ 1 ∷ 0 ∷ 0 ∷ 0 ∷ 0 ∷ 0 ∷ 1 ∷ 0 ∷ 1 ∷ 0 ∷ 0 ∷ 0 ∷ 16 ∷ 0 ∷ []) ≡ None
unfolding rectangles_at messages_in
no_encoding = refl

-- rectangles that reach beyond the picture, a copy of what is beyond it, and encodings that weren't listed
too_wide : shows (0 ∷ 0 ∷ 0 ∷ 1 ∷ 0 ∷ 2 ∷ 0 ∷ 0 ∷ 0 ∷ 3 ∷ 0 ∷ 1 ∷ 0 ∷ 0 ∷ 0 ∷ 0 ∷ 1 ∷ 2 ∷ 3 ∷ []) ≡ None
unfolding pixels_at rectangles_at messages_in
too_wide = refl

too_high : shows (0 ∷ 0 ∷ 0 ∷ 1 ∷ 0 ∷ 0 ∷ 0 ∷ 1 ∷ 0 ∷ 3 ∷ 0 ∷ 1 ∷ 0 ∷ 0 ∷ 0 ∷ 0 ∷ 1 ∷ 2 ∷ 3 ∷ []) ≡ None
unfolding pixels_at rectangles_at messages_in
too_high = refl

copied_from_beyond : shows (0 ∷ 0 ∷ 0 ∷ 1 ∷ 0 ∷ 1 ∷ 0 ∷ 0 ∷ 0 ∷ 2 ∷ 0 ∷ 1 ∷ 0 ∷ 0 ∷ 0 ∷ 1 ∷ 0 ∷ 3 ∷ 0 ∷ 0 ∷ []) ≡ None
unfolding rectangles_at messages_in
copied_from_beyond = refl

copy_not_listed : shows_by (pos 2 ∷ []) (three_pixels ++ two_copies) ≡ None
unfolding pixels_at rectangles_at messages_in
copy_not_listed = refl

rre_not_listed : shows_by (pos 1 ∷ []) (0 ∷ 0 ∷ 0 ∷ 1 ∷ 0 ∷ 0 ∷ 0 ∷ 0 ∷ 0 ∷ 4 ∷ 0 ∷ 1 ∷ 0 ∷ 0 ∷ 0 ∷ 2 ∷ 0 ∷ 0 ∷ 0 ∷ 0 ∷ 7 ∷ []) ≡ None
unfolding rectangles_at messages_in
rre_not_listed = refl

raw_not_listed : shows_by [] three_pixels ≡ Some (Some 1 ∷ Some 2 ∷ Some 3 ∷ None ∷ [])
unfolding pixels_at rectangles_at messages_in
raw_not_listed = refl

-- two entries of the colour map, of which the second is set once more behind an update
abbrev maps : List ℕ → Option (List (Option (ℕ × ℕ × ℕ)))
maps bytes = do
  d ← messages_at (record { agreed = record { width = 4; height = 1; format = one_byte; listed = [] }; shown = blank; colours = nothing_mapped }) bytes
  Some (map d.colours (6 ∷ 7 ∷ 8 ∷ []))

mapped : maps (1 ∷ 0 ∷ 0 ∷ 7 ∷ 0 ∷ 2 ∷ 0 ∷ 1 ∷ 0 ∷ 2 ∷ 1 ∷ 0 ∷ 0 ∷ 4 ∷ 0 ∷ 5 ∷ 0 ∷ 6 ∷ three_pixels ++ 1 ∷ 0 ∷ 0 ∷ 8 ∷ 0 ∷ 1 ∷ 0 ∷ 7 ∷ 0 ∷ 8 ∷ 0 ∷ 9 ∷ [])
    ≡ Some (None ∷ Some (1, 2, 256) ∷ Some (7, 8, 9) ∷ [])
unfolding pixels_at rectangles_at entries_at messages_in
mapped = refl

map_cut_short : maps (1 ∷ 0 ∷ 0 ∷ 7 ∷ 0 ∷ 2 ∷ 0 ∷ 1 ∷ 0 ∷ 2 ∷ 1 ∷ 0 ∷ []) ≡ None
unfolding entries_at messages_in
map_cut_short = refl

-- a new size, behind which nothing is shown; what was beyond the picture before isn't now
abbrev new_size : List ℕ
new_size = 0 ∷ 0 ∷ 0 ∷ 1 ∷ 0 ∷ 0 ∷ 0 ∷ 0 ∷ 0 ∷ 9 ∷ 0 ∷ 2 ∷ 0xff ∷ 0xff ∷ 0xff ∷ 0x21 ∷ []

abbrev fifth_pixel : List ℕ
fifth_pixel = 0 ∷ 0 ∷ 0 ∷ 1 ∷ 0 ∷ 3 ∷ 0 ∷ 0 ∷ 0 ∷ 2 ∷ 0 ∷ 1 ∷ 0 ∷ 0 ∷ 0 ∷ 0 ∷ 7 ∷ 8 ∷ []

resized : shows_by (desktop_size ∷ []) (three_pixels ++ new_size ++ fifth_pixel) ≡ Some (None ∷ None ∷ None ∷ Some 7 ∷ [])
unfolding pixels_at rectangles_at messages_in
resized = refl

size_not_listed : shows (three_pixels ++ new_size) ≡ None
unfolding pixels_at rectangles_at messages_in
size_not_listed = refl

-- the opening
security_of_38 : security_at V38 (1 ∷ 1 ∷ 7 ∷ []) ≡ Some (7 ∷ [])
security_of_38 = refl

security_of_33 : security_at V33 (0 ∷ 0 ∷ 0 ∷ 1 ∷ 7 ∷ []) ≡ Some (7 ∷ [])
security_of_33 = refl

another_security : security_at V37 (1 ∷ 2 ∷ []) ≡ None
another_security = refl

no_result_in_37 : result_at V37 (7 ∷ []) ≡ Some (7 ∷ [])
no_result_in_37 = refl

told : init_at (0 ∷ 4 ∷ 0 ∷ 3 ∷ F ++ 0 ∷ 0 ∷ 0 ∷ 4 ∷ codes "demo") ≡ Some (record { width = 4; height = 3; format = server_format }, [])
told = refl
