-- How a session spells numbers, bytes, colours and names.
use Rattle.std.specs.Prelude.{ℕ, ◌+◌, ◌/◌, ◌%◌, nat_lt, Bool, false, not, ◌||◌, ◌==◌, if◌then◌else◌, List, [], ◌∷◌, flat_map, length, get_or, codes, bytes_eq, neg_ℤ, ◌+ℤ◌}
use Rattle.std.specs.List.{list_all, list_any}
use Rattle.std.specs.Fmt.{signed_decimal}
use Rattle.region.specs.declared.Rect.{Rect}

-- a digit, in lower case
abbrev pub hex_digit : ℕ → ℕ
hex_digit n = if nat_lt n 10 then 48 + n else 87 + n

-- a byte is two digits
abbrev pub hex_byte : ℕ → List ℕ
hex_byte b = hex_digit (b / 16) ∷ hex_digit (b % 16) ∷ []

abbrev pub hex : List ℕ → List ℕ
hex bytes = flat_map hex_byte bytes

abbrev pub is_empty : {X : Type 0} → List X → Bool
is_empty xs = length xs == 0

-- HEX: `-` for no bytes
abbrev pub hex_word : List ℕ → List ℕ
hex_word bytes = if is_empty bytes then codes "-" else hex bytes

-- a colour's red, green and blue; what stands above them is no part of it
abbrev pub colour_bytes : ℕ → List ℕ
colour_bytes c = c / 0x1_0000 % 256 ∷ c / 256 % 256 ∷ c % 256 ∷ []

-- RRGGBB
abbrev pub colour_digits : ℕ → List ℕ
colour_digits c = hex (colour_bytes c)

-- whether two colours are the same, in these
abbrev pub same_colour : ℕ → ℕ → Bool
same_colour c d = c % 0x100_0000 == d % 0x100_0000

-- whether all are the first
abbrev pub are_one : List ℕ → Bool
are_one cs = list_all (λ d. same_colour d (get_or cs 0 0)) cs

-- PIXELS: one colour alone where all are that; `-` for none
abbrev pub pixels_word : List ℕ → List ℕ
pixels_word cs = if is_empty cs then codes "-" else (if are_one cs then colour_digits (get_or cs 0 0) else flat_map colour_digits cs)

-- words with a blank before each
abbrev pub spaced : List (List ℕ) → List ℕ
spaced ws = flat_map (λ w. 32 ∷ w) ws

-- X1 Y1 X2 Y2
abbrev pub corner_words : Rect → List (List ℕ)
corner_words r = signed_decimal r.x1 ∷ signed_decimal r.y1 ∷ signed_decimal r.x2 ∷ signed_decimal r.y2 ∷ []

-- W H
abbrev pub size_words : Rect → List (List ℕ)
size_words r = signed_decimal (r.x2 +ℤ neg_ℤ r.x1) ∷ signed_decimal (r.y2 +ℤ neg_ℤ r.y1) ∷ []

-- X Y W H
abbrev pub place_words : Rect → List (List ℕ)
place_words r = signed_decimal r.x1 ∷ signed_decimal r.y1 ∷ size_words r

-- a blank or a line feed
abbrev pub parts_words : ℕ → Bool
parts_words b = (b == 32) || (b == 10)

-- whether a script's line can say a name: it has no blank and no line feed, and isn't `-`
abbrev pub is_plain_name : List ℕ → Bool
is_plain_name name = if bytes_eq name (codes "-") then false else not (list_any parts_words name)

-- NAME: `-` for the empty one
abbrev pub name_word : List ℕ → List ℕ
name_word name = if is_empty name then codes "-" else name
