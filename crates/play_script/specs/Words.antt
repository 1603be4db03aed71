-- How a script's bytes spell lines, words, numbers and bytes.
use Rattle.std.specs.Prelude.{ℕ, ◌+◌, ◌*◌, ◌/◌, ◌%◌, ◌^◌, nat_le, Bool, true, false, not, ◌&&◌, ◌==◌, if◌then◌else◌, List, [], ◌∷◌, length, get_or, take, drop, map, codes, bytes_eq, Option, Some, None, option_map, ℤ, pos, neg_ℤ}
use Rattle.std.specs.List.{list_all, range_with_len, onto_first}
use Rattle.std.specs.Char.{is_digit, digit_value}

abbrev pub next_part : Bool → ℕ → List (List ℕ) → List (List ℕ)
next_part true b parts = [] ∷ parts
next_part false b parts = onto_first b parts

-- the parts between the separators, one more than there are separators
abbrev pub parts : ℕ → List ℕ → List (List ℕ)
parts separator [] = [] ∷ []
parts separator (b ∷ bs) = next_part (b == separator) b (parts separator bs)

-- Line feeds end lines, and the last may lack it: so behind a last line feed stands one empty line more, which is skipped.
abbrev pub lines_of : List ℕ → List (List ℕ)
lines_of script = parts 10 script

-- Single blanks separate words.
abbrev pub words_of : List ℕ → List (List ℕ)
words_of line = parts 32 line

-- the word with a number, from 0 on
abbrev pub word : List (List ℕ) → ℕ → List ℕ
word words n = get_or words n []

-- the number that digits spell in a base: each digit counts the base to the power of how many stand behind it
abbrev pub value_in : ℕ → List ℕ → ℕ
value_in base [] = 0
value_in base (d ∷ ds) = digit_value d * base ^ length ds + value_in base ds

abbrev pub is_empty : List ℕ → Bool
is_empty w = length w == 0

-- some digits of a base, in lower or upper case
abbrev pub are_digits : ℕ → List ℕ → Bool
are_digits base w = not (is_empty w) && list_all (λ d. is_digit d base) w

-- a decimal number, which may have leading zeros, of at most limit
abbrev pub number_up_to : ℕ → List ℕ → Option ℕ
number_up_to limit w = if are_digits 10 w && nat_le (value_in 10 w) limit then Some (value_in 10 w) else None

-- numbers are at most 2 ^ 31 - 1
abbrev pub number_limit : ℕ
number_limit = 0x7fff_ffff

abbrev pub number : List ℕ → Option ℕ
number w = number_up_to number_limit w

-- a number that may have a leading `-`
abbrev pub signed : List ℕ → Option ℤ
signed [] = None
signed (b ∷ bs) = if b == 45 then option_map (λ n. neg_ℤ (pos n)) (number bs) else option_map (λ n. pos n) (number (b ∷ bs))

-- a viewer's number is a u64
abbrev pub viewer_number : List ℕ → Option ℕ
viewer_number w = number_up_to 0xffff_ffff_ffff_ffff w

-- the group with a number, of groups of so many digits
abbrev pub group : ℕ → List ℕ → ℕ → List ℕ
group size w n = take size (drop (size * n) w)

abbrev pub is_groups : ℕ → List ℕ → Bool
is_groups size w = are_digits 16 w && length w % size == 0

-- one number for each group of hexadecimal digits; `-` for none
abbrev pub hex_numbers : ℕ → List ℕ → Option (List ℕ)
hex_numbers size w =
    if bytes_eq w (codes "-") then Some []
    else (if is_groups size w then Some (map (λ n. value_in 16 (group size w n)) (range_with_len 0 (length w / size))) else None)

-- HEX: a byte is two digits
abbrev pub hex_bytes : List ℕ → Option (List ℕ)
hex_bytes w = hex_numbers 2 w

-- PIXELS: a colour is six digits
abbrev pub hex_colours : List ℕ → Option (List ℕ)
hex_colours w = hex_numbers 6 w
