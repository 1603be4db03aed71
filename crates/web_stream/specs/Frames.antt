-- The first bytes of a frame: RFC 6455, section 5.2.
use Rattle.std.specs.Prelude.{ℕ, ◌+◌, ◌%◌, ◌^◌, Bool, false, ◌||◌, ◌==◌, nat_lt, nat_le, if◌then◌else◌, List, [], ◌∷◌, slice_index}
use Rattle.std.specs.Int.{w16, w64, from_be_bytes}

-- 5.5: the opcodes of control frames are 8 and more
abbrev pub is_control : ℕ → Bool
is_control first = nat_le 8 (first % 16)

-- how many bytes of extended payload length follow the second byte
abbrev pub extended_size : ℕ → ℕ
extended_size second = if second % 128 == 126 then 2 else if second % 128 == 127 then 8 else 0

-- how many bytes of payload are kept: all of a control frame, and none of a data frame
abbrev pub control_size : ℕ → ℕ → ℕ
control_size first second = if is_control first then second % 128 else 0

-- how many bytes are kept of a frame whose masking key has so many bytes: 4 at a client's, 0 at a server's (5.1)
abbrev pub kept_size : ℕ → ℕ → ℕ → ℕ
kept_size mask first second = 2 + mask + extended_size second + control_size first second

-- 5.3: the masking key that begins at a place
abbrev pub key_at : ℕ → List ℕ → List ℕ
key_at i bs = slice_index bs i ∷ slice_index bs (i + 1) ∷ slice_index bs (i + 2) ∷ slice_index bs (i + 3) ∷ []

-- the extended payload length of two bytes, and of eight
abbrev pub short_size : List ℕ → ℕ
short_size bs = from_be_bytes w16 (slice_index bs 2 ∷ slice_index bs 3 ∷ [])

abbrev pub long_size : List ℕ → ℕ
long_size bs =
    from_be_bytes w64 (slice_index bs 2 ∷ slice_index bs 3 ∷ slice_index bs 4 ∷ slice_index bs 5
    ∷ slice_index bs 6 ∷ slice_index bs 7 ∷ slice_index bs 8 ∷ slice_index bs 9 ∷ [])

-- how many bytes of payload a head says
abbrev pub payload_size : List ℕ → ℕ
payload_size bs =
    if slice_index bs 1 % 128 == 126 then short_size bs
    else if slice_index bs 1 % 128 == 127 then long_size bs else slice_index bs 1 % 128

-- a length is said in its shortest form, and is below 2^63
abbrev pub is_wrong_size : ℕ → ℕ → Bool
is_wrong_size second size =
    if second % 128 == 126 then nat_lt size 126
    else if second % 128 == 127 then nat_lt size 65536 || nat_le (2 ^ 63) size else false
