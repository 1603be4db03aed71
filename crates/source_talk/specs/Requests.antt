-- What the mirror says to a source once the conversation is open: RFC 6143 section 7.5.
use Rattle.std.specs.Prelude.{ℕ, ℤ, pos, Bool, false, if◌then◌else◌, List, [], ◌∷◌, ◌++◌, length, flat_map}
use Rattle.pixel_translate.specs.Pixel.{be16, be32, s32, flag, format_bytes, server_format, area_bytes}
use Rattle.messages.specs.Grammar.{desktop_size}

-- 7.5.1: SetPixelFormat to the server's own format
abbrev pub format_message : List ℕ
format_message = 0 ∷ 0 ∷ 0 ∷ 0 ∷ format_bytes server_format

-- 7.5.2: CopyRect, Hextile, RRE, Raw and DesktopSize, the preferred first
abbrev pub packed : List ℤ
packed = pos 1 ∷ pos 5 ∷ pos 2 ∷ pos 0 ∷ desktop_size ∷ []

-- where Raw is preferred: CopyRect and DesktopSize besides
abbrev pub plain : List ℤ
plain = pos 0 ∷ pos 1 ∷ desktop_size ∷ []

abbrev pub listed_by : (raw : Bool) → List ℤ
listed_by raw = if raw then plain else packed

-- 7.5.2: SetEncodings
abbrev pub encodings_message : List ℤ → List ℕ
encodings_message numbers = 2 ∷ 0 ∷ be16 (length numbers) ++ flat_map s32 numbers

-- 7.5.3: FramebufferUpdateRequest for all of a picture
abbrev pub request_message : (incremental : Bool) → (width height : ℕ) → List ℕ
request_message incremental width height = 3 ∷ flag incremental ∷ area_bytes (record { x = 0; y = 0; w = width; h = height })

-- 7.5.4: KeyEvent
abbrev pub key_message : (down : Bool) → (key : ℕ) → List ℕ
key_message down key = 4 ∷ flag down ∷ 0 ∷ 0 ∷ be32 key

-- 7.5.5: PointerEvent
abbrev pub pointer_message : (mask x y : ℕ) → List ℕ
pointer_message mask x y = 5 ∷ mask ∷ be16 x ++ be16 y

-- 7.5.6: ClientCutText
abbrev pub text_message : List ℕ → List ℕ
text_message text = 6 ∷ 0 ∷ 0 ∷ 0 ∷ be32 (length text) ++ text

-- what is said first behind ServerInit
abbrev pub first_messages : (raw : Bool) → (width height : ℕ) → List ℕ
first_messages raw width height = format_message ++ encodings_message (listed_by raw) ++ request_message false width height
