-- The reading of a viewer's bytes from left to right, and what is kept of a message that hasn't ended.
use Rattle.std.specs.Prelude.{◌≡◌, ℕ, ℤ, ◌+◌, ◌*◌, ◌/◌, ◌<◌, ◌^◌, Bool, ◌&&◌, ◌==◌, nat_lt, nat_le, if◌then◌else◌, List, [], ◌∷◌, ◌++◌, length, take, drop, All, fold, bytes_eq, slice_index, unwrap_or, true, false, Option, None, Some, is_none, Result, Ok, Err}
use Rattle.std.specs.List.{list_all}
use Rattle.std.specs.Char.{is_ascii_digit}
use Rattle.std.specs.Int.{w32, from_be_bytes, cast_signed}
use Rattle.pixel_translate.specs.declared.PixelFormat.{PixelFormat}
use Rattle.pixel_translate.specs.declared.FormatFault.{FormatFault}
use Rattle.pixel_translate.specs.declared.FormatFault.TheVariants as format_fault
use Rattle.pixel_translate.specs.Pixel.{be16_at, be32_at, is_flag_set, format_of}
use Rattle.messages.specs.declared.Encoding.{Encoding}
use Rattle.messages.specs.declared.Encoding.TheVariants.{Raw}
use Rattle.messages.specs.declared.Input.TheVariants as input
use Rattle.messages.specs.declared.Item.{Item}
use Rattle.messages.specs.declared.Item.TheVariants as item
use Rattle.messages.specs.declared.Phase.{Phase}
use Rattle.messages.specs.declared.Phase.TheVariants as phase
use Rattle.messages.specs.declared.Fault.{Fault}
use Rattle.messages.specs.declared.Fault.TheVariants as fault
use Rattle.messages.specs.Grammar.{version_text, version_of, first_encoding, lists_copyrect, lists_desktop_size, text_limit, after, End, waiting, faulty, Stream}

-- 7.5: how many bytes a message has, by its type and by the count or the length in it
abbrev pub length_by : (kind count long : ℕ) → ℕ
length_by kind count long =
    if kind == 0 then 20
    else (if kind == 2 then 4 + 4 * count
    else (if kind == 3 then 10
    else (if kind == 4 then 8
    else (if kind == 5 then 6
    else (if kind == 6 then 8 + long
    else 1)))))

-- 7.5: the same, as far as the bytes so far tell. A byte that hasn't come counts as 0.
abbrev pub message_length : List ℕ → ℕ
message_length bytes = length_by (slice_index bytes 0) (be16_at bytes 2) (be32_at bytes 4)

-- 7.1 to 7.5: how many bytes are read at once, by where the conversation stands
abbrev pub wanted : Phase → List ℕ → ℕ
wanted phase.Version bytes = 12
wanted (phase.Choice v) bytes = 1
wanted (phase.Init v) bytes = 1
wanted (phase.Open v) bytes = message_length bytes

-- 7.1.1: the digits of a version's two numbers
abbrev pub major_of : List ℕ → List ℕ
major_of bytes = take 3 (drop 4 bytes)

abbrev pub minor_of : List ℕ → List ℕ
minor_of bytes = take 3 (drop 8 bytes)

abbrev pub is_version : List ℕ → Bool
is_version bytes = bytes_eq bytes (version_text (major_of bytes) (minor_of bytes)) && list_all is_ascii_digit (major_of bytes) && list_all is_ascii_digit (minor_of bytes)

-- 7.5.1: a format, or what is wrong with it
abbrev pub format_meaning : Result PixelFormat FormatFault → Result Item Fault
format_meaning (Ok f) = Ok (item.Format f)
format_meaning (Err format_fault.BadBitsPerPixel) = Err fault.BadBitsPerPixel
format_meaning (Err format_fault.ColourMapUnsupported) = Err fault.ColourMapUnsupported

-- 7.5.2: the numbers of encodings
abbrev pub numbers_of : List ℕ → List ℤ
numbers_of (a ∷ b ∷ c ∷ d ∷ bytes) = cast_signed w32 (from_be_bytes w32 (a ∷ b ∷ c ∷ d ∷ [])) ∷ numbers_of bytes
numbers_of _ = []

abbrev pub encodings_meaning : List ℤ → Item
encodings_meaning numbers = item.Encodings (unwrap_or (first_encoding numbers) Raw) (lists_copyrect numbers) (lists_desktop_size numbers)

-- 7.5.6: a text, of which the first bytes are kept
abbrev pub text_meaning : List ℕ → Item
text_meaning text = item.Input (input.Text (take text_limit text) (nat_lt text_limit (length text)))

-- 7.5.3
abbrev pub request_in : List ℕ → Item
request_in bytes = item.Request (is_flag_set (slice_index bytes 1)) (record { x = be16_at bytes 2; y = be16_at bytes 4; w = be16_at bytes 6; h = be16_at bytes 8 })

-- 7.5.4
abbrev pub key_in : List ℕ → Item
key_in bytes = item.Input (input.Key (is_flag_set (slice_index bytes 1)) (be32_at bytes 4))

-- 7.5.5
abbrev pub pointer_in : List ℕ → Item
pointer_in bytes = item.Input (input.Pointer (slice_index bytes 1) (be16_at bytes 2) (be16_at bytes 4))

-- 7.5: what a whole message says
abbrev pub message_meaning : List ℕ → Result Item Fault
message_meaning bytes =
    let kind = slice_index bytes 0 in
    if kind == 0 then format_meaning (format_of (drop 4 bytes))
    else (if kind == 2 then Ok (encodings_meaning (numbers_of (drop 4 bytes)))
    else (if kind == 3 then Ok (request_in bytes)
    else (if kind == 4 then Ok (key_in bytes)
    else (if kind == 5 then Ok (pointer_in bytes)
    else (if kind == 6 then Ok (text_meaning (drop 8 bytes))
    else Err (fault.UnknownMessage kind))))))

-- 7.1 to 7.5: what bytes say that are whole
abbrev pub meaning : Phase → List ℕ → Result Item Fault
meaning phase.Version bytes = if is_version bytes then Ok (item.Version (version_of (major_of bytes) (minor_of bytes))) else Err fault.BadVersion
meaning (phase.Choice v) bytes = if slice_index bytes 0 == 1 then Ok item.Choice else Err fault.BadSecurityType
meaning (phase.Init v) bytes = Ok (item.Init (is_flag_set (slice_index bytes 0)))
meaning (phase.Open v) bytes = message_meaning bytes

-- what has been read: the items, where the conversation stands, the bytes of an unfinished message, and how it ends
pub record Conversation : Type 0 where
  pub items : List Item
  pub phase : Phase
  pub unfinished : List ℕ
  pub end : End

abbrev pub nothing_heard : Conversation
nothing_heard = record { items = []; phase = phase.Version; unfinished = []; end = waiting }

abbrev pub with_meaning : Conversation → Result Item Fault → Conversation
with_meaning h (Ok i) = record { items = h.items ++ i ∷ []; phase = after h.phase i; unfinished = []; end = waiting }
with_meaning h (Err k) = record { items = h.items; phase = h.phase; unfinished = []; end = faulty k }

-- the unfinished message is these bytes now
abbrev pub with_unfinished : Conversation → List ℕ → Conversation
with_unfinished h bytes =
    if nat_lt (length bytes) (wanted h.phase bytes) then record h { unfinished = bytes }
    else with_meaning h (meaning h.phase bytes)

-- one byte more. Behind a fault nothing is read.
abbrev pub hear_byte : Conversation → ℕ → Conversation
hear_byte h byte = elim h.end [ waiting ↦ with_unfinished h (h.unfinished ++ byte ∷ []) | faulty k ↦ h ]

abbrev pub hear : Conversation → List ℕ → Conversation
hear h bytes = fold hear_byte h bytes

abbrev pub heard : List ℕ → Conversation
heard bytes = hear nothing_heard bytes

-- ---- what is kept

-- what the encodings so far gave
pub record Given : Type 0 where
  pub first : Option Encoding
  pub copyrect : Bool
  pub resize : Bool

-- the unfinished message: its bytes; of a SetEncodings whose count has come, the count, how many numbers have come, what
-- they gave and the bytes of the next one; of a ClientCutText whose length has come, the length, what is kept of the text
-- and how many of its bytes have come; or a fault
pub data Unfinished : Type 0 where
  plain : List ℕ → Unfinished
  encodings : ℕ → ℕ → Given → List ℕ → Unfinished
  cut_text : ℕ → List ℕ → ℕ → Unfinished
  faulted : Fault → Unfinished

abbrev pub unfinished_encodings : List ℕ → List ℕ → Unfinished
unfinished_encodings bytes more =
    let come = length more / 4 in
    encodings (be16_at bytes 2) come (record { first = first_encoding (numbers_of more); copyrect = lists_copyrect (numbers_of more); resize = lists_desktop_size (numbers_of more) }) (drop (4 * come) more)

abbrev pub unfinished_message : List ℕ → Unfinished
unfinished_message bytes =
    if (slice_index bytes 0 == 2) && nat_le 4 (length bytes) then unfinished_encodings bytes (drop 4 bytes)
    else (if (slice_index bytes 0 == 6) && nat_le 8 (length bytes) then cut_text (be32_at bytes 4) (take text_limit (drop 8 bytes)) (length (drop 8 bytes))
    else plain bytes)

abbrev pub unfinished_of : Phase → End → List ℕ → Unfinished
unfinished_of p (faulty k) bytes = faulted k
unfinished_of (phase.Open v) waiting bytes = unfinished_message bytes
unfinished_of p waiting bytes = plain bytes

-- where the conversation stands, and what is kept of the unfinished message
pub record Rest : Type 0 where
  pub phase : Phase
  pub unfinished : Unfinished

abbrev pub rest_of : Conversation → Rest
rest_of h = record { phase = h.phase; unfinished = unfinished_of h.phase h.end h.unfinished }

abbrev pub rest : List ℕ → Rest
rest bytes = rest_of (heard bytes)

-- the fault that is kept
abbrev pub fault_in : Unfinished → Option Fault
fault_in (plain bytes) = None
fault_in (encodings count come given bytes) = None
fault_in (cut_text long text come) = None
fault_in (faulted k) = Some k

abbrev pub fault_in_rest : Rest → Option Fault
fault_in_rest r = fault_in r.unfinished

abbrev pub is_open_phase : Phase → Bool
is_open_phase (phase.Open v) = true
is_open_phase _ = false

-- 7.3.2: the ServerInit has been earned, and there is no fault
abbrev pub is_open_rest : Rest → Bool
is_open_rest r = is_none (fault_in_rest r) && is_open_phase r.phase

-- ---- what a piece adds

abbrev pub fault_of : End → Option Fault
fault_of waiting = None
fault_of (faulty k) = Some k

-- the items that a piece adds to what was heard before it
abbrev pub new_items : List ℕ → List ℕ → List Item
new_items before piece = drop (length (heard before).items) (heard (before ++ piece)).items

-- ---- laws

abbrev pub IsBytes : List ℕ → Type 0
IsBytes bytes = All (λ b. b < 2 ^ 8) bytes

-- bytes are a stream of just these items, with just this end
abbrev pub ReadsTheStream : Type 0
ReadsTheStream = (bytes : List ℕ) → IsBytes bytes → Stream phase.Version bytes (heard bytes).items (heard bytes).end
    × ((items : List Item) (end : End) → Stream phase.Version bytes items end → (items ≡ (heard bytes).items) × (end ≡ (heard bytes).end))

-- a piece read behind others is their whole read
abbrev pub ReadsInPieces : Type 0
ReadsInPieces = (s t : List ℕ) → heard (s ++ t) ≡ hear (heard s) t

-- what is kept tells all that a further piece adds
abbrev pub KeepsEnough : Type 0
KeepsEnough = (s r t : List ℕ) → rest s ≡ rest r → (rest (s ++ t) ≡ rest (r ++ t))
    × ((added : List Item) → (heard (s ++ t)).items ≡ (heard s).items ++ added → (heard (r ++ t)).items ≡ (heard r).items ++ added)

-- what is kept tells the fault
abbrev pub KeepsTheFault : Type 0
KeepsTheFault = (bytes : List ℕ) → fault_in_rest (rest bytes) ≡ fault_of (heard bytes).end
