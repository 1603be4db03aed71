-- The reading on what is kept alone: by single bytes, and by whole fronts of messages, numbers and texts.
use Rattle.std.specs.Prelude.{◌≡◌, ℕ, ℤ, ◌+◌, ◌<◌, ◌≤◌, Bool, ◌&&◌, bytes_eq, codes, ◌||◌, ◌==◌, nat_lt, if◌then◌else◌, List, [], ◌∷◌, ◌++◌, length, take, slice_index, unwrap_or, None, false, Result, Ok, Err}
use Rattle.std.specs.Option.{option_or}
use Rattle.std.specs.Int.{w32, cast_signed}
use Rattle.pixel_translate.specs.Pixel.{be16_at, be32_at}
use Rattle.messages.specs.declared.Encoding.TheVariants.{Raw}
use Rattle.messages.specs.declared.Input.TheVariants as input
use Rattle.messages.specs.declared.Item.{Item}
use Rattle.messages.specs.declared.Item.TheVariants as item
use Rattle.messages.specs.declared.Phase.{Phase}
use Rattle.messages.specs.declared.Phase.TheVariants as phase
use Rattle.messages.specs.declared.Fault.{Fault}
use Rattle.messages.specs.declared.heads.Head.{Head}
use Rattle.messages.specs.declared.heads.Head.TheVariants as head
use Rattle.messages.specs.Grammar.{encoding_of, is_copyrect, is_desktop_size, text_limit, after}
use Rattle.messages.specs.Reading.{meaning, message_meaning, encodings_meaning, text_meaning, Given, Unfinished, plain, encodings, cut_text, faulted, Rest}

-- 7.1.1: the bytes of a version that are no digits
abbrev pub has_form : List ℕ → Bool
has_form bytes = bytes_eq (take 4 bytes) (codes "RFB ") && (slice_index bytes 7 == 46) && (slice_index bytes 11 == 10)

-- ---- the front of a message: all of it, or up to its count or its length

-- 7.5: how many bytes the front of a message has, by its type
abbrev pub front_length : ℕ → ℕ
front_length kind =
    if kind == 0 then 20
    else (if kind == 2 then 4
    else (if kind == 3 then 10
    else (if kind == 4 then 8
    else (if kind == 5 then 6
    else (if kind == 6 then 8
    else 1)))))

-- 7.1 to 7.5: how many bytes come next, by where the conversation stands and by the first of them
abbrev pub head_length : Phase → ℕ → ℕ
head_length phase.Version first = 12
head_length (phase.Choice v) first = 1
head_length (phase.Init v) first = 1
head_length (phase.Open v) first = front_length first

abbrev pub head_meaning : Result Item Fault → Head
head_meaning (Ok i) = head.Item i
head_meaning (Err k) = head.Fault k

-- a list of no encodings, and a text of no bytes, are whole
abbrev pub encodings_head : ℕ → Head
encodings_head count = if count == 0 then head.Item (encodings_meaning []) else head.Encodings count

abbrev pub text_head : ℕ → Head
text_head long = if long == 0 then head.Item (text_meaning []) else head.Text long

abbrev pub message_head : List ℕ → Head
message_head bytes =
    let kind = slice_index bytes 0 in
    if kind == 2 then encodings_head (be16_at bytes 2)
    else (if kind == 6 then text_head (be32_at bytes 4)
    else head_meaning (message_meaning bytes))

-- what a whole front says
abbrev pub head_of : Phase → List ℕ → Head
head_of phase.Version bytes = head_meaning (meaning phase.Version bytes)
head_of (phase.Choice v) bytes = head_meaning (meaning (phase.Choice v) bytes)
head_of (phase.Init v) bytes = head_meaning (meaning (phase.Init v) bytes)
head_of (phase.Open v) bytes = message_head bytes

-- these bytes and so many of a piece behind them are a whole front, which says this
pub record IsHead (p : Phase) (partial piece : List ℕ) (said : Head) (used : ℕ) : Type 0 where
  pub whole : used + length partial ≡ head_length p (slice_index (partial ++ piece) 0)
  pub said_by : said ≡ head_of p (partial ++ take used piece)

-- ---- what bytes tell

-- the items that they add, and what is kept behind them
pub record Told : Type 0 where
  pub items : List Item
  pub rest : Rest

-- an unfinished message, and no item
abbrev pub keeps : Phase → Unfinished → Told
keeps p u = record { items = []; rest = record { phase = p; unfinished = u } }

-- the next message hasn't begun
abbrev pub fresh : Phase → Rest
fresh p = record { phase = p; unfinished = plain [] }

-- an item, and the next message hasn't begun
abbrev pub says : Phase → Item → Told
says p i = record { items = i ∷ []; rest = fresh (after p i) }

abbrev pub nothing_given : Given
nothing_given = record { first = None; copyrect = false; resize = false }

abbrev pub head_tells : Phase → Head → Told
head_tells p (head.Item i) = says p i
head_tells p (head.Fault k) = keeps p (faulted k)
head_tells p (head.Encodings count) = keeps p (encodings count 0 nothing_given [])
head_tells p (head.Text long) = keeps p (cut_text long [] 0)

abbrev pub plain_tells : Phase → List ℕ → Told
plain_tells p bytes =
    if nat_lt (length bytes) (head_length p (slice_index bytes 0)) then keeps p (plain bytes)
    else head_tells p (head_of p bytes)

-- 7.5.2: the number in four bytes
abbrev pub number_in : List ℕ → ℤ
number_in bytes = cast_signed w32 (be32_at bytes 0)

-- 7.5.2: one number more

abbrev pub with_number : Given → ℤ → Given
with_number given number = record { first = option_or given.first (encoding_of number); copyrect = given.copyrect || is_copyrect number; resize = given.resize || is_desktop_size number }

-- of `count` numbers `come` have come
abbrev pub numbers_tell : Phase → (count come : ℕ) → Given → Told
numbers_tell p count come given =
    if come == count then says p (item.Encodings (unwrap_or given.first Raw) given.copyrect given.resize)
    else keeps p (encodings count come given [])

-- the bytes of the next number
abbrev pub number_tells : Phase → (count come : ℕ) → Given → (number : List ℕ) → Told
number_tells p count come given bytes =
    if nat_lt (length bytes) 4 then keeps p (encodings count come given bytes)
    else numbers_tell p count (come + 1) (with_number given (number_in bytes))

-- 7.5.6: of the `long` bytes of a text `come` have come
abbrev pub text_tells : Phase → (long : ℕ) (text : List ℕ) (come : ℕ) → Told
text_tells p long kept come =
    if come == long then says p (item.Input (input.Text kept (nat_lt text_limit long)))
    else keeps p (cut_text long kept come)

abbrev pub byte_tells : Phase → Unfinished → ℕ → Told
byte_tells p (plain bytes) byte = plain_tells p (bytes ++ byte ∷ [])
byte_tells p (encodings count come given bytes) byte = number_tells p count come given (bytes ++ byte ∷ [])
byte_tells p (cut_text long kept come) byte = text_tells p long (take text_limit (kept ++ byte ∷ [])) (come + 1)
byte_tells p (faulted k) byte = keeps p (faulted k)

-- the same behind items
abbrev pub adds : List Item → Told → Told
adds items t = record { items = items ++ t.items; rest = t.rest }

-- and then what follows tells
abbrev pub then_tells : Told → (Rest → Told) → Told
then_tells t next = adds t.items (next t.rest)

-- what bytes tell behind what is kept
abbrev pub tells : Rest → List ℕ → Told
tells r [] = record { items = []; rest = r }
tells r (byte ∷ bytes) = then_tells (byte_tells r.phase r.unfinished byte) (λ next. tells next bytes)

-- a list or a text that begins isn't empty
abbrev pub IsBegun : Head → Type 0
IsBegun (head.Item i) = Unit {0}
IsBegun (head.Fault k) = Unit {0}
IsBegun (head.Encodings count) = 0 < count
IsBegun (head.Text long) = 0 < long

-- what is kept leaves room for a byte more
abbrev pub IsShort : Phase → Unfinished → Type 0
IsShort p (plain bytes) = length bytes < head_length p (slice_index bytes 0)
IsShort p (encodings count come given bytes) = (come < count) × (length bytes < 4)
IsShort p (cut_text long kept come) = (come < long) × (length kept ≤ text_limit)
IsShort p (faulted k) = Unit {0}
