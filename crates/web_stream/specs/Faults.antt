-- What a client may not do, and the code of the close that answers it.
use Rattle.std.specs.Prelude.{ℕ, ◌/◌, ◌%◌, Bool, not, ◌||◌, ◌==◌, nat_lt, if◌then◌else◌, List, [], ◌∷◌, length, drop, slice_index, Option, None, Some}
use Rattle.std.specs.Int.{w16, from_be_bytes, is_in_range}
use Rattle.std.specs.Str.{is_utf8}
use Rattle.web_stream.specs.declared.fault.WebFault.{WebFault}
use Rattle.web_stream.specs.declared.fault.WebFault.TheVariants.{Reserved, Unmasked, Control, Fragment, Text, CloseCode, CloseReason}
use Rattle.web_stream.specs.Frames.{is_control}

-- 7.4.1: what can't be accepted, what isn't the text that it should be, and what breaks the protocol
abbrev pub close_code : WebFault → ℕ
close_code Text = 1003
close_code CloseReason = 1007
close_code _ = 1002

-- 5.2: a reserved bit is set, or the opcode is one of 3 to 7 and 11 to 15
abbrev pub is_reserved : ℕ → Bool
is_reserved first = nat_lt 0 (first / 16 % 8) || nat_lt 2 (first % 8)

-- 5.5: a control frame is final and has 125 bytes at most
abbrev pub control_fault : ℕ → ℕ → Option WebFault
control_fault first second = if nat_lt first 128 || nat_lt 125 (second % 128) then Some Control else None

-- 5.4: a continuation goes on with a message, and no other data frame comes within one
abbrev pub data_fault : Bool → ℕ → Option WebFault
data_fault is_within first =
    if first % 16 == 1 then Some Text
    else if first % 16 == 0 then (if is_within then None else Some Fragment)
    else (if is_within then Some Fragment else None)

-- of a frame's first two bytes
abbrev pub head_fault : Bool → ℕ → ℕ → Option WebFault
head_fault is_within first second =
    if is_reserved first then Some Reserved
    else if nat_lt second 128 then Some Unmasked
    else if is_control first then control_fault first second else data_fault is_within first

-- 7.4: the codes that a close may have
abbrev pub is_close_code : ℕ → Bool
is_close_code n = is_in_range 1000 1003 n || is_in_range 1007 1014 n || is_in_range 3000 4999 n

-- 5.5.1: a close says nothing, or a code and then a reason in UTF-8
abbrev pub reason_fault : List ℕ → Option WebFault
reason_fault reason = if is_utf8 reason then None else Some CloseReason

abbrev pub has_close_code : List ℕ → Bool
has_close_code bs = is_close_code (from_be_bytes w16 (slice_index bs 0 ∷ slice_index bs 1 ∷ []))

abbrev pub close_fault : List ℕ → Option WebFault
close_fault bs =
    if length bs == 0 then None
    else if nat_lt (length bs) 2 || not (has_close_code bs) then Some CloseCode else reason_fault (drop 2 bs)
