-- What the bytes that are kept of a client's frame ask for.
use Rattle.std.specs.Prelude.{ℕ, ◌+◌, ◌%◌, Bool, ◌==◌, nat_lt, nat_le, if◌then◌else◌, List, [], ◌∷◌, length, drop, slice_index, bit_xor, Option, None, Some}
use Rattle.web_stream.specs.declared.fault.WebFault.{WebFault}
use Rattle.web_stream.specs.declared.fault.WebFault.TheVariants.{Length}
use Rattle.web_stream.specs.declared.next.Next.{Next}
use Rattle.web_stream.specs.declared.next.Next.TheVariants as variant
use Rattle.web_stream.specs.Frames.{is_control, extended_size, kept_size, key_at, payload_size, is_wrong_size}
use Rattle.web_stream.specs.Faults.{head_fault}

-- nothing yet, a data frame's payload by its key, its size and whether it is final, a pong, nothing, a close, or that all is over
pub data Asked : Type 0 where
  more : Asked
  payload : List ℕ → ℕ → Bool → Asked
  ping : List ℕ → Asked
  pong : Asked
  close : List ℕ → Asked
  fault : WebFault → Asked

abbrev pub asked_by : Next → Asked
asked_by variant.More = more
asked_by (variant.Data key size is_final) = payload key size is_final
asked_by (variant.Ping bytes) = ping bytes.items
asked_by variant.Pong = pong
asked_by (variant.Close bytes) = close bytes.items
asked_by (variant.Fault f) = fault f

-- 5.3: the bytes without their mask, where the first of them is byte i of the payload
abbrev pub unmasked : List ℕ → ℕ → List ℕ → List ℕ
unmasked key i [] = []
unmasked key i (b ∷ bs) = bit_xor b (slice_index key (i % 4)) ∷ unmasked key (i + 1) bs

-- the payload of a whole control frame, whose head has two bytes and a key
abbrev pub control_payload : List ℕ → List ℕ
control_payload bs = unmasked (key_at 2 bs) 0 (drop 6 bs)

-- 5.5.1 to 5.5.3: the opcodes are 8, 9 and 10
abbrev pub next_of_control : List ℕ → Asked
next_of_control bs =
    if slice_index bs 0 % 16 == 8 then close (control_payload bs)
    else if slice_index bs 0 % 16 == 9 then ping (control_payload bs) else pong

-- of the whole head of a data frame, whose key stands at its end
abbrev pub next_of_data : List ℕ → Asked
next_of_data bs =
    if is_wrong_size (slice_index bs 1) (payload_size bs) then fault Length
    else payload (key_at (2 + extended_size (slice_index bs 1)) bs) (payload_size bs) (nat_le 128 (slice_index bs 0))

abbrev pub next_of_whole : List ℕ → Asked
next_of_whole bs = if is_control (slice_index bs 0) then next_of_control bs else next_of_data bs

-- where the first two bytes have no fault
abbrev pub next_of_sound : List ℕ → Asked
next_of_sound bs = if nat_lt (length bs) (kept_size 4 (slice_index bs 0) (slice_index bs 1)) then more else next_of_whole bs

abbrev pub next_unless : Option WebFault → List ℕ → Asked
next_unless (Some f) bs = fault f
next_unless None bs = next_of_sound bs

-- within a message or between two
unfoldable pub next_of : Bool → List ℕ → Asked
next_of is_within bs =
    if nat_lt (length bs) 2 then more else next_unless (head_fault is_within (slice_index bs 0) (slice_index bs 1)) bs
