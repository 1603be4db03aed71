-- What waits to be written to a source.
use Rattle.std.specs.Prelude.{◌≡◌, ℕ, ◌+◌, ◌-◌, ◌≤◌, ◌==◌, ◌^◌, nat_le, nat_lt, Bool, false, if◌then◌else◌, min, List, [], ◌++◌, length, take, drop, Option, None, Some, IfSome}
use Rattle.messages.specs.declared.Input.{Input}
use Rattle.messages.specs.declared.Input.TheVariants as input
use Rattle.source_talk.specs.Requests.{key_message, pointer_message, text_message}

-- The bytes that wait, the buttons of a pointer that stands whole at their end, and how many messages found no room.
pub record Waiting : Type 0 where
  pub bytes : List ℕ
  pub last : Option ℕ
  pub left_out : ℕ

-- at most 64 KB wait; a part of them is for what lets go alone, and for requests
abbrev pub most_waiting : ℕ
most_waiting = 65536

abbrev pub most_pressing : ℕ
most_pressing = 61440

pub record IsWaiting (w : Waiting) : Type 0 where
  pub few : length w.bytes ≤ most_waiting
  pub whole : IfSome w.last (λ mask. (front : List ℕ) × (x : ℕ) × (y : ℕ) × (w.bytes ≡ front ++ pointer_message mask x y))

abbrev pub nothing_waits : Waiting
nothing_waits = record { bytes = []; last = None; left_out = 0 }

abbrev pub has_room : (most : ℕ) → (count : ℕ) → Waiting → Bool
has_room most count w = nat_le (length w.bytes + count) most

-- one message more found no room
abbrev pub without : Waiting → Waiting
without w = record w { left_out = min (w.left_out + 1) (2 ^ 64 - 1) }

-- a message waits, where there is room for all of it
abbrev pub put : (most : ℕ) → (message : List ℕ) → Waiting → Waiting
put most message w = if has_room most (length message) w then record w { bytes = w.bytes ++ message; last = None } else without w

-- what lets go finds more room than what presses
abbrev pub room_of : (presses : Bool) → ℕ
room_of presses = if presses then most_pressing else most_waiting

abbrev pub with_key : (down : Bool) → (key : ℕ) → Waiting → Waiting
with_key down key w = put (room_of down) (key_message down key) w

-- a pointer with these buttons stands whole at the end
abbrev pub is_move : (mask : ℕ) → Waiting → Bool
is_move mask w = elim w.last [ None ↦ false | Some before ↦ before == mask ]

-- a pointer takes the place of one that waits last and has the same buttons
abbrev pub with_pointer : (mask x y : ℕ) → Waiting → Waiting
with_pointer mask x y w =
    if is_move mask w then record w { bytes = take (length w.bytes - 6) w.bytes ++ pointer_message mask x y }
    else (if has_room (room_of (nat_lt 0 mask)) 6 w then record w { bytes = w.bytes ++ pointer_message mask x y; last = Some mask }
    else without w)

-- how much of a text is handed on
abbrev pub longest_text : ℕ
longest_text = 32768

abbrev pub with_text : (text : List ℕ) → Waiting → Waiting
with_text text w = put most_pressing (text_message (take longest_text text)) w

-- what a viewer did is to be done at the source
abbrev pub with_input : Input → Waiting → Waiting
with_input (input.Key down key) w = with_key down key w
with_input (input.Pointer mask x y) w = with_pointer mask x y w
with_input (input.Text text shortened) w = with_text text w

-- so many bytes were written; a pointer of which some were is no longer whole
abbrev pub written : ℕ → Waiting → Waiting
written n w = record w { bytes = drop n w.bytes; last = if nat_lt (length w.bytes) (n + 6) then None else w.last }
