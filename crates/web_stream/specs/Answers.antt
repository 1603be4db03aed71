-- The frames that a server sends: they are final and have no mask (RFC 6455, sections 5.1 and 5.2).
use Rattle.std.specs.Prelude.{◌≡◌, ℕ, ◌≤◌, true, nat_lt, if◌then◌else◌, List, [], ◌∷◌, length}
use Rattle.std.specs.Int.{w16, w64, to_be_bytes}
use Rattle.web_stream.specs.declared.answer.Answer.{Answer}
use Rattle.web_stream.specs.declared.answer.Answer.TheVariants.{Pong, Close}
use Rattle.web_stream.specs.Frames.{is_control}

-- a control frame with this first byte
abbrev pub control_frame : ℕ → List ℕ → List ℕ
control_frame first payload = first ∷ length payload ∷ payload

-- a pong has the opcode 10, a close 8
abbrev pub answer_frame : Answer → List ℕ
answer_frame (Pong payload) = control_frame 138 payload.items
answer_frame (Close payload) = control_frame 136 payload.items

-- these are the bytes of a control frame
pub record IsControlFrame (bs : List ℕ) : Type 0 where
  pub first : ℕ
  pub payload : List ℕ
  pub control : is_control first ≡ true
  pub few : length payload ≤ 125
  pub spelled : bs ≡ control_frame first payload

-- the head of a binary frame, whose opcode is 2, with the length in its shortest form
abbrev pub data_head : ℕ → List ℕ
data_head n =
    if nat_lt n 126 then 130 ∷ n ∷ []
    else if nat_lt n 65536 then 130 ∷ 126 ∷ to_be_bytes w16 n else 130 ∷ 127 ∷ to_be_bytes w64 n
