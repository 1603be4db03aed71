-- The frames that a client sends, and that they are read.
use Rattle.std.specs.Prelude.{◌≡◌, ℕ, ◌+◌, ◌^◌, ◌<◌, ◌≤◌, false, nat_lt, if◌then◌else◌, List, [], ◌∷◌, ◌++◌, length, None, Some}
use Rattle.std.specs.Int.{w16, w64, to_be_bytes}
use Rattle.web_stream.specs.Answers.{control_frame}
use Rattle.web_stream.specs.Frames.{is_control}
use Rattle.web_stream.specs.Faults.{is_reserved, data_fault}
use Rattle.web_stream.specs.Next.{unmasked}
use Rattle.web_stream.specs.Reading.{Reading, after, payloads}

-- 5.2: the seven bits beside the mask's, and the extended length behind them, in the shortest form
abbrev pub size_bits : ℕ → ℕ
size_bits n = if nat_lt n 126 then n else if nat_lt n 65536 then 126 else 127

abbrev pub size_bytes : ℕ → List ℕ
size_bytes n = if nat_lt n 126 then [] else if nat_lt n 65536 then to_be_bytes w16 n else to_be_bytes w64 n

-- a frame with this first byte and this key; 5.3: what takes a mask off also puts it on
abbrev pub client_frame : ℕ → List ℕ → List ℕ → List ℕ
client_frame first key bs = first ∷ (128 + size_bits (length bs)) ∷ (size_bytes (length bs) ++ key ++ unmasked key 0 bs)

-- the next byte begins a frame
pub record IsBetween (s : Reading) : Type 0 where
  pub over : s.over ≡ None
  pub kept : s.kept ≡ []
  pub done : s.size ≤ s.come

-- each data frame gives its payload and nothing else, and behind it the next byte begins a frame
abbrev pub ReadsFrames : Type 0
ReadsFrames =
    (s : Reading) (first : ℕ) (key bs : List ℕ) → IsBetween s → is_reserved first ≡ false → is_control first ≡ false
    → data_fault s.is_within first ≡ None → length key ≡ 4 → length bs < 2 ^ 63
    → (payloads s (client_frame first key bs) ≡ bs) × IsBetween (after s (client_frame first key bs))

-- 5.5.2 and 5.5.3: a ping, whose opcode is 9, gives no payload, and then its pong, whose opcode is 10 and which says the same, waits
abbrev pub AnswersPings : Type 0
AnswersPings =
    (s : Reading) (key bs : List ℕ) → IsBetween s → length key ≡ 4 → length bs ≤ 125
    → (payloads s (client_frame 137 key bs) ≡ []) × (after s (client_frame 137 key bs) ≡ record s { answer = Some (control_frame 138 bs) })
