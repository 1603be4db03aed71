-- What a server reads: byte by byte, so that it doesn't matter how the frames are cut.
use Rattle.std.specs.Prelude.{ℕ, ◌+◌, ◌%◌, Bool, false, not, ◌==◌, nat_lt, if◌then◌else◌, List, [], ◌∷◌, ◌++◌, length, take, replicate, slice_index, bit_xor, Option, None, Some}
use Rattle.std.specs.Int.{w16, to_be_bytes}
use Rattle.web_stream.specs.declared.fault.WebFault.{WebFault}
use Rattle.web_stream.specs.declared.fault.WebFault.TheVariants.{Control}
use Rattle.web_stream.specs.declared.inward.Over.{Over}
use Rattle.web_stream.specs.declared.inward.Over.TheVariants as ending
use Rattle.web_stream.specs.Faults.{close_code, close_fault}
use Rattle.web_stream.specs.Answers.{control_frame}
use Rattle.web_stream.specs.Next.{Asked, more, payload, ping, pong, close, fault, next_of}

-- where the bytes that come stand: in a data frame's payload of size bytes, of which these came, or else behind the kept bytes of a frame;
-- and the control frame that waits as an answer
pub record Reading : Type 0 where
  pub kept : List ℕ
  pub key : List ℕ
  pub come : ℕ
  pub size : ℕ
  pub is_within : Bool
  pub over : Option Over
  pub answer : Option (List ℕ)

-- before the first frame
abbrev pub at_start : Reading
at_start = record { kept = []; key = replicate 4 0; come = 0; size = 0; is_within = false; over = None; answer = None }

-- 5.5.1 and 5.5.3: a close that says these bytes, and the pong of a ping that says them
abbrev pub closing : List ℕ → Option (List ℕ)
closing bs = Some (control_frame 136 bs)

abbrev pub ponging : List ℕ → Option (List ℕ)
ponging bs = Some (control_frame 138 bs)

-- 7.1.7: behind a fault nothing is read
abbrev pub faulty : Reading → WebFault → Reading
faulty s f = record s { over = Some (ending.Fault f); answer = closing (to_be_bytes w16 (close_code f)) }

-- 5.5.1: a close is answered by its code
abbrev pub ended_unless : Option WebFault → List ℕ → Reading → Reading
ended_unless (Some f) bs s = faulty s f
ended_unless None bs s = record s { over = Some ending.Closed; answer = closing (take 2 bs) }

abbrev pub ended_by : List ℕ → Reading → Reading
ended_by bs s = ended_unless (close_fault bs) bs s

-- what the kept bytes ask for is done
abbrev pub settled : Reading → Asked → Reading
settled s more = s
settled s (payload key size is_final) = record s { kept = []; key = key; come = 0; size = size; is_within = not is_final }
settled s (ping bs) = record s { kept = []; answer = ponging bs }
settled s pong = record s { kept = [] }
settled s (close bs) = ended_by bs s
settled s (fault f) = faulty s f

-- one byte more is kept; there is room for each frame that has no fault
abbrev pub with_kept : Reading → ℕ → Reading
with_kept s b =
    if length s.kept == 131 then faulty s Control
    else settled (record s { kept = s.kept ++ b ∷ [] }) (next_of s.is_within (s.kept ++ b ∷ []))

-- a byte is payload of a data frame
abbrev pub is_payload : Reading → Bool
is_payload s = nat_lt s.come s.size

-- while the frames are not over
abbrev pub step_in : Reading → ℕ → Reading
step_in s b = if is_payload s then record s { come = s.come + 1 } else with_kept s b

abbrev pub given_in : Reading → ℕ → List ℕ
given_in s b = if is_payload s then bit_xor b (slice_index s.key (s.come % 4)) ∷ [] else []

-- where the bytes stand behind one byte more, and the payload that it gives
abbrev pub step_unless : Option Over → Reading → ℕ → Reading
step_unless (Some _) s b = s
step_unless None s b = step_in s b

abbrev pub given_unless : Option Over → Reading → ℕ → List ℕ
given_unless (Some _) s b = []
given_unless None s b = given_in s b

unfoldable pub step : Reading → ℕ → Reading
step s b = step_unless s.over s b

unfoldable pub given : Reading → ℕ → List ℕ
given s b = given_unless s.over s b

-- the same of many bytes: the payloads of the binary frames, one behind the other
abbrev pub after : Reading → List ℕ → Reading
after s [] = s
after s (b ∷ bs) = after (step s b) bs

abbrev pub payloads : Reading → List ℕ → List ℕ
payloads s [] = []
payloads s (b ∷ bs) = given s b ++ payloads (step s b) bs

-- 7.1.2: the server closes by a code
abbrev pub closed_unless : Option Over → Reading → ℕ → Reading
closed_unless (Some _) s code = s
closed_unless None s code = record s { over = Some ending.Closed; answer = closing (to_be_bytes w16 code) }

abbrev pub closed : Reading → ℕ → Reading
closed s code = closed_unless s.over s code
