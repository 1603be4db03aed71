-- What a browser reads of a server's bytes (RFC 6455, section 5.2): the payloads of the data frames, one behind the other.
use Rattle.std.specs.Prelude.{ℕ, zero, suc, Bool, ◌&&◌, ◌==◌, nat_le, if◌then◌else◌, List, [], ◌∷◌, ◌++◌, length, drop, slice_index, Option, None, Some}
use Rattle.web_stream.specs.Frames.{is_control, kept_size, payload_size}

-- where the bytes stand: left bytes of a data frame's payload are to come, or else these of a head or a control frame came
pub record Writing : Type 0 where
  pub head : List ℕ
  pub left : ℕ

-- left bytes of payload are to come; at 0 a frame begins
abbrev pub before : ℕ → Writing
before left = record { head = []; left = left }

-- how much payload a data frame has behind its head
abbrev pub size_behind : List ℕ → ℕ
size_behind bs = if is_control (slice_index bs 0) then 0 else payload_size bs

-- a head, or a control frame, is whole
abbrev pub is_whole : List ℕ → Bool
is_whole bs = nat_le 2 (length bs) && nat_le (kept_size 0 (slice_index bs 0) (slice_index bs 1)) (length bs)

abbrev pub behind_head : List ℕ → Writing
behind_head bs = if is_whole bs then before (size_behind bs) else record { head = bs; left = 0 }

-- one byte more
abbrev pub placed_in : ℕ → List ℕ → ℕ → Writing
placed_in zero head b = behind_head (head ++ b ∷ [])
placed_in (suc left) head b = record { head = head; left = left }

abbrev pub carried_in : ℕ → ℕ → List ℕ
carried_in zero b = []
carried_in (suc left) b = b ∷ []

-- where the bytes stand behind these, and the payload that they carry
abbrev pub placed : Writing → List ℕ → Writing
placed w [] = w
placed w (b ∷ bs) = placed (placed_in w.left w.head b) bs

abbrev pub carried : Writing → List ℕ → List ℕ
carried w [] = []
carried w (b ∷ bs) = carried_in w.left b ++ carried (placed_in w.left w.head b) bs

-- the first begun bytes are the answer to a request; with own behind them, which carries nothing, the others stand where owed bytes of
-- payload are to come
abbrev pub stands : ℕ → List ℕ → ℕ → List ℕ → Bool
stands begun own owed bs =
    nat_le begun (length bs) && (length (placed (before 0) (drop begun bs ++ own)).head == 0)
    && ((placed (before 0) (drop begun bs ++ own)).left == owed)
    && (length (carried (placed (before 0) (drop begun bs)) own) == 0)

-- the payloads that bytes carry behind the first begun ones, where these are known and stand so
abbrev pub known_payloads : ℕ → List ℕ → ℕ → Option (List ℕ) → Option (List ℕ)
known_payloads begun own owed None = None
known_payloads begun own owed (Some bs) = if stands begun own owed bs then Some (carried (before 0) (drop begun bs)) else None
