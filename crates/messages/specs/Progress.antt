-- What an ear becomes by a piece, told beside what it is.
use Rattle.std.specs.Prelude.{ℕ, ⊤, ◌+◌, ◌<◌, List, ◌++◌, length, take}
use Rattle.messages.specs.Grammar.{text_limit}
use Rattle.messages.specs.Reading.{Unfinished, cut_text, Rest}

-- it keeps this; or it keeps more bytes of a text, which they don't end
pub data Progress : Type 0 where
  becomes : Rest → Progress
  text_goes_on : List ℕ → Progress

-- what is kept of a text with more bytes
abbrev pub with_bytes : Unfinished → List ℕ → Unfinished
with_bytes (cut_text long text come) bytes = cut_text long (take text_limit (text ++ bytes)) (come + length bytes)
with_bytes u bytes = u

abbrev pub advanced : Rest → Progress → Rest
advanced r (becomes next) = next
advanced r (text_goes_on bytes) = record r { unfinished = with_bytes r.unfinished bytes }

-- a text hasn't ended, and these bytes don't end it
abbrev pub LacksMore : Unfinished → List ℕ → Type 0
LacksMore (cut_text long text come) bytes = come + length bytes < long
LacksMore u bytes = ⊥

abbrev pub CanAdvance : Rest → Progress → Type 0
CanAdvance r (becomes next) = ⊤
CanAdvance r (text_goes_on bytes) = LacksMore r.unfinished bytes
