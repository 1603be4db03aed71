-- Notices that can be sent.
use Rattle.std.specs.Prelude.{ℕ, ◌≤◌, ◌^◌, List, length, All}
use Rattle.updates.specs.declared.notices.Notice.{Notice}
use Rattle.updates.specs.declared.notices.Notice.TheVariants as notice

-- a text has at most 65,536 bytes
abbrev pub IsShort : Notice → Type 0
IsShort notice.Bell = Unit {0}
IsShort (notice.CutText text) = length text ≤ 2 ^ 16

-- they can be sent, and there is room for 64
pub record AreWaiting (room : ℕ) (notices : List Notice) : Type 0 where
  pub room_made : 64 ≤ room
  pub short : All IsShort notices
