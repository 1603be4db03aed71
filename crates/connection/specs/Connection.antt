-- What a viewer's connection holds.
use Rattle.std.specs.Prelude.{IfSome, ◌≡◌, ℕ, ◌≤◌, Bool, true, false, not, ◌&&◌, ◌||◌, if◌then◌else◌, is_none, is_some, List, ◌++◌, Option, Some, None, option_map}
use Rattle.std.specs.Io.KnownBytes.{Appends, Consumes}
use Rattle.screen.specs.Alone.{some_bytes}
use Rattle.receipts.specs.declared.Ended.{Ended}
use Rattle.receipts.specs.Checking.{may_break_off}
use Rattle.held_inputs.specs.Held.{Held}
use Rattle.connection.specs.declared.transport.Readiness.{Readiness}
use Rattle.connection.specs.Waiting.{Waiting, waiting_bytes}
use Rattle.connection.specs.Known.{Known, noted}
use Rattle.connection.specs.Counting.{Counts}

-- what a transport carries
pub record Carried : Type 0 where
  -- what it has still to give, where that is known
  pub unread : Option (List ℕ)
  -- what was written to it, where that is known
  pub written : Option (List ℕ)
  -- what was written to it, where that is kept
  pub sent : Option (List ℕ)

-- a viewer's connection
pub record ViewerConnection : Type 0 where
  pub number : ℕ
  -- what its transport carries
  pub carried : Carried
  -- what the viewer was given and is not written yet
  pub waiting : Waiting
  -- the keys and buttons that the viewer holds down
  pub held : Held
  -- why the viewer ended, if it did
  pub ended : Option Ended
  -- what is known of the connection
  pub known : Known
  -- what was counted of the viewer
  pub counts : Counts
  -- for how many more bytes that are heard there is room, where they are kept
  pub room : ℕ

-- between two moments of a transport these bytes were read, and those were written
pub record Moves (before now : Carried) (got gave : List ℕ) : Type 0 where
  pub read : Consumes before.unread now.unread got
  pub written : Appends before.written now.written gave
  pub sent : now.sent ≡ option_map (λ bytes. bytes ++ gave) before.sent

-- whether a viewer ended so that what waited for it may not have been written
abbrev pub breaks_off : Option Ended → Bool
breaks_off None = false
breaks_off (Some ended) = may_break_off ended

-- a connection of which this is known too
abbrev pub noted_by : Readiness → ViewerConnection → ViewerConnection
noted_by found connection = record connection { known = noted found connection.known }

-- so many more bytes that are heard can be kept, where they are
abbrev pub CanKeep : ℕ → ViewerConnection → Type 0
CanKeep more connection = IfSome connection.counts.heard (λ _. more ≤ connection.room)

-- why it ended: for this reason, unless it ended before
abbrev pub ended_or : Option Ended → Ended → Option Ended
ended_or None reason = Some reason
ended_or (Some ended) reason = Some ended

-- a connection that ended so
abbrev pub ended_by : Ended → ViewerConnection → ViewerConnection
ended_by reason connection = record connection { ended = ended_or connection.ended reason }

-- a read may give something
abbrev pub may_read : ViewerConnection → Bool
may_read connection = is_none connection.ended && connection.known.may_read

-- a write may take something
abbrev pub may_write : ViewerConnection → Bool
may_write connection = not (breaks_off connection.ended) && connection.known.may_write

-- bytes wait to be written
abbrev pub has_waiting : ViewerConnection → Bool
has_waiting connection = some_bytes (waiting_bytes connection.waiting)

-- why it ended, where nothing is left to be done for it but to part with it
abbrev pub over : ViewerConnection → Option Ended
over connection = if breaks_off connection.ended || not (has_waiting connection) then connection.ended else None

-- bytes can be written to it at once, or an update be cut for it
abbrev pub can_send : ViewerConnection → Bool
can_send connection = may_write connection && (connection.known.may_cut || has_waiting connection)

-- something can be done for it at once
abbrev pub has_work : ViewerConnection → Bool
has_work connection = (may_read connection || can_send connection) || is_some (over connection)
