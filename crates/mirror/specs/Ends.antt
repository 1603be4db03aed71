-- Why a source is watched no longer.
use Rattle.std.specs.Prelude.{ℕ, ◌==◌, if◌then◌else◌, Bool, true, false, List, take, drop, Result, Ok, Err}
use Rattle.std.specs.declared.io.Error.{Error}
use Rattle.std.specs.IoError.{error_kind}
use Rattle.std.specs.declared.io.ErrorKind.{ErrorKind}
use Rattle.std.specs.declared.io.ErrorKind.TheVariants as kind
use Rattle.screen.specs.declared.ScreenError.{ScreenError}
use Rattle.screen.specs.declared.ScreenError.TheVariants as refusal
use Rattle.source_talk.specs.declared.opening.OpeningEnd.{OpeningEnd}
use Rattle.source_talk.specs.declared.opening.OpeningEnd.TheVariants as opening
use Rattle.source_picture.specs.declared.source.DrawEnd.{DrawEnd}
use Rattle.source_picture.specs.declared.source.DrawEnd.TheVariants as drawing
use Rattle.mirror.specs.declared.ends.SourceEnd.{SourceEnd}
use Rattle.mirror.specs.declared.ends.SourceEnd.TheVariants as end

-- an opening of these bytes ended
abbrev pub end_by : (said : List ℕ) → OpeningEnd → SourceEnd
end_by said opening.NoVersion = end.NoVersion
end_by said (opening.SecurityTypes place count) = end.SecurityTypes (take count (drop place said))
end_by said (opening.SecurityType number) = end.SecurityType number
end_by said (opening.Refused place count) = end.Refused (take count (drop place said))

-- what it says can't be drawn
abbrev pub end_of_drawing : DrawEnd → SourceEnd
end_of_drawing (drawing.Fault fault) = end.Fault fault
end_of_drawing drawing.Size = end.Size
end_of_drawing drawing.Memory = end.Memory

-- a screen can't have the size
abbrev pub end_of_refusal : ScreenError → SourceEnd
end_of_refusal refusal.BadSize = end.Size
end_of_refusal _ = end.Memory

-- nothing was heard of a source where a connection to it failed
abbrev pub end_behind : (heard : ℕ) → SourceEnd
end_behind heard = if heard == 0 then end.Unreachable else end.Failed

-- What comes of a read or a write that failed: true where it is made again at once, false where later, or why the source is left. A connection
-- that isn't there yet is waited for.
abbrev pub behind_failure : ErrorKind → (heard : ℕ) → Result Bool SourceEnd
behind_failure kind.Interrupted heard = Ok true
behind_failure kind.WouldBlock heard = Ok false
behind_failure kind.NotConnected heard = Ok false
behind_failure kind.ConnectionReset heard = Err end.Closed
behind_failure kind.ConnectionAborted heard = Err end.Closed
behind_failure kind.BrokenPipe heard = Err end.Closed
behind_failure kind.ConnectionRefused heard = Err end.Unreachable
behind_failure _ heard = Err (end_behind heard)

-- what comes of a read: one that gives no byte is at the end
abbrev pub behind_read : Result ℕ Error → (heard : ℕ) → Result Bool SourceEnd
behind_read (Ok n) heard = if n == 0 then Err end.Closed else Ok true
behind_read (Err error) heard = behind_failure (error_kind error) heard

-- what comes of a write: one that takes no byte takes no more
abbrev pub behind_write : Result ℕ Error → (heard : ℕ) → Result Bool SourceEnd
behind_write (Ok n) heard = if n == 0 then Err end.Failed else Ok true
behind_write (Err error) heard = behind_failure (error_kind error) heard
