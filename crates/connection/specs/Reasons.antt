-- What a transport's answers come to: what is known of a connection then, and why its viewer ended.
use Rattle.std.specs.Prelude.{ℕ, ◌≤◌, ◌+◌, ◌-◌, ◌*◌, ◌^◌, min, ◌==◌, ◌||◌, Bool, false, if◌then◌else◌, ⊤, List, [], length, take, Option, Some, None, Result, Ok, Err}
use Rattle.std.specs.declared.io.Error.{Error}
use Rattle.std.specs.declared.io.ErrorKind.{ErrorKind}
use Rattle.std.specs.declared.io.ErrorKind.TheVariants as kinds
use Rattle.std.specs.IoError.{error_kind}
use Rattle.screen.specs.declared.Fault.{Fault}
use Rattle.receipts.specs.declared.Ended.{Ended}
use Rattle.receipts.specs.declared.Ended.TheVariants as ends
use Rattle.connection.specs.declared.connection.Got.{Got}
use Rattle.connection.specs.declared.connection.Got.TheVariants as got
use Rattle.connection.specs.declared.backlog.Written.{Written}
use Rattle.connection.specs.declared.backlog.Written.TheVariants as outcome
use Rattle.connection.specs.Known.{Known}

-- What a read is that failed so: nothing is there now, it can be made again at once, the peer did wrong, which is answered by this code, or
-- the transport failed.
abbrev pub got_error : ℕ → ErrorKind → Got
got_error code kinds.WouldBlock = got.Nothing
got_error code kinds.Interrupted = got.Again
got_error code kinds.InvalidData = got.Wrong code
got_error code kind = got.Failed

-- what a read comes to; one that gives no byte is at the end
abbrev pub got_of : ℕ → Result ℕ Error → Got
got_of code (Ok count) = if count == 0 then got.End else got.Piece count
got_of code (Err error) = got_error code (error_kind error)

-- why a viewer ended, once a read came to this
abbrev pub ended_by_read : Got → Option Ended → Option Ended
ended_by_read got.End before = Some ends.EndOfInput
ended_by_read got.Failed before = Some ends.ReadFailed
ended_by_read (got.Wrong code) before = Some (ends.Frames code)
ended_by_read came before = before

-- how many bytes were said of late, once so many more were said at a time: of each millisecond 64 are forgotten
abbrev pub level_by : ℕ → ℕ → Known → ℕ
level_by count now known = min (known.level - (now - known.since) * 64 + count) (2 ^ 64 - 1)

-- What is known once a read came to this, at a time. A piece that wasn't full was all that there was, unless the peer hung up.
abbrev pub known_by_read : Got → Bool → ℕ → Known → Known
known_by_read (got.Piece count) full now known = record known { may_read = full || known.hung_up; was_full = full; level = level_by count now known; since = now }
known_by_read got.Nothing full now known = record known { may_read = false; was_full = false }
known_by_read got.Again full now known = record known { was_full = full }
known_by_read came full now known = known

-- what a write is that failed so: the transport takes nothing now, memory was refused, or the transport failed
abbrev pub written_error : ErrorKind → Written
written_error kinds.WouldBlock = outcome.Blocked
written_error kinds.Interrupted = outcome.Blocked
written_error kinds.OutOfMemory = outcome.Memory
written_error kind = outcome.Failed

-- how many bytes a write took
abbrev pub taken_by : Result ℕ Error → ℕ
taken_by (Ok count) = count
taken_by (Err error) = 0

-- what a write comes to; a transport that takes none of some bytes takes no more
abbrev pub written_by : Result ℕ Error → Written
written_by (Ok count) = if count == 0 then outcome.Failed else outcome.Some
written_by (Err error) = written_error (error_kind error)

-- what a flush comes to
abbrev pub flushed_by : Result ⊤ Error → Written
flushed_by (Ok done) = outcome.Some
flushed_by (Err error) = written_error (error_kind error)

-- why a viewer ended, once a write came to this
abbrev pub ended_by_write : Written → Option Ended → Option Ended
ended_by_write outcome.Failed before = Some ends.WriteFailed
ended_by_write outcome.Memory before = Some ends.Memory
ended_by_write came before = before

-- whether a further write may take something
abbrev pub may_write_by : Written → Bool → Bool
may_write_by outcome.Blocked before = false
may_write_by came before = before

-- why a viewer ended, once its bytes brought this fault, or none
abbrev pub ended_by_fault : Option Fault → Option Ended → Option Ended
ended_by_fault None before = before
ended_by_fault (Some fault) before = Some (ends.Fault fault)

-- the bytes that a read gave
abbrev pub got_bytes : Got → List ℕ → List ℕ
got_bytes (got.Piece count) room = take count room
got_bytes _ room = []

-- so many bytes are no more than there was room for
abbrev pub IsWithin : Got → List ℕ → Type 0
IsWithin (got.Piece count) room = count ≤ length room
IsWithin _ room = Unit {0}
