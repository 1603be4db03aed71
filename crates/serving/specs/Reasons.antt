-- What contracts see of failures, and of what follows from each.
use Rattle.std.specs.Prelude.{Bool, true, false}
use Rattle.std.specs.declared.io.ErrorKind.{ErrorKind}
use Rattle.std.specs.declared.io.ErrorKind.TheVariants.{ConnectionAborted, WouldBlock, Interrupted, TimedOut}
use Rattle.receipts.specs.declared.Ended.{Ended}
use Rattle.receipts.specs.declared.Ended.TheVariants.{ReadFailed, Closed}

-- where accepting failed so, another connection can be accepted at once
abbrev pub is_passing : ErrorKind → Bool
is_passing ConnectionAborted = true
is_passing WouldBlock = true
is_passing Interrupted = true
is_passing kind = false

-- where a read failed so, nothing came in time
abbrev pub is_timeout : ErrorKind → Bool
is_timeout WouldBlock = true
is_timeout TimedOut = true
is_timeout kind = false

-- why an opening is over: the server closed one that was late
abbrev pub ended_late : Bool → Ended → Ended
ended_late true ReadFailed = Closed
ended_late late ended = ended
