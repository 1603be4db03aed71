-- The numbers that calls of a server answer, besides those of a screen's desk.
use Rattle.std.specs.Prelude.{ℕ, ◌^◌, min, ℤ, pos, Bool, true, false, Result, Ok, Err, Some}
use Rattle.std.specs.declared.alloc.AllocError.{AllocError}
use Rattle.receipts.specs.declared.Ended.{Ended}
use Rattle.receipts.specs.declared.Ended.TheVariants as ended
use Rattle.event_loop.specs.declared.event_loop.LoopError.{LoopError}
use Rattle.event_loop.specs.declared.event_loop.LoopError.TheVariants.{Network, Clock, Screen, TooManyListeners}
use Rattle.event_loop.specs.declared.viewers.Admission.{Admission}
use Rattle.event_loop.specs.declared.viewers.Admission.TheVariants.{Viewer, TurnedAway, Refused}
use Rattle.c_screen.specs.Codes.{minus, done, no_viewer, out_of_memory, code_of, fault_code}

abbrev pub bad_address : ℤ
bad_address = minus 13

abbrev pub cannot_listen : ℤ
cannot_listen = minus 14

abbrev pub network_failed : ℤ
network_failed = minus 15

abbrev pub clock_failed : ℤ
clock_failed = minus 16

abbrev pub cannot_record : ℤ
cannot_record = minus 20

abbrev pub bad_socket : ℤ
bad_socket = minus 22

abbrev pub full : ℤ
full = minus 23

abbrev pub cannot_adopt : ℤ
cannot_adopt = minus 24

abbrev pub too_many_ports : ℤ
too_many_ports = minus 25

-- why a turn ended, or 0
abbrev pub turn_code : Result (Unit {0}) LoopError → ℤ
turn_code (Ok x) = done
turn_code (Err Network) = network_failed
turn_code (Err Clock) = clock_failed
turn_code (Err (Screen e)) = code_of e
turn_code (Err TooManyListeners) = too_many_ports

-- the port on which a loop listens further, or why it doesn't
abbrev pub further_code : Result (Unit {0}) LoopError → ℕ → ℤ
further_code (Ok x) port = pos port
further_code (Err (Screen e)) port = code_of e
further_code (Err TooManyListeners) port = too_many_ports
further_code (Err e) port = cannot_listen

-- the number of the viewer whose connection it is now, or why it is nobody's
abbrev pub adopt_code : Result Admission LoopError → ℤ
adopt_code (Ok (Viewer v)) = pos (min v (2 ^ 62))
adopt_code (Ok TurnedAway) = cannot_adopt
adopt_code (Ok Refused) = cannot_adopt
adopt_code (Err e) = turn_code (Err e)

-- a viewer is let go, or why not
abbrev pub closed_code : Result Bool AllocError → ℤ
closed_code (Ok true) = done
closed_code (Ok false) = no_viewer
closed_code (Err e) = out_of_memory

-- why a viewer left
abbrev pub reason_code : Ended → ℕ
reason_code ended.EndOfInput = 1
reason_code (ended.Fault f) = 2
reason_code ended.ReadFailed = 3
reason_code ended.WriteFailed = 4
reason_code ended.Memory = 5
reason_code ended.Gate = 6
reason_code ended.Closed = 7
reason_code ended.Stopped = 8
reason_code (ended.Frames code) = 9

-- by which fault, or by which code of a close, or 0
abbrev pub fault_of : Ended → ℤ
fault_of (ended.Fault f) = fault_code (Some f)
fault_of (ended.Frames code) = pos code
fault_of e = pos 0
