-- What each pass of a queue knows.
use Rattle.std.specs.Prelude.{ℕ, true, false, List, []}
use Rattle.input_queue.specs.declared.Told.{Told}
use Rattle.input_queue.specs.declared.rule.Note.{Note}
use Rattle.input_queue.specs.declared.rule.View.{View}

-- a pass that does nothing, or that was given back
abbrev pub spent : View
spent = record { makes = false; takes = false; puts = false; joined = false; number = 0; accepted = []; taken = []; noted = [] }

-- the first pass, before the taker is split off
abbrev pub newcomer : View
newcomer = record spent { makes = true; takes = true }

-- the hub's, which has made n seats
abbrev pub hub : ℕ → View
hub n = record spent { makes = true; number = n }

-- the taker's: what it took, and what it noted of the seats that were given back
abbrev pub taker : List Told → List Note → View
taker taken noted = record spent { takes = true; taken = taken; noted = noted }

-- that of the seat with a number
abbrev pub seat : ℕ → List Told → View
seat number accepted = record spent { puts = true; number = number; accepted = accepted }

-- the hub's, once the taker was given back
abbrev pub joined : ℕ → List Told → List Note → View
joined n taken noted = record spent { joined = true; number = n; taken = taken; noted = noted }
