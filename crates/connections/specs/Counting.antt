-- What is counted of a viewer, by the events of the screen.
use Rattle.std.specs.Prelude.{ℕ, length, List}
use Rattle.screen.specs.declared.Config.{Config}
use Rattle.screen.specs.declared.Event.{Event}
use Rattle.screen.specs.declared.History.{History}
use Rattle.screen.specs.History.{accepted}
use Rattle.screen.specs.State.{history_by}
use Rattle.receipts.specs.Histories.{pieces_of, heard_of, cuts_of}
use Rattle.connection.specs.Counting.{Counts, stopping}

-- what a list of events says of a viewer
abbrev pub counted_in : History → ℕ → List Event → Counts
counted_in history v es = record { pieces = stopping (length (pieces_of v es)); cuts = stopping (cuts_of v es); heard = history_by history (heard_of v es) }

-- by the events that happened, as a history keeps them
abbrev pub counts_of : Config → ℕ → List Event → Counts
counts_of c v list = counted_in c.history v (accepted c list)
