use Rattle.std.proofs.Common.{◌≡◌, List, ◌++◌, map, All}
use Rattle.crossbeam_queue.specs.Passes.{view as known, IsPassOf}
use Rattle.input_queue.specs.Views.{taker}
use Rattle.input_queue.specs.Ends.{Putting, note_of}
use Rattle.input_queue.proofs.hub.give_back_all.Given as goal

abbrev pub invariant-loop-seat : goal.invariant-loop-seat
invariant-loop-seat l =
    IsPassOf l.queue l.taking
    × All (λ s. s.queue ≡ l.queue.table.shared.table_id) l.seats.items
    × ((back : List Putting) × (l.seats.items ++ back ≡ l.initial.seats.items) × (known l.taking ≡ taker (known l.initial.taking).taken (map note_of back)) × All (λ s. All (λ t. t.viewer ≡ s.viewer) s.accepted) back)

abbrev pub decreases-loop-seat : goal.decreases-loop-seat
decreases-loop-seat l = goal.left-loop-seat l
