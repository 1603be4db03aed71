use Rattle.span_arena.proofs.FreeLemmas.{Emptied, left_in}
use Rattle.span_arena.proofs.Spans.free_list.Given as goal

-- the list's first spans are gone, and the others are left
abbrev pub invariant-loop-at : goal.invariant-loop-at
invariant-loop-at l = Emptied l.fn.self l.self l.list

abbrev pub decreases-loop-at : goal.decreases-loop-at
decreases-loop-at l = left_in l.self l.list
