use Rattle.std.specs.Prelude.{◌≡◌, pos, ◌-ℤ◌, slice_get}
use borrow.Author.Differences.{up}
use Rattle.region_rows.proofs.MakeLemmas.{Counted}
use Rattle.region_rows.proofs.count_row.Given as goal

abbrev pub invariant-loop-step : goal.invariant-loop-step
invariant-loop-step l = Counted l.keep l.fn.first l.fn.second l.first l.second l.is_open l.x l.count × (l.a ≡ slice_get l.first.left 0) × (l.b ≡ slice_get l.second.left 0)

abbrev pub decreases-loop-step : goal.decreases-loop-step
decreases-loop-step l = up (pos 2147483648 -ℤ l.x)
