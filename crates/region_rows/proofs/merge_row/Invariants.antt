use Rattle.std.specs.Prelude.{◌≡◌, pos, ◌-ℤ◌, slice_get}
use borrow.Author.Differences.{up}
use Rattle.region_rows.proofs.MergeLemmas.{Merged}
use Rattle.region_rows.proofs.merge_row.Given as goal

abbrev pub invariant-loop-step : goal.invariant-loop-step
invariant-loop-step l = Merged l.keep l.fn.bands l.bands l.fn.first l.first l.fn.second l.second l.is_open l.from l.x × (l.a ≡ slice_get l.first.left 0) × (l.b ≡ slice_get l.second.left 0)

abbrev pub decreases-loop-step : goal.decreases-loop-step
decreases-loop-step l = up (pos 2147483648 -ℤ l.x)
