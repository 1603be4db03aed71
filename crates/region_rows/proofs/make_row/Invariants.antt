use Rattle.std.specs.Prelude.{◌≡◌, pos, ◌-ℤ◌, slice_get}
use borrow.Author.Differences.{up}
use Rattle.region_rows.proofs.MakeLemmas.{Made}
use Rattle.region_rows.proofs.make_row.Given as goal

abbrev pub invariant-loop-step : goal.invariant-loop-step
invariant-loop-step l = Made l.keep l.fn.bands l.bands l.fn.other l.other l.is_open l.from l.x × (l.a ≡ slice_get l.bands.left 0) × (l.b ≡ slice_get l.other.left 0)

abbrev pub decreases-loop-step : goal.decreases-loop-step
decreases-loop-step l = up (pos 2147483648 -ℤ l.x)
