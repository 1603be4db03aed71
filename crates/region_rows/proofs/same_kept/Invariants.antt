use Rattle.std.specs.Prelude.{◌≡◌, pos, ◌-ℤ◌, slice_get}
use borrow.Author.Differences.{up}
use Rattle.region_rows.proofs.SameLemmas.{Same}
use Rattle.region_rows.proofs.same_kept.Given as goal

abbrev pub invariant-loop-step : goal.invariant-loop-step
invariant-loop-step l = Same l.keep l.fn.first l.fn.second l.fn.third l.fn.fourth l.first l.second l.third l.fourth l.x × (l.a ≡ slice_get l.first.left 0) × (l.b ≡ slice_get l.second.left 0) × (l.c ≡ slice_get l.third.left 0) × (l.d ≡ slice_get l.fourth.left 0)

abbrev pub decreases-loop-step : goal.decreases-loop-step
decreases-loop-step l = up (pos 2147483648 -ℤ l.x)
