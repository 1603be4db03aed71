use Rattle.std.proofs.Common.{◌≡◌, ◌≤◌, ℕ, length, drop, reverse}
use Rattle.std.specs.List.{All}
use Rattle.copy_schedule.specs.Marks.{Marks}
use Rattle.copy_schedule.specs.Log.{logged, IsCutEntry}
use Rattle.copy_schedule.proofs.log.joined_up_to.Given as goal

-- what is joined makes of marks what the entries make of them from where it begins
abbrev pub invariant-loop-left : goal.invariant-loop-left
invariant-loop-left l = record {
  within : l.left ≤ length l.entries;
  same : (m : Marks) → logged l.uses_copyrect (reverse l.out.items) m ≡ logged l.uses_copyrect (drop l.left l.entries) m;
  cut : (w h : ℕ) → All (IsCutEntry w h) l.entries → All (IsCutEntry w h) l.out.items;
}

abbrev pub decreases-loop-left : goal.decreases-loop-left
decreases-loop-left l = l.left
