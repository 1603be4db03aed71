use Rattle.std.proofs.Common.{◌≡◌, length}
use Rattle.region_rows.proofs.skip_row.Given as goal

abbrev pub invariant-row : goal.invariant-row
invariant-row l = l.reader ≡ record l.fn.reader { left = l.reader.left }

abbrev pub decreases-row : goal.decreases-row
decreases-row l = length l.reader.left
