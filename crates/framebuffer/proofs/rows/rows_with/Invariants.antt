use Rattle.std.proofs.Common.{◌≡◌, ◌*◌, ◌%◌, ◌^◌, length, map, take, All}
use Rattle.framebuffer.specs.Rows.{colours_of_rows, IsOfWidth}
use Rattle.framebuffer.proofs.rows.rows_with.Given as goal

-- the first i rows
abbrev pub invariant-loop-i : goal.invariant-loop-i
invariant-loop-i l = record {
  count : length l.rows.items ≡ l.i;
  wide : All (IsOfWidth l.width) l.rows.items;
  colours : colours_of_rows l.rows.items ≡ map (λ c. c % 2 ^ 24) (take (l.i * l.width) l.colours);
}
