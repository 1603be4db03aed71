use Rattle.std.proofs.Common.{◌≡◌, All, length, take}
use Rattle.std.specs.List.{flat_map}
use Rattle.framebuffer.specs.Rows.{parts_of_rows}
use Rattle.framebuffer.proofs.rows.parts.Given as goal

-- the rows so far, each of so many columns
abbrev pub invariant-loop-row : goal.invariant-loop-row
invariant-loop-row l = record {
  flat : flat_map (λ p. p.now) l.parts.items ≡ parts_of_rows l.left l.columns (take l.row-index l.rows);
  count : length l.parts.items ≡ l.row-index;
  even : All (λ p. length p.now ≡ l.columns) l.parts.items;
}
