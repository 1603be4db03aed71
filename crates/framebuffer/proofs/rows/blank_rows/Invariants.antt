use Rattle.std.proofs.Common.{◌≡◌, length, All}
use Rattle.framebuffer.specs.Picture.{blank}
use Rattle.framebuffer.specs.Rows.{colours_of_rows, IsOfWidth}
use Rattle.framebuffer.proofs.rows.blank_rows.Given as goal

abbrev pub invariant-loop-i : goal.invariant-loop-i
invariant-loop-i l = record {
  count : length l.rows.items ≡ l._i;
  wide : All (IsOfWidth l.width) l.rows.items;
  blank : colours_of_rows l.rows.items ≡ blank l.width l._i;
}
