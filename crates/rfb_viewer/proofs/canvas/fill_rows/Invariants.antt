use Rattle.std.proofs.Common.{◌≡◌, ℕ, ◌+◌, ◌*◌, ◌<◌, get_or, None}
use Rattle.rfb_viewer.specs.Canvas.{row_filled}
use Rattle.rfb_viewer.proofs.canvas.fill_rows.Given as goal

-- the rows before this one are filled
abbrev pub invariant-loop-y : goal.invariant-loop-y
invariant-loop-y l = (y x : ℕ) → x < l.columns → get_or l.dots (y * l.columns + x) None ≡ row_filled l.columns l.across (l.fn.down.0, l.y) l.dot l.fn.dots y x
