use Rattle.std.proofs.Common.{◌≡◌, ◌/◌, ◌%◌, map}
use Rattle.std.specs.List.{range_with_len}
use Rattle.rfb_viewer.specs.Canvas.{copied_dot}
use Rattle.rfb_viewer.proofs.canvas.Canvas.copy.Given as goal

-- what the first k places show behind the copy
abbrev pub invariant-loop-k : goal.invariant-loop-k
invariant-loop-k l = l.dots.items ≡ map (λ k. copied_dot (record { columns = l.self-inside.columns; rows = l.self-inside.rows; dots = l.self-inside.dots.items }) l.area l.from (k % l.self-inside.columns) (k / l.self-inside.columns)) (range_with_len 0 l.k)
