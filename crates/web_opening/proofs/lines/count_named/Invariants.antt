use Rattle.std.proofs.Common.{◌≡◌, ◌+◌, ◌≤◌, drop}
use Rattle.websocket.specs.Headers.{fields_of}
use Rattle.web_opening.specs.Lines.{count_named}
use Rattle.web_opening.proofs.lines.count_named.Given as goal

abbrev pub invariant-loop-line : goal.invariant-loop-line
invariant-loop-line l =
    (l.count ≤ l.line-index)
    × (count_named (fields_of l.head l.lines) l.name ≡ l.count + count_named (fields_of l.head (drop l.line-index l.lines)) l.name)
