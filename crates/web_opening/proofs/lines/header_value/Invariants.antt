use Rattle.std.proofs.Common.{◌≡◌, drop}
use Rattle.websocket.specs.Headers.{fields_of, header_value}
use Rattle.web_opening.proofs.lines.header_value.Given as goal

abbrev pub invariant-loop-line : goal.invariant-loop-line
invariant-loop-line l =
    header_value (fields_of l.head l.lines) l.name ≡ header_value (fields_of l.head (drop l.line-index l.lines)) l.name
