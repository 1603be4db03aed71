use Rattle.std.proofs.Common.{◌≡◌, drop}
use Rattle.websocket.specs.Headers.{fields_of}
use Rattle.web_opening.specs.Lines.{lists}
use Rattle.web_opening.proofs.lines.lists.Given as goal

abbrev pub invariant-loop-line : goal.invariant-loop-line
invariant-loop-line l =
    lists (fields_of l.head l.lines) l.name l.wanted l.letters
    ≡ lists (fields_of l.head (drop l.line-index l.lines)) l.name l.wanted l.letters
