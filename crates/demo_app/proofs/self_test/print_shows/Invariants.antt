use Rattle.std.proofs.Common.{take}
use Rattle.std.specs.Io.KnownBytes.{Appends}
use Rattle.demo_app.specs.Endings.{shows_text}
use Rattle.demo_app.proofs.self_test.print_shows.Given as goal

-- the lines of the viewers so far were written
abbrev pub invariant-loop-index : goal.invariant-loop-index
invariant-loop-index g l = Appends (g.W.Write.contents l.fn.writer) (g.W.Write.contents l.writer) (shows_text 1 (take l.index l.shows))
