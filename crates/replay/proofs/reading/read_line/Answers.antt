use Rattle.std.proofs.Common.{sym, subst}
use Rattle.std.proofs.lemmas.Result.{IfOk-weaker}
use Rattle.replay.specs.Reading.{TakesLine, TakesPiece}
use Rattle.replay.proofs.Feeds.{line_ends, line_stops}
use Rattle.replay.proofs.reading.read_line.Goals as goal

pub returns-in-LineFeed : goal.returns-in-LineFeed
returns-in-LineFeed g c =
    let took = subst (TakesPiece _ _ _ _) c.in-LineFeed.is c.in_ok-take_piece.ensures in
    let line = line_ends _ _ _ _ _ c.loop-reader.invariant took in
    IfOk-weaker c.within_limit.result _ _ (λ found is. subst (TakesLine _ _ _) (sym is) line) c.within_limit.ensures

pub returns-in-Input : goal.returns-in-Input
returns-in-Input g c = line_stops _ _ _ _ _ c.loop-reader.invariant (subst (TakesPiece _ _ _ _) c.in-Input.is c.in_ok-take_piece.ensures)
