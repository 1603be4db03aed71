use Rattle.std.proofs.Common.{rules, arith}
use Rattle.std.specs.Prelude.{FitsSigned}
use Rattle.std.specs.Int.{w32}
use Rattle.std.proofs.lemmas.Int.{ints, to_z-of_z}
use Rattle.framebuffer.proofs.moves.own_piece.Goals as goal

pub own_rows-requires-clause-fits : goal.own_rows-requires-clause-fits
own_rows-requires-clause-fits c =
    let y2 : FitsSigned w32 c.args.piece.y2 = search rules in
    let inside = c.requires.inside in
    simp to_z-of_z (omega (arith, ints, inside.top, inside.rows, inside.bottom))

pub own_rows-requires-clause-room : goal.own_rows-requires-clause-room
own_rows-requires-clause-room c =
    let y2 : FitsSigned w32 c.args.piece.y2 = search rules in
    let inside = c.requires.inside in
    simp to_z-of_z (omega (arith, ints, inside.top, inside.rows, inside.bottom, c.requires.room))

pub returns-clause-own : goal.returns-clause-own
returns-clause-own c =
    let y1 : FitsSigned w32 c.args.piece.y1 = search rules in
    let y2 : FitsSigned w32 c.args.piece.y2 = search rules in
    simp to_z-of_z at c.own_rows.ensures.own
