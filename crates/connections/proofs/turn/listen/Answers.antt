use Rattle.std.proofs.Common.{◌≡◌, None, Ok, refl, rules}
use Rattle.screen.specs.declared.ScreenError.{ScreenError}
use Rattle.connection.specs.Known.{Known}
use Rattle.connection.specs.Reasons.{known_by_read}
use Rattle.connection.specs.declared.connection.Got.TheVariants.{Piece}
use Rattle.connections.proofs.Turns.{turn-read, turn-missed, turn-silently, turn-stays}
use Rattle.connections.proofs.turn.listen.Goals as goal

pub returns-in-Piece-clause-turn : goal.returns-in-Piece-clause-turn
returns-in-Piece-clause-turn g c =
    let live : c.args.connection.now.ended ≡ None = search rules in
    let known : Known = known_by_read (Piece c.in-Piece.count) c.receive.new.self.known.was_full c.args.now c.args.connection.now.known in
    λ config list began v said since t.
    c.hear.ensures.heard config list began v said since
    (turn-read config list began v said since c.args.canvas.now c.args.connection.now c.receive.new.self known _ live c.in-Piece.ensures.same refl refl c.in-Piece.ensures.moved (search rules) t)

pub returns-then-not-may_read-clause-turn : goal.returns-then-not-may_read-clause-turn
returns-then-not-may_read-clause-turn g c = turn-silently {X = Unit {0}} {E = ScreenError} g.A.Application.stands _ (Ok tt) _ _ _ _ (turn-stays _ _)

pub returns-in_default-clause-turn : goal.returns-in_default-clause-turn
returns-in_default-clause-turn g c =
    let live : c.args.connection.now.ended ≡ None = search rules in
    turn-silently {X = Unit {0}} {E = ScreenError} g.A.Application.stands _ (Ok tt) _ _ _ _
    (turn-missed c.args.canvas.now c.args.connection.now c.receive.new.self c.receive.result c.receive.new.self.known.was_full c.args.now c.receive.new.buffer c.in_default.not-Piece live c.receive.ensures.same c.receive.ensures.moved)
