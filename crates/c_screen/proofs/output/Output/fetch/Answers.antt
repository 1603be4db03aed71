use Rattle.std.proofs.Common.{ℕ, List, ap, ◌∙◌}
use Rattle.c_screen.proofs.Pieces.{given_slice}
use Rattle.c_screen.proofs.output.Output.fetch.Goals as goal

pub returns-clause-bytes : goal.returns-clause-bytes
returns-clause-bytes c = given_slice c.make_piece.new.made.items c.deref.result.now _ _ c.args.room.now c.copy_to-count.new.room c.make_piece.new.done c.copy_to-count.result c.deref.ensures.value (c.make_piece.ensures.same ∙ ap (λ (o : ℕ × List ℕ). o.1) c.self.view_is) c.copy_to-count.ensures.count c.copy_to-count.ensures.room
