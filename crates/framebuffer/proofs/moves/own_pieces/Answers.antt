use Rattle.std.proofs.Common.{pos, nat_abs, ◌+◌, get_or, take, subst, ◌∙◌}
use Rattle.std.proofs.lemmas.List.{take_more, take_all}
use Rattle.region.specs.declared.Rect.{Rect}
use Rattle.framebuffer.specs.Rows.{AreOwn, AreOwnIn}
use Rattle.framebuffer.proofs.RowLemmas.{all_and_one}
use Rattle.framebuffer.proofs.moves.own_pieces.Goals as goal

abbrev nowhere : Rect
nowhere = record { x1 = pos 0; y1 = pos 0; x2 = pos 0; y2 = pos 0 }

pub loop-piece-preserved : goal.loop-piece-preserved
loop-piece-preserved c =
    let pieces = c.args.pieces.now in
    let i = c.loop-piece.piece-index in
    record {
      same = c.in_ok-own_piece.ensures.same ∙ c.loop-piece.invariant.same;
      own = all_and_one (λ r. AreOwn (nat_abs r.y1) (nat_abs r.y2) c.own_piece.new.rows) (take i pieces) (take (i + 1) pieces) (get_or pieces i nowhere) (take_more pieces i nowhere c.loop-piece-test.true)
          (λ k d under j e above below. c.in_ok-own_piece.ensures.stay j e (c.loop-piece.invariant.own k d under j e above below)) c.in_ok-own_piece.ensures.own;
    }

pub returns-clause-own : goal.returns-clause-own
returns-clause-own c = subst (λ l. AreOwnIn l c.loop-piece.rows) (take_all c.loop-piece.piece-index c.args.pieces.now c.loop-piece-test.false) c.loop-piece.invariant.own
