use Rattle.subrectangles.specs.Begins.{begins_more, on_err_map}
use Rattle.encode_hextile.proofs.put_rectangle.Goals as goal

pub returns-clause-err : goal.returns-clause-err
returns-clause-err c =
    on_err_map c.put_tiles.result _ _ (begins_more c.args.out.now.items c.rect_header.new.out.items c.put_tiles.new.out.items _ c.in_ok-rect_header.ensures.ok) c.put_tiles.ensures.err
