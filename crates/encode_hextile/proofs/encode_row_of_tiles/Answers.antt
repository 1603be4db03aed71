use Rattle.encode_hextile.proofs.Pieces.{goes_on, if_both_ok}
use Rattle.encode_hextile.proofs.encode_row_of_tiles.Goals as goal

pub returns-else-is_err-clause-goes_on : goal.returns-else-is_err-clause-goes_on
returns-else-is_err-clause-goes_on c h all j is =
    if_both_ok c.put_row_of_tiles-done.result _ _ _ c.put_row_of_tiles-done.ensures.ok c.put_row_of_tiles-done.ensures.next
    (λ next e k. goes_on c.args.table.now c.args.colours.now h all j c.args.before next c.args.out.now.items c.put_row_of_tiles-done.new.out.items is e k)
