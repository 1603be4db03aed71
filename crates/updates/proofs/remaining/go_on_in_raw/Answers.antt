use Rattle.std.proofs.Common.{arith}
use Rattle.pixel_translate.specs.Pixel.{colour_bytes}
use Rattle.std.specs.List.{flat_map}
use Rattle.updates.proofs.RunLemmas.{run_on}
use Rattle.updates.proofs.RemainingLemmas.{some_pixels, few_added, longer}
use Rattle.updates.proofs.remaining.go_on_in_raw.Goals as goal

pub returns-then-goes_on-clause-bytes : goal.returns-then-goes_on-clause-bytes
returns-then-goes_on-clause-bytes c =
    run_on (colour_bytes c.args.table.now) c.args.out.now.items c.put_raw_pixels.new.out.items c.args.rectangle.now.colours c.piece_from-piece.result.now c.args.done c.piece_from-piece.ensures.part c.in_ok-put_raw_pixels.ensures.ok

pub returns-then-goes_on-clause-more : goal.returns-then-goes_on-clause-more
returns-then-goes_on-clause-more c =
    longer c.args.out.now.items c.put_raw_pixels.new.out.items (flat_map (colour_bytes c.args.table.now) c.piece_from-piece.result.now) c.in_ok-put_raw_pixels.ensures.ok
    (some_pixels c.args.table.now c.piece_from-piece.result.now (omega (arith, c.piece_from-piece.ensures.some)))

pub returns-else-goes_on-clause-more : goal.returns-else-goes_on-clause-more
returns-else-goes_on-clause-more c =
    longer c.args.out.now.items c.put_raw_pixels.new.out.items (flat_map (colour_bytes c.args.table.now) c.piece_from-piece.result.now) c.in_ok-put_raw_pixels.ensures.ok
    (some_pixels c.args.table.now c.piece_from-piece.result.now (omega (arith, c.piece_from-piece.ensures.some)))

pub returns-then-goes_on-clause-bound : goal.returns-then-goes_on-clause-bound
returns-then-goes_on-clause-bound c =
    few_added c.args.table.now c.args.out.now.items c.put_raw_pixels.new.out.items c.piece_from-piece.result.now c.in_ok-put_raw_pixels.ensures.ok (omega (arith, c.piece_from-piece.ensures.few))

pub returns-else-goes_on-clause-bound : goal.returns-else-goes_on-clause-bound
returns-else-goes_on-clause-bound c =
    few_added c.args.table.now c.args.out.now.items c.put_raw_pixels.new.out.items c.piece_from-piece.result.now c.in_ok-put_raw_pixels.ensures.ok (omega (arith, c.piece_from-piece.ensures.few))
