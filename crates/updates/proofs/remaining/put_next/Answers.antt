use Rattle.std.proofs.Common.{◌≡◌, ◌++◌, Some, subst}
use Rattle.pixel_translate.specs.declared.PixelFormat.{PixelFormat}
use Rattle.updates.specs.Remaining.{rest_of}
use Rattle.updates.proofs.RemainingLemmas.{within_on}
use Rattle.updates.proofs.remaining.put_next.Goals as goal

pub returns-in_ok-begun-in-Within-clause-bytes : goal.returns-in_ok-begun-in-Within-clause-bytes
returns-in_ok-begun-in-Within-clause-bytes c =
    let r = c.args.rectangles.now in
    let coloured = c.index-in-Within.result.now in
    within_on r.encoding r.format r.copy_rects.items c.in-Within.begun c.in_ok-begun-in-Within.begun r.coloured.items c.in-Within.next coloured c.args.out.now.items c.go_on.new.out.items
    c.args.reached c.reached_after-in-Within.result c.in-Within.is c.reached_after-in-Within.ensures c.requires c.index-in-Within.ensures
    (subst (λ (f : PixelFormat). c.go_on.new.out.items ++ rest_of f coloured c.in_ok-begun-in-Within.begun ≡ c.args.out.now.items ++ rest_of f coloured (Some c.in-Within.begun)) c.table-table.ensures c.in_ok-begun-in-Within.ensures.bytes)
