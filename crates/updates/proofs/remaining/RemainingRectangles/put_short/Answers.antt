use Rattle.std.proofs.Common.{◌≡◌, ◌++◌, ◌∙◌, Some, List, ℕ, ap, subst, rules, arith}
use Rattle.messages.specs.declared.Encoding.TheVariants.{Raw}
use Rattle.pixel_translate.specs.declared.PixelFormat.{PixelFormat}
use Rattle.updates.specs.declared.remaining.Begun.{Begun}
use Rattle.updates.specs.declared.remaining.Begun.TheVariants.{Colours}
use Rattle.updates.specs.declared.remaining.Reached.TheVariants.{Within}
use Rattle.updates.specs.Remaining.{rest_of}
use Rattle.updates.proofs.RemainingLemmas.{begun_on, within_on}
use Rattle.updates.proofs.remaining.RemainingRectangles.put_short.Goals as goal

pub returns-in_ok-begun-in-Before-clause-bytes : goal.returns-in_ok-begun-in-Before-clause-bytes
returns-in_ok-begun-in-Before-clause-bytes c =
    let r = c.self.inside.rectangles in
    let raw : r.encoding ≡ Raw = search rules in
    begun_on r.encoding r.format r.copy_rects.items c.in_ok-begun-in-Before.begun r.coloured.items c.in-Before.next c.index.result.now c.args.out.now.items c.begin_in_raw.new.out.items c.self.inside.reached
    raw c.in-Before.is (omega (arith, c.if-next-len.true, c.len.ensures)) c.index.ensures (c.in_ok-begun-in-Before.ensures.bytes r.format)
    ∙ ap (λ (l : List ℕ). c.args.out.now.items ++ l) c.self.view_is

pub returns-in_ok-begun-in-Within-default-Colours-clause-bytes : goal.returns-in_ok-begun-in-Within-default-Colours-clause-bytes
returns-in_ok-begun-in-Within-default-Colours-clause-bytes c =
    let r = c.self.inside.rectangles in
    let coloured = c.index-in-Within-default-Colours.result.now in
    let next = c.in_ok-begun-in-Within-default-Colours.begun in
    let done : Begun = Colours c.in-Within-default-Colours.done in
    let here : c.self.inside.reached ≡ Within c.in-Within-default-Colours.next done = search rules in
    within_on r.encoding r.format r.copy_rects.items done next r.coloured.items c.in-Within-default-Colours.next coloured c.args.out.now.items c.go_on_in_raw.new.out.items
    c.self.inside.reached c.reached_after-self-inside.result here c.reached_after-self-inside.ensures c.self.invariant c.index-in-Within-default-Colours.ensures
    (subst (λ (f : PixelFormat). c.go_on_in_raw.new.out.items ++ rest_of f coloured next ≡ c.args.out.now.items ++ rest_of f coloured (Some done)) c.table-table.ensures c.in_ok-begun-in-Within-default-Colours.ensures.bytes)
    ∙ ap (λ (l : List ℕ). c.args.out.now.items ++ l) c.self.view_is
