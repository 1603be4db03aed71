use Rattle.std.proofs.Common.{◌≤◌, List, length, subst, ◌∙◌, arith, ap}
use Rattle.std.specs.List.{flat_map}
use Rattle.std.proofs.lemmas.List.{drop_all}
use Rattle.updates.specs.declared.remaining.Reached.{Reached}
use Rattle.updates.specs.declared.parts.Coloured.{Coloured}
use Rattle.updates.specs.Updates.{coloured_bytes}
use Rattle.updates.specs.Remaining.{left_of}
use Rattle.updates.proofs.RemainingLemmas.{IsOver, is_over, test_over}
use Rattle.updates.proofs.remaining.is_nothing_left.Goals as goal

pub returns-in-Nothing : goal.returns-in-Nothing
returns-in-Nothing c =
    let r = c.args.rectangles.now in
    (λ e. cc, λ none. absurd (subst (λ (x : Reached). IsOver r.coloured.items x) c.in-Nothing.is (is_over r.encoding r.format r.copy_rects.items r.coloured.items c.args.reached c.requires none)))

pub returns-in-Within : goal.returns-in-Within
returns-in-Within c =
    let r = c.args.rectangles.now in
    (λ e. cc, λ none. absurd (subst (λ (x : Reached). IsOver r.coloured.items x) c.in-Within.is (is_over r.encoding r.format r.copy_rects.items r.coloured.items c.args.reached c.requires none)))

pub returns-in-Before : goal.returns-in-Before
returns-in-Before c =
    let r = c.args.rectangles.now in
    let next = c.in-Before.next in
    let count = r.coloured.ok.0 in
    test_over (left_of r c.args.reached) c.len.result next
    (λ h.
    let all : length r.coloured.items ≤ next = omega (arith, count, c.len.ensures, h) in
    ap (λ (x : Reached). left_of r x) c.in-Before.is
    ∙ ap (λ (cs : List Coloured). flat_map (coloured_bytes r.encoding r.format) cs) (drop_all next r.coloured.items all))
    (λ none.
    let over : length r.coloured.items ≤ next = subst (λ (x : Reached). IsOver r.coloured.items x) c.in-Before.is (is_over r.encoding r.format r.copy_rects.items r.coloured.items c.args.reached c.requires none) in
    omega (arith, count, c.len.ensures, over))
