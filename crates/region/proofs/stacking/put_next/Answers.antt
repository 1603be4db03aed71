use Rattle.std.proofs.Common.{◌≡◌, ap, sym, ◌∙◌, ◌∷◌, [], ◌++◌}
use Rattle.region.proofs.StackLemmas.{pushed, has_sides, same_rows, stack_more, places_more}
use Rattle.region.proofs.stacking.put_next.Goals as goal

pub returns-then-goes_on_row-clause-stack : goal.returns-then-goes_on_row-clause-stack
returns-then-goes_on_row-clause-stack c = λ yes.
    let old = c.args.bands.now in
    let new = c.push_interval.new.self in
    let is : new ≡ pushed c.args.rect old new.spare = c.push_interval.ensures.row ∙ ap (λ q. record old { row = old.row ++ q ∷ []; spare = new.spare }) c.columns_of.ensures in
    let same = same_rows c.args.last c.args.rect (sym c.goes_on_row.ensures ∙ c.if-goes_on_row.true) in
    let sides = has_sides c.args.rect (sym c.has_places.ensures ∙ c.if-not-has_places.false) in
    stack_more c.args.last c.args.rect old new c.requires.stack same.0 same.1 sides.0 is

pub returns-then-goes_on_row-clause-places : goal.returns-then-goes_on_row-clause-places
returns-then-goes_on_row-clause-places c = λ yes.
    let old = c.args.bands.now in
    let new = c.push_interval.new.self in
    let is : new ≡ pushed c.args.rect old new.spare = c.push_interval.ensures.row ∙ ap (λ q. record old { row = old.row ++ q ∷ []; spare = new.spare }) c.columns_of.ensures in
    let same = same_rows c.args.last c.args.rect (sym c.goes_on_row.ensures ∙ c.if-goes_on_row.true) in
    places_more c.args.last c.args.rect old new same.0 is
