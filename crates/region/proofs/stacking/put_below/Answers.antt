use Rattle.std.proofs.Common.{◌≡◌, subst, ap, sym, ◌∙◌, ◌∷◌, [], ◌++◌}
use Rattle.region.specs.Rects.{rows_in, IsClosed}
use Rattle.region.proofs.StackLemmas.{pushed, le_true, stack_begun, places_begun}
use Rattle.region.proofs.stacking.put_below.Goals as goal

pub returns-clause-stack : goal.returns-clause-stack
returns-clause-stack c = λ yes.
    let mid = c.close_row.new.bands in
    let new = c.push_interval.new.self in
    let k : IsClosed (rows_in c.args.last) c.args.bands.now mid = subst (λ r. IsClosed r c.args.bands.now mid) c.rows_of.ensures (c.close_row.ensures.closed c.if-not-close_row.false) in
    let is : new ≡ pushed c.args.rect mid new.spare = c.push_interval.ensures.row ∙ ap (λ q. record mid { row = mid.row ++ q ∷ []; spare = new.spare }) c.columns_of.ensures in
    stack_begun c.args.last c.args.rect c.args.bands.now mid new c.requires.stack k (le_true c.args.last.y2 c.args.rect.y1 (sym c.is_below.ensures ∙ c.if-not-is_below.false)) c.requires.columns c.requires.rows is

pub returns-clause-places : goal.returns-clause-places
returns-clause-places c = λ yes.
    let mid = c.close_row.new.bands in
    let new = c.push_interval.new.self in
    let k : IsClosed (rows_in c.args.last) c.args.bands.now mid = subst (λ r. IsClosed r c.args.bands.now mid) c.rows_of.ensures (c.close_row.ensures.closed c.if-not-close_row.false) in
    let is : new ≡ pushed c.args.rect mid new.spare = c.push_interval.ensures.row ∙ ap (λ q. record mid { row = mid.row ++ q ∷ []; spare = new.spare }) c.columns_of.ensures in
    places_begun c.args.last c.args.rect c.args.bands.now mid new k is
