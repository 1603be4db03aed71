use Rattle.std.proofs.Common.{sym, ◌∙◌, ap}
use Rattle.std.specs.Prelude.{int_lt, ◌&&◌}
use Rattle.region.specs.Region.{in_rect}
use Rattle.region.proofs.plain.shared.Goals as goal
use Rattle.region.proofs.PlainLemmas.{in_overlap, no_overlap}

pub returns-then-has_places-clause-places : goal.returns-then-has_places-clause-places
returns-then-has_places-clause-places c = λ x y. ap (λ r. in_rect r x y) c.overlap-rect.ensures ∙ in_overlap c.args.first c.args.second x y

pub returns-else-has_places-clause-places : goal.returns-else-has_places-clause-places
returns-else-has_places-clause-places c =
    no_overlap c.args.first c.args.second (ap (λ r. int_lt r.x1 r.x2 && int_lt r.y1 r.y2) (sym c.overlap-rect.ensures) ∙ sym c.has_places.ensures ∙ c.if-has_places.false)
