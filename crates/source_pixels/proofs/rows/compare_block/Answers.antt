use Rattle.std.proofs.Common.{map, sym, ◌∙◌}
use Rattle.source_pixels.specs.RowLemmas.{difference_is, none_counted, none_differs}
use Rattle.source_pixels.proofs.rows.compare_block.Goals as goal

pub returns-then-places-eq0 : goal.returns-then-places-eq0
returns-then-places-eq0 g c = none_counted (map (g.C.Colours.colour_of c.args.colours.now) c.args.pixels.now) c.args.row.now _ (sym c.count_differences-places.ensures ∙ c.if-places-eq0.true)

pub returns : goal.returns
returns g c =
    difference_is (map (g.C.Colours.colour_of c.args.colours.now) c.args.pixels.now) c.args.row.now _
    c.first_difference.ensures.within c.first_difference.ensures.before c.first_difference.ensures.found
    c.end_of_differences.ensures.within c.end_of_differences.ensures.behind c.end_of_differences.ensures.found
    c.count_differences-places.ensures (λ same. c.if-places-eq0.false (c.count_differences-places.ensures ∙ none_differs _ _ _ same))
