use Rattle.std.proofs.Common.{◌≡◌, ◌+◌, ◌<◌, length, map, get_or, sym, ◌∙◌, ap, arith}
use Rattle.std.proofs.lemmas.List.{get_or-map}
use Rattle.source_pixels.specs.RowLemmas.{count_at_most, count_differing, count_same}
use Rattle.source_pixels.proofs.rows.count_differences.Goals as goal
use Rattle.source_pixels.proofs.rows.count_differences.Goals.{then-colour-row, else-colour-row}

pub overflow_add-places : goal.overflow_add-places
overflow_add-places g c =
    let f = g.C.Colours.colour_of c.args.colours.now in
    omega (arith, count_at_most (map f c.args.pixels.now) c.args.row.now c.loop-x.x)

pub loop-x-preserved : goal.loop-x-preserved
loop-x-preserved g c =
    let f = g.C.Colours.colour_of c.args.colours.now in
    let inside : c.loop-x.x < length c.args.pixels.now = omega arith in
    let here : c.colour.result ≡ get_or (map f c.args.pixels.now) c.loop-x.x 0 =
    c.colour.ensures ∙ ap f c.index-pixels-x.is ∙ sym (get_or-map f c.args.pixels.now c.loop-x.x c.index-pixels-x.result 0 inside) in
    elim c.if-colour-row.branch [
      | then-colour-row w ↦ w.places-is ∙ ap (λ n. n + 1) c.loop-x.invariant ∙ sym (count_differing (map f c.args.pixels.now) c.args.row.now c.loop-x.x (λ e. w.if-colour-row.true (here ∙ e)))
      | else-colour-row w ↦ w.places-is ∙ c.loop-x.invariant ∙ sym (count_same (map f c.args.pixels.now) c.args.row.now c.loop-x.x (sym here ∙ w.if-colour-row.false))
    ]
