use Rattle.std.proofs.Common.{◌≡◌, ◌+◌, ◌<◌, length, map, get_or, bit_or, bit_xor, sym, ◌∙◌, ap, subst, arith}
use Rattle.std.proofs.lemmas.Bool.{eqb-true, eq-eqb}
use Rattle.std.proofs.lemmas.List.{get_or-map}
use Rattle.source_pixels.specs.RowLemmas.{Gathers, gathers_none, gathers_more}
use Rattle.source_pixels.proofs.rows.are_same.Goals as goal

pub loop-x-init : goal.loop-x-init
loop-x-init g c = gathers_none _ _

pub loop-x-preserved : goal.loop-x-preserved
loop-x-preserved g c =
    let f = g.C.Colours.colour_of c.args.colours.now in
    let inside : c.loop-x.x < length c.args.pixels.now = omega arith in
    let here : c.colour.result ≡ get_or (map f c.args.pixels.now) c.loop-x.x 0 =
    c.colour.ensures ∙ ap f c.index-pixels-x.is ∙ sym (get_or-map f c.args.pixels.now c.loop-x.x c.index-pixels-x.result 0 inside) in
    subst (λ n. Gathers (map f c.args.pixels.now) c.args.row.now (bit_or c.loop-x.other (bit_xor n (get_or c.args.row.now c.loop-x.x 0))) (c.loop-x.x + 1)) (sym here)
    (gathers_more (map f c.args.pixels.now) c.args.row.now c.loop-x.other c.loop-x.x c.loop-x.invariant)

pub returns : goal.returns
returns g c =
    (λ e x from below. c.loop-x.invariant.none (eqb-true c.loop-x.other 0 e) x from (omega arith), λ h. eq-eqb c.loop-x.other 0 (c.loop-x.invariant.same (λ x from below. h x from (omega arith))))
