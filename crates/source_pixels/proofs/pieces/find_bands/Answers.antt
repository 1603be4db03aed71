use Rattle.std.proofs.Common.{◌≡◌, ◌+◌, ◌-◌, ◌≤◌, List, sym, subst, ap, ◌∙◌, arith}
use Rattle.std.specs.Prelude.{min}
use Rattle.std.proofs.lemmas.Nat.{mul-le}
use Rattle.source_pixels.specs.Differences.{columns_beside}
use Rattle.source_pixels.specs.declared.bands.Band.{Band}
use Rattle.source_pixels.specs.Gathering.{AreGathered}
use Rattle.source_pixels.proofs.GatherLemmas.{gathered_told, gathered_silent}
use Rattle.source_pixels.proofs.pieces.find_bands.Goals as goal
use Rattle.source_pixels.proofs.pieces.find_bands.Goals.{in-Some+in_ok-add, in_default}

pub overflow_add-places : goal.overflow_add-places
overflow_add-places g c =
    let s = c.args.source.now in
    let p = g.B.Beside.part c.args.picture.now in
    let columns : c.min-columns.result ≡ columns_beside s p = c.min-columns.ensures ∙ ap (λ n. min n c.columns.result) c.width.ensures.value ∙ ap (min s.width) c.columns.ensures in
    let low : c.args.top ≤ c.loop-y.y = omega arith in
    let more = gathered_told s p c.args.top c.loop-y.y c.min-columns.result c.loop-y.bands.items c.add.new.bands.items c.loop-y.places c.in-Some.difference c.band_of.result columns low c.loop-y.invariant
    c.in-Some.ensures c.band_of.ensures.top c.band_of.ensures.bottom c.band_of.ensures.from c.band_of.ensures.to c.band_of.ensures.spans c.in_ok-add.ensures in
    let high : c.loop-y.y + 1 ≤ s.height = omega arith in
    let all = mul-le s.width (c.loop-y.y + 1 - c.args.top) s.width s.height (omega arith) (omega arith) in
    let small = more.small in
    let few = c.width.ensures.few in
    omega arith

pub loop-y-preserved : goal.loop-y-preserved
loop-y-preserved g c =
    let s = c.args.source.now in
    let p = g.B.Beside.part c.args.picture.now in
    let columns : c.min-columns.result ≡ columns_beside s p = c.min-columns.ensures ∙ ap (λ n. min n c.columns.result) c.width.ensures.value ∙ ap (min s.width) c.columns.ensures in
    let low : c.args.top ≤ c.loop-y.y = omega arith in
    elim c.match-row_difference.branch [
      | in-Some+in_ok-add w ↦ rw (w.places-is, w.bands-is) (gathered_told s p c.args.top c.loop-y.y c.min-columns.result c.loop-y.bands.items w.add.new.bands.items c.loop-y.places w.in-Some.difference w.band_of.result columns low
          c.loop-y.invariant w.in-Some.ensures w.band_of.ensures.top w.band_of.ensures.bottom w.band_of.ensures.from w.band_of.ensures.to w.band_of.ensures.spans w.in_ok-add.ensures)
      | in_default w ↦ rw (w.places-is, w.bands-is) (gathered_silent s p c.args.top c.loop-y.y c.min-columns.result c.loop-y.bands.items c.loop-y.places columns low c.loop-y.invariant w.in_default.ensures)
    ]

pub returns-clause-found : goal.returns-clause-found
returns-clause-found g c =
    let end : c.loop-y.y ≡ c.args.bottom = omega arith in
    subst (λ n. AreGathered c.args.source.now (g.B.Beside.part c.args.picture.now) c.args.top n c.from_vec.result c.loop-y.places) end
    (subst (λ (l : List Band). AreGathered c.args.source.now (g.B.Beside.part c.args.picture.now) c.args.top c.loop-y.y l c.loop-y.places) (sym c.from_vec.ensures) c.loop-y.invariant)
