use Rattle.std.proofs.Common.{◌≡◌, List, map, ap, ◌∙◌, sym, subst}
use Rattle.std.specs.Prelude.{min}
use Rattle.std.proofs.lemmas.List.{take_all}
use Rattle.source_pixels.specs.declared.pieces.Piece.{Piece}
use Rattle.source_pixels.specs.Differences.{AreDifferences, rows_beside}
use Rattle.source_pixels.specs.Gathering.{AreGathered, piece_of}
use Rattle.source_pixels.specs.GatheredLemmas.{differences_are}
use Rattle.source_pixels.proofs.pieces.find_differences.Goals as goal

pub returns-clause-differ : goal.returns-clause-differ
returns-clause-differ g c =
    let s = c.args.source.now in
    let p = g.B.Beside.part c.args.picture.now in
    let bands = c.in_ok-found.found.bands in
    let rows : c.min-rows.result ≡ rows_beside s p = c.min-rows.ensures ∙ ap (λ n. min n c.rows.result) c.height.ensures ∙ ap (min s.height) c.rows.ensures in
    subst (λ (l : List Piece). AreDifferences s p (record { pieces = l; places = c.in_ok-found.found.places }))
    (sym (c.loop-band.invariant ∙ ap (map (piece_of s)) (take_all c.loop-band.band-index c.as_slice-band-items.result.now c.loop-band-test.false ∙ c.as_slice-band-items.ensures)))
    (differences_are s p bands c.in_ok-found.found.places (subst (λ n. AreGathered s p 0 n bands c.in_ok-found.found.places) rows c.in_ok-found.ensures.found))
