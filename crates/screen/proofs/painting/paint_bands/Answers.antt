use Rattle.std.proofs.Common.{◌<◌, List, [], ◌∷◌, ◌++◌, length, map, get_or, take, sym, ◌∙◌, ap, subst, arith}
use Rattle.std.proofs.lemmas.Result.{err_from_is_err_and}
use Rattle.std.proofs.lemmas.List.{get_or-map, get_or_default, length-map}
use Rattle.screen.specs.State.{state}
use Rattle.source_pixels.specs.declared.bands.Band.{Band}
use Rattle.source_pixels.specs.declared.pieces.Piece.{Piece}
use Rattle.source_pixels.specs.Gathering.{piece_of}
use Rattle.screen.specs.Taken.{part_from}
use Rattle.screen.specs.Happening.{AllHappen}
use Rattle.screen.specs.HappeningLemmas.{happen-then}
use Rattle.screen.specs.Paints.{paint_of, paints_of, PaintsTold}
use Rattle.screen.proofs.EventLemmas.{paints-more, paints-taken}
use Rattle.screen.proofs.TakeLemmas.{accepted_behind, band_placed, first_pieces}
use Rattle.screen.proofs.painting.paint_bands.Goals as goal

abbrev no_band : Band
no_band = record { top = 0; bottom = 0; from = 0; to = 0; spans = 0 }

pub paint_band-requires : goal.paint_band-requires
paint_band-requires g c =
    let bands = c.args.bands.now in
    let k = c.loop-band.band-index in
    let b = get_or bands k no_band in
    let placed = band_placed c.args.source.now (part_from c.args.screen.now.picture c.args.left c.args.top) bands k b c.requires c.loop-band-test.true (get_or_default bands k no_band b c.loop-band-test.true) in
    let h = placed.1 in
    let some = h.some_columns in let wide = h.wide in let some_rows = h.some_rows in let high = h.high in
    record {
      band = record { some_columns = some; wide = omega arith; some_rows = some_rows; low = omega arith; high = omega arith };
      right = omega arith;
      bottom = omega arith;
    }

pub returns-in_err-paint_band-clause-paints : goal.returns-in_err-paint_band-clause-paints
returns-in_err-paint_band-clause-paints g c = λ config list stands.
    let s = c.args.source.now in
    let left = c.args.left in
    let top = c.args.top in
    let bands = c.args.bands.now in
    let k = c.loop-band.band-index in
    let b = get_or bands k no_band in
    let old = c.args.screen.now in
    let p = part_from old.picture left top in
    let qs : List Piece = map (piece_of s) bands in
    let placed = band_placed s p bands k b c.requires c.loop-band-test.true (get_or_default bands k no_band b c.loop-band-test.true) in
    let error = err_from_is_err_and c.from_residual.result c.from_residual.ensures.1 in
    let events = c.loop-band.invariant.events config list stands in
    let fine = accepted_behind s left top config list old c.loop-band.screen (take k qs) (piece_of s b) stands (first_pieces s p k qs c.requires) events placed.0 in
    let told = subst (λ w. g.T.Witness.was_told (paints_of left top (take k qs)) c.args.witness.now w) (sym c.in_err-paint_band.ensures.untold) c.loop-band.invariant.told in
    subst (PaintsTold left top config list qs (λ es. g.T.Witness.was_told es c.args.witness.now c.paint_band.new.witness) c.paint_band.new.screen) (sym error.1)
    (record { memory = error.2 ∙ c.in_err-paint_band.ensures.refused fine; count = k; events = c.in_err-paint_band.ensures.err ∙ events }, told, c.loop-band.invariant.happened config list stands)

pub loop-band-preserved : goal.loop-band-preserved
loop-band-preserved g c =
    let s = c.args.source.now in
    let left = c.args.left in
    let top = c.args.top in
    let bands = c.args.bands.now in
    let k = c.loop-band.band-index in
    let qs : List Piece = map (piece_of s) bands in
    let below : k < length qs = (let long = length-map bands (piece_of s) in let test = c.loop-band-test.true in omega arith) in
    record {
      events = λ config list stands.
          c.in_ok-paint_band.ensures.step config (list ++ paints_of left top (take k qs)) (c.loop-band.invariant.events config list stands)
          ∙ ap (state config) (ap (λ (q : Piece). (list ++ paints_of left top (take k qs)) ++ paint_of left top q ∷ []) (sym (get_or-map (piece_of s) bands k no_band (piece_of s no_band) c.loop-band-test.true))
          ∙ paints-more list left top qs k (piece_of s no_band) below);
      told =
          subst (λ es. g.T.Witness.was_told es c.args.witness.now c.paint_band.new.witness)
          (ap (λ (q : Piece). paints_of left top (take k qs) ++ paint_of left top q ∷ []) (sym (get_or-map (piece_of s) bands k no_band (piece_of s no_band) c.loop-band-test.true)) ∙ paints-taken left top qs k (piece_of s no_band) below)
          (g.T.Witness.both _ _ _ _ _ c.loop-band.invariant.told c.in_ok-paint_band.ensures.told);
      happened = λ config list stands.
          subst (AllHappen config list)
          (ap (λ (q : Piece). paints_of left top (take k qs) ++ paint_of left top q ∷ []) (sym (get_or-map (piece_of s) bands k no_band (piece_of s no_band) c.loop-band-test.true)) ∙ paints-taken left top qs k (piece_of s no_band) below)
          (happen-then config list (paints_of left top (take k qs)) (paint_of left top (piece_of s (get_or bands k no_band)) ∷ []) (c.loop-band.invariant.happened config list stands)
          (c.in_ok-paint_band.ensures.happened config (list ++ paints_of left top (take k qs)) (c.loop-band.invariant.events config list stands)));
      none = λ e. absurd (omega arith);
    }
