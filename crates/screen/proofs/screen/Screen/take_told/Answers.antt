use Rattle.scene.specs.declared.Event.{Event}
use Rattle.std.proofs.Common.{◌≡◌, ◌+◌, ◌-◌, ◌*◌, ◌≤◌, List, [], ◌++◌, length, map, take, refl, sym, ◌∙◌, ap, subst, append-nil, arith}
use Rattle.std.specs.Prelude.{All}
use Rattle.std.proofs.lemmas.Nat.{mul-le}
use Rattle.std.proofs.lemmas.Result.{err_from_is_err_and}
use Rattle.screen.specs.State.{state}
use Rattle.source_pixels.specs.declared.bands.Band.{Band}
use Rattle.source_pixels.specs.declared.pieces.Piece.{Piece}
use Rattle.source_pixels.specs.Differences.{IsPiece}
use Rattle.source_pixels.specs.Gathering.{piece_of}
use Rattle.source_pixels.specs.GatheredLemmas.{are_pieces}
use Rattle.screen.specs.Taken.{part_from}
use Rattle.std.proofs.lemmas.List.{map-append}
use Rattle.screen.specs.Happening.{AllHappen}
use Rattle.screen.specs.HappeningLemmas.{happen-nothing, happen-then}
use Rattle.screen.specs.Paints.{paint_of, paints_of, AreFirstPainted}
use Rattle.screen.specs.Takes.{TakesTelling}
use Rattle.screen.proofs.RowsLemmas.{no_rows, paints_append, paints_both, paints_bands, rows_more, rows_alone, rows_partly, rows_all}
use Rattle.screen.proofs.screen.Screen.take_told.Goals as goal

pub parts-init : goal.parts-init
parts-init g c = record {
  within = omega arith;
  small = omega arith;
  none = λ e. refl;
  paints = λ config list stands. ([], stands ∙ ap (state config) (sym (append-nil list)), g.T.Witness.nothing c.args.witness.now, happen-nothing config list);
  takes = λ config list fine stands. no_rows _ c.args.source.now c.args.left c.args.top config list c.args.self.now stands (g.T.Witness.nothing c.args.witness.now, happen-nothing config list);
}

pub returns-in_err-found-clause-takes : goal.returns-in_err-found-clause-takes
returns-in_err-found-clause-takes g c = λ config list fine stands.
    let s = c.args.source.now in
    let error = err_from_is_err_and c.from_residual.result c.from_residual.ensures.1 in
    subst (TakesTelling (λ es. g.T.Witness.was_told es c.args.witness.now c.parts.witness × AllHappen config list es) s c.args.left c.args.top config list c.args.self.now c.parts.self) (sym error.1)
    (rows_alone _ s c.args.left c.args.top config list c.args.self.now c.parts.self c.parts.y c.parts.places error.0 c.find_bands.ensures.accepted stands (c.parts.invariant.takes config list fine stands) error.2)

pub paint_bands-requires : goal.paint_bands-requires
paint_bands-requires g c =
    let s = c.args.source.now in
    let p = part_from c.parts.self.picture c.args.left c.args.top in
    subst (λ (l : List Band). All (IsPiece s p) (map (piece_of s) l)) (sym c.as_slice-bands.ensures)
    (are_pieces s p c.parts.y c.in-Some.end c.in_ok-found.found.bands c.in-Some.ensures.next.1 c.in_ok-found.ensures.found.are_bands.each)

pub returns-in_err-paint_bands-clause-takes : goal.returns-in_err-paint_bands-clause-takes
returns-in_err-paint_bands-clause-takes g c = λ config list fine stands.
    let s = c.args.source.now in
    let left = c.args.left in
    let top = c.args.top in
    let old = c.args.self.now in
    let bands = c.in_ok-found.found.bands in
    let error = err_from_is_err_and c.from_residual-in_err-paint_bands.result c.from_residual-in_err-paint_bands.ensures.1 in
    let h = c.parts.invariant.takes config list fine stands in
    let before = list ++ paints_of left top (map (piece_of s) h.bands) in
    let told = subst
    (λ (l : List Band). (first : AreFirstPainted left top config before (map (piece_of s) l) c.paint_bands.new.screen c.in_err-paint_bands.field-0.0)
    × g.T.Witness.was_told (paints_of left top (take first.count (map (piece_of s) l))) c.parts.witness c.paint_bands.new.witness × AllHappen config before (paints_of left top (take first.count (map (piece_of s) l))))
    c.as_slice-bands.ensures (c.in_err-paint_bands.ensures.paints config before h.events) in
    let qs : List Piece = map (piece_of s) h.bands in
    let rs : List Piece = take told.0.count (map (piece_of s) bands) in
    let holds : List Event → Type 0 = λ es. g.T.Witness.was_told es c.args.witness.now c.paint_bands.new.witness × AllHappen config list es in
    let ordered : c.parts.y ≤ c.in-Some.end = (let next = c.in-Some.ensures.next.0 in omega arith) in
    subst (TakesTelling holds s left top config list old c.paint_bands.new.screen) (sym error.1)
    (rows_partly _ holds s left top config list old c.parts.self c.paint_bands.new.screen c.parts.y c.parts.places c.in-Some.end bands c.in_ok-found.found.places told.0.count error.0 c.find_bands.ensures.accepted
    fine stands h ordered c.in-Some.ensures.next.1 c.in_ok-found.ensures.found (error.2 ∙ told.0.memory) told.0.events
    (paints_both holds left top qs rs (g.T.Witness.both _ _ _ _ _ h.holds.0 told.1, happen-then config list (paints_of left top qs) (paints_of left top rs) h.holds.1 told.2)))

pub returns-in_err-paint_bands-clause-paints : goal.returns-in_err-paint_bands-clause-paints
returns-in_err-paint_bands-clause-paints g c = λ config list stands.
    let left = c.args.left in
    let top = c.args.top in
    let qs : List Piece = map (piece_of c.args.source.now) c.as_slice-bands.result.now in
    let before = c.parts.invariant.paints config list stands in
    let told = c.in_err-paint_bands.ensures.paints config (list ++ paints_of left top before.0) before.1 in (
      before.0 ++ take told.0.count qs,
      told.0.events ∙ ap (state config) (paints_append list left top before.0 (take told.0.count qs)),
      subst (λ es. g.T.Witness.was_told es c.args.witness.now c.paint_bands.new.witness) (sym (map-append (paint_of left top) before.0 (take told.0.count qs))) (g.T.Witness.both _ _ _ _ _ before.2 told.1),
      subst (AllHappen config list) (sym (map-append (paint_of left top) before.0 (take told.0.count qs))) (happen-then config list (paints_of left top before.0) (paints_of left top (take told.0.count qs)) before.3 told.2),
    )

pub overflow_add-places : goal.overflow_add-places
overflow_add-places g c =
    let s = c.args.source.now in
    let next = c.in-Some.ensures.next in
    let few = c.in-Some.ensures.few in
    let here = c.in_ok-found.ensures.found.small in
    let so_far = c.parts.invariant.small in
    let all = mul-le s.width c.in-Some.end s.width s.height (omega arith) (let low = next.1 in omega arith) in
    let whole : s.width * c.in-Some.end ≡ s.width * c.parts.y + s.width * (c.in-Some.end - c.parts.y) =
    ap (λ n. s.width * n) (let e : c.in-Some.end ≡ c.parts.y + (c.in-Some.end - c.parts.y) = (let ordered = next.0 in omega arith) in e) ∙ omega arith in
    omega arith

pub parts-preserved : goal.parts-preserved
parts-preserved g c =
    let s = c.args.source.now in
    let left = c.args.left in
    let top = c.args.top in
    let bands = c.in_ok-found.found.bands in
    let next = c.in-Some.ensures.next in
    let found = c.in_ok-found.ensures.found in
    record {
      within = let low = next.1 in omega arith;
      small =
          let here = found.small in
          let so_far = c.parts.invariant.small in
          let whole : s.width * c.in-Some.end ≡ s.width * c.parts.y + s.width * (c.in-Some.end - c.parts.y) =
          ap (λ n. s.width * n) (let e : c.in-Some.end ≡ c.parts.y + (c.in-Some.end - c.parts.y) = (let ordered = next.0 in omega arith) in e) ∙ omega arith in
          omega arith;
      none = λ e.
          let few = found.few in
          let long = ap length c.as_slice-bands.ensures in
          c.in_ok-paint_bands.ensures.none (omega arith) ∙ c.parts.invariant.none (omega arith);
      paints = λ config list stands.
          let qs : List Piece = map (piece_of s) c.as_slice-bands.result.now in
          let before = c.parts.invariant.paints config list stands in
          let painted = c.in_ok-paint_bands.ensures.paints config (list ++ paints_of left top before.0) before.1 in (
            before.0 ++ qs,
            painted.0 ∙ ap (state config) (paints_append list left top before.0 qs),
            subst (λ es. g.T.Witness.was_told es c.args.witness.now c.paint_bands.new.witness) (sym (map-append (paint_of left top) before.0 qs)) (g.T.Witness.both _ _ _ _ _ before.2 painted.1),
            subst (AllHappen config list) (sym (map-append (paint_of left top) before.0 qs)) (happen-then config list (paints_of left top before.0) (paints_of left top qs) before.3 painted.2),
          );
      takes = λ config list fine stands.
          let h = c.parts.invariant.takes config list fine stands in
          let before = list ++ paints_of left top (map (piece_of s) h.bands) in
          let ordered : c.parts.y ≤ c.in-Some.end = (let more = next.0 in omega arith) in
          let holds : List Event → Type 0 = λ es. g.T.Witness.was_told es c.args.witness.now c.paint_bands.new.witness × AllHappen config list es in
          let told = subst
          (λ (l : List Band). (c.paint_bands.new.screen ≡ state config (before ++ paints_of left top (map (piece_of s) l)))
          × g.T.Witness.was_told (paints_of left top (map (piece_of s) l)) c.parts.witness c.paint_bands.new.witness × AllHappen config before (paints_of left top (map (piece_of s) l)))
          c.as_slice-bands.ensures (c.in_ok-paint_bands.ensures.paints config before h.events) in
          rows_more _ holds s left top config list c.args.self.now c.parts.self c.paint_bands.new.screen c.parts.y c.parts.places c.in-Some.end bands c.in_ok-found.found.places fine stands h ordered next.1 found told.0
          (paints_bands holds s left top h.bands bands
          (g.T.Witness.both _ _ _ _ _ h.holds.0 told.1, happen-then config list (paints_of left top (map (piece_of s) h.bands)) (paints_of left top (map (piece_of s) bands)) h.holds.1 told.2));
    }

pub returns-clause-takes : goal.returns-clause-takes
returns-clause-takes g c = λ config list fine stands.
    rows_all _ c.args.source.now c.args.left c.args.top config list c.args.self.now c.parts.self c.parts.y c.parts.places c.in_default.ensures.accepted fine stands (c.parts.invariant.takes config list fine stands) c.in_default.ensures.next
