use Rattle.std.proofs.Common.{◌≡◌, ◌≢◌, ◌⊎◌, inl, inr, ℕ, ℤ, Bool, arith, true, false, ap, ◌∙◌, sym, All, List, [], refl, subst, pos}
use Rattle.std.specs.Prelude.{FitsSigned}
use Rattle.std.specs.Int.{w32}
use Rattle.std.proofs.lemmas.Int.{to_z-of_z}
use Rattle.region.specs.declared.Rect.{Rect}
use Rattle.region.specs.Region.{covers}
use Rattle.region.specs.Places.{cut_destination, same_offset, source_rect}
use Rattle.copy_schedule.specs.Log.{IsCutEntry}
use Rattle.copy_schedule.specs.declared.LogEntry.TheVariants.{Copy}
use Rattle.viewer_list.specs.Viewers.{drawn}
use Rattle.framebuffer.specs.Picture.{places_in, moved_colours}
use Rattle.framebuffer.specs.PictureLemmas.{idle}
use Rattle.scene.specs.declared.Event.TheVariants.{DoCopy}
use Rattle.viewer.specs.Viewer.{KeptViewer}
use Rattle.std.specs.Map.{values_of}
use Rattle.scene.specs.Answers.{SceneState}
use Rattle.scene.specs.Alone.{at_size}
use Rattle.scene.proofs.Framed.{cut-on, inside-on, still-consistent}
use Rattle.scene.proofs.Drawn.{state-drawn, state-nobody, state-unseen, sized-told, told-all}
use Rattle.scene.proofs.Copies.{nothing, something, viewer_still, viewer_moved, all-cut, within, alike}
use Rattle.scene.proofs.scene.Scene.do_copy.Goals as goal

none_left : (w h : ℕ) (rects : List Rect) (by : ℤ × ℤ) (pieces : List Rect) → covers pieces ≡ cut_destination w h (places_in rects) by → (same_offset by (pos 0, pos 0) ≡ true) ⊎ (pieces ≡ [])
    → (same_offset by (pos 0, pos 0) ≡ true) ⊎ ((x y : ℤ) → cut_destination w h (places_in rects) by x y ≡ false)
none_left w h rects by pieces places (inl near) = inl near
none_left w h rects by pieces places (inr none) = inr (λ x y. ap (λ (f : ℤ → ℤ → Bool). f x y) (sym places ∙ ap covers none))

pub returns-then-moves_nothing-clause-step : goal.returns-then-moves_nothing-clause-step
returns-then-moves_nothing-clause-step c = λ config list h.
    let here = c.self.inside in
    let dx : FitsSigned w32 c.args.dx = c.ranges.dx in
    let dy : FitsSigned w32 c.args.dy = c.ranges.dy in
    let pieces : List Rect = c.in_ok-pieces.pieces.items in
    let places : covers pieces ≡ cut_destination here.picture.width here.picture.height (places_in c.args.rects.now) (c.args.dx, c.args.dy) =
    (simp to_z-of_z at c.in_ok-pieces.ensures.places) ∙ cut-on here.picture c.width-width.result c.height-height.result c.width-width.ensures.value c.height-height.ensures.value (places_in c.args.rects.now) (c.args.dx, c.args.dy) in
    let why : (same_offset (c.args.dx, c.args.dy) (pos 0, pos 0) ≡ true) ⊎ (c.deref.result.now ≡ []) = simp to_z-of_z at (c.moves_nothing.ensures.yes c.if-moves_nothing.true) in
    let quiet = nothing here.picture.width here.picture.height (places_in c.args.rects.now) (c.args.dx, c.args.dy) pieces places (subst (λ (l : List Rect). (same_offset (c.args.dx, c.args.dy) (pos 0, pos 0) ≡ true) ⊎ (l ≡ [])) c.deref.ensures.value why) in
    sym c.self.view_is ∙ state-unseen config here.config here.picture here.picture here.viewers.pairs (DoCopy c.args.rects.now c.args.dx c.args.dy) list refl refl
    (ap (λ (l : List ℕ). record here.picture { colours = l })
    (sym (idle here.picture.width here.picture.height (cut_destination here.picture.width here.picture.height (places_in c.args.rects.now) (c.args.dx, c.args.dy)) (c.args.dx, c.args.dy) here.picture.colours (omega (arith, c.self.invariant.accepted.some_columns)) c.width-width.ensures.picture.places (none_left here.picture.width here.picture.height c.args.rects.now (c.args.dx, c.args.dy) pieces places (subst (λ (l : List Rect). (same_offset (c.args.dx, c.args.dy) (pos 0, pos 0) ≡ true) ⊎ (l ≡ [])) c.deref.ensures.value why)))))
    (λ s. viewer_still here.picture.width here.picture.height (places_in c.args.rects.now) (c.args.dx, c.args.dy) s quiet) (c.self.view_is ∙ h)

pub region_of-requires : goal.region_of-requires
region_of-requires c =
    let here = c.self.inside in
    within here.picture.width here.picture.height c.in_ok-pieces.pieces.items c.deref-2.result.now c.self.invariant.accepted.columns c.self.invariant.accepted.rows c.deref-2.ensures.value
    (inside-on here.picture c.width-width.result c.height-height.result c.width-width.ensures.value c.height-height.ensures.value c.in_ok-pieces.pieces.items c.in_ok-pieces.ensures.inside)

pub move_colours-requires-clause-inside : goal.move_colours-requires-clause-inside
move_colours-requires-clause-inside c = alike c.width-width.result c.height-height.result c.self.inside.picture.width c.self.inside.picture.height (λ r. r) c.in_ok-pieces.pieces.items c.deref-then-is_empty.result.now c.width-width.ensures.value c.height-height.ensures.value c.deref-then-is_empty.ensures.value c.in_ok-pieces.ensures.inside

pub move_colours-requires-clause-sources : goal.move_colours-requires-clause-sources
move_colours-requires-clause-sources c = alike c.width-width.result c.height-height.result c.self.inside.picture.width c.self.inside.picture.height (source_rect _) c.in_ok-pieces.pieces.items c.deref-then-is_empty.result.now c.width-width.ensures.value c.height-height.ensures.value c.deref-then-is_empty.ensures.value c.in_ok-pieces.ensures.sources

pub move_colours-requires-2-clause-inside : goal.move_colours-requires-2-clause-inside
move_colours-requires-2-clause-inside c = alike c.width-width.result c.height-height.result c.self.inside.picture.width c.self.inside.picture.height (λ r. r) c.in_ok-pieces.pieces.items c.deref-3.result.now c.width-width.ensures.value c.height-height.ensures.value c.deref-3.ensures.value c.in_ok-pieces.ensures.inside

pub move_colours-requires-2-clause-sources : goal.move_colours-requires-2-clause-sources
move_colours-requires-2-clause-sources c = alike c.width-width.result c.height-height.result c.self.inside.picture.width c.self.inside.picture.height (source_rect _) c.in_ok-pieces.pieces.items c.deref-3.result.now c.width-width.ensures.value c.height-height.ensures.value c.deref-3.ensures.value c.in_ok-pieces.ensures.sources

pub commit-requires-clause-cut : goal.commit-requires-clause-cut
commit-requires-clause-cut c =
    let here = c.self.inside in
    let dx : FitsSigned w32 c.args.dx = c.ranges.dx in
    let dy : FitsSigned w32 c.args.dy = c.ranges.dy in
    let pieces : List Rect = c.in_ok-pieces.pieces.items in
    let places : covers pieces ≡ cut_destination here.picture.width here.picture.height (places_in c.args.rects.now) (c.args.dx, c.args.dy) =
    (simp to_z-of_z at c.in_ok-pieces.ensures.places) ∙ cut-on here.picture c.width-width.result c.height-height.result c.width-width.ensures.value c.height-height.ensures.value (places_in c.args.rects.now) (c.args.dx, c.args.dy) in
    let region : covers c.in_ok-region.region.list ≡ cut_destination here.picture.width here.picture.height (places_in c.args.rects.now) (c.args.dx, c.args.dy) = c.in_ok-region.ensures ∙ ap covers c.deref-2.ensures.value ∙ places in
    let cut : All (λ (s : KeptViewer). IsCutEntry s.marks.width s.marks.height (Copy c.in_ok-region.region c.args.dx c.args.dy)) (values_of here.viewers.pairs) = all-cut here.picture.width here.picture.height (places_in c.args.rects.now) c.in_ok-region.region c.args.dx c.args.dy (values_of here.viewers.pairs) region c.self.invariant.sized in
    simp to_z-of_z (subst (λ (ps : List (ℕ × KeptViewer)). All (λ (s : KeptViewer). IsCutEntry s.marks.width s.marks.height (Copy c.in_ok-region.region c.args.dx c.args.dy)) (values_of ps)) (sym c.prepare.ensures.same) cut)

pub invariant_of-self-2 : goal.invariant_of-self-2
invariant_of-self-2 c =
    let here = c.self.inside in
    let dx : FitsSigned w32 c.args.dx = c.ranges.dx in
    let dy : FitsSigned w32 c.args.dy = c.ranges.dy in
    let told = told-all _ (Copy c.in_ok-region.region c.args.dx c.args.dy) here.viewers.pairs _ _ (simp to_z-of_z at c.commit.ensures) refl c.prepare.ensures.same in
    still-consistent here.config here.picture c.move_colours-2.new.self _ _ c.in_ok-move_colours-2.ensures.ok
    (record { accepted = c.self.invariant.accepted; sized = rw told (sized-told (at_size here.picture here.config) (Copy c.in_ok-region.region c.args.dx c.args.dy) here.viewers.pairs c.self.invariant.sized) })

pub returns-clause-step : goal.returns-clause-step
returns-clause-step c = λ config list h.
    let here = c.self.inside in
    let dx : FitsSigned w32 c.args.dx = c.ranges.dx in
    let dy : FitsSigned w32 c.args.dy = c.ranges.dy in
    let pieces : List Rect = c.in_ok-pieces.pieces.items in
    let places : covers pieces ≡ cut_destination here.picture.width here.picture.height (places_in c.args.rects.now) (c.args.dx, c.args.dy) =
    (simp to_z-of_z at c.in_ok-pieces.ensures.places) ∙ cut-on here.picture c.width-width.result c.height-height.result c.width-width.ensures.value c.height-height.ensures.value (places_in c.args.rects.now) (c.args.dx, c.args.dy) in
    let region : covers c.in_ok-region.region.list ≡ cut_destination here.picture.width here.picture.height (places_in c.args.rects.now) (c.args.dx, c.args.dy) = c.in_ok-region.ensures ∙ ap covers c.deref-2.ensures.value ∙ places in
    let why : (same_offset (c.args.dx, c.args.dy) (pos 0, pos 0) ≡ false) × (c.deref.result.now ≢ []) = simp to_z-of_z at (c.moves_nothing.ensures.no c.if-moves_nothing.false) in
    let busy = something here.picture.width here.picture.height (places_in c.args.rects.now) (c.args.dx, c.args.dy) pieces places (inside-on here.picture c.width-width.result c.height-height.result c.width-width.ensures.value c.height-height.ensures.value pieces c.in_ok-pieces.ensures.inside) (subst (λ (l : List Rect). (same_offset (c.args.dx, c.args.dy) (pos 0, pos 0) ≡ false) × (l ≢ [])) c.deref.ensures.value why) in
    let told = told-all _ (Copy c.in_ok-region.region c.args.dx c.args.dy) here.viewers.pairs _ _ (simp to_z-of_z at c.commit.ensures) refl c.prepare.ensures.same in
    let picture : c.move_colours-2.new.self ≡ record here.picture { colours = moved_colours here.picture.width here.picture.height (cut_destination here.picture.width here.picture.height (places_in c.args.rects.now) (c.args.dx, c.args.dy)) (c.args.dx, c.args.dy) here.picture.colours } =
    (simp to_z-of_z at c.in_ok-move_colours-2.ensures.ok) ∙ ap (λ (f : ℤ → ℤ → Bool). record here.picture { colours = moved_colours here.picture.width here.picture.height f (c.args.dx, c.args.dy) here.picture.colours }) (ap covers c.deref-3.ensures.value ∙ places) in
    let after : List (ℕ × KeptViewer) → SceneState = λ l. record { config = here.config; picture = c.move_colours-2.new.self; viewers = l } in
    ap after told
    ∙ state-drawn config here.config here.picture c.move_colours-2.new.self here.viewers.pairs (drawn (Copy c.in_ok-region.region c.args.dx c.args.dy)) (DoCopy c.args.rects.now c.args.dx c.args.dy) list refl refl picture
    (λ s. viewer_moved here.picture.width here.picture.height (places_in c.args.rects.now) c.in_ok-region.region c.args.dx c.args.dy s region busy) (c.self.view_is ∙ h)

pub returns-then-is_empty-clause-step : goal.returns-then-is_empty-clause-step
returns-then-is_empty-clause-step c = λ config list h.
    let here = c.self.inside in
    let dx : FitsSigned w32 c.args.dx = c.ranges.dx in
    let dy : FitsSigned w32 c.args.dy = c.ranges.dy in
    let pieces : List Rect = c.in_ok-pieces.pieces.items in
    let places : covers pieces ≡ cut_destination here.picture.width here.picture.height (places_in c.args.rects.now) (c.args.dx, c.args.dy) =
    (simp to_z-of_z at c.in_ok-pieces.ensures.places) ∙ cut-on here.picture c.width-width.result c.height-height.result c.width-width.ensures.value c.height-height.ensures.value (places_in c.args.rects.now) (c.args.dx, c.args.dy) in
    let picture : c.move_colours.new.self ≡ record here.picture { colours = moved_colours here.picture.width here.picture.height (cut_destination here.picture.width here.picture.height (places_in c.args.rects.now) (c.args.dx, c.args.dy)) (c.args.dx, c.args.dy) here.picture.colours } =
    (simp to_z-of_z at c.in_ok-move_colours.ensures.ok) ∙ ap (λ (f : ℤ → ℤ → Bool). record here.picture { colours = moved_colours here.picture.width here.picture.height f (c.args.dx, c.args.dy) here.picture.colours }) (ap covers c.deref-then-is_empty.ensures.value ∙ places) in
    state-nobody config here.config here.picture c.move_colours.new.self here.viewers.pairs (DoCopy c.args.rects.now c.args.dx c.args.dy) list (c.is_empty.ensures.0 c.if-is_empty.true) refl refl picture (c.self.view_is ∙ h)
