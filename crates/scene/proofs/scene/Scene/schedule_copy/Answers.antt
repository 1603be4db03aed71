use Rattle.std.proofs.Common.{ℕ, ◌≡◌, ◌≢◌, ◌⊎◌, true, false, ap, ◌∙◌, sym, All, List, [], refl, subst, pos}
use Rattle.std.specs.Prelude.{FitsSigned}
use Rattle.std.specs.Int.{w32}
use Rattle.std.proofs.lemmas.Int.{to_z-of_z}
use Rattle.region.specs.declared.Rect.{Rect}
use Rattle.region.specs.Region.{covers}
use Rattle.region.specs.Places.{cut_destination, same_offset}
use Rattle.copy_schedule.specs.Log.{IsCutEntry}
use Rattle.copy_schedule.specs.declared.LogEntry.TheVariants.{Copy}
use Rattle.client_list.specs.Connected.{changed}
use Rattle.viewer_list.specs.Viewers.{drawn}
use Rattle.framebuffer.specs.Picture.{places_in}
use Rattle.scene.specs.declared.Event.TheVariants.{ScheduleCopy}
use Rattle.viewer.specs.Viewer.{KeptViewer}
use Rattle.std.specs.Map.{values_of}
use Rattle.scene.specs.Answers.{SceneState}
use Rattle.scene.specs.Alone.{at_size}
use Rattle.scene.proofs.Framed.{cut-on, inside-on}
use Rattle.scene.proofs.Drawn.{state-drawn, state-nobody, state-unseen, sized-told}
use Rattle.scene.proofs.Copies.{nothing, something, viewer_still, viewer_moved, all-cut, within}
use Rattle.scene.proofs.scene.Scene.schedule_copy.Goals as goal

pub returns-then-moves_nothing-clause-step : goal.returns-then-moves_nothing-clause-step
returns-then-moves_nothing-clause-step c = λ config list h.
    let here = c.self.inside in
    let dx : FitsSigned w32 c.args.dx = c.ranges.dx in
    let dy : FitsSigned w32 c.args.dy = c.ranges.dy in
    let pieces : List Rect = c.in_ok-pieces.pieces.items in
    let places : covers pieces ≡ cut_destination here.picture.width here.picture.height (places_in c.args.rects.now) (c.args.dx, c.args.dy) = (simp to_z-of_z at c.in_ok-pieces.ensures.places) ∙ cut-on here.picture c.width-width.result c.height-height.result c.width-width.ensures.value c.height-height.ensures.value (places_in c.args.rects.now) (c.args.dx, c.args.dy) in
    let why : (same_offset (c.args.dx, c.args.dy) (pos 0, pos 0) ≡ true) ⊎ (c.deref.result.now ≡ []) = simp to_z-of_z at (c.moves_nothing.ensures.yes c.if-moves_nothing.true) in
    let idle = nothing here.picture.width here.picture.height (places_in c.args.rects.now) (c.args.dx, c.args.dy) pieces places (subst (λ (l : List Rect). (same_offset (c.args.dx, c.args.dy) (pos 0, pos 0) ≡ true) ⊎ (l ≡ [])) c.deref.ensures.value why) in
    sym c.self.view_is ∙ state-unseen config here.config here.picture here.picture here.viewers.pairs (ScheduleCopy c.args.rects.now c.args.dx c.args.dy) list refl refl refl
    (λ s. viewer_still here.picture.width here.picture.height (places_in c.args.rects.now) (c.args.dx, c.args.dy) s idle) (c.self.view_is ∙ h)

pub region_of-requires : goal.region_of-requires
region_of-requires c = within c.self.inside.picture.width c.self.inside.picture.height c.in_ok-pieces.pieces.items c.deref-2.result.now c.self.invariant.accepted.columns c.self.invariant.accepted.rows c.deref-2.ensures.value (inside-on c.self.inside.picture c.width-width.result c.height-height.result c.width-width.ensures.value c.height-height.ensures.value c.in_ok-pieces.pieces.items c.in_ok-pieces.ensures.inside)

pub tell-requires : goal.tell-requires
tell-requires c =
    let here = c.self.inside in
    let dx : FitsSigned w32 c.args.dx = c.ranges.dx in
    let dy : FitsSigned w32 c.args.dy = c.ranges.dy in
    let pieces : List Rect = c.in_ok-pieces.pieces.items in
    let places : covers pieces ≡ cut_destination here.picture.width here.picture.height (places_in c.args.rects.now) (c.args.dx, c.args.dy) = (simp to_z-of_z at c.in_ok-pieces.ensures.places) ∙ cut-on here.picture c.width-width.result c.height-height.result c.width-width.ensures.value c.height-height.ensures.value (places_in c.args.rects.now) (c.args.dx, c.args.dy) in
    let region : covers c.in_ok-region.region.list ≡ cut_destination here.picture.width here.picture.height (places_in c.args.rects.now) (c.args.dx, c.args.dy) = c.in_ok-region.ensures ∙ ap covers c.deref-2.ensures.value ∙ places in
    let cut : All (λ (s : KeptViewer). IsCutEntry s.marks.width s.marks.height (Copy c.in_ok-region.region c.args.dx c.args.dy)) (values_of here.viewers.pairs) = all-cut here.picture.width here.picture.height (places_in c.args.rects.now) c.in_ok-region.region c.args.dx c.args.dy (values_of here.viewers.pairs) region c.self.invariant.sized in
    record { cut = simp to_z-of_z cut }

pub invariant_of-self-2 : goal.invariant_of-self-2
invariant_of-self-2 c =
    let here = c.self.inside in
    let dx : FitsSigned w32 c.args.dx = c.ranges.dx in
    let dy : FitsSigned w32 c.args.dy = c.ranges.dy in
    let told : c.tell.new.viewers.pairs ≡ changed (drawn (Copy c.in_ok-region.region c.args.dx c.args.dy)) here.viewers.pairs = simp to_z-of_z at c.in_ok-tell.ensures.ok in
    record {
      accepted = c.self.invariant.accepted;
      sized = rw told (sized-told (at_size here.picture here.config) (Copy c.in_ok-region.region c.args.dx c.args.dy) here.viewers.pairs c.self.invariant.sized);
    }

pub returns-clause-step : goal.returns-clause-step
returns-clause-step c = λ config list h.
    let here = c.self.inside in
    let dx : FitsSigned w32 c.args.dx = c.ranges.dx in
    let dy : FitsSigned w32 c.args.dy = c.ranges.dy in
    let pieces : List Rect = c.in_ok-pieces.pieces.items in
    let places : covers pieces ≡ cut_destination here.picture.width here.picture.height (places_in c.args.rects.now) (c.args.dx, c.args.dy) = (simp to_z-of_z at c.in_ok-pieces.ensures.places) ∙ cut-on here.picture c.width-width.result c.height-height.result c.width-width.ensures.value c.height-height.ensures.value (places_in c.args.rects.now) (c.args.dx, c.args.dy) in
    let region : covers c.in_ok-region.region.list ≡ cut_destination here.picture.width here.picture.height (places_in c.args.rects.now) (c.args.dx, c.args.dy) = c.in_ok-region.ensures ∙ ap covers c.deref-2.ensures.value ∙ places in
    let why : (same_offset (c.args.dx, c.args.dy) (pos 0, pos 0) ≡ false) × (c.deref.result.now ≢ []) = simp to_z-of_z at (c.moves_nothing.ensures.no c.if-moves_nothing.false) in
    let busy = something here.picture.width here.picture.height (places_in c.args.rects.now) (c.args.dx, c.args.dy) pieces places (inside-on here.picture c.width-width.result c.height-height.result c.width-width.ensures.value c.height-height.ensures.value pieces c.in_ok-pieces.ensures.inside) (subst (λ (l : List Rect). (same_offset (c.args.dx, c.args.dy) (pos 0, pos 0) ≡ false) × (l ≢ [])) c.deref.ensures.value why) in
    let told : c.tell.new.viewers.pairs ≡ changed (drawn (Copy c.in_ok-region.region c.args.dx c.args.dy)) here.viewers.pairs = simp to_z-of_z at c.in_ok-tell.ensures.ok in
    let after : List (ℕ × KeptViewer) → SceneState = λ l. record { config = here.config; picture = here.picture; viewers = l } in
    ap after told
    ∙ state-drawn config here.config here.picture here.picture here.viewers.pairs (drawn (Copy c.in_ok-region.region c.args.dx c.args.dy)) (ScheduleCopy c.args.rects.now c.args.dx c.args.dy) list refl refl refl
    (λ s. viewer_moved here.picture.width here.picture.height (places_in c.args.rects.now) c.in_ok-region.region c.args.dx c.args.dy s region busy) (c.self.view_is ∙ h)

pub returns-then-is_empty-clause-step : goal.returns-then-is_empty-clause-step
returns-then-is_empty-clause-step c = λ config list h.
    let here = c.self.inside in
    sym c.self.view_is ∙ state-nobody config here.config here.picture here.picture here.viewers.pairs (ScheduleCopy c.args.rects.now c.args.dx c.args.dy) list (c.is_empty.ensures.0 c.if-is_empty.true) refl refl refl (c.self.view_is ∙ h)
