-- What a sending step does, by what a screen keeps of the viewer.
use Rattle.std.proofs.Common.{◌≡◌, ℕ, Bool, true, false, cond, List, [], ◌∷◌, ◌++◌, map, Option, Some, None, refl, ◌∙◌, ap}
use Rattle.framebuffer.specs.Frame.{Frame}
use Rattle.copy_schedule.specs.Marks.{Sent, cut_of}
use Rattle.messages.specs.Reading.{is_open_rest}
use Rattle.scene.specs.declared.Config.{Config}
use Rattle.scene.specs.declared.Event.{Event}
use Rattle.scene.specs.declared.Event.TheVariants.{Cut}
use Rattle.viewer.specs.Viewer.{Viewer, is_open_viewer, kept_viewer}
use Rattle.viewer.specs.Sending.{tells_size, with_size, with_update, sending_open, sending, sending_kept}
use Rattle.scene.specs.Alone.{own_step, gives}
use Rattle.scene.specs.Answers.{viewer_of, picture_of, scene_after, answer_to}
use Rattle.scene.proofs.Opened.{open-kept}
use Rattle.scene.proofs.Everyones.{one_of, now_at, one-picture}
use Rattle.scene.proofs.Owners.{replaced, viewer-hit, answer-hit, state-own}

both : (w h limit : ℕ) (picture : List ℕ) (v : Viewer (List ℕ)) → ((sending w h limit picture v).0 ≡ (sending_kept w h limit picture (kept_viewer v)).0) × (kept_viewer (sending w h limit picture v).1 ≡ (sending_kept w h limit picture (kept_viewer v)).1)
both w h limit picture v = (by_open (is_open_viewer v) (is_open_rest (kept_viewer v).heard) (open-kept v), by_open_after (is_open_viewer v) (is_open_rest (kept_viewer v).heard) (open-kept v))
  where
    opened : {B : Type 0} → Viewer B → Bool → Option Sent → List ℕ × Viewer B
    opened u tells o = cond tells (with_size w h u) (with_update w h picture u o)

    bytes : (tells : Bool) (o : Option Sent) → (opened v tells o).0 ≡ (opened (kept_viewer v) tells o).0
    bytes true o = refl
    bytes false None = refl
    bytes false (Some s) = refl

    viewers : (tells : Bool) (o : Option Sent) → kept_viewer (opened v tells o).1 ≡ (opened (kept_viewer v) tells o).1
    viewers true o = refl
    viewers false None = refl
    viewers false (Some s) = refl

    by_open : (a b : Bool) → a ≡ b → (cond a (sending_open w h limit picture v) ([], v)).0 ≡ (cond b (sending_open w h limit picture (kept_viewer v)) ([], kept_viewer v)).0
    by_open true true e = bytes (tells_size w h v) (cut_of limit v.marks)
    by_open false false e = refl
    by_open true false e = absurd cc
    by_open false true e = absurd cc

    by_open_after : (a b : Bool) → a ≡ b → kept_viewer (cond a (sending_open w h limit picture v) ([], v)).1 ≡ (cond b (sending_open w h limit picture (kept_viewer v)) ([], kept_viewer v)).1
    by_open_after true true e = viewers (tells_size w h v) (cut_of limit v.marks)
    by_open_after false false e = refl
    by_open_after true false e = absurd cc
    by_open_after false true e = absurd cc

-- the screen after a sending step of a viewer that is there
pub state-cut : (c : Config) (es : List Event) (v : ℕ) (was : Viewer (List ℕ)) → viewer_of c v es ≡ Some was
    → let f = (scene_after c es).picture in scene_after c (es ++ Cut v ∷ []) ≡ record (scene_after c es) { viewers = map (replaced v (sending_kept f.width f.height c.rects_per_update f.colours (kept_viewer was)).1) (scene_after c es).viewers }
state-cut c es v was there =
    let f : Frame = picture_of c es in
    let now : Viewer (List ℕ) = (sending f.width f.height c.rects_per_update f.colours was).1 in
    state-own c es (Cut v) v was now refl (λ there. refl) there
    (viewer-hit c v es (Cut v) refl ∙ ap (λ o. (own_step (now_at c es) (Cut v) (one_of c v es) o).0.viewer) there ∙ ap (λ (p : Frame). Some (sending f.width f.height c.rects_per_update p.colours was).1) (one-picture c v es))
    ∙ ap (λ w. record (scene_after c es) { viewers = map (replaced v w) (scene_after c es).viewers }) (both f.width f.height c.rects_per_update f.colours was).1

pub answer-cut : (c : Config) (es : List Event) (v : ℕ) (was : Viewer (List ℕ)) → viewer_of c v es ≡ Some was
    → let f = (scene_after c es).picture in answer_to c es (Cut v) ≡ gives (sending_kept f.width f.height c.rects_per_update f.colours (kept_viewer was)).0
answer-cut c es v was there =
    let f : Frame = picture_of c es in
    answer-hit c v es (Cut v) refl ∙ ap (λ o. (own_step (now_at c es) (Cut v) (one_of c v es) o).1) there
    ∙ ap (λ (p : Frame). gives (sending f.width f.height c.rects_per_update p.colours was).0) (one-picture c v es)
    ∙ ap gives (both f.width f.height c.rects_per_update f.colours was).0
