-- What one event more does to what a screen holds.
use Rattle.std.proofs.Common.{◌≡◌, ℕ, Bool, true, false, cond, List, [], ◌∷◌, ◌++◌, map, Option, Some, None, refl, ◌∙◌, ap}
use Rattle.std.specs.Prelude.{filter, option_map}
use Rattle.std.specs.List.{filter_map, cons_option}
use Rattle.messages.specs.Reading.{Rest, is_open_rest}
use Rattle.scene.specs.declared.Config.{Config}
use Rattle.scene.specs.declared.Event.{Event}
use Rattle.scene.specs.declared.Event.TheVariants.{Write, Paint, Mark, ScheduleCopy, DoCopy, Bell, CutText, Resize, Connect, Hear, Cut, Close}
use Rattle.viewer.specs.Viewer.{Viewer, is_open_viewer, kept_viewer}
use Rattle.framebuffer.specs.Frame.{Frame}
use Rattle.scene.specs.Alone.{One, at_size, step, after, owner_of, drawing_refusal, drawn, shown_drawing, empty_screen}
use Rattle.scene.proofs.Opened.{open-kept}
use Rattle.scene.proofs.Everyones.{one_of, now_at, one-picture}
use Rattle.scene.specs.Answers.{own, is_owner, is_drawing, picture_of, viewer_of, live_from, after_arrival, entry_of, SceneState, scene_after}

-- one event more
pub after-append : (c : Config) (es : List Event) (e : Event) (s : One) → after c (es ++ e ∷ []) s ≡ (step c e (after c es s)).0
after-append c [] e s = refl
after-append c (a ∷ es) e s = after-append c es e (step c a s).0

pub filter-append : {X : Type 0} (p : X → Bool) (xs : List X) (x : X) → filter p (xs ++ x ∷ []) ≡ filter p xs ++ filter p (x ∷ [])
filter-append p [] x = refl
filter-append p (y ∷ xs) x = elim (p y) as (λ b. cond b (y ∷ filter p (xs ++ x ∷ [])) (filter p (xs ++ x ∷ [])) ≡ cond b (y ∷ filter p xs) (filter p xs) ++ filter p (x ∷ [])) [
  | true ↦ ap (λ l. y ∷ l) (filter-append p xs x)
  | false ↦ filter-append p xs x
]

pub live-append : (there : List ℕ) (es : List Event) (e : Event) → live_from there (es ++ e ∷ []) ≡ after_arrival e (live_from there es)
live-append there [] e = refl
live-append there (a ∷ es) e = live-append (after_arrival a there) es e

-- a drawing call that is not refused
abbrev pub IsDrawing : Config → Event → Type 0
IsDrawing c e = (owner_of e ≡ None) × (drawing_refusal c e ≡ None)

-- it is everyone's
pub own-drawing : (v : ℕ) (es : List Event) (e : Event) → owner_of e ≡ None → own v (es ++ e ∷ []) ≡ own v es ++ e ∷ []
own-drawing v es e h = filter-append (λ a. is_owner v (owner_of a)) es e ∙ ap (λ o. own v es ++ cond (is_owner v o) (e ∷ []) []) h

pub drawings-drawing : (es : List Event) (e : Event) → owner_of e ≡ None → filter (λ a. is_drawing (owner_of a)) (es ++ e ∷ []) ≡ filter (λ a. is_drawing (owner_of a)) es ++ e ∷ []
drawings-drawing es e h = filter-append (λ a. is_drawing (owner_of a)) es e ∙ ap (λ o. filter (λ a. is_drawing (owner_of a)) es ++ cond (is_drawing o) (e ∷ []) []) h

-- it changes the picture, and the viewer that is there
pub step-drawing : (c : Config) (e : Event) (s : One) → IsDrawing (at_size s.picture c) e
    → (step c e s).0 ≡ record { picture = drawn e s.picture; viewer = option_map (λ v. shown_drawing (at_size s.picture c) e (is_open_viewer v) v) s.viewer }
step-drawing c e s h = rw (h.0, h.1) refl

pub arrival-drawing : (e : Event) (there : List ℕ) → owner_of e ≡ None → after_arrival e there ≡ there
arrival-drawing (Connect n) there h = cc
arrival-drawing (Close n) there h = cc
arrival-drawing (Hear n piece) there h = refl
arrival-drawing (Cut n) there h = refl
arrival-drawing (Paint r colours) there h = refl
arrival-drawing (Write r colours) there h = refl
arrival-drawing (Mark rects) there h = refl
arrival-drawing (ScheduleCopy rects dx dy) there h = refl
arrival-drawing (DoCopy rects dx dy) there h = refl
arrival-drawing Bell there h = refl
arrival-drawing (CutText text) there h = refl
arrival-drawing (Resize w k) there h = refl

-- the picture's machine
abbrev pub drawn_by : Config → List Event → One
drawn_by c es = after c (filter (λ a. is_drawing (owner_of a)) es) (empty_screen c)

pub picture-drawing : (c : Config) (es : List Event) (e : Event) → IsDrawing (now_at c es) e → picture_of c (es ++ e ∷ []) ≡ drawn e (picture_of c es)
picture-drawing c es e h =
    ap (λ l. (after c l (empty_screen c)).picture) (drawings-drawing es e h.0)
    ∙ ap (λ (s : One). s.picture) (after-append c (filter (λ a. is_drawing (owner_of a)) es) e (empty_screen c) ∙ step-drawing c e (drawn_by c es) h)

pub viewer-drawing : (c : Config) (v : ℕ) (es : List Event) (e : Event) → IsDrawing (now_at c es) e → viewer_of c v (es ++ e ∷ []) ≡ option_map (λ w. shown_drawing (now_at c es) e (is_open_viewer w) w) (viewer_of c v es)
viewer-drawing c v es e h =
    ap (λ l. (after c l (empty_screen c)).viewer) (own-drawing v es e h.0)
    ∙ ap (λ (s : One). s.viewer) (after-append c (own v es) e (empty_screen c) ∙ step-drawing c e (one_of c v es) (h.0, ap (λ f. drawing_refusal (at_size f c) e) (one-picture c v es) ∙ h.1))
    ∙ ap (λ f. option_map (λ w. shown_drawing (at_size f c) e (is_open_viewer w) w) (viewer_of c v es)) (one-picture c v es)

-- What a drawing call does to a viewer as it is kept.
abbrev pub redrawn : Config → Event → ℕ × Viewer Rest → ℕ × Viewer Rest
redrawn c e entry = (entry.0, shown_drawing c e (is_open_rest entry.1.heard) entry.1)

kept-drawing : (c : Config) (e : Event) (b : Bool) (v : Viewer (List ℕ)) → kept_viewer (shown_drawing c e b v) ≡ shown_drawing c e b (kept_viewer v)
kept-drawing c (Connect n) b v = refl
kept-drawing c (Close n) b v = refl
kept-drawing c (Hear n piece) b v = refl
kept-drawing c (Cut n) b v = refl
kept-drawing c (Paint r colours) b v = refl
kept-drawing c (Write r colours) b v = refl
kept-drawing c (Mark rects) b v = refl
kept-drawing c (ScheduleCopy rects dx dy) b v = refl
kept-drawing c (DoCopy rects dx dy) b v = refl
kept-drawing c Bell b v = refl
kept-drawing c (CutText text) b v = refl
kept-drawing c (Resize w h) b v = refl

entry-drawing : (c : Config) (e : Event) (v : ℕ) (o : Option (Viewer (List ℕ))) → entry_of v (option_map (λ w. shown_drawing c e (is_open_viewer w) w) o) ≡ option_map (redrawn c e) (entry_of v o)
entry-drawing c e v None = refl
entry-drawing c e v (Some w) = ap (λ k. Some (v, k)) (kept-drawing c e (is_open_viewer w) w ∙ ap (λ b. shown_drawing c e b (kept_viewer w)) (open-kept w))

all-entries : (c : Config) (es : List Event) (e : Event) → IsDrawing (now_at c es) e → (there : List ℕ) → filter_map (λ v. entry_of v (viewer_of c v (es ++ e ∷ []))) there ≡ map (redrawn (now_at c es) e) (filter_map (λ v. entry_of v (viewer_of c v es)) there)
all-entries c es e h [] = refl
all-entries c es e h (v ∷ there) =
    ap (λ o. cons_option (entry_of v o) (filter_map (λ u. entry_of u (viewer_of c u (es ++ e ∷ []))) there)) (viewer-drawing c v es e h)
    ∙ ap (λ o. cons_option o (filter_map (λ u. entry_of u (viewer_of c u (es ++ e ∷ []))) there)) (entry-drawing (now_at c es) e v (viewer_of c v es))
    ∙ ap (cons_option (option_map (redrawn (now_at c es) e) (entry_of v (viewer_of c v es)))) (all-entries c es e h there)
    ∙ map-cons (redrawn (now_at c es) e) (entry_of v (viewer_of c v es)) (filter_map (λ u. entry_of u (viewer_of c u es)) there)
  where
    map-cons : {X : Type 0} (f : X → X) (o : Option X) (xs : List X) → cons_option (option_map f o) (map f xs) ≡ map f (cons_option o xs)
    map-cons f None xs = refl
    map-cons f (Some x) xs = refl

-- the screen after a drawing call that is not refused
pub state-drawing : (c : Config) (es : List Event) (e : Event) → IsDrawing (now_at c es) e →
    scene_after c (es ++ e ∷ []) ≡ record { config = c; picture = drawn e (scene_after c es).picture; viewers = map (redrawn (now_at c es) e) (scene_after c es).viewers }
state-drawing c es e h =
    let s : Frame → List (ℕ × Viewer Rest) → SceneState = λ p vs. record { config = c; picture = p; viewers = vs } in
    ap (λ p. s p (scene_after c (es ++ e ∷ [])).viewers) (picture-drawing c es e h)
    ∙ ap (s (drawn e (picture_of c es))) (ap (filter_map (λ v. entry_of v (viewer_of c v (es ++ e ∷ [])))) (live-append [] es e ∙ arrival-drawing e (live_from [] es) h.0)
    ∙ all-entries c es e h (live_from [] es))
