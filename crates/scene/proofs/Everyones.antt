-- The picture, and so the screen's size, is everyone's.
use Rattle.std.proofs.Common.{◌≡◌, ℕ, true, false, cond, List, [], ◌∷◌, Option, Some, None, refl, ◌∙◌, ap}
use Rattle.std.specs.Prelude.{filter, ◌==◌}
use Rattle.framebuffer.specs.Frame.{Frame}
use Rattle.viewer.specs.Viewer.{Viewer}
use Rattle.scene.specs.declared.Config.{Config}
use Rattle.scene.specs.declared.ScreenError.{ScreenError}
use Rattle.scene.specs.declared.Event.{Event}
use Rattle.scene.specs.declared.Event.TheVariants.{Write, Paint, Mark, ScheduleCopy, DoCopy, Bell, CutText, Resize, Connect, Hear, Cut, Close}
use Rattle.scene.specs.Alone.{One, at_size, step, own_step, draw_step, after, owner_of, drawing_refusal, drawn, empty_screen}
use Rattle.scene.specs.Answers.{own, is_owner, is_drawing, picture_of}

-- the screen of one viewer alone
abbrev pub one_of : Config → ℕ → List Event → One
one_of c v es = after c (own v es) (empty_screen c)

-- the configuration with the size of now
abbrev pub now_at : Config → List Event → Config
now_at c es = at_size (picture_of c es) c

pub own-picture : (c : Config) (e : Event) (s : One) (o : Option (Viewer (List ℕ))) → (own_step c e s o).0.picture ≡ s.picture
own-picture c (Connect n) s None = refl
own-picture c (Connect n) s (Some v) = refl
own-picture c (Hear n piece) s (Some v) = refl
own-picture c (Hear n piece) s None = refl
own-picture c (Cut n) s (Some v) = refl
own-picture c (Cut n) s None = refl
own-picture c (Close n) s (Some v) = refl
own-picture c (Close n) s None = refl
own-picture c (Paint r colours) s None = refl
own-picture c (Paint r colours) s (Some v) = refl
own-picture c (Write r colours) s None = refl
own-picture c (Write r colours) s (Some v) = refl
own-picture c (Mark rects) s None = refl
own-picture c (Mark rects) s (Some v) = refl
own-picture c (ScheduleCopy rects dx dy) s None = refl
own-picture c (ScheduleCopy rects dx dy) s (Some v) = refl
own-picture c (DoCopy rects dx dy) s None = refl
own-picture c (DoCopy rects dx dy) s (Some v) = refl
own-picture c Bell s None = refl
own-picture c Bell s (Some v) = refl
own-picture c (CutText text) s None = refl
own-picture c (CutText text) s (Some v) = refl
own-picture c (Resize w h) s None = refl
own-picture c (Resize w h) s (Some v) = refl

draw-picture : (c : Config) (e : Event) (s t : One) (r : Option ScreenError) → s.picture ≡ t.picture → (draw_step c e s r).0.picture ≡ (draw_step c e t r).0.picture
draw-picture c e s t None h = ap (drawn e) h
draw-picture c e s t (Some x) h = h

same-picture : (c : Config) (v : ℕ) (es : List Event) (s t : One) → s.picture ≡ t.picture → (after c (own v es) s).picture ≡ (after c (filter (λ a. is_drawing (owner_of a)) es) t).picture
same-picture c v [] s t h = h
same-picture c v (e ∷ es) s t h = go (owner_of e) refl (λ s' t' k. same-picture c v es s' t' k)
  where
    go : (o : Option ℕ) → owner_of e ≡ o → ((s' t' : One) → s'.picture ≡ t'.picture → (after c (own v es) s').picture ≡ (after c (filter (λ a. is_drawing (owner_of a)) es) t').picture)
        → (after c (cond (is_owner v o) (e ∷ own v es) (own v es)) s).picture ≡ (after c (cond (is_drawing o) (e ∷ filter (λ a. is_drawing (owner_of a)) es) (filter (λ a. is_drawing (owner_of a)) es)) t).picture
    go None k rest = rest (step c e s).0 (step c e t).0 (rw k (draw-picture (at_size s.picture c) e s t (drawing_refusal (at_size s.picture c) e) h
        ∙ ap (λ (f : Frame). (draw_step (at_size f c) e t (drawing_refusal (at_size f c) e)).0.picture) h))
    go (Some n) k rest = elim (n == v) as (λ b. (after c (cond b (e ∷ own v es) (own v es)) s).picture ≡ (after c (filter (λ a. is_drawing (owner_of a)) es) t).picture) [
      | true ↦ rest (step c e s).0 t (rw k (own-picture (at_size s.picture c) e s s.viewer ∙ h))
      | false ↦ rest s t h
    ]

-- the picture that a viewer is sent from is the screen's
pub one-picture : (c : Config) (v : ℕ) (es : List Event) → (one_of c v es).picture ≡ picture_of c es
one-picture c v es = same-picture c v es (empty_screen c) (empty_screen c) refl
