-- What drawing calls do to a screen, by its viewers' seats.
use Rattle.std.proofs.Common.{◌≡◌, ℕ, ℤ, Bool, false, List, [], ◌∷◌, ◌++◌, map, All, None, refl, sym, ◌∙◌, ap, subst}
use Rattle.std.specs.Map.{values_of}
use Rattle.std.proofs.lemmas.List.Elements.{All-map}
use Rattle.messages.specs.Reading.{Rest, is_open_rest}
use Rattle.client_list.specs.Connected.{changed}
use Rattle.copy_schedule.specs.declared.LogEntry.{LogEntry}
use Rattle.scene.specs.declared.Config.{Config}
use Rattle.scene.specs.declared.Event.{Event}
use Rattle.viewer.specs.Viewer.{KeptViewer, Viewer, viewer_marked}
use Rattle.viewer_list.specs.Viewers.{drawn as told_of}
use Rattle.viewer_list.specs.SizeLemmas.{drawn_size}
use Rattle.framebuffer.specs.Frame.{Frame}
use Rattle.scene.specs.Alone.{at_size, drawing_refusal, drawn, shown_drawing, owner_of}
use Rattle.scene.specs.Answers.{SceneState, scene_after}
use Rattle.scene.specs.Consistent.{IsSized}
use Rattle.scene.proofs.Owing.{unmarked}
use Rattle.scene.proofs.Steps.{redrawn, state-drawing}

-- a seat changes as the drawing call's viewer does
abbrev pub IsShown : Config → Event → (KeptViewer → KeptViewer) → Type 0
IsShown c e g = (s : KeptViewer) → g s ≡ shown_drawing c e (is_open_rest s.heard) s

entries-changed : (c : Config) (e : Event) (g : KeptViewer → KeptViewer) (pairs : List (ℕ × KeptViewer)) → IsShown c e g → changed g pairs ≡ map (redrawn c e) pairs
entries-changed c e g [] each = refl
entries-changed c e g (pair ∷ pairs) each = ap (λ v. (pair.0, v) ∷ changed g pairs) (each pair.1) ∙ ap (λ l. redrawn c e pair ∷ l) (entries-changed c e g pairs each)

-- the screen after a drawing call changed the picture and each seat
pub state-drawn : (config made : Config) (picture new_picture : Frame) (pairs : List (ℕ × KeptViewer)) (g : KeptViewer → KeptViewer) (e : Event) (es : List Event) → owner_of e ≡ None → drawing_refusal (at_size picture made) e ≡ None
    → new_picture ≡ drawn e picture → IsShown (at_size picture made) e g
    → record { config = made; picture = picture; viewers = pairs } ≡ scene_after config es
    → record { config = made; picture = new_picture; viewers = changed g pairs } ≡ scene_after config (es ++ e ∷ [])
state-drawn config made picture new_picture pairs g e es everyone accepted painted each h =
    let s : Frame → List (ℕ × Viewer Rest) → SceneState = λ p vs. record { config = made; picture = p; viewers = vs } in
    ap (λ p. s p (changed g pairs)) painted
    ∙ ap (s (drawn e picture)) (entries-changed (at_size picture made) e g pairs each)
    ∙ ap (λ (was : SceneState). record { config = was.config; picture = drawn e was.picture; viewers = map (redrawn (at_size was.picture was.config) e) was.viewers }) h
    ∙ sym (state-drawing config es e (everyone, sym (ap (λ (was : SceneState). drawing_refusal (at_size was.picture was.config) e) h) ∙ accepted))

-- the same where there is no viewer
pub state-nobody : (config made : Config) (picture new_picture : Frame) (pairs : List (ℕ × KeptViewer)) (e : Event) (es : List Event) → pairs ≡ [] → owner_of e ≡ None → drawing_refusal (at_size picture made) e ≡ None
    → new_picture ≡ drawn e picture
    → record { config = made; picture = picture; viewers = pairs } ≡ scene_after config es
    → record { config = made; picture = new_picture; viewers = pairs } ≡ scene_after config (es ++ e ∷ [])
state-nobody config made picture new_picture pairs e es nobody everyone accepted painted h =
    let s : Frame → List (ℕ × KeptViewer) → SceneState = λ p vs. record { config = made; picture = p; viewers = vs } in
    ap (s new_picture) nobody
    ∙ state-drawn config made picture new_picture [] (λ v. shown_drawing (at_size picture made) e (is_open_rest v.heard) v) e es everyone accepted painted (λ v. refl) (ap (s picture) (sym nobody) ∙ h)

-- the same where no seat changes
pub state-unseen : (config made : Config) (picture new_picture : Frame) (pairs : List (ℕ × KeptViewer)) (e : Event) (es : List Event) → owner_of e ≡ None → drawing_refusal (at_size picture made) e ≡ None
    → new_picture ≡ drawn e picture → IsShown (at_size picture made) e (λ s. s)
    → record { config = made; picture = picture; viewers = pairs } ≡ scene_after config es
    → record { config = made; picture = new_picture; viewers = pairs } ≡ scene_after config (es ++ e ∷ [])
state-unseen config made picture new_picture pairs e es everyone accepted painted each h =
    ap (λ (l : List (ℕ × KeptViewer)). record { config = made; picture = new_picture; viewers = l }) (sym (all_same pairs))
    ∙ state-drawn config made picture new_picture pairs (λ s. s) e es everyone accepted painted each h
  where
    all_same : (pairs : List (ℕ × KeptViewer)) → changed (λ s. s) pairs ≡ pairs
    all_same [] = refl
    all_same (pair ∷ pairs) = ap (λ (l : List (ℕ × KeptViewer)). pair ∷ l) (all_same pairs)

-- the same where no place is drawn: each viewer's marks stay
pub state-empty : (config made : Config) (picture new_picture : Frame) (pairs : List (ℕ × KeptViewer)) (set : ℤ → ℤ → Bool) (e : Event) (es : List Event) → owner_of e ≡ None → drawing_refusal (at_size picture made) e ≡ None
    → new_picture ≡ drawn e picture → IsShown (at_size picture made) e (viewer_marked set) → ((x y : ℤ) → set x y ≡ false) → All (IsSized (at_size picture made)) (values_of pairs)
    → record { config = made; picture = picture; viewers = pairs } ≡ scene_after config es
    → record { config = made; picture = new_picture; viewers = pairs } ≡ scene_after config (es ++ e ∷ [])
state-empty config made picture new_picture pairs set e es everyone accepted painted each none sized h =
    ap (λ (l : List (ℕ × KeptViewer)). record { config = made; picture = new_picture; viewers = l }) (sym (unmarked set pairs none (λ k d below. (sized k d below).whole)))
    ∙ state-drawn config made picture new_picture pairs (viewer_marked set) e es everyone accepted painted each h

pub values-changed : (g : KeptViewer → KeptViewer) (pairs : List (ℕ × KeptViewer)) → values_of (changed g pairs) ≡ map g (values_of pairs)
values-changed g [] = refl
values-changed g (pair ∷ pairs) = ap (λ l. g pair.1 ∷ l) (values-changed g pairs)

-- seats whose marks keep their size
pub sized-changed : (c : Config) (g : KeptViewer → KeptViewer) (pairs : List (ℕ × KeptViewer)) → ((s : KeptViewer) → IsSized c s → IsSized c (g s)) → All (IsSized c) (values_of pairs) → All (IsSized c) (values_of (changed g pairs))
sized-changed c g pairs keeps all = subst (All (IsSized c)) (sym (values-changed g pairs)) (All-map (IsSized c) g (values_of pairs) (λ k d below. keeps _ (all k d below)))

-- a drawing call leaves the size of a viewer's marks
pub sized-told : (c : Config) (call : LogEntry) (pairs : List (ℕ × KeptViewer)) → All (IsSized c) (values_of pairs) → All (IsSized c) (values_of (changed (told_of call) pairs))
sized-told c call pairs all = sized-changed c (told_of call) pairs (drawn_size c.width c.height call) all

-- a drawing call was prepared, and the viewers were told of it
pub told-all : (call entry : LogEntry) (was between now : List (ℕ × KeptViewer)) → now ≡ changed (told_of call) between → call ≡ entry → between ≡ was → now ≡ changed (told_of entry) was
told-all call entry was between now is same before = is ∙ ap (λ (e : LogEntry). changed (told_of e) between) same ∙ ap (changed (told_of entry)) before
