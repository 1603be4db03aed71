-- What drawing calls do to what a screen stands for, and to its picture.
use Rattle.std.proofs.Common.{◌≡◌, ℕ, true, false, cond, List, [], ◌∷◌, ◌++◌, Option, Some, None, Result, Ok, Err, refl, sym, ap, ◌∙◌, append-nil}
use Rattle.std.specs.Prelude.{filter, OnOk, ℤ}
use Rattle.region.specs.declared.Rect.{Rect}
use Rattle.screen.specs.declared.Config.{Config}
use Rattle.screen.specs.declared.Event.{Event}
use Rattle.screen.specs.declared.Event.TheVariants.{DoCopy, Bell, CutText, Resize}
use Rattle.screen.specs.declared.ScreenError.{ScreenError}
use Rattle.screen.specs.Alone.{One, at_size, step, after, owner_of, drawing_refusal, size_refusal, text_refusal, drawn, empty_screen}
use Rattle.screen.specs.Answers.{is_drawing, picture_of}
use Rattle.screen.specs.Refusals.{Refuses}
use Rattle.screen.specs.State.{State, state}
use Rattle.connections.specs.Drawing.{Surface, Draws}
use Rattle.connections.specs.RecordedLemmas.{records-same}
use Rattle.source_picture.specs.Mirroring.{StandsOn}

-- ---- drawing calls one after the other

pub draws_none : (s : Surface) → Draws s s
draws_none s c list since h = h

pub draws_then : (r s t : Surface) → Draws r s → Draws s t → Draws r t
draws_then r s t one two c list since h = two c list since (one c list since h)

-- a screen that is drawn on stands for more events
pub stands_on : (c : Config) (list : List Event) (old new : Surface) → Draws old new → old.screen ≡ state c list → StandsOn c list new.screen
stands_on c list old new draws is =
    let it = draws c list old (record {
      calls = [];
      drawings = refl;
      screen = is ∙ ap (state c) (sym (append-nil list));
      recorded = records-same c list old.scribed;
      none = λ e. (e, refl);
      quiet = λ e. (e, refl);
    }) in
    (it.calls, it.screen)

-- ---- the picture behind one more drawing call

after_more : (c : Config) (es : List Event) (e : Event) (s : One) → after c (es ++ e ∷ []) s ≡ (step c e (after c es s)).0
after_more c [] e s = refl
after_more c (a ∷ es) e s = after_more c es e (step c a s).0

drawings_more : (es : List Event) (e : Event) → owner_of e ≡ None → filter (λ a. is_drawing (owner_of a)) (es ++ e ∷ []) ≡ filter (λ a. is_drawing (owner_of a)) es ++ e ∷ []
drawings_more [] e h = ap (λ o. cond (is_drawing o) (e ∷ []) []) h
drawings_more (a ∷ es) e h = elim (is_drawing (owner_of a))
    as (λ b. cond b (a ∷ filter (λ d. is_drawing (owner_of d)) (es ++ e ∷ [])) (filter (λ d. is_drawing (owner_of d)) (es ++ e ∷ []))
    ≡ cond b (a ∷ filter (λ d. is_drawing (owner_of d)) es) (filter (λ d. is_drawing (owner_of d)) es) ++ e ∷ []) [
      | true ↦ ap (λ l. a ∷ l) (drawings_more es e h)
      | false ↦ drawings_more es e h
    ]

drawn_step : (c : Config) (e : Event) (s : One) → owner_of e ≡ None → drawing_refusal (at_size s.picture c) e ≡ None → (step c e s).0.picture ≡ drawn e s.picture
drawn_step c e s none fine = rw (none, fine) refl

picture_more : (c : Config) (es : List Event) (e : Event) → owner_of e ≡ None → drawing_refusal (at_size (picture_of c es) c) e ≡ None → picture_of c (es ++ e ∷ []) ≡ drawn e (picture_of c es)
picture_more c es e none fine =
    ap (λ l. (after c l (empty_screen c)).picture) (drawings_more es e none)
    ∙ ap (λ (s : One). s.picture) (after_more c (filter (λ a. is_drawing (owner_of a)) es) e (empty_screen c))
    ∙ drawn_step c e (after c (filter (λ a. is_drawing (owner_of a)) es) (empty_screen c)) none fine

-- a drawing call that is not refused, by what a screen holds
pub state_more : (c : Config) (list : List Event) (e : Event) (old new : State) → owner_of e ≡ None → old ≡ state c list → new ≡ state c (list ++ e ∷ [])
    → drawing_refusal (at_size old.picture c) e ≡ None → new.picture ≡ drawn e old.picture
state_more c list e old new none was is fine =
    let before : picture_of c list ≡ old.picture = sym (ap (λ (s : State). s.picture) was) in
    ap (λ (s : State). s.picture) is
    ∙ picture_more c list e none (ap (λ f. drawing_refusal (at_size f c) e) before ∙ fine)
    ∙ ap (drawn e) before

-- what was done wasn't refused
not_due : {X : Type 0} (r : Result X ScreenError) (due : Option ScreenError) → Refuses r due → OnOk r (due ≡ None)
not_due (Ok x) None h = refl
not_due (Ok x) (Some e) h = absurd cc
not_due (Err e) due h = tt

-- ---- the calls that a source's steps are

pub copy_drawn : {X : Type 0} (c : Config) (list : List Event) (rects : List Rect) (dx dy : ℤ) (old new : State) (r : Result X ScreenError) → old ≡ state c list
    → OnOk r (new ≡ state c (list ++ DoCopy rects dx dy ∷ [])) → OnOk r (new.picture ≡ drawn (DoCopy rects dx dy) old.picture)
copy_drawn c list rects dx dy old new (Ok x) was is = state_more c list (DoCopy rects dx dy) old new refl was is refl
copy_drawn c list rects dx dy old new (Err e) was is = tt

pub bell_drawn : {X : Type 0} (c : Config) (list : List Event) (old new : State) (r : Result X ScreenError) → old ≡ state c list
    → OnOk r (new ≡ state c (list ++ Bell ∷ [])) → OnOk r (new.picture ≡ old.picture)
bell_drawn c list old new (Ok x) was is = state_more c list Bell old new refl was is refl
bell_drawn c list old new (Err e) was is = tt

pub text_drawn : {X : Type 0} (c : Config) (list : List Event) (text : List ℕ) (old new : State) (r : Result X ScreenError) → old ≡ state c list
    → OnOk r (new ≡ state c (list ++ CutText text ∷ [])) → Refuses r (text_refusal text) → OnOk r (new.picture ≡ old.picture)
text_drawn c list text old new (Ok x) was is fine = state_more c list (CutText text) old new refl was is (not_due (Ok x) (text_refusal text) fine)
text_drawn c list text old new (Err e) was is fine = tt

pub size_drawn : {X : Type 0} (c : Config) (list : List Event) (w h : ℕ) (old new : State) (r : Result X ScreenError) → old ≡ state c list
    → OnOk r (new ≡ state c (list ++ Resize w h ∷ [])) → Refuses r (size_refusal w h) → OnOk r (new.picture ≡ drawn (Resize w h) old.picture)
size_drawn c list w h old new (Ok x) was is fine = state_more c list (Resize w h) old new refl was is (not_due (Ok x) (size_refusal w h) fine)
size_drawn c list w h old new (Err e) was is fine = tt
