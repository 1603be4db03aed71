-- What a screen holds after one event more, by the scene and by whether the event happened.
use Rattle.std.proofs.Common.{◌≡◌, ◌≢◌, ℕ, Bool, true, false, List, [], ◌∷◌, ◌++◌, Option, Some, None, Result, Ok, Err, refl, sym, subst, ◌∙◌, ap}
use Rattle.std.specs.Prelude.{is_none, is_some, option_map, if◌then◌else◌, MatchOption, MatchResult, IsErrAnd, is_err, IfSome, ◌&&◌}
use Rattle.std.proofs.lemmas.Result.{err_from_is_err_and}
use Rattle.std.proofs.lemmas.List.{append-nil}
use Rattle.viewer.specs.Given.{bytes_given}
use Rattle.scene.specs.declared.Config.{Config}
use Rattle.scene.specs.declared.History.{History}
use Rattle.scene.specs.declared.History.TheVariants.{Kept, NotKept}
use Rattle.scene.specs.declared.ScreenError.{ScreenError}
use Rattle.scene.specs.declared.ScreenError.TheVariants as refusals
use Rattle.scene.specs.declared.Event.{Event}
use Rattle.scene.specs.declared.Event.TheVariants.{Write, Paint, Mark, ScheduleCopy, DoCopy, Bell, CutText, Resize, Connect, Hear, Cut, Close}
use Rattle.std.specs.declared.alloc.AllocError.{AllocError}
use Rattle.scene.specs.declared.Answer.{Answer}
use Rattle.scene.specs.declared.call.Drawing.{Drawing}
use Rattle.scene.specs.declared.call.Drawing.TheVariants as Drawn
use Rattle.scene.specs.Calls.{call_refusal, event_of}
use Rattle.scene.specs.Alone.{Tells, some_bytes, gives}
use Rattle.scene.specs.Answers.{answer_to, refused_or_nothing, SceneState, scene_after}
use Rattle.scene.specs.History.{has_happened, accepted, accepted_is_enough, accepted_happens_again}
use Rattle.screen.specs.HappeningLemmas.{accepted-append}
use Rattle.screen.specs.State.{State, with_history, scene_of, history_by, history_of, state, kept_is_enough}

abbrev if_happened : Bool → Event → List Event → List Event
if_happened b e rest = if b then e ∷ rest else rest

-- one more that happened is kept last
history-goes_on : (c : Config) (list : List Event) (e : Event) → has_happened e (answer_to c list e) ≡ true
    → option_map (λ es. es ++ e ∷ []) (history_of c list) ≡ history_of c (list ++ e ∷ [])
history-goes_on c list e h = go c.history
  where
    go : (k : History) → option_map (λ es. es ++ e ∷ []) (history_by k (accepted c list)) ≡ history_by k (accepted c (list ++ e ∷ []))
    go Kept = ap (λ (l : List Event). Some l) (sym (accepted-append c [] list e ∙ ap (λ b. accepted c list ++ if_happened b e []) h))
    go NotKept = refl

-- one that did not happen isn't
history-stays : (c : Config) (list : List Event) (e : Event) → has_happened e (answer_to c list e) ≡ false → history_of c list ≡ history_of c (list ++ e ∷ [])
history-stays c list e h = go c.history
  where
    go : (k : History) → history_by k (accepted c list) ≡ history_by k (accepted c (list ++ e ∷ []))
    go Kept = ap (λ (l : List Event). Some l) (sym (accepted-append c [] list e ∙ ap (λ b. accepted c list ++ if_happened b e []) h ∙ append-nil (accepted c list)))
    go NotKept = refl

-- a screen's scene and its kept events
pub scene-is : (s : SceneState) (h : Option (List Event)) (c : Config) (list : List Event) → with_history s h ≡ state c list → s ≡ scene_after c list
scene-is s h c list is = ap scene_of is

pub history-is : (s : SceneState) (h : Option (List Event)) (c : Config) (list : List Event) → with_history s h ≡ state c list → h ≡ history_of c list
history-is s h c list is = ap (λ (o : State). o.history) is

same-entry : (h : Option (List Event)) (e copy : Event) → (is_some h ≡ true → copy ≡ e) → option_map (λ es. es ++ copy ∷ []) h ≡ option_map (λ es. es ++ e ∷ []) h
same-entry None e copy same = refl
same-entry (Some es) e copy same = ap (λ (x : Event). Some (es ++ x ∷ [])) (same refl)

-- a call whose event happened, and which kept a copy of it
pub goes_on : (c : Config) (list : List Event) (e copy : Event) (s now : SceneState) (h kept_now : Option (List Event))
    → with_history s h ≡ state c list → now ≡ scene_after c (list ++ e ∷ []) → has_happened e (answer_to c list e) ≡ true
    → kept_now ≡ option_map (λ es. es ++ copy ∷ []) h → (is_some h ≡ true → copy ≡ e)
    → with_history now kept_now ≡ state c (list ++ e ∷ [])
goes_on c list e copy s now h kept_now is step happened kept same =
    ap (λ (k : Option (List Event)). with_history now k) (kept ∙ same-entry h e copy same ∙ ap (option_map (λ es. es ++ e ∷ [])) (history-is s h c list is) ∙ history-goes_on c list e happened)
    ∙ ap (λ (o : SceneState). with_history o (history_of c (list ++ e ∷ []))) step

-- one whose event did not happen, and which kept nothing
pub stays : (c : Config) (list : List Event) (e : Event) (s now : SceneState) (h kept_now : Option (List Event))
    → with_history s h ≡ state c list → now ≡ scene_after c (list ++ e ∷ []) → has_happened e (answer_to c list e) ≡ false → kept_now ≡ h
    → with_history now kept_now ≡ state c (list ++ e ∷ [])
stays c list e s now h kept_now is step nothing kept =
    ap (λ (k : Option (List Event)). with_history now k) (kept ∙ history-is s h c list is ∙ history-stays c list e nothing)
    ∙ ap (λ (o : SceneState). with_history o (history_of c (list ++ e ∷ []))) step

refused-is : (o : Option ScreenError) → (refused_or_nothing o).refused ≡ o
refused-is None = refl
refused-is (Some e) = refl

-- a drawing call is answered the refusal that is due by the picture's size
pub drawing-due : (c : Config) (list : List Event) (d : Drawing) → (answer_to c list (event_of d)).refused ≡ call_refusal (scene_after c list).picture.width (scene_after c list).picture.height d
drawing-due c list (Drawn.Write rect colours) = refused-is _
drawing-due c list (Drawn.Paint rect colours) = refused-is _
drawing-due c list (Drawn.MarkRect rect) = refl
drawing-due c list (Drawn.MarkRegion region) = refl
drawing-due c list (Drawn.ScheduleCopyRect rect dx dy) = refl
drawing-due c list (Drawn.ScheduleCopyRegion region dx dy) = refl
drawing-due c list (Drawn.DoCopyRect rect dx dy) = refl
drawing-due c list (Drawn.DoCopyRegion region dx dy) = refl
drawing-due c list Drawn.Bell = refl
drawing-due c list (Drawn.CutText text) = refused-is _
drawing-due c list (Drawn.NewFramebuffer width height) = refused-is _

-- a drawing call that is not refused happens
pub drawing-happened : (d : Drawing) (a : Answer) → is_none a.refused ≡ true → has_happened (event_of d) a ≡ true
drawing-happened (Drawn.Write rect colours) a h = h
drawing-happened (Drawn.Paint rect colours) a h = h
drawing-happened (Drawn.MarkRect rect) a h = h
drawing-happened (Drawn.MarkRegion region) a h = h
drawing-happened (Drawn.ScheduleCopyRect rect dx dy) a h = h
drawing-happened (Drawn.ScheduleCopyRegion region dx dy) a h = h
drawing-happened (Drawn.DoCopyRect rect dx dy) a h = h
drawing-happened (Drawn.DoCopyRegion region dx dy) a h = h
drawing-happened Drawn.Bell a h = h
drawing-happened (Drawn.CutText text) a h = h
drawing-happened (Drawn.NewFramebuffer width height) a h = h

-- what is answered is no refusal
pub told-unrefused : {X : Type 0} (answer : X → Answer) (x : X) (a : Answer) → Tells answer (Ok x) a → is_none a.refused ≡ true
told-unrefused {X = X} answer x a told = go a.refused told
  where
    go : (o : Option ScreenError) → MatchOption o (answer x ≡ a) (λ e. ◌≡◌ {A = Result X ScreenError} (Ok x) (Err e)) → is_none o ≡ true
    go None h = refl
    go (Some e) h = absurd cc

-- an error that is the refusal which the event is answered
pub tells-error : {X : Type 0} (answer : X → Answer) (r : Result X ScreenError) (a : Answer) (e : ScreenError) → a.refused ≡ Some e → IsErrAnd r (λ y. y ≡ e) → Tells answer r a
tells-error {X = X} answer r a e refused err =
    let error = err_from_is_err_and r err in
    subst (λ (o : Option ScreenError). MatchOption o (MatchResult r (λ x. answer x ≡ a) (λ q. q ≡ refusals.OutOfMemory)) (λ q. ◌≡◌ {A = Result X ScreenError} r (Err q))) (sym refused)
    (error.1 ∙ ap (λ (q : ScreenError). Err q) error.2)

-- want of memory, where no refusal is due
pub tells-memory : {X : Type 0} (answer : X → Answer) (r : Result X ScreenError) (a : Answer) → a.refused ≡ None → IsErrAnd r (λ y. y ≡ refusals.OutOfMemory) → Tells answer r a
tells-memory {X = X} answer r a refused err =
    subst (λ (o : Option ScreenError). MatchOption o (MatchResult r (λ x. answer x ≡ a) (λ q. q ≡ refusals.OutOfMemory)) (λ q. ◌≡◌ {A = Result X ScreenError} r (Err q))) (sym refused) (go r err)
  where
    go : (r : Result X ScreenError) → IsErrAnd r (λ y. y ≡ refusals.OutOfMemory) → MatchResult r (λ x. answer x ≡ a) (λ q. q ≡ refusals.OutOfMemory)
    go (Ok x) h = absurd h
    go (Err q) h = h

-- ---- the events that are kept are enough

pub kept_is_enough-by : accepted_is_enough → accepted_happens_again → kept_is_enough
kept_is_enough-by enough again c es =
    ap (λ (s : SceneState). with_history s (history_of c (accepted c es))) (enough c es)
    ∙ ap (λ (l : List Event). with_history (scene_after c es) (history_by c.history l)) (again c es)

pub kept-stands : (s : State) (kept_events : Option (List Event)) → accepted_is_enough → accepted_happens_again → kept_events ≡ s.history → (c : Config) (list : List Event) → s ≡ state c list
    → IfSome kept_events (λ events. s ≡ state c events)
kept-stands s kept_events enough again is c list h = go kept_events c.history (is ∙ ap (λ (o : State). o.history) h)
  where
    go : (o : Option (List Event)) (k : History) → o ≡ history_by k (accepted c list) → IfSome o (λ events. s ≡ state c events)
    go None k e = tt
    go (Some events) NotKept e = absurd cc
    go (Some events) Kept e =
        let same : events ≡ accepted c list = ap (λ (o : Option (List Event)). elim o [ None ↦ events | Some l ↦ l ]) e in
        h ∙ sym (kept_is_enough-by enough again c list) ∙ ap (state c) (sym same)

pub if-some-mapped : {A B : Type 0} (f : A → B) (P : B → Type 0) (o : Option A) → IfSome (option_map f o) P → IfSome o (λ a. P (f a))
if-some-mapped f P None h = tt
if-some-mapped f P (Some a) h = h

-- ---- one event of any kind

-- a refused event did not happen
pub refused-unhappened : (e : Event) (a : Answer) → is_none a.refused ≡ false → has_happened e a ≡ false
refused-unhappened (Cut v) a h = ap (λ b. b && some_bytes a.bytes) h
refused-unhappened (Write r l) a h = h
refused-unhappened (Paint r l) a h = h
refused-unhappened (Mark rects) a h = h
refused-unhappened (ScheduleCopy rects dx dy) a h = h
refused-unhappened (DoCopy rects dx dy) a h = h
refused-unhappened Bell a h = h
refused-unhappened (CutText t) a h = h
refused-unhappened (Connect v) a h = h
refused-unhappened (Resize w k) a h = h
refused-unhappened (Hear v piece) a h = h
refused-unhappened (Close v) a h = h

-- a check that failed found a refusal
pub check-failed : (r : Result (Unit {0}) ScreenError) (o : Option ScreenError) → MatchResult r (λ _. o ≡ None) (λ q. o ≡ Some q) → is_err r ≡ true → is_none o ≡ false
check-failed (Ok x) o h err = absurd cc
check-failed (Err q) o h err = ap (λ (p : Option ScreenError). is_none p) h

pub check-passed : (r : Result (Unit {0}) ScreenError) (o : Option ScreenError) → MatchResult r (λ _. o ≡ None) (λ q. o ≡ Some q) → is_err r ≡ false → o ≡ None
check-passed (Ok x) o h err = h
check-passed (Err q) o h err = absurd cc

-- want of memory, where no refusal is due
pub answers-memory : (Q : AllocError → Type 0) (r : Result Answer AllocError) (P : Answer → Type 0) (o : Option ScreenError) → o ≡ None → IsErrAnd r Q → MatchResult r P (λ _. o ≡ None)
answers-memory Q (Ok a) P o h err = absurd err
answers-memory Q (Err e) P o h err = h

-- ---- a cut, which happened just where it gave something

some-bytes : (bytes : List ℕ) → bytes ≢ [] → some_bytes bytes ≡ true
some-bytes [] h = absurd (h refl)
some-bytes (b ∷ bytes) h = refl

module _ (v : ℕ) (a : Answer) {X : Type 0} (cut : Option (List ℕ × X)) (answer : gives (bytes_given (option_map (λ x. x.0) cut)) ≡ a) where
  given-as : (was : Option (List ℕ × X)) → cut ≡ was → gives (bytes_given (option_map (λ x. x.0) was)) ≡ a
  given-as was is = ap (λ (o : Option (List ℕ × X)). gives (bytes_given (option_map (λ x. x.0) o))) (sym is) ∙ answer

  pub cut-nothing : cut ≡ None → has_happened (Cut v) a ≡ false
  cut-nothing is = ap (has_happened (Cut v)) (sym (given-as None is))

  pub cut-something : (given : List ℕ × X) → cut ≡ Some given → IfSome cut (λ x. x.0 ≢ []) → has_happened (Cut v) a ≡ true
  cut-something given is some = ap (has_happened (Cut v)) (sym (given-as (Some given) is)) ∙ some-bytes given.0 (subst (λ o. IfSome o (λ x. x.0 ≢ [])) is some)
