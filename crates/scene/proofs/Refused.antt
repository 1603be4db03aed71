-- An event that is refused changes nothing, and is told nothing else.
use Rattle.std.proofs.Common.{◌≡◌, ℕ, List, [], ◌∷◌, ◌++◌, Option, Some, None, Result, Ok, Err, refl, sym, ◌∙◌, ap, OnOk, OnErr, IfOk}
use Rattle.std.specs.Prelude.{filter, is_some, MatchOption, MatchResult}
use Rattle.std.specs.List.{filter_map, cons_option}
use Rattle.std.specs.declared.alloc.AllocError.{AllocError}
use Rattle.messages.specs.Reading.{Rest}
use Rattle.scene.specs.declared.Config.{Config}
use Rattle.scene.specs.declared.ScreenError.{ScreenError}
use Rattle.scene.specs.declared.ScreenError.TheVariants as refusals
use Rattle.scene.specs.declared.Event.{Event}
use Rattle.scene.specs.declared.Event.TheVariants.{Write, Paint, Mark, ScheduleCopy, DoCopy, Bell, CutText, Resize, Connect, Hear, Cut, Close}
use Rattle.scene.specs.declared.Answer.{Answer}
use Rattle.viewer.specs.Viewer.{Viewer}
use Rattle.scene.specs.Alone.{One, at_size, step, own_step, after, owner_of, drawing_refusal, refuses, nothing_to_say, empty_screen, Tells, settled}
use Rattle.scene.specs.Answers.{own, is_drawing, answer_to, picture_of, viewer_of, live_from, entry_of, SceneState, scene_after}
use Rattle.scene.proofs.Steps.{after-append, live-append, own-drawing, drawings-drawing, arrival-drawing}
use Rattle.framebuffer.specs.Frame.{Frame}
use Rattle.scene.proofs.Everyones.{one_of, now_at, one-picture}
use Rattle.scene.proofs.Owners.{answer-hit, state-close, state-has}
use Rattle.scene.proofs.Arrivals.{state-in_use, state-absent}
use Rattle.scene.proofs.Calls.{filter-none}

step-refused : (c : Config) (e : Event) (s : One) (r : ScreenError) → owner_of e ≡ None → drawing_refusal (at_size s.picture c) e ≡ Some r → (step c e s).0 ≡ s
step-refused c e s r h k = rw (h, k) refl

-- a drawing call that is refused changes nothing
state-refused_drawing : (c : Config) (es : List Event) (e : Event) (r : ScreenError) → owner_of e ≡ None → drawing_refusal (now_at c es) e ≡ Some r → scene_after c (es ++ e ∷ []) ≡ scene_after c es
state-refused_drawing c es e r h k =
    let s : Frame → List (ℕ × Viewer Rest) → SceneState = λ p vs. record { config = c; picture = p; viewers = vs } in
    ap (λ p. s p (scene_after c (es ++ e ∷ [])).viewers) (ap (λ l. (after c l (empty_screen c)).picture) (drawings-drawing es e h) ∙ ap (λ (o : One). o.picture) (after-append c (filter (λ a. is_drawing (owner_of a)) es) e (empty_screen c) ∙ step-refused c e (after c (filter (λ a. is_drawing (owner_of a)) es) (empty_screen c)) r h k))
    ∙ ap (s (picture_of c es)) (ap (filter_map (λ v. entry_of v (viewer_of c v (es ++ e ∷ [])))) (live-append [] es e ∙ arrival-drawing e (live_from [] es) h)
    ∙ entries (live_from [] es))
  where
    entries : (ns : List ℕ) → filter_map (λ v. entry_of v (viewer_of c v (es ++ e ∷ []))) ns ≡ filter_map (λ v. entry_of v (viewer_of c v es)) ns
    entries [] = refl
    entries (v ∷ ns) =
        ap (λ o. cons_option (entry_of v o) (filter_map (λ u. entry_of u (viewer_of c u (es ++ e ∷ []))) ns))
        (ap (λ l. (after c l (empty_screen c)).viewer) (own-drawing v es e h) ∙ ap (λ (o : One). o.viewer) (after-append c (own v es) e (empty_screen c) ∙ step-refused c e (one_of c v es) r h (ap (λ (f : Frame). drawing_refusal (at_size f c) e) (one-picture c v es) ∙ k)))
        ∙ ap (cons_option (entry_of v (viewer_of c v es))) (entries ns)

answer-drawing : (c : Config) (es : List Event) (e : Event) (o : Option ScreenError) → owner_of e ≡ None → drawing_refusal (now_at c es) e ≡ o → answer_to c es e ≡ elim o [ None ↦ nothing_to_say | Some q ↦ refuses q ]
answer-drawing c es e None h k = rw (h, k) refl
answer-drawing c es e (Some q) h k = rw (h, k) refl

refused-drawing : (c : Config) (es : List Event) (e : Event) (r : ScreenError) → owner_of e ≡ None → (answer_to c es e).refused ≡ Some r → scene_after c (es ++ e ∷ []) ≡ scene_after c es
refused-drawing c es e r h refused = go (drawing_refusal (now_at c es) e) refl
  where
    go : (o : Option ScreenError) → drawing_refusal (now_at c es) e ≡ o → scene_after c (es ++ e ∷ []) ≡ scene_after c es
    go (Some q) k = state-refused_drawing c es e q h k
    go None k = let both : None ≡ Some r = sym (ap (λ (a : Answer). a.refused) (answer-drawing c es e None h k)) ∙ refused in absurd cc

refused-alone : (c : Config) (es : List Event) (e : Event) (r : ScreenError) → owner_of e ≡ None → (answer_to c es e).refused ≡ Some r → answer_to c es e ≡ refuses r
refused-alone c es e r h refused = go (drawing_refusal (now_at c es) e) refl
  where
    go : (o : Option ScreenError) → drawing_refusal (now_at c es) e ≡ o → answer_to c es e ≡ refuses r
    go (Some q) k =
        let there : answer_to c es e ≡ refuses q = answer-drawing c es e (Some q) h k in
        let same : Some q ≡ Some r = sym (ap (λ (a : Answer). a.refused) there) ∙ refused in
        there ∙ ap (λ (o : Option ScreenError). record nothing_to_say { refused = o }) same
    go None k = let both : None ≡ Some r = sym (ap (λ (a : Answer). a.refused) (answer-drawing c es e None h k)) ∙ refused in absurd cc

-- whether a call is refused, by whether its viewer is there
absent : (c : Config) (es : List Event) (e : Event) (v : ℕ) (r : ScreenError) → owner_of e ≡ Some v → ((w : Viewer (List ℕ)) → (own_step (now_at c es) e (one_of c v es) (Some w)).1.refused ≡ None)
    → (answer_to c es e).refused ≡ Some r → viewer_of c v es ≡ None
absent c es e v r h there refused = go (viewer_of c v es) refl
  where
    go : (o : Option (Viewer (List ℕ))) → viewer_of c v es ≡ o → o ≡ None
    go None k = refl
    go (Some w) k =
        let both : None ≡ Some r = sym (there w) ∙ sym (ap (λ o. (own_step (now_at c es) e (one_of c v es) o).1.refused) k) ∙ sym (ap (λ (a : Answer). a.refused) (answer-hit c v es e h)) ∙ refused in absurd cc

in-use : (c : Config) (es : List Event) (v : ℕ) (r : ScreenError) → (answer_to c es (Connect v)).refused ≡ Some r → (w : Viewer (List ℕ)) × (viewer_of c v es ≡ Some w)
in-use c es v r refused = go (viewer_of c v es) refl
  where
    go : (o : Option (Viewer (List ℕ))) → viewer_of c v es ≡ o → (w : Viewer (List ℕ)) × (o ≡ Some w)
    go (Some w) k = (w, refl)
    go None k =
        let both : None ≡ Some r = sym (ap (λ o. (own_step (now_at c es) (Connect v) (one_of c v es) o).1.refused) k) ∙ sym (ap (λ (a : Answer). a.refused) (answer-hit c v es (Connect v) refl)) ∙ refused in absurd cc

-- a refused event changes nothing
pub state-refused : (c : Config) (es : List Event) (e : Event) (r : ScreenError) → (answer_to c es e).refused ≡ Some r → scene_after c (es ++ e ∷ []) ≡ scene_after c es
state-refused c es (Paint rect colours) r h = refused-drawing c es (Paint rect colours) r refl h
state-refused c es (Write rect colours) r h = refused-drawing c es (Write rect colours) r refl h
state-refused c es (Mark rects) r h = refused-drawing c es (Mark rects) r refl h
state-refused c es (ScheduleCopy rects dx dy) r h = refused-drawing c es (ScheduleCopy rects dx dy) r refl h
state-refused c es (DoCopy rects dx dy) r h = refused-drawing c es (DoCopy rects dx dy) r refl h
state-refused c es Bell r h = refused-drawing c es Bell r refl h
state-refused c es (CutText text) r h = refused-drawing c es (CutText text) r refl h
state-refused c es (Resize w k) r h = refused-drawing c es (Resize w k) r refl h
state-refused c es (Connect v) r h = let there = in-use c es v r h in state-in_use c es v there.0 there.1
state-refused c es (Hear v piece) r h =
    let away = absent c es (Hear v piece) v r refl (λ w. refl) h in
    state-absent c es (Hear v piece) v refl (λ there. refl) refl away
state-refused c es (Cut v) r h =
    let away = absent c es (Cut v) v r refl (λ w. refl) h in
    state-absent c es (Cut v) v refl (λ there. refl) refl away
state-refused c es (Close v) r h =
    let away = absent c es (Close v) v r refl (λ w. refl) h in
    state-close c es v ∙ ap (λ vs. record (scene_after c es) { viewers = vs }) (filter-none (scene_after c es).viewers v (state-has c es v ∙ ap is_some away))

-- a refusal is told alone
pub refusal-alone : (c : Config) (es : List Event) (e : Event) (r : ScreenError) → (answer_to c es e).refused ≡ Some r → answer_to c es e ≡ refuses r
refusal-alone c es (Paint rect colours) r h = refused-alone c es (Paint rect colours) r refl h
refusal-alone c es (Write rect colours) r h = refused-alone c es (Write rect colours) r refl h
refusal-alone c es (Mark rects) r h = refused-alone c es (Mark rects) r refl h
refusal-alone c es (ScheduleCopy rects dx dy) r h = refused-alone c es (ScheduleCopy rects dx dy) r refl h
refusal-alone c es (DoCopy rects dx dy) r h = refused-alone c es (DoCopy rects dx dy) r refl h
refusal-alone c es Bell r h = refused-alone c es Bell r refl h
refusal-alone c es (CutText text) r h = refused-alone c es (CutText text) r refl h
refusal-alone c es (Resize w k) r h = refused-alone c es (Resize w k) r refl h
refusal-alone c es (Connect v) r h =
    let there = in-use c es v r h in
    let told = answer-hit c v es (Connect v) refl ∙ ap (λ o. (own_step (now_at c es) (Connect v) (one_of c v es) o).1) there.1 in
    let e : Some refusals.NumberInUse ≡ Some r = sym (ap (λ (a : Answer). a.refused) told) ∙ h in
    told ∙ ap (λ (o : Option ScreenError). record nothing_to_say { refused = o }) e
refusal-alone c es (Hear v piece) r h =
    let told = answer-hit c v es (Hear v piece) refl ∙ ap (λ o. (own_step (now_at c es) (Hear v piece) (one_of c v es) o).1) (absent c es (Hear v piece) v r refl (λ w. refl) h) in
    let e : Some refusals.NoViewer ≡ Some r = sym (ap (λ (a : Answer). a.refused) told) ∙ h in
    told ∙ ap (λ (o : Option ScreenError). record nothing_to_say { refused = o }) e
refusal-alone c es (Cut v) r h =
    let told = answer-hit c v es (Cut v) refl ∙ ap (λ o. (own_step (now_at c es) (Cut v) (one_of c v es) o).1) (absent c es (Cut v) v r refl (λ w. refl) h) in
    let e : Some refusals.NoViewer ≡ Some r = sym (ap (λ (a : Answer). a.refused) told) ∙ h in
    told ∙ ap (λ (o : Option ScreenError). record nothing_to_say { refused = o }) e
refusal-alone c es (Close v) r h =
    let told = answer-hit c v es (Close v) refl ∙ ap (λ o. (own_step (now_at c es) (Close v) (one_of c v es) o).1) (absent c es (Close v) v r refl (λ w. refl) h) in
    let e : Some refusals.NoViewer ≡ Some r = sym (ap (λ (a : Answer). a.refused) told) ∙ h in
    told ∙ ap (λ (o : Option ScreenError). record nothing_to_say { refused = o }) e

-- ---- refusals become answers

pub settled-answer : (given : Result Answer ScreenError) (m : Result Answer AllocError) (a : Answer) → MatchResult given (λ x. m ≡ Ok x) (λ e. m ≡ settled e)
    → Tells {X = Answer} (λ x. x) given a → ((e : ScreenError) → a.refused ≡ Some e → a ≡ refuses e) → IfOk m (λ b. b ≡ a)
settled-answer given m a is told alone = go given a.refused refl is told
  where
    kind : (e : ScreenError) → a ≡ refuses e → IfOk (settled e) (λ b. b ≡ a)
    kind refusals.BadSize h = sym h
    kind refusals.BadName h = sym h
    kind refusals.BadRectLimit h = sym h
    kind refusals.BadRect h = sym h
    kind refusals.BadPixelCount h = sym h
    kind refusals.TextTooLong h = sym h
    kind refusals.NoViewer h = sym h
    kind refusals.NumberInUse h = sym h
    kind refusals.OutOfMemory h = tt

    go : (r : Result Answer ScreenError) (o : Option ScreenError) → a.refused ≡ o → MatchResult r (λ x. m ≡ Ok x) (λ e. m ≡ settled e)
        → MatchOption o (MatchResult r (λ x. x ≡ a) (λ e. e ≡ refusals.OutOfMemory)) (λ e. r ≡ Err e) → IfOk m (λ b. b ≡ a)
    go (Ok x) None k is told = rw is told
    go (Err e) None k is told = rw (is, told) tt
    go (Ok x) (Some e) k is told = absurd cc
    go (Err q) (Some e) k is told =
        let same : q ≡ e = ap (λ (r : Result Answer ScreenError). elim r [ Ok x ↦ q | Err p ↦ p ]) told in
        rw (is, same) (kind e (alone e k))

pub settled-step : {P Q : Type 0} (given : Result Answer ScreenError) (m : Result Answer AllocError) (a : Answer) → MatchResult given (λ x. m ≡ Ok x) (λ e. m ≡ settled e)
    → Tells {X = Answer} (λ x. x) given a → OnOk given P → OnErr given Q → ((e : ScreenError) → a.refused ≡ Some e → Q → P) → OnOk m P
settled-step {P = P} {Q = Q} given m a is told done kept refused = go given a.refused refl is told done kept
  where
    kind : (e : ScreenError) → P → OnOk (settled e) P
    kind refusals.BadSize h = h
    kind refusals.BadName h = h
    kind refusals.BadRectLimit h = h
    kind refusals.BadRect h = h
    kind refusals.BadPixelCount h = h
    kind refusals.TextTooLong h = h
    kind refusals.NoViewer h = h
    kind refusals.NumberInUse h = h
    kind refusals.OutOfMemory h = tt

    go : (r : Result Answer ScreenError) (o : Option ScreenError) → a.refused ≡ o → MatchResult r (λ x. m ≡ Ok x) (λ e. m ≡ settled e)
        → MatchOption o (MatchResult r (λ x. x ≡ a) (λ e. e ≡ refusals.OutOfMemory)) (λ e. r ≡ Err e) → OnOk r P → OnErr r Q → OnOk m P
    go (Ok x) o k is told done kept = rw is done
    go (Err e) None k is told done kept = rw (is, told) tt
    go (Err q) (Some e) k is told done kept = rw is (kind q (refused e k kept))
