-- What a viewer's own event does to what a screen holds.
use Rattle.std.proofs.Common.{◌≡◌, ℕ, Bool, true, false, cond, not, ◌||◌, ◌&&◌, List, [], ◌∷◌, ◌++◌, map, Option, Some, None, refl, sym, ◌∙◌, ap, arith, eqb}
use Rattle.std.specs.Prelude.{filter, find, option_map, is_some, ◌==◌}
use Rattle.std.specs.List.{filter_map, cons_option, list_any}
use Rattle.std.proofs.lemmas.Bool.Decides.{nat_tests, Decides-eqb}
use Rattle.messages.specs.Reading.{Rest, rest, new_items}
use Rattle.scene.specs.declared.Config.{Config}
use Rattle.scene.specs.declared.ScreenError.{ScreenError}
use Rattle.scene.specs.declared.Event.{Event}
use Rattle.scene.specs.declared.Event.TheVariants.{Write, Paint, Mark, ScheduleCopy, DoCopy, Bell, CutText, Resize, Connect, Hear, Cut, Close}
use Rattle.messages.specs.declared.Item.{Item}
use Rattle.messages.specs.declared.Item.TheVariants as item
use Rattle.framebuffer.specs.Frame.{Frame}
use Rattle.viewer.specs.Viewer.{Viewer, is_open_viewer, after_item, kept_viewer}
use Rattle.scene.specs.Alone.{One, at_size, step, own_step, draw_step, after, answers_from, alone, owner_of, drawing_refusal, shown_drawing, hearing, empty_screen, nothing_to_say, refuses}
use Rattle.viewer.specs.Hearing.{after_items}
use Rattle.scene.specs.Answers.{own, is_owner, is_drawing, last_of, answer_to, picture_of, viewer_of, live_from, after_arrival, entry_of, SceneState, scene_after}
use Rattle.scene.specs.declared.ScreenError.TheVariants as refusals
use Rattle.scene.proofs.Everyones.{one_of, now_at, one-picture}
use Rattle.scene.proofs.Steps.{after-append, filter-append, live-append}

-- ---- the answer to the last event

last-answers : (c : Config) (es : List Event) (e : Event) (s : One) → last_of (answers_from c (es ++ e ∷ []) s) ≡ (step c e (after c es s)).1
last-answers c [] e s = refl
last-answers c (a ∷ []) e s = refl
last-answers c (a ∷ b ∷ es) e s = last-answers c (b ∷ es) e (step c a s).0

same : (v : ℕ) → eqb v v ≡ true
same v = (Decides-eqb v v).1 refl

pub own-hit : (v : ℕ) (es : List Event) (e : Event) → owner_of e ≡ Some v → own v (es ++ e ∷ []) ≡ own v es ++ e ∷ []
own-hit v es e h = filter-append (λ a. is_owner v (owner_of a)) es e ∙ ap (λ o. own v es ++ cond (is_owner v o) (e ∷ []) []) h ∙ ap (λ b. own v es ++ cond b (e ∷ []) []) (same v)

append-nil : {X : Type 0} (xs : List X) → xs ++ [] ≡ xs
append-nil [] = refl
append-nil (x ∷ xs) = ap (λ l. x ∷ l) (append-nil xs)

pub own-miss : (u v : ℕ) (es : List Event) (e : Event) → owner_of e ≡ Some v → (v == u) ≡ false → own u (es ++ e ∷ []) ≡ own u es
own-miss u v es e h n = filter-append (λ a. is_owner u (owner_of a)) es e ∙ ap (λ o. own u es ++ cond (is_owner u o) (e ∷ []) []) h ∙ ap (λ b. own u es ++ cond b (e ∷ []) []) n ∙ append-nil (own u es)

pub answer-own : (c : Config) (v : ℕ) (es : List Event) (e : Event) → owner_of e ≡ Some v → answer_to c es e ≡ (own_step (at_size (one_of c v es).picture c) e (one_of c v es) (viewer_of c v es)).1
answer-own c v es e h = rw h (ap (λ l. last_of (alone c l)) (own-hit v es e h) ∙ last-answers c (own v es) e (empty_screen c) ∙ rw h refl)

pub answer-hit : (c : Config) (v : ℕ) (es : List Event) (e : Event) → owner_of e ≡ Some v → answer_to c es e ≡ (own_step (now_at c es) e (one_of c v es) (viewer_of c v es)).1
answer-hit c v es e h = answer-own c v es e h
    ∙ ap (λ f. (own_step (at_size f c) e (one_of c v es) (viewer_of c v es)).1) (one-picture c v es)

pub viewer-hit : (c : Config) (v : ℕ) (es : List Event) (e : Event) → owner_of e ≡ Some v → viewer_of c v (es ++ e ∷ []) ≡ (own_step (now_at c es) e (one_of c v es) (viewer_of c v es)).0.viewer
viewer-hit c v es e h =
    ap (λ l. (after c l (empty_screen c)).viewer) (own-hit v es e h) ∙ ap (λ (s : One). s.viewer) (after-append c (own v es) e (empty_screen c)) ∙ rw h refl
    ∙ ap (λ f. (own_step (at_size f c) e (one_of c v es) (viewer_of c v es)).0.viewer) (one-picture c v es)

pub viewer-miss : (c : Config) (u v : ℕ) (es : List Event) (e : Event) → owner_of e ≡ Some v → (v == u) ≡ false → viewer_of c u (es ++ e ∷ []) ≡ viewer_of c u es
viewer-miss c u v es e h n = ap (λ l. (after c l (empty_screen c)).viewer) (own-miss u v es e h n)

pub picture-own : (c : Config) (v : ℕ) (es : List Event) (e : Event) → owner_of e ≡ Some v → picture_of c (es ++ e ∷ []) ≡ picture_of c es
picture-own c v es e h = ap (λ l. (after c l (empty_screen c)).picture) (filter-append (λ a. is_drawing (owner_of a)) es e ∙ ap (λ o. filter (λ a. is_drawing (owner_of a)) es ++ cond (is_drawing o) (e ∷ []) []) h ∙ append-nil (filter (λ a. is_drawing (owner_of a)) es))

-- ---- a viewer is there where its number is among those that are there

has : ℕ → List ℕ → Bool
has v there = list_any (λ n. n == v) there

-- one event of any owner
passed : Config → ℕ → Event → One → One
passed c v e s = cond (is_owner v (owner_of e)) (step c e s).0 s

drawn-there : (c : Config) (e : Event) (s : One) (r : Option ScreenError) → is_some (draw_step c e s r).0.viewer ≡ is_some s.viewer
drawn-there c e s (Some r) = refl
drawn-there c e s None = go s.viewer
  where
    go : (o : Option (Viewer (List ℕ))) → is_some (option_map (λ v. shown_drawing c e (is_open_viewer v) v) o) ≡ is_some o
    go None = refl
    go (Some v) = refl

has-append : (v n : ℕ) (there : List ℕ) → has v (there ++ n ∷ []) ≡ (has v there || (n == v))
unfolding has
has-append v n [] = or_false (n == v)
  where
    or_false : (b : Bool) → (b || false) ≡ (false || b)
    or_false true = refl
    or_false false = refl
has-append v n (m ∷ there) = ap (λ b. (m == v) || b) (has-append v n there) ∙ or_assoc (m == v) (has v there) (n == v)
  where
    or_assoc : (a b c : Bool) → (a || (b || c)) ≡ ((a || b) || c)
    or_assoc true b c = refl
    or_assoc false b c = refl

has-without_same : (v : ℕ) (there : List ℕ) → has v (filter (λ n. not (n == v)) there) ≡ false
unfolding has
has-without_same v [] = refl
has-without_same v (m ∷ there) = grind (arith, nat_tests, has-without_same v there)

has-without_other : (v w : ℕ) (there : List ℕ) → (w == v) ≡ false → has v (filter (λ n. not (n == w)) there) ≡ has v there
unfolding has
has-without_other v w [] h = refl
has-without_other v w (m ∷ there) h = grind (arith, nat_tests, has-without_other v w there h)

or-false : (b : Bool) → (b || false) ≡ b
or-false true = refl
or-false false = refl

or-true : (b : Bool) → (b || true) ≡ true
or-true true = refl
or-true false = refl

-- once connected a viewer is there
connect-there : (c : Config) (n : ℕ) (s : One) → is_some (own_step c (Connect n) s s.viewer).0.viewer ≡ true
connect-there c n s = go s.viewer refl
  where
    go : (w : Option (Viewer (List ℕ))) → s.viewer ≡ w → is_some (own_step c (Connect n) s w).0.viewer ≡ true
    go None e = refl
    go (Some v) e = ap is_some e

connect-has : (n : ℕ) (there : List ℕ) → has n (after_arrival (Connect n) there) ≡ true
unfolding has
connect-has n there = go (has n there) refl
  where
    go : (b : Bool) → has n there ≡ b → has n (cond b there (there ++ n ∷ [])) ≡ true
    go true e = e
    go false e = has-append n n there ∙ ap (λ t. has n there || t) (same n) ∙ or-true (has n there)

connect-has_other : (v n : ℕ) (there : List ℕ) → (n == v) ≡ false → has v (after_arrival (Connect n) there) ≡ has v there
unfolding has
connect-has_other v n there h = go (has n there)
  where
    go : (b : Bool) → has v (cond b there (there ++ n ∷ [])) ≡ has v there
    go true = refl
    go false = has-append v n there ∙ ap (λ t. has v there || t) h ∙ or-false (has v there)

close-there : (c : Config) (n : ℕ) (s : One) → is_some (own_step c (Close n) s s.viewer).0.viewer ≡ false
close-there c n s = go s.viewer refl
  where
    go : (w : Option (Viewer (List ℕ))) → s.viewer ≡ w → is_some (own_step c (Close n) s w).0.viewer ≡ false
    go None e = ap is_some e
    go (Some v) e = refl

hear-there : (c : Config) (n : ℕ) (piece : List ℕ) (s : One) → is_some (own_step c (Hear n piece) s s.viewer).0.viewer ≡ is_some s.viewer
hear-there c n piece s = go s.viewer refl
  where
    go : (w : Option (Viewer (List ℕ))) → s.viewer ≡ w → is_some (own_step c (Hear n piece) s w).0.viewer ≡ is_some w
    go None e = ap is_some e
    go (Some v) e = refl

cut-there : (c : Config) (n : ℕ) (s : One) → is_some (own_step c (Cut n) s s.viewer).0.viewer ≡ is_some s.viewer
cut-there c n s = go s.viewer refl
  where
    go : (w : Option (Viewer (List ℕ))) → s.viewer ≡ w → is_some (own_step c (Cut n) s w).0.viewer ≡ is_some w
    go None e = ap is_some e
    go (Some v) e = refl

-- an event of the viewer's own, or of another
by-owner : (P : Bool → Type 0) (n v : ℕ) → ((n ≡ v) → P true) → ((n == v) ≡ false → P false) → P (n == v)
by-owner P n v hit miss = go (n == v) refl
  where
    go : (b : Bool) → (n == v) ≡ b → P b
    go true e = hit ((Decides-eqb n v).0 e)
    go false e = miss e

there-step : (c : Config) (v : ℕ) (e : Event) (s : One) (there : List ℕ) → has v there ≡ is_some s.viewer → has v (after_arrival e there) ≡ is_some (passed c v e s).viewer
unfolding passed
there-step c v (Paint r colours) s there h = h ∙ sym (drawn-there (at_size s.picture c) (Paint r colours) s (drawing_refusal (at_size s.picture c) (Paint r colours)))
there-step c v (Write r colours) s there h = h ∙ sym (drawn-there (at_size s.picture c) (Write r colours) s (drawing_refusal (at_size s.picture c) (Write r colours)))
there-step c v (Mark rects) s there h = h ∙ sym (drawn-there (at_size s.picture c) (Mark rects) s (drawing_refusal (at_size s.picture c) (Mark rects)))
there-step c v (ScheduleCopy rects dx dy) s there h = h ∙ sym (drawn-there (at_size s.picture c) (ScheduleCopy rects dx dy) s (drawing_refusal (at_size s.picture c) (ScheduleCopy rects dx dy)))
there-step c v (DoCopy rects dx dy) s there h = h ∙ sym (drawn-there (at_size s.picture c) (DoCopy rects dx dy) s (drawing_refusal (at_size s.picture c) (DoCopy rects dx dy)))
there-step c v Bell s there h = h ∙ sym (drawn-there (at_size s.picture c) Bell s (drawing_refusal (at_size s.picture c) Bell))
there-step c v (CutText text) s there h = h ∙ sym (drawn-there (at_size s.picture c) (CutText text) s (drawing_refusal (at_size s.picture c) (CutText text)))
there-step c v (Resize w k) s there h = h ∙ sym (drawn-there (at_size s.picture c) (Resize w k) s (drawing_refusal (at_size s.picture c) (Resize w k)))
there-step c v (Connect n) s there h = by-owner (λ b. has v (after_arrival (Connect n) there) ≡ is_some (cond b (step c (Connect n) s).0 s).viewer) n v
    (λ e. ap (λ m. has m (after_arrival (Connect n) there)) (sym e) ∙ connect-has n there ∙ sym (connect-there (at_size s.picture c) n s))
    (λ other. connect-has_other v n there other ∙ h)
there-step c v (Close n) s there h = by-owner (λ b. has v (after_arrival (Close n) there) ≡ is_some (cond b (step c (Close n) s).0 s).viewer) n v
    (λ e. ap (λ m. has m (after_arrival (Close n) there)) (sym e) ∙ has-without_same n there ∙ sym (close-there (at_size s.picture c) n s))
    (λ other. has-without_other v n there other ∙ h)
there-step c v (Hear n piece) s there h = by-owner (λ b. has v there ≡ is_some (cond b (step c (Hear n piece) s).0 s).viewer) n v
    (λ e. h ∙ sym (hear-there (at_size s.picture c) n piece s)) (λ other. h)
there-step c v (Cut n) s there h = by-owner (λ b. has v there ≡ is_some (cond b (step c (Cut n) s).0 s).viewer) n v
    (λ e. h ∙ sym (cut-there (at_size s.picture c) n s)) (λ other. h)

after-own : (c : Config) (v : ℕ) (e : Event) (es : List Event) (s : One) → after c (own v (e ∷ es)) s ≡ after c (own v es) (passed c v e s)
unfolding passed
after-own c v e es s = go (is_owner v (owner_of e))
  where
    go : (b : Bool) → after c (cond b (e ∷ own v es) (own v es)) s ≡ after c (own v es) (cond b (step c e s).0 s)
    go true = refl
    go false = refl

there-all : (c : Config) (v : ℕ) (es : List Event) (s : One) (there : List ℕ) → has v there ≡ is_some s.viewer → has v (live_from there es) ≡ is_some (after c (own v es) s).viewer
there-all c v [] s there h = h
there-all c v (e ∷ es) s there h = there-all c v es (passed c v e s) (after_arrival e there) (there-step c v e s there h) ∙ sym (ap (λ (o : One). is_some o.viewer) (after-own c v e es s))

-- a viewer is there where its number is among those that are there
pub there-is : (c : Config) (v : ℕ) (es : List Event) → list_any (λ n. n == v) (live_from [] es) ≡ is_some (viewer_of c v es)
unfolding has
there-is c v es = there-all c v es (empty_screen c) [] refl

-- ---- closing

swap-eq : (u v : ℕ) → (u == v) ≡ false → (v == u) ≡ false
swap-eq u v h = grind (arith, nat_tests)

entries-close : (c : Config) (es : List Event) (v : ℕ) (ns : List ℕ) → filter_map (λ u. entry_of u (viewer_of c u (es ++ Close v ∷ []))) (filter (λ n. not (n == v)) ns) ≡ filter (λ p. not (p.0 == v)) (filter_map (λ u. entry_of u (viewer_of c u es)) ns)
entries-close c es v [] = refl
entries-close c es v (n ∷ ns) =
    let new : ℕ → Option (ℕ × Viewer Rest) = λ u. entry_of u (viewer_of c u (es ++ Close v ∷ [])) in
    let old : ℕ → Option (ℕ × Viewer Rest) = λ u. entry_of u (viewer_of c u es) in
    let rest = entries-close c es v ns in
    by-owner (λ b. filter_map new (cond (not b) (n ∷ filter (λ m. not (m == v)) ns) (filter (λ m. not (m == v)) ns)) ≡ filter (λ p. not (p.0 == v)) (cons_option (old n) (filter_map old ns))) n v
    (λ e. rest ∙ dropped n v (ap (λ m. eqb m v) e ∙ same v) (viewer_of c n es) (filter_map old ns))
    (λ other. ap (λ o. cons_option (entry_of n o) (filter_map new (filter (λ m. not (m == v)) ns))) (viewer-miss c n v es (Close v) refl (swap-eq n v other))
    ∙ ap (cons_option (old n)) rest ∙ stays n v other (viewer_of c n es) (filter_map old ns))
  where
    dropped : (n v : ℕ) → (n == v) ≡ true → (o : Option (Viewer (List ℕ))) (ps : List (ℕ × Viewer Rest)) → filter (λ p. not (p.0 == v)) ps ≡ filter (λ p. not (p.0 == v)) (cons_option (entry_of n o) ps)
    dropped n v e None ps = refl
    dropped n v e (Some w) ps = rw e refl

    stays : (n v : ℕ) → (n == v) ≡ false → (o : Option (Viewer (List ℕ))) (ps : List (ℕ × Viewer Rest)) → cons_option (entry_of n o) (filter (λ p. not (p.0 == v)) ps) ≡ filter (λ p. not (p.0 == v)) (cons_option (entry_of n o) ps)
    stays n v e None ps = refl
    stays n v e (Some w) ps = rw e refl

pub state-close : (c : Config) (es : List Event) (v : ℕ) → scene_after c (es ++ Close v ∷ []) ≡ record { config = c; picture = (scene_after c es).picture; viewers = filter (λ p. not (p.0 == v)) (scene_after c es).viewers }
state-close c es v =
    let s : Frame → List (ℕ × Viewer Rest) → SceneState = λ p vs. record { config = c; picture = p; viewers = vs } in
    ap (λ p. s p (scene_after c (es ++ Close v ∷ [])).viewers) (picture-own c v es (Close v) refl)
    ∙ ap (s (picture_of c es)) (ap (filter_map (λ u. entry_of u (viewer_of c u (es ++ Close v ∷ [])))) (live-append [] es (Close v)) ∙ entries-close c es v (live_from [] es))

-- a seat is there where the viewer is
entries-has : (c : Config) (es : List Event) (v : ℕ) (ns : List ℕ) → list_any (λ p. p.0 == v) (filter_map (λ u. entry_of u (viewer_of c u es)) ns) ≡ (list_any (λ n. n == v) ns && is_some (viewer_of c v es))
entries-has c es v [] = refl
entries-has c es v (n ∷ ns) =
    let old : ℕ → Option (ℕ × Viewer Rest) = λ u. entry_of u (viewer_of c u es) in
    by-owner (λ b. list_any (λ p. p.0 == v) (cons_option (old n) (filter_map old ns)) ≡ ((b || list_any (λ m. m == v) ns) && is_some (viewer_of c v es))) n v
    (λ e. hit n v (ap (λ m. eqb m v) e ∙ same v) (viewer_of c n es) (filter_map old ns) (list_any (λ m. m == v) ns) (is_some (viewer_of c v es)) (ap (λ m. is_some (viewer_of c m es)) e) (entries-has c es v ns))
    (λ other. miss n v other (viewer_of c n es) (filter_map old ns) ∙ entries-has c es v ns)
  where
    hit : (n v : ℕ) → (n == v) ≡ true → (o : Option (Viewer (List ℕ))) (ps : List (ℕ × Viewer Rest)) (b t : Bool) → is_some o ≡ t → list_any (λ p. p.0 == v) ps ≡ (b && t) → list_any (λ p. p.0 == v) (cons_option (entry_of n o) ps) ≡ ((true || b) && t)
    hit n v e None ps b t some rest = rest ∙ rw (← some) (and-false b)
      where
        and-false : (b : Bool) → (b && false) ≡ false
        and-false true = refl
        and-false false = refl
    hit n v e (Some w) ps b t some rest = rw e some

    miss : (n v : ℕ) → (n == v) ≡ false → (o : Option (Viewer (List ℕ))) (ps : List (ℕ × Viewer Rest)) → list_any (λ p. p.0 == v) (cons_option (entry_of n o) ps) ≡ list_any (λ p. p.0 == v) ps
    miss n v e None ps = refl
    miss n v e (Some w) ps = rw e refl

pub state-has : (c : Config) (es : List Event) (v : ℕ) → list_any (λ p. p.0 == v) (scene_after c es).viewers ≡ is_some (viewer_of c v es)
state-has c es v = entries-has c es v (live_from [] es) ∙ ap (λ b. b && is_some (viewer_of c v es)) (there-is c v es) ∙ and-same (is_some (viewer_of c v es))
  where
    and-same : (b : Bool) → (b && b) ≡ b
    and-same true = refl
    and-same false = refl

pub answer-close : (c : Config) (es : List Event) (v : ℕ) → answer_to c es (Close v) ≡ cond (list_any (λ p. p.0 == v) (scene_after c es).viewers) nothing_to_say (refuses refusals.NoViewer)
answer-close c es v = answer-hit c v es (Close v) refl ∙ go (viewer_of c v es) ∙ sym (ap (λ b. cond b nothing_to_say (refuses refusals.NoViewer)) (state-has c es v))
  where
    go : (o : Option (Viewer (List ℕ))) → (own_step (now_at c es) (Close v) (one_of c v es) o).1 ≡ cond (is_some o) nothing_to_say (refuses refusals.NoViewer)
    go None = refl
    go (Some w) = refl

-- ---- an event that changes one viewer, which is there and stays

abbrev pub replaced : ℕ → Viewer Rest → ℕ × Viewer Rest → ℕ × Viewer Rest
replaced v w p = cond (p.0 == v) (v, w) p

entries-own : (c : Config) (es : List Event) (e : Event) (v : ℕ) (was now : Viewer (List ℕ)) → owner_of e ≡ Some v → viewer_of c v es ≡ Some was → viewer_of c v (es ++ e ∷ []) ≡ Some now
    → (ns : List ℕ) → filter_map (λ u. entry_of u (viewer_of c u (es ++ e ∷ []))) ns ≡ map (replaced v (kept_viewer now)) (filter_map (λ u. entry_of u (viewer_of c u es)) ns)
entries-own c es e v was now h before behind [] = refl
entries-own c es e v was now h before behind (n ∷ ns) =
    let new : ℕ → Option (ℕ × Viewer Rest) = λ u. entry_of u (viewer_of c u (es ++ e ∷ [])) in
    let old : ℕ → Option (ℕ × Viewer Rest) = λ u. entry_of u (viewer_of c u es) in
    let rest = entries-own c es e v was now h before behind ns in
    first (n == v) n refl (viewer_of c n es) (viewer_of c n (es ++ e ∷ [])) (λ same. let e' : n ≡ v = (Decides-eqb n v).0 same in ap (λ m. viewer_of c m es) e' ∙ before) (λ same. let e' : n ≡ v = (Decides-eqb n v).0 same in ap (λ m. viewer_of c m (es ++ e ∷ [])) e' ∙ behind)
    (λ other. viewer-miss c n v es e h (swap-eq n v other)) (filter_map new ns) (filter_map old ns) rest
  where
    first : (b : Bool) (n : ℕ) → (n == v) ≡ b → (o p : Option (Viewer (List ℕ))) → ((n == v) ≡ true → o ≡ Some was) → ((n == v) ≡ true → p ≡ Some now) → ((n == v) ≡ false → p ≡ o)
        → (news olds : List (ℕ × Viewer Rest)) → news ≡ map (replaced v (kept_viewer now)) olds → cons_option (entry_of n p) news ≡ map (replaced v (kept_viewer now)) (cons_option (entry_of n o) olds)
    first true n same o p was_so now_so other news olds rest =
        ap (λ q. cons_option (entry_of n q) news) (now_so same) ∙ ap (λ m. (m, kept_viewer now) ∷ news) ((Decides-eqb n v).0 same)
        ∙ ap (λ l. (v, kept_viewer now) ∷ l) rest
        ∙ ap (λ b. cond b (v, kept_viewer now) (n, kept_viewer was) ∷ map (replaced v (kept_viewer now)) olds) (sym same)
        ∙ sym (ap (λ q. map (replaced v (kept_viewer now)) (cons_option (entry_of n q) olds)) (was_so same))
    first false n same o p was_so now_so other news olds rest =
        ap (λ q. cons_option (entry_of n q) news) (other same) ∙ ap (cons_option (entry_of n o)) rest ∙ stays o
      where
        stays : (o : Option (Viewer (List ℕ))) → cons_option (entry_of n o) (map (replaced v (kept_viewer now)) olds) ≡ map (replaced v (kept_viewer now)) (cons_option (entry_of n o) olds)
        stays None = refl
        stays (Some w) = ap (λ b. cond b (v, kept_viewer now) (n, kept_viewer w) ∷ map (replaced v (kept_viewer now)) olds) (sym same)

abbrev pub Stays : Event → Type 0
Stays e = (there : List ℕ) → after_arrival e there ≡ there

-- the screen after a piece is heard, or an update cut, of a viewer that is there
pub state-own : (c : Config) (es : List Event) (e : Event) (v : ℕ) (was now : Viewer (List ℕ)) → owner_of e ≡ Some v → Stays e → viewer_of c v es ≡ Some was → viewer_of c v (es ++ e ∷ []) ≡ Some now
    → scene_after c (es ++ e ∷ []) ≡ record { config = c; picture = (scene_after c es).picture; viewers = map (replaced v (kept_viewer now)) (scene_after c es).viewers }
state-own c es e v was now h stays before behind =
    let s : Frame → List (ℕ × Viewer Rest) → SceneState = λ p vs. record { config = c; picture = p; viewers = vs } in
    ap (λ p. s p (scene_after c (es ++ e ∷ [])).viewers) (picture-own c v es e h)
    ∙ ap (s (picture_of c es)) (ap (filter_map (λ u. entry_of u (viewer_of c u (es ++ e ∷ [])))) (live-append [] es e ∙ stays (live_from [] es)) ∙ entries-own c es e v was now h before behind (live_from [] es))

-- ---- what a screen keeps of one viewer

entries-find : (c : Config) (es : List Event) (v : ℕ) (ns : List ℕ) → list_any (λ n. n == v) ns ≡ is_some (viewer_of c v es) → find (λ p. p.0 == v) (filter_map (λ u. entry_of u (viewer_of c u es)) ns) ≡ entry_of v (viewer_of c v es)
entries-find c es v [] h = go (viewer_of c v es) h
  where
    go : (o : Option (Viewer (List ℕ))) → false ≡ is_some o → None ≡ entry_of v o
    go None e = refl
    go (Some w) e = cc
entries-find c es v (n ∷ ns) h = first (n == v) refl h (λ k. entries-find c es v ns k)
  where
    here : (n : ℕ) → (n == v) ≡ true → (o : Option (Viewer (List ℕ))) → true ≡ is_some o → (ps : List (ℕ × Viewer Rest)) → find (λ p. p.0 == v) (cons_option (entry_of n o) ps) ≡ entry_of n o
    here n e None some ps = cc
    here n e (Some w) some ps = rw e refl

    later : (n : ℕ) → (n == v) ≡ false → (o : Option (Viewer (List ℕ))) (ps : List (ℕ × Viewer Rest)) → find (λ p. p.0 == v) (cons_option (entry_of n o) ps) ≡ find (λ p. p.0 == v) ps
    later n e None ps = refl
    later n e (Some w) ps = rw e refl

    first : (b : Bool) → (n == v) ≡ b → (b || list_any (λ m. m == v) ns) ≡ is_some (viewer_of c v es)
        → (list_any (λ m. m == v) ns ≡ is_some (viewer_of c v es) → find (λ p. p.0 == v) (filter_map (λ u. entry_of u (viewer_of c u es)) ns) ≡ entry_of v (viewer_of c v es))
        → find (λ p. p.0 == v) (cons_option (entry_of n (viewer_of c n es)) (filter_map (λ u. entry_of u (viewer_of c u es)) ns)) ≡ entry_of v (viewer_of c v es)
    first true e k rest = let same_number : n ≡ v = (Decides-eqb n v).0 e in
        here n e (viewer_of c n es) (k ∙ ap (λ m. is_some (viewer_of c m es)) (sym same_number)) (filter_map (λ u. entry_of u (viewer_of c u es)) ns) ∙ ap (λ m. entry_of m (viewer_of c m es)) same_number
    first false e k rest = later n e (viewer_of c n es) (filter_map (λ u. entry_of u (viewer_of c u es)) ns) ∙ rest k

-- a screen keeps of a number what it should of the viewer
pub state-find : (c : Config) (es : List Event) (v : ℕ) → find (λ p. p.0 == v) (scene_after c es).viewers ≡ entry_of v (viewer_of c v es)
state-find c es v = entries-find c es v (live_from [] es) (there-is c v es)

-- the items' effects don't look at what is kept of the bytes
pub kept-items : (c : Config) (items : List Item) (v : Viewer (List ℕ)) → kept_viewer (after_items c.width c.height items v) ≡ after_items c.width c.height items (kept_viewer v)
kept-items c [] v = refl
kept-items c (i ∷ items) v = kept-items c items (after_item c.width c.height i v) ∙ ap (after_items c.width c.height items) (kept-item c.width c.height i v)
  where
    kept-item : (w h : ℕ) (i : Item) (v : Viewer (List ℕ)) → kept_viewer (after_item w h i v) ≡ after_item w h i (kept_viewer v)
    kept-item w h (item.Version version) v = refl
    kept-item w h item.Choice v = refl
    kept-item w h (item.Init shared) v = refl
    kept-item w h (item.Format f) v = refl
    kept-item w h (item.Encodings preferred copyrect resize) v = refl
    kept-item w h (item.Request incremental area) v = refl
    kept-item w h (item.Input input) v = refl

-- the screen after a piece is heard, by what it keeps of the viewer
pub state-hear : (c : Config) (es : List Event) (v : ℕ) (piece : List ℕ) (was : Viewer (List ℕ)) → viewer_of c v es ≡ Some was
    → scene_after c (es ++ Hear v piece ∷ []) ≡ record {
      config = c;
      picture = (scene_after c es).picture;
      viewers = map (replaced v (after_items (now_at c es).width (now_at c es).height (new_items was.heard piece) (record (kept_viewer was) { heard = rest (was.heard ++ piece) }))) (scene_after c es).viewers;
    }
state-hear c es v piece was h =
    let items = new_items was.heard piece in
    let now : Viewer (List ℕ) = after_items (now_at c es).width (now_at c es).height items (record was { heard = was.heard ++ piece }) in
    let s : Viewer Rest → SceneState = λ w. record { config = c; picture = (scene_after c es).picture; viewers = map (replaced v w) (scene_after c es).viewers } in
    state-own c es (Hear v piece) v was now refl (λ there. refl) h (viewer-hit c v es (Hear v piece) refl ∙ ap (λ o. (own_step (now_at c es) (Hear v piece) (one_of c v es) o).0.viewer) h)
    ∙ ap s (kept-items (now_at c es) items (record was { heard = was.heard ++ piece }))

pub answer-hear : (c : Config) (es : List Event) (v : ℕ) (piece : List ℕ) (was : Viewer (List ℕ)) → viewer_of c v es ≡ Some was → answer_to c es (Hear v piece) ≡ (hearing (now_at c es) piece was).1
answer-hear c es v piece was h = answer-hit c v es (Hear v piece) refl ∙ ap (λ o. (own_step (now_at c es) (Hear v piece) (one_of c v es) o).1) h
