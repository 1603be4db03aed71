-- What did not happen changed nothing: a list and its events that happened leave everything alike.
use Rattle.std.proofs.Common.{◌≡◌, ◌⊎◌, inl, inr, ℕ, Bool, true, false, true≢false, cond, not, ◌||◌, List, [], ◌∷◌, ◌++◌, Option, Some, None, refl, sym, ◌∙◌, ap, subst}
use Rattle.std.specs.Prelude.{filter, is_none, is_some, if◌then◌else◌, ◌==◌}
use Rattle.std.specs.List.{filter_map, cons_option, list_any}
use Rattle.std.proofs.lemmas.Bool.Decides.{Decides-eqb}
use Rattle.std.proofs.lemmas.List.{append-nil, append_assoc}
use Rattle.messages.specs.Reading.{Rest}
use Rattle.framebuffer.specs.Frame.{Frame}
use Rattle.viewer.specs.Viewer.{Viewer}
use Rattle.scene.specs.declared.Config.{Config}
use Rattle.scene.specs.declared.ScreenError.{ScreenError}
use Rattle.scene.specs.declared.Event.{Event}
use Rattle.scene.specs.declared.Event.TheVariants.{Write, Paint, Mark, ScheduleCopy, DoCopy, Bell, CutText, Resize, Connect, Hear, Cut, Close}
use Rattle.scene.specs.declared.Answer.{Answer}
use Rattle.scene.specs.Alone.{One, at_size, step, own_step, draw_step, after, owner_of, drawing_refusal, empty_screen}
use Rattle.scene.specs.Answers.{own, is_drawing, answer_to, refused_or_nothing, picture_of, viewer_of, live_from, after_arrival, entry_of, SceneState, scene_after}
use Rattle.scene.specs.History.{has_happened, accepted_after, accepted, accepted_is_enough, accepted_happens_again}
use Rattle.scene.proofs.Everyones.{one_of, now_at, one-picture}
use Rattle.scene.proofs.Steps.{after-append, live-append, own-drawing, drawings-drawing, filter-append, drawn_by}
use Rattle.scene.proofs.Owners.{own-hit, own-miss, answer-own, answer-hit, there-is}
use Rattle.scene.proofs.Unchanged.{step_nothing}

-- two lists that leave everything alike
record Alike (c : Config) (a b : List Event) : Type 0 where
  viewers : (v : ℕ) → one_of c v a ≡ one_of c v b
  picture : drawn_by c a ≡ drawn_by c b
  live : live_from [] a ≡ live_from [] b

-- ---- the same answer

same_answer_by : (c : Config) (a b : List Event) (e : Event) (o : Option ℕ) → owner_of e ≡ o → Alike c a b → answer_to c a e ≡ answer_to c b e
same_answer_by c a b e None h alike = rw h (ap (λ (s : One). refused_or_nothing (drawing_refusal (at_size s.picture c) e)) alike.picture)
same_answer_by c a b e (Some v) h alike =
    answer-own c v a e h ∙ ap (λ (s : One). (own_step (at_size s.picture c) e s s.viewer).1) (alike.viewers v) ∙ sym (answer-own c v b e h)

same_answer : (c : Config) (a b : List Event) (e : Event) → Alike c a b → answer_to c a e ≡ answer_to c b e
same_answer c a b e alike = same_answer_by c a b e (owner_of e) refl alike

-- ---- whether something happened, by the machine of one viewer or of the picture

drawn-happened : (c : Config) (e : Event) (s : One) (es : List Event) → owner_of e ≡ None → s.picture ≡ picture_of c es → has_happened e (step c e s).1 ≡ has_happened e (answer_to c es e)
drawn-happened c (Write r l) s es h same = go (drawing_refusal (at_size s.picture c) (Write r l)) ∙ ap (λ (f : Frame). is_none (refused_or_nothing (drawing_refusal (at_size f c) (Write r l))).refused) same
  where
    go : (o : Option ScreenError) → is_none (draw_step (at_size s.picture c) (Write r l) s o).1.refused ≡ is_none (refused_or_nothing o).refused
    go None = refl
    go (Some q) = refl
drawn-happened c (Paint r l) s es h same = go (drawing_refusal (at_size s.picture c) (Paint r l)) ∙ ap (λ (f : Frame). is_none (refused_or_nothing (drawing_refusal (at_size f c) (Paint r l))).refused) same
  where
    go : (o : Option ScreenError) → is_none (draw_step (at_size s.picture c) (Paint r l) s o).1.refused ≡ is_none (refused_or_nothing o).refused
    go None = refl
    go (Some q) = refl
drawn-happened c (CutText t) s es h same = go (drawing_refusal c (CutText t))
  where
    go : (o : Option ScreenError) → is_none (draw_step (at_size s.picture c) (CutText t) s o).1.refused ≡ is_none (refused_or_nothing o).refused
    go None = refl
    go (Some q) = refl
drawn-happened c (Resize w k) s es h same = go (drawing_refusal c (Resize w k))
  where
    go : (o : Option ScreenError) → is_none (draw_step (at_size s.picture c) (Resize w k) s o).1.refused ≡ is_none (refused_or_nothing o).refused
    go None = refl
    go (Some q) = refl
drawn-happened c (Mark rects) s es h same = refl
drawn-happened c (ScheduleCopy rects dx dy) s es h same = refl
drawn-happened c (DoCopy rects dx dy) s es h same = refl
drawn-happened c Bell s es h same = refl
drawn-happened c (Connect v) s es h same = absurd cc
drawn-happened c (Hear v piece) s es h same = absurd cc
drawn-happened c (Cut v) s es h same = absurd cc
drawn-happened c (Close v) s es h same = absurd cc

step-own : (c : Config) (v : ℕ) (e : Event) (s : One) → owner_of e ≡ Some v → (step c e s).1 ≡ (own_step (at_size s.picture c) e s s.viewer).1
step-own c v e s h = rw h refl

own-happened : (c : Config) (v : ℕ) (e : Event) (es : List Event) → owner_of e ≡ Some v → has_happened e (step c e (one_of c v es)).1 ≡ has_happened e (answer_to c es e)
own-happened c v e es h = ap (has_happened e) (step-own c v e (one_of c v es) h ∙ sym (answer-own c v es e h))

-- ---- an event is among a viewer's, or it isn't

record IsHit (c : Config) (v : ℕ) (e : Event) : Type 0 where
  joins : (es : List Event) → own v (es ++ e ∷ []) ≡ own v es ++ e ∷ []
  happens : (es : List Event) → has_happened e (step c e (one_of c v es)).1 ≡ has_happened e (answer_to c es e)

abbrev IsMiss : ℕ → Event → Type 0
IsMiss v e = (es : List Event) → own v (es ++ e ∷ []) ≡ own v es

own-either : (c : Config) (v : ℕ) (e : Event) (o : Option ℕ) → owner_of e ≡ o → IsHit c v e ⊎ IsMiss v e
own-either c v e None h = inl (record { joins = λ es. own-drawing v es e h; happens = λ es. drawn-happened c e (one_of c v es) es h (one-picture c v es) })
own-either c v e (Some n) h = go (n == v) refl
  where
    go : (b : Bool) → (n == v) ≡ b → IsHit c v e ⊎ IsMiss v e
    go true is =
        let mine : owner_of e ≡ Some v = h ∙ ap Some ((Decides-eqb n v).0 is) in
        inl (record { joins = λ es. own-hit v es e mine; happens = λ es. own-happened c v e es mine })
    go false other = inr (λ es. own-miss v n es e h other)

one-hit : (c : Config) (v : ℕ) (es : List Event) (e : Event) → IsHit c v e → one_of c v (es ++ e ∷ []) ≡ (step c e (one_of c v es)).0
one-hit c v es e hit = ap (λ l. after c l (empty_screen c)) (hit.joins es) ∙ after-append c (own v es) e (empty_screen c)

one-miss : (c : Config) (v : ℕ) (es : List Event) (e : Event) → IsMiss v e → one_of c v (es ++ e ∷ []) ≡ one_of c v es
one-miss c v es e miss = ap (λ l. after c l (empty_screen c)) (miss es)

drawn-hit : (c : Config) (es : List Event) (e : Event) → owner_of e ≡ None → drawn_by c (es ++ e ∷ []) ≡ (step c e (drawn_by c es)).0
drawn-hit c es e h = ap (λ l. after c l (empty_screen c)) (drawings-drawing es e h) ∙ after-append c (filter (λ a. is_drawing (owner_of a)) es) e (empty_screen c)

drawn-miss : (c : Config) (v : ℕ) (es : List Event) (e : Event) → owner_of e ≡ Some v → drawn_by c (es ++ e ∷ []) ≡ drawn_by c es
drawn-miss c v es e h =
    ap (λ l. after c l (empty_screen c)) (filter-append (λ a. is_drawing (owner_of a)) es e ∙ ap (λ o. filter (λ a. is_drawing (owner_of a)) es ++ cond (is_drawing o) (e ∷ []) []) h ∙ append-nil (filter (λ a. is_drawing (owner_of a)) es))

-- ---- one event more for both

viewers-more : (c : Config) (v : ℕ) (a b : List Event) (e : Event) → one_of c v a ≡ one_of c v b → IsHit c v e ⊎ IsMiss v e → one_of c v (a ++ e ∷ []) ≡ one_of c v (b ++ e ∷ [])
viewers-more c v a b e same (inl hit) = one-hit c v a e hit ∙ ap (λ s. (step c e s).0) same ∙ sym (one-hit c v b e hit)
viewers-more c v a b e same (inr miss) = one-miss c v a e miss ∙ same ∙ sym (one-miss c v b e miss)

picture-more : (c : Config) (a b : List Event) (e : Event) (o : Option ℕ) → owner_of e ≡ o → drawn_by c a ≡ drawn_by c b → drawn_by c (a ++ e ∷ []) ≡ drawn_by c (b ++ e ∷ [])
picture-more c a b e None h same = drawn-hit c a e h ∙ ap (λ s. (step c e s).0) same ∙ sym (drawn-hit c b e h)
picture-more c a b e (Some v) h same = drawn-miss c v a e h ∙ same ∙ sym (drawn-miss c v b e h)

alike-more : (c : Config) (a b : List Event) (e : Event) → Alike c a b → Alike c (a ++ e ∷ []) (b ++ e ∷ [])
alike-more c a b e alike = record {
  viewers = λ v. viewers-more c v a b e (alike.viewers v) (own-either c v e (owner_of e) refl);
  picture = picture-more c a b e (owner_of e) refl alike.picture;
  live = live-append [] a e ∙ ap (after_arrival e) alike.live ∙ sym (live-append [] b e);
}

-- ---- one that did not happen

viewers-stay : (c : Config) (v : ℕ) (es : List Event) (e : Event) → has_happened e (answer_to c es e) ≡ false → IsHit c v e ⊎ IsMiss v e → one_of c v es ≡ one_of c v (es ++ e ∷ [])
viewers-stay c v es e h (inl hit) = sym (one-hit c v es e hit ∙ step_nothing c e (one_of c v es) (hit.happens es ∙ h))
viewers-stay c v es e h (inr miss) = sym (one-miss c v es e miss)

picture-stays : (c : Config) (es : List Event) (e : Event) (o : Option ℕ) → owner_of e ≡ o → has_happened e (answer_to c es e) ≡ false → drawn_by c es ≡ drawn_by c (es ++ e ∷ [])
picture-stays c es e None k h = sym (drawn-hit c es e k ∙ step_nothing c e (drawn_by c es) (drawn-happened c e (drawn_by c es) es k refl ∙ h))
picture-stays c es e (Some v) k h = sym (drawn-miss c v es e k)

filter-away : (v : ℕ) (ns : List ℕ) → list_any (λ n. n == v) ns ≡ false → filter (λ n. not (n == v)) ns ≡ ns
filter-away v [] h = refl
filter-away v (n ∷ ns) h = go (n == v) h (filter-away v ns)
  where
    go : (b : Bool) → (b || list_any (λ m. m == v) ns) ≡ false → (list_any (λ m. m == v) ns ≡ false → filter (λ m. not (m == v)) ns ≡ ns)
        → cond (not b) (n ∷ filter (λ m. not (m == v)) ns) (filter (λ m. not (m == v)) ns) ≡ n ∷ ns
    go true k rest = absurd (true≢false k)
    go false k rest = ap (λ l. n ∷ l) (rest k)

live-stays : (c : Config) (es : List Event) (e : Event) → has_happened e (answer_to c es e) ≡ false → after_arrival e (live_from [] es) ≡ live_from [] es
live-stays c es (Connect v) h = go (viewer_of c v es) (ap (λ (a : Answer). is_none a.refused) (sym (answer-hit c v es (Connect v) refl)) ∙ h) (there-is c v es)
  where
    go : (o : Option (Viewer (List ℕ))) → is_none (own_step (now_at c es) (Connect v) (one_of c v es) o).1.refused ≡ false → list_any (λ n. n == v) (live_from [] es) ≡ is_some o
        → cond (list_any (λ n. n == v) (live_from [] es)) (live_from [] es) (live_from [] es ++ v ∷ []) ≡ live_from [] es
    go None k there = absurd (true≢false k)
    go (Some w) k there = ap (λ b. cond b (live_from [] es) (live_from [] es ++ v ∷ [])) there
live-stays c es (Close v) h = go (viewer_of c v es) (ap (λ (a : Answer). is_none a.refused) (sym (answer-hit c v es (Close v) refl)) ∙ h) (there-is c v es)
  where
    go : (o : Option (Viewer (List ℕ))) → is_none (own_step (now_at c es) (Close v) (one_of c v es) o).1.refused ≡ false → list_any (λ n. n == v) (live_from [] es) ≡ is_some o
        → filter (λ n. not (n == v)) (live_from [] es) ≡ live_from [] es
    go None k there = filter-away v (live_from [] es) there
    go (Some w) k there = absurd (true≢false k)
live-stays c es (Hear v piece) h = refl
live-stays c es (Cut v) h = refl
live-stays c es (Paint r l) h = refl
live-stays c es (Write r l) h = refl
live-stays c es (Mark rects) h = refl
live-stays c es (ScheduleCopy rects dx dy) h = refl
live-stays c es (DoCopy rects dx dy) h = refl
live-stays c es Bell h = refl
live-stays c es (CutText t) h = refl
live-stays c es (Resize w k) h = refl

alike-nothing : (c : Config) (a es : List Event) (e : Event) → has_happened e (answer_to c es e) ≡ false → Alike c a es → Alike c a (es ++ e ∷ [])
alike-nothing c a es e h alike = record {
  viewers = λ v. alike.viewers v ∙ viewers-stay c v es e h (own-either c v e (owner_of e) refl);
  picture = alike.picture ∙ picture-stays c es e (owner_of e) refl h;
  live = alike.live ∙ sym (live-append [] es e ∙ live-stays c es e h);
}

-- ---- whole lists

abbrev if_happened : Bool → Event → List Event → List Event
if_happened b e rest = if b then e ∷ rest else rest

alike-after : (c : Config) (kept before es : List Event) → Alike c kept before → Alike c (kept ++ accepted_after c before es) (before ++ es)
alike-after c kept before [] alike = subst (λ l. Alike c l (before ++ [])) (sym (append-nil kept)) (subst (λ l. Alike c kept l) (sym (append-nil before)) alike)
alike-after c kept before (e ∷ es) alike =
    go (has_happened e (answer_to c before e)) refl
    (λ more. alike-after c (kept ++ e ∷ []) (before ++ e ∷ []) es more)
    (λ same. alike-after c kept (before ++ e ∷ []) es same)
  where
    rest : List Event
    rest = accepted_after c (before ++ e ∷ []) es

    go : (b : Bool) → has_happened e (answer_to c before e) ≡ b
        → (Alike c (kept ++ e ∷ []) (before ++ e ∷ []) → Alike c ((kept ++ e ∷ []) ++ rest) ((before ++ e ∷ []) ++ es))
        → (Alike c kept (before ++ e ∷ []) → Alike c (kept ++ rest) ((before ++ e ∷ []) ++ es))
        → Alike c (kept ++ if_happened b e rest) (before ++ e ∷ es)
    go true h with_it without =
        subst (λ l. Alike c l (before ++ e ∷ es)) (append_assoc kept (e ∷ []) rest)
        (subst (λ l. Alike c ((kept ++ e ∷ []) ++ rest) l) (append_assoc before (e ∷ []) es)
        (with_it (alike-more c kept before e alike)))
    go false h with_it without =
        subst (λ l. Alike c (kept ++ rest) l) (append_assoc before (e ∷ []) es)
        (without (alike-nothing c kept before e h alike))

again-after : (c : Config) (kept before es : List Event) → Alike c kept before → accepted_after c kept (accepted_after c before es) ≡ accepted_after c before es
again-after c kept before [] alike = refl
again-after c kept before (e ∷ es) alike =
    go (has_happened e (answer_to c before e)) refl
    (λ more. again-after c (kept ++ e ∷ []) (before ++ e ∷ []) es more)
    (λ same. again-after c kept (before ++ e ∷ []) es same)
  where
    rest : List Event
    rest = accepted_after c (before ++ e ∷ []) es

    go : (b : Bool) → has_happened e (answer_to c before e) ≡ b
        → (Alike c (kept ++ e ∷ []) (before ++ e ∷ []) → accepted_after c (kept ++ e ∷ []) rest ≡ rest)
        → (Alike c kept (before ++ e ∷ []) → accepted_after c kept rest ≡ rest)
        → accepted_after c kept (if_happened b e rest) ≡ if_happened b e rest
    go true h with_it without =
        ap (λ t. if_happened t e (accepted_after c (kept ++ e ∷ []) rest)) (ap (has_happened e) (same_answer c kept before e alike) ∙ h)
        ∙ ap (λ l. e ∷ l) (with_it (alike-more c kept before e alike))
    go false h with_it without = without (alike-nothing c kept before e h alike)

alike-self : (c : Config) (es : List Event) → Alike c es es
alike-self c es = record { viewers = λ v. refl; picture = refl; live = refl }

entries-alike : (c : Config) (a b : List Event) → ((v : ℕ) → one_of c v a ≡ one_of c v b) → (ns : List ℕ)
    → filter_map (λ v. entry_of v (viewer_of c v a)) ns ≡ filter_map (λ v. entry_of v (viewer_of c v b)) ns
entries-alike c a b same [] = refl
entries-alike c a b same (n ∷ ns) =
    ap (λ (s : One). cons_option (entry_of n s.viewer) (filter_map (λ v. entry_of v (viewer_of c v a)) ns)) (same n)
    ∙ ap (cons_option (entry_of n (viewer_of c n b))) (entries-alike c a b same ns)

scene-alike : (c : Config) (a b : List Event) → Alike c a b → scene_after c a ≡ scene_after c b
scene-alike c a b alike =
    let s : Frame → List (ℕ × Viewer Rest) → SceneState = λ p vs. record { config = c; picture = p; viewers = vs } in
    ap (λ (o : One). s o.picture (scene_after c a).viewers) alike.picture
    ∙ ap (s (picture_of c b)) (ap (filter_map (λ v. entry_of v (viewer_of c v a))) alike.live ∙ entries-alike c a b alike.viewers (live_from [] b))

pub accepted_is_enough-holds : accepted_is_enough
accepted_is_enough-holds c es = scene-alike c (accepted c es) es (alike-after c [] [] es (alike-self c []))

pub accepted_happens_again-holds : accepted_happens_again
accepted_happens_again-holds c es = again-after c [] [] es (alike-self c [])
