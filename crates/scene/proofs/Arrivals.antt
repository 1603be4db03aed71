-- The viewers that are there have numbers of their own; who is refused changes nothing; who connects comes last.
use Rattle.std.proofs.Common.{◌≡◌, ℕ, Bool, true, false, cond, not, ◌||◌, List, [], ◌∷◌, ◌++◌, map, Option, Some, None, refl, ◌∙◌, ap, arith}
use Rattle.std.specs.Prelude.{filter, is_some, ◌==◌}
use Rattle.std.specs.List.{filter_map, cons_option, list_any}
use Rattle.std.proofs.lemmas.Bool.Decides.{nat_tests, Decides-eqb}
use Rattle.std.proofs.lemmas.List.Elements.{filter_map-append}
use Rattle.messages.specs.Reading.{Rest}
use Rattle.scene.specs.declared.Config.{Config}
use Rattle.scene.specs.declared.Event.{Event}
use Rattle.scene.specs.declared.Event.TheVariants.{Write, Paint, Mark, ScheduleCopy, DoCopy, Bell, CutText, Resize, Connect, Hear, Cut, Close}
use Rattle.framebuffer.specs.Frame.{Frame}
use Rattle.viewer.specs.Viewer.{Viewer, new_viewer, kept_viewer}
use Rattle.scene.specs.Alone.{own_step, owner_of}
use Rattle.scene.specs.Answers.{viewer_of, picture_of, live_from, after_arrival, entry_of, SceneState, scene_after}
use Rattle.scene.proofs.Steps.{live-append}
use Rattle.scene.proofs.Everyones.{one_of, now_at}
use Rattle.scene.proofs.Owners.{viewer-hit, viewer-miss, picture-own, there-is}

abbrev has : ℕ → List ℕ → Bool
has v ns = list_any (λ n. n == v) ns

-- no number twice
abbrev pub Distinct : List ℕ → Type 0
Distinct [] = Unit {0}
Distinct (n ∷ ns) = (has n ns ≡ false) × Distinct ns

pub or_parts : (a b : Bool) → (a || b) ≡ false → (a ≡ false) × (b ≡ false)
or_parts true b h = absurd cc
or_parts false b h = (refl, h)

has-filter : (p : ℕ → Bool) (v : ℕ) (ns : List ℕ) → has v ns ≡ false → has v (filter p ns) ≡ false
has-filter p v [] h = refl
has-filter p v (n ∷ ns) h =
    let parts = or_parts (n == v) (has v ns) h in
    elim (p n) as (λ b. has v (cond b (n ∷ filter p ns) (filter p ns)) ≡ false) [
      | true ↦ ap (λ b. b || has v (filter p ns)) parts.0 ∙ has-filter p v ns parts.1
      | false ↦ has-filter p v ns parts.1
    ]

distinct-filter : (p : ℕ → Bool) (ns : List ℕ) → Distinct ns → Distinct (filter p ns)
distinct-filter p [] h = tt
distinct-filter p (n ∷ ns) h = elim (p n) as (λ b. Distinct (cond b (n ∷ filter p ns) (filter p ns))) [
  | true ↦ (has-filter p n ns h.0, distinct-filter p ns h.1)
  | false ↦ distinct-filter p ns h.1
]

has-last : (n v : ℕ) (ns : List ℕ) → has n ns ≡ false → (v == n) ≡ false → has n (ns ++ v ∷ []) ≡ false
has-last n v [] h other = ap (λ b. b || false) other
has-last n v (m ∷ ns) h other =
    let parts = or_parts (m == n) (has n ns) h in
    ap (λ b. b || has n (ns ++ v ∷ [])) parts.0 ∙ has-last n v ns parts.1 other

pub swap-eq : (u v : ℕ) → (u == v) ≡ false → (v == u) ≡ false
swap-eq u v h = grind (arith, nat_tests)

distinct-last : (v : ℕ) (ns : List ℕ) → Distinct ns → has v ns ≡ false → Distinct (ns ++ v ∷ [])
distinct-last v [] h absent = (refl, tt)
distinct-last v (n ∷ ns) h absent =
    let parts = or_parts (n == v) (has v ns) absent in (has-last n v ns h.0 (swap-eq n v parts.0), distinct-last v ns h.1 parts.1)

distinct-arrival : (e : Event) (there : List ℕ) → Distinct there → Distinct (after_arrival e there)
distinct-arrival (Connect v) there h = go (has v there) refl
  where
    go : (b : Bool) → has v there ≡ b → Distinct (cond b there (there ++ v ∷ []))
    go true e = h
    go false e = distinct-last v there h e
distinct-arrival (Close v) there h = distinct-filter (λ n. not (n == v)) there h
distinct-arrival (Hear v piece) there h = h
distinct-arrival (Cut v) there h = h
distinct-arrival (Paint r colours) there h = h
distinct-arrival (Write r colours) there h = h
distinct-arrival (Mark rects) there h = h
distinct-arrival (ScheduleCopy rects dx dy) there h = h
distinct-arrival (DoCopy rects dx dy) there h = h
distinct-arrival Bell there h = h
distinct-arrival (CutText text) there h = h
distinct-arrival (Resize w k) there h = h

distinct-live : (there : List ℕ) (es : List Event) → Distinct there → Distinct (live_from there es)
distinct-live there [] h = h
distinct-live there (e ∷ es) h = distinct-live (after_arrival e there) es (distinct-arrival e there h)

has-entries : (c : Config) (es : List Event) (v : ℕ) (ns : List ℕ) → has v ns ≡ false → has v (map (λ p. p.0) (filter_map (λ u. entry_of u (viewer_of c u es)) ns)) ≡ false
has-entries c es v [] h = refl
has-entries c es v (n ∷ ns) h =
    let parts = or_parts (n == v) (has v ns) h in
    elim (viewer_of c n es) as (λ o. has v (map (λ p. p.0) (cons_option (entry_of n o) (filter_map (λ u. entry_of u (viewer_of c u es)) ns))) ≡ false) [
      | None ↦ has-entries c es v ns parts.1
      | Some w ↦ ap (λ b. b || has v (map (λ p. p.0) (filter_map (λ u. entry_of u (viewer_of c u es)) ns))) parts.0 ∙ has-entries c es v ns parts.1
    ]

distinct-entries : (c : Config) (es : List Event) (ns : List ℕ) → Distinct ns → Distinct (map (λ p. p.0) (filter_map (λ u. entry_of u (viewer_of c u es)) ns))
distinct-entries c es [] h = tt
distinct-entries c es (n ∷ ns) h =
    elim (viewer_of c n es) as (λ o. Distinct (map (λ p. p.0) (cons_option (entry_of n o) (filter_map (λ u. entry_of u (viewer_of c u es)) ns)))) [
      | None ↦ distinct-entries c es ns h.1
      | Some w ↦ (has-entries c es n ns h.0, distinct-entries c es ns h.1)
    ]

-- each viewer of a screen has a number of its own
pub distinct-viewers : (c : Config) (es : List Event) → Distinct (map (λ p. p.0) (scene_after c es).viewers)
distinct-viewers c es = distinct-entries c es (live_from [] es) (distinct-live [] es tt)

-- ---- who is refused

same-entries : (c : Config) (es : List Event) (e : Event) (v : ℕ) → owner_of e ≡ Some v → viewer_of c v (es ++ e ∷ []) ≡ viewer_of c v es
    → (ns : List ℕ) → filter_map (λ u. entry_of u (viewer_of c u (es ++ e ∷ []))) ns ≡ filter_map (λ u. entry_of u (viewer_of c u es)) ns
same-entries c es e v h same [] = refl
same-entries c es e v h same (n ∷ ns) =
    ap (λ o. cons_option (entry_of n o) (filter_map (λ u. entry_of u (viewer_of c u (es ++ e ∷ []))) ns)) (go (n == v) refl)
    ∙ ap (cons_option (entry_of n (viewer_of c n es))) (same-entries c es e v h same ns)
  where
    go : (b : Bool) → (n == v) ≡ b → viewer_of c n (es ++ e ∷ []) ≡ viewer_of c n es
    go true is = let e' : n ≡ v = (Decides-eqb n v).0 is in rw e' same
    go false other = viewer-miss c n v es e h (swap-eq n v other)

-- an event that leaves its viewer, and who is there, leaves the screen
pub state-same : (c : Config) (es : List Event) (e : Event) (v : ℕ) → owner_of e ≡ Some v → viewer_of c v (es ++ e ∷ []) ≡ viewer_of c v es → after_arrival e (live_from [] es) ≡ live_from [] es
    → scene_after c (es ++ e ∷ []) ≡ scene_after c es
state-same c es e v h same stays =
    let s : Frame → List (ℕ × Viewer Rest) → SceneState = λ p vs. record { config = c; picture = p; viewers = vs } in
    ap (λ p. s p (scene_after c (es ++ e ∷ [])).viewers) (picture-own c v es e h)
    ∙ ap (s (picture_of c es)) (ap (filter_map (λ u. entry_of u (viewer_of c u (es ++ e ∷ [])))) (live-append [] es e ∙ stays) ∙ same-entries c es e v h same (live_from [] es))

-- ---- who connects

all-others : (c : Config) (es : List Event) (v : ℕ) (ns : List ℕ) → has v ns ≡ false
    → filter_map (λ u. entry_of u (viewer_of c u (es ++ Connect v ∷ []))) ns ≡ filter_map (λ u. entry_of u (viewer_of c u es)) ns
all-others c es v [] h = refl
all-others c es v (n ∷ ns) h =
    let parts = or_parts (n == v) (has v ns) h in
    ap (λ o. cons_option (entry_of n o) (filter_map (λ u. entry_of u (viewer_of c u (es ++ Connect v ∷ []))) ns)) (viewer-miss c n v es (Connect v) refl (swap-eq n v parts.0))
    ∙ ap (cons_option (entry_of n (viewer_of c n es))) (all-others c es v ns parts.1)

pub state-connect : (c : Config) (es : List Event) (v : ℕ) → viewer_of c v es ≡ None
    → scene_after c (es ++ Connect v ∷ []) ≡ record { config = c; picture = (scene_after c es).picture; viewers = (scene_after c es).viewers ++ (v, kept_viewer (new_viewer (picture_of c es).width (picture_of c es).height)) ∷ [] }
state-connect c es v absent =
    let s : Frame → List (ℕ × Viewer Rest) → SceneState = λ p vs. record { config = c; picture = p; viewers = vs } in
    let new : ℕ → Option (ℕ × Viewer Rest) = λ u. entry_of u (viewer_of c u (es ++ Connect v ∷ [])) in
    let away : has v (live_from [] es) ≡ false = there-is c v es ∙ ap is_some absent in
    let here : viewer_of c v (es ++ Connect v ∷ []) ≡ Some (new_viewer (picture_of c es).width (picture_of c es).height) = viewer-hit c v es (Connect v) refl ∙ ap (λ o. (own_step (now_at c es) (Connect v) (one_of c v es) o).0.viewer) absent in
    ap (λ p. s p (scene_after c (es ++ Connect v ∷ [])).viewers) (picture-own c v es (Connect v) refl)
    ∙ ap (s (picture_of c es)) (ap (filter_map new) (live-append [] es (Connect v) ∙ ap (λ b. cond b (live_from [] es) (live_from [] es ++ v ∷ [])) away)
    ∙ filter_map-append new (live_from [] es) (v ∷ [])
    ∙ ap (λ l. l ++ filter_map new (v ∷ [])) (all-others c es v (live_from [] es) away)
    ∙ ap (λ o. (scene_after c es).viewers ++ cons_option (entry_of v o) []) here)

-- a number in use changes nothing
pub state-in_use : (c : Config) (es : List Event) (v : ℕ) (w : Viewer (List ℕ)) → viewer_of c v es ≡ Some w → scene_after c (es ++ Connect v ∷ []) ≡ scene_after c es
state-in_use c es v w there =
    state-same c es (Connect v) v refl
    (viewer-hit c v es (Connect v) refl ∙ same (viewer_of c v es) refl there)
    (ap (λ b. cond b (live_from [] es) (live_from [] es ++ v ∷ [])) (there-is c v es ∙ ap is_some there))
  where
    same : (o : Option (Viewer (List ℕ))) → viewer_of c v es ≡ o → o ≡ Some w → (own_step (now_at c es) (Connect v) (one_of c v es) o).0.viewer ≡ viewer_of c v es
    same None e k = absurd cc
    same (Some x) e k = refl

-- what a viewer that isn't there says, or is to be sent, changes nothing
pub state-absent : (c : Config) (es : List Event) (e : Event) (v : ℕ) → owner_of e ≡ Some v → ((there : List ℕ) → after_arrival e there ≡ there)
    → (own_step (now_at c es) e (one_of c v es) None).0.viewer ≡ (one_of c v es).viewer → viewer_of c v es ≡ None → scene_after c (es ++ e ∷ []) ≡ scene_after c es
state-absent c es e v h stays same absent =
    state-same c es e v h (viewer-hit c v es e h ∙ ap (λ o. (own_step (now_at c es) e (one_of c v es) o).0.viewer) absent ∙ same) (stays (live_from [] es))
