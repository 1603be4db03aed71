-- What the calls of one viewer's events do and answer, by the seats.
use Rattle.std.proofs.Common.{◌≡◌, ℕ, ◌*◌, Bool, true, false, cond, List, [], ◌∷◌, ◌++◌, map, Option, Some, None, Result, Ok, Err, refl, sym, ◌∙◌, ap, subst}
use Rattle.std.specs.List.{list_any}
use Rattle.std.proofs.lemmas.List.{length-replicate}
use Rattle.std.proofs.lemmas.List.FromFn.{length-map-range_with_len}
use Rattle.std.specs.Prelude.{◌==◌, is_some, filter, not, ◌&&◌, ◌||◌, MatchOption, MatchResult}
use Rattle.messages.specs.Reading.{Rest, rest, new_items}
use Rattle.messages.specs.Server.{server_version, colour_map}
use Rattle.scene.specs.declared.Config.{Config}
use Rattle.scene.specs.declared.Event.{Event}
use Rattle.scene.specs.declared.Event.TheVariants.{Connect, Hear, Cut, Close}
use Rattle.scene.specs.declared.Answer.{Answer}
use Rattle.scene.specs.declared.ScreenError.{ScreenError}
use Rattle.scene.specs.declared.ScreenError.TheVariants as refusals
use Rattle.updates.specs.Waiting.{none_wait}
use Rattle.viewer.specs.Viewer.{KeptViewer, kept_viewer, Viewer, new_viewer}
use Rattle.updates.specs.declared.notices.Notice.{Notice}
use Rattle.updates.specs.declared.notices.Notice.TheVariants as notice
use Rattle.framebuffer.specs.Frame.{Frame}
use Rattle.copy_schedule.specs.declared.Mark.TheVariants.{Owed}
use Rattle.copy_schedule.specs.Marks.{Sent, pending, copies_of, pixels_of, after_sending}
use Rattle.messages.specs.Reading.{is_open_rest}
use Rattle.viewer.specs.Sending.{sending_kept, tells_size, with_size, with_update}
use Rattle.scene.specs.Alone.{own_step, at_size, heard_answer, gives, refuses, nothing_to_say, some_bytes, Tells}
use Rattle.viewer.specs.Hearing.{after_items}
use Rattle.scene.specs.Answers.{viewer_of, SceneState, scene_after, answer_to}
use Rattle.viewer_list.specs.Viewers.{IsOfSize}
use Rattle.scene.proofs.Everyones.{one_of, now_at}
use Rattle.scene.proofs.Owners.{replaced, answer-hit, state-has, state-close, answer-close, state-hear, answer-hear}
use Rattle.scene.proofs.Arrivals.{state-connect}
use Rattle.scene.proofs.Connected.{viewer_numbered, with_numbered, StandsFor, stands-for, stands-for_none, numbered-set}
use Rattle.scene.proofs.Sent.{state-cut, answer-cut}

-- how a screen is seen
abbrev pub seen : Config → Frame → List (ℕ × KeptViewer) → SceneState
seen c p pairs = record { config = c; picture = p; viewers = pairs }

-- a screen has the configuration of the list whose state it stands for
pub at_config : (P : Config → Type 0) (c config : Config) (p : Frame) (pairs : List (ℕ × KeptViewer)) (es : List Event) → seen c p pairs ≡ scene_after config es → (seen c p pairs ≡ scene_after c es → P c) → P config
at_config P c config p pairs es h at =
    let same : c ≡ config = ap (λ (s : SceneState). s.config) h in
    subst P same (at (subst (λ (k : Config). seen c p pairs ≡ scene_after k es) (sym same) h))

pub stands_there : (c : Config) (es : List Event) (p : Frame) (pairs : List (ℕ × KeptViewer)) (v : ℕ) (old : KeptViewer) → seen c p pairs ≡ scene_after c es → Some old ≡ viewer_numbered pairs v → StandsFor c es v old
stands_there c es p pairs v old h there = stands-for c es pairs v old (ap (λ (s : SceneState). s.viewers) h) (sym there)

pub none_there : (c : Config) (es : List Event) (p : Frame) (pairs : List (ℕ × KeptViewer)) (v : ℕ) → seen c p pairs ≡ scene_after c es → viewer_numbered pairs v ≡ None → viewer_of c v es ≡ None
none_there c es p pairs v h away = stands-for_none c es pairs v (ap (λ (s : SceneState). s.viewers) h) away

-- ---- who isn't there

pub answer-absent_hear : (c : Config) (es : List Event) (v : ℕ) (piece : List ℕ) → viewer_of c v es ≡ None → answer_to c es (Hear v piece) ≡ refuses refusals.NoViewer
answer-absent_hear c es v piece absent = answer-hit c v es (Hear v piece) refl ∙ ap (λ o. (own_step (now_at c es) (Hear v piece) (one_of c v es) o).1) absent

pub answer-absent_cut : (c : Config) (es : List Event) (v : ℕ) → viewer_of c v es ≡ None → answer_to c es (Cut v) ≡ refuses refusals.NoViewer
answer-absent_cut c es v absent = answer-hit c v es (Cut v) refl ∙ ap (λ o. (own_step (now_at c es) (Cut v) (one_of c v es) o).1) absent

-- ---- hearing

pub hear-step : (c : Config) (es : List Event) (p : Frame) (pairs now : List (ℕ × KeptViewer)) (v : ℕ) (old : KeptViewer) (piece : List ℕ) → seen c p pairs ≡ scene_after c es → Some old ≡ viewer_numbered pairs v
    → ((before : List ℕ) → old.heard ≡ rest before → now ≡ with_numbered pairs v (after_items p.width p.height (new_items before piece) (record old { heard = rest (before ++ piece) })))
    → seen c p now ≡ scene_after c (es ++ Hear v piece ∷ [])
hear-step c es p pairs now v old piece h there changes =
    let at = stands_there c es p pairs v old h there in
    let s : Frame → List (ℕ × Viewer Rest) → SceneState = λ q vs. record { config = c; picture = q; viewers = vs } in
    let ear : old.heard ≡ rest at.was.heard = sym (ap (λ (w : Viewer Rest). w.heard) at.as_kept) in
    let new : Frame → Viewer Rest → Viewer Rest = λ q w. after_items q.width q.height (new_items at.was.heard piece) (record w { heard = rest (at.was.heard ++ piece) }) in
    ap (s p) (changes at.was.heard ear ∙ numbered-set c es pairs v (new p old) (ap (λ (t : SceneState). t.viewers) h) ∙ ap (λ w. map (replaced v (new p w)) (scene_after c es).viewers) (sym at.as_kept))
    ∙ ap (λ q. s q (map (replaced v (new q (kept_viewer at.was))) (scene_after c es).viewers)) (ap (λ (t : SceneState). t.picture) h)
    ∙ sym (state-hear c es v piece at.was at.there)

pub hear-answer : (c : Config) (es : List Event) (p : Frame) (pairs : List (ℕ × KeptViewer)) (v : ℕ) (old : KeptViewer) (piece : List ℕ) → seen c p pairs ≡ scene_after c es → Some old ≡ viewer_numbered pairs v
    → (before : List ℕ) × (old.heard ≡ rest before) × (answer_to c es (Hear v piece) ≡ heard_answer (at_size p c) before piece)
hear-answer c es p pairs v old piece h there =
    let at = stands_there c es p pairs v old h there in (
      at.was.heard,
      sym (ap (λ (w : Viewer Rest). w.heard) at.as_kept),
      answer-hear c es v piece at.was at.there ∙ sym (ap (λ (t : SceneState). heard_answer (at_size t.picture c) at.was.heard piece) h),
    )

-- ---- cutting

pub cut-step : (c : Config) (es : List Event) (p : Frame) (pairs : List (ℕ × KeptViewer)) (v : ℕ) (old new : KeptViewer) → seen c p pairs ≡ scene_after c es → Some old ≡ viewer_numbered pairs v
    → new ≡ (sending_kept p.width p.height c.rects_per_update p.colours old).1
    → seen c p (with_numbered pairs v new) ≡ scene_after c (es ++ Cut v ∷ [])
cut-step c es p pairs v old new h there viewer =
    let at = stands_there c es p pairs v old h there in
    let s : Frame → List (ℕ × Viewer Rest) → SceneState = λ q vs. record { config = c; picture = q; viewers = vs } in
    let sent : Frame → Viewer Rest → Viewer Rest = λ q w. (sending_kept q.width q.height c.rects_per_update q.colours w).1 in
    ap (s p) (numbered-set c es pairs v new (ap (λ (t : SceneState). t.viewers) h) ∙ ap (λ w. map (replaced v w) (scene_after c es).viewers) (viewer ∙ sym (ap (sent p) at.as_kept)))
    ∙ ap (λ q. s q (map (replaced v (sent q (kept_viewer at.was))) (scene_after c es).viewers)) (ap (λ (t : SceneState). t.picture) h)
    ∙ sym (state-cut c es v at.was at.there)

pub cut-answer : (c : Config) (es : List Event) (p : Frame) (pairs : List (ℕ × KeptViewer)) (v : ℕ) (old : KeptViewer) → seen c p pairs ≡ scene_after c es → Some old ≡ viewer_numbered pairs v
    → answer_to c es (Cut v) ≡ gives (sending_kept p.width p.height c.rects_per_update p.colours old).0
cut-answer c es p pairs v old h there =
    let at = stands_there c es p pairs v old h there in
    answer-cut c es v at.was at.there
    ∙ ap (λ (q : Frame). gives (sending_kept q.width q.height c.rects_per_update q.colours (kept_viewer at.was)).0) (sym (ap (λ (t : SceneState). t.picture) h))
    ∙ ap (λ w. gives (sending_kept p.width p.height c.rects_per_update p.colours w).0) at.as_kept

-- a cut leaves the size of the viewer's marks
pub cut-size : (w h limit : ℕ) (picture : List ℕ) (v : KeptViewer) → IsOfSize w h v → IsOfSize w h (sending_kept w h limit picture v).1
cut-size w h limit picture v was = go (is_open_rest v.heard) (tells_size w h v) (pending v.marks)
  where
    sent : Sent
    sent = record { copies = copies_of limit v.marks; offset = v.marks.offset; pixels = pixels_of limit v.marks; after = after_sending (copies_of limit v.marks) (pixels_of limit v.marks) v.marks }

    go : (a tells b : Bool) → IsOfSize w h (cond a (cond tells (with_size w h v) (with_update w h picture v (cond b (Some sent) None))) ([], v)).1
    go false tells b = was
    go true true b = record { width = refl; height = refl; whole = length-replicate (w * h) Owed; heard = was.heard }
    go true false true = record { width = was.width; height = was.height; whole = length-map-range_with_len _ 0 (v.marks.width * v.marks.height); heard = was.heard }
    go true false false = record { width = was.width; height = was.height; whole = was.whole; heard = was.heard }

-- ---- connecting

pub connect-step : (c : Config) (es : List Event) (p : Frame) (pairs new : List (ℕ × KeptViewer)) (v : ℕ) → seen c p pairs ≡ scene_after c es → viewer_numbered pairs v ≡ None
    → new ≡ pairs ++ (v, kept_viewer (new_viewer p.width p.height)) ∷ [] → seen c p new ≡ scene_after c (es ++ Connect v ∷ [])
connect-step c es p pairs new v h away added =
    let s : Frame → List (ℕ × Viewer Rest) → SceneState = λ q vs. record { config = c; picture = q; viewers = vs } in
    ap (s p) added
    ∙ ap (λ (t : SceneState). record { config = c; picture = t.picture; viewers = t.viewers ++ (v, kept_viewer (new_viewer t.picture.width t.picture.height)) ∷ [] }) h
    ∙ sym (state-connect c es v (none_there c es p pairs v h away))

pub connect-answer : (c : Config) (es : List Event) (p : Frame) (pairs : List (ℕ × KeptViewer)) (v : ℕ) → seen c p pairs ≡ scene_after c es → viewer_numbered pairs v ≡ None → answer_to c es (Connect v) ≡ gives server_version
connect-answer c es p pairs v h away = answer-hit c v es (Connect v) refl ∙ ap (λ o. (own_step (now_at c es) (Connect v) (one_of c v es) o).1) (none_there c es p pairs v h away)

pub in_use-answer : (c : Config) (es : List Event) (p : Frame) (pairs : List (ℕ × KeptViewer)) (v : ℕ) (old : KeptViewer) → seen c p pairs ≡ scene_after c es → Some old ≡ viewer_numbered pairs v → answer_to c es (Connect v) ≡ refuses refusals.NumberInUse
in_use-answer c es p pairs v old h there = answer-hit c v es (Connect v) refl ∙ ap (λ o. (own_step (now_at c es) (Connect v) (one_of c v es) o).1) (stands_there c es p pairs v old h there).there

-- ---- closing

pub filter-none : (ps : List (ℕ × Viewer Rest)) (v : ℕ) → list_any (λ p. p.0 == v) ps ≡ false → filter (λ p. not (p.0 == v)) ps ≡ ps
filter-none [] v h = refl
filter-none (p ∷ ps) v h = go (p.0 == v) h (λ k. filter-none ps v k)
  where
    go : (b : Bool) → (b || list_any (λ p. p.0 == v) ps) ≡ false → (list_any (λ p. p.0 == v) ps ≡ false → filter (λ p. not (p.0 == v)) ps ≡ ps) → cond (not b) (p ∷ filter (λ p. not (p.0 == v)) ps) (filter (λ p. not (p.0 == v)) ps) ≡ p ∷ ps
    go true k rest = absurd cc
    go false k rest = ap (λ l. p ∷ l) (rest k)

pub close-absent : (c : Config) (es : List Event) (p : Frame) (pairs : List (ℕ × KeptViewer)) (v : ℕ) → seen c p pairs ≡ scene_after c es → viewer_numbered pairs v ≡ None → scene_after c es ≡ scene_after c (es ++ Close v ∷ [])
close-absent c es p pairs v h away =
    ap (λ vs. record (scene_after c es) { viewers = vs }) (sym (filter-none (scene_after c es).viewers v (state-has c es v ∙ ap is_some (none_there c es p pairs v h away)))) ∙ sym (state-close c es v)

pub close-there : (c : Config) (es : List Event) (p : Frame) (pairs : List (ℕ × KeptViewer)) (v : ℕ) → seen c p pairs ≡ scene_after c es
    → seen c p (filter (λ pair. not (pair.0 == v)) pairs) ≡ scene_after c (es ++ Close v ∷ [])
close-there c es p pairs v h =
    ap (λ (s : SceneState). record s { viewers = filter (λ q. not (q.0 == v)) s.viewers }) h
    ∙ sym (state-close c es v)

-- a close is refused where the viewer isn't there
close-answer : (c : Config) (es : List Event) (v : ℕ) (o : Option (Viewer (List ℕ))) → viewer_of c v es ≡ o → cond (is_some o) nothing_to_say (refuses refusals.NoViewer) ≡ answer_to c es (Close v)
close-answer c es v o is = ap (λ b. cond b nothing_to_say (refuses refusals.NoViewer)) (sym (state-has c es v ∙ ap is_some is)) ∙ sym (answer-close c es v)

pub close-answer_absent : (c : Config) (es : List Event) (p : Frame) (pairs : List (ℕ × KeptViewer)) (v : ℕ) → seen c p pairs ≡ scene_after c es → viewer_numbered pairs v ≡ None → refuses refusals.NoViewer ≡ answer_to c es (Close v)
close-answer_absent c es p pairs v h away = close-answer c es v None (none_there c es p pairs v h away)

pub close-answer_there : (c : Config) (es : List Event) (p : Frame) (pairs : List (ℕ × KeptViewer)) (v : ℕ) (old : KeptViewer) → seen c p pairs ≡ scene_after c es → Some old ≡ viewer_numbered pairs v → nothing_to_say ≡ answer_to c es (Close v)
close-answer_there c es p pairs v old h there = let at = stands_there c es p pairs v old h there in close-answer c es v (Some at.was) at.there

-- ---- whether there is something to send

pub some-sent : (w h limit : ℕ) (picture : List ℕ) (v : Viewer Rest)
    → some_bytes (sending_kept w h limit picture v).0 ≡ (is_open_rest v.heard && (v.map_owed || (not (none_wait v.notices) || (tells_size w h v || pending v.marks))))
unfolding colour_map
some-sent w h limit picture v = go (is_open_rest v.heard) (tells_size w h v) (pending v.marks) v.map_owed v.notices
  where
    sent : Sent
    sent = record { copies = copies_of limit v.marks; offset = v.marks.offset; pixels = pixels_of limit v.marks; after = after_sending (copies_of limit v.marks) (pixels_of limit v.marks) v.marks }

    with : Bool → List Notice → Viewer Rest
    with owed ns = record v { map_owed = owed; notices = ns }

    go : (a tells b owed : Bool) (ns : List Notice)
        → some_bytes (cond a (cond tells (with_size w h (with owed ns)) (with_update w h picture (with owed ns) (cond b (Some sent) None))) ([], with owed ns)).0 ≡ (a && (owed || (not (none_wait ns) || (tells || b))))
    go false tells b owed ns = refl
    go true true b true ns = refl
    go true false true true ns = refl
    go true false false true ns = refl
    go true true b false [] = refl
    go true false true false [] = refl
    go true false false false [] = refl
    go true true b false (notice.Bell ∷ ns) = refl
    go true true b false (notice.CutText text ∷ ns) = refl
    go true false true false (notice.Bell ∷ ns) = refl
    go true false true false (notice.CutText text ∷ ns) = refl
    go true false false false (notice.Bell ∷ ns) = refl
    go true false false false (notice.CutText text ∷ ns) = refl

-- ---- what a call tells

pub tells-refused : {X : Type 0} (view : X → Answer) (r : Result X ScreenError) (a : Answer) (e : ScreenError) → r ≡ Err e → a ≡ refuses e → Tells view r a
tells-refused view r a e is answer = rw (is, answer) refl

pub tells-memory : {X : Type 0} (view : X → Answer) (r : Result X ScreenError) (a : Answer) (e : ScreenError) → r ≡ Err e → e ≡ refusals.OutOfMemory → a.refused ≡ None → Tells view r a
tells-memory view r a e is memory accepted = rw (is, accepted) memory

pub tells-ok : {X : Type 0} (view : X → Answer) (r : Result X ScreenError) (a : Answer) (x : X) → r ≡ Ok x → a.refused ≡ None → view x ≡ a → Tells view r a
tells-ok view r a x is accepted answer = rw is (go a.refused accepted)
  where
    go : (o : Option ScreenError) → o ≡ None → MatchOption o (view x ≡ a) (λ e. Ok x ≡ Err e)
    go None e = answer
    go (Some e) k = absurd cc

pub tells-answer : {X : Type 0} (view : X → Answer) (r : Result X ScreenError) (m : Result Answer ScreenError) (a : Answer) → MatchResult r (λ x. m ≡ Ok (view x)) (λ e. m ≡ Err e) → Tells view r a → Tells {X = Answer} (λ x. x) m a
tells-answer {X = X} view r m a = go r a.refused
  where
    go : (r : Result X ScreenError) (o : Option ScreenError) → MatchResult r (λ x. m ≡ Ok (view x)) (λ e. m ≡ Err e)
        → MatchOption o (MatchResult r (λ x. view x ≡ a) (λ e. e ≡ refusals.OutOfMemory)) (λ e. r ≡ Err e)
        → MatchOption o (MatchResult m (λ x. x ≡ a) (λ e. e ≡ refusals.OutOfMemory)) (λ e. m ≡ Err e)
    go (Ok x) None is told = rw is told
    go (Err e) None is told = rw is told
    go (Ok x) (Some e) is told = absurd cc
    go (Err k) (Some e) is told = rw is (ap (λ (r : Result X ScreenError). elim r [ Ok x ↦ Err k | Err q ↦ Err q ]) told)

-- the refusal that is due
pub tells-due : {X : Type 0} (view : X → Answer) (r : Result X ScreenError) (a : Answer) (e : ScreenError) → r ≡ Err e → a.refused ≡ Some e → Tells view r a
tells-due view r a e is due = rw (is, due) refl
