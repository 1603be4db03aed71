-- What one viewer would be sent, over more events.
use Rattle.std.proofs.Common.{◌≡◌, ℕ, zero, suc, Bool, true, false, cond, List, [], ◌∷◌, ◌++◌, Option, Some, None, refl, sym, ap, ◌∙◌, append_assoc, append-nil, true≢false, map, get_or}
use Rattle.std.specs.Prelude.{ℤ, pos, nat_abs, ◌*◌, ◌+◌, ◌/◌, ◌%◌, flat_map, ◌==◌, ◌&&◌, ◌||◌, not, option_map}
use Rattle.std.specs.List.{list_any, range_with_len}
use Rattle.std.proofs.lemmas.Bool.{and_parts, or_parts}
use Rattle.std.proofs.lemmas.Bool.Decides.{Decides-eqb}
use Rattle.region.specs.Region.{on_screen}
use Rattle.region.specs.Places.{cut_destination}
use Rattle.screen.specs.Picture.{places_in}
use Rattle.copy_schedule.specs.Marks.{Marks, Sent, has_asked, asked_at, copied_by, resized, pending, cut_of, copies_of, pixels_of, after_sending}
use Rattle.copy_schedule.specs.LogLemmas.{unasked_is_not_pending}
use Rattle.screen.specs.Server.{colour_map}
use Rattle.updates.specs.declared.notices.Notice.{Notice}
use Rattle.updates.specs.declared.notices.Notice.TheVariants as notice
use Rattle.updates.specs.Waiting.{none_wait}
use Rattle.viewer.specs.Viewer.{Viewer, is_asking, is_open_viewer, kept_viewer, does_nothing, in_view}
use Rattle.updates.specs.Bytes.{map_bytes, notice_bytes, size_bytes}
use Rattle.viewer.specs.Sending.{front_bytes, update_bytes, is_size_owed, tells_size, with_size, with_update, sending_open, sending}
use Rattle.screen.specs.declared.Config.{Config}
use Rattle.screen.specs.declared.ScreenError.{ScreenError}
use Rattle.screen.specs.declared.Event.{Event}
use Rattle.screen.specs.declared.Event.TheVariants.{Write, Paint, Mark, ScheduleCopy, DoCopy, Bell, CutText, Resize, Connect, Hear, Cut, Close}
use Rattle.screen.specs.Alone.{One, at_size, step, own_step, draw_step, after, owner_of, shown_drawing, drawing_refusal, empty_screen, some_bytes}
use Rattle.screen.specs.Answers.{own, is_owner, viewer_of}
use Rattle.screen.specs.Refusals.{held_as_alone}
use Rattle.screen.specs.State.{state}
use Rattle.connections.specs.Drawing.{are_drawings, is_notice, has_notice, is_asking_on}
use Rattle.connections.specs.Attending.{asks, is_owed, next_bytes}
use Rattle.connections.specs.Turns.{are_of}
use Rattle.connections.proofs.Given.{own-more, own-less, mine, answer-own, drawing}

-- ---- the screen with one viewer

abbrev pub seen : Config → ℕ → List Event → One
seen c v es = after c (own v es) (empty_screen c)

after-more : (c : Config) (es : List Event) (e : Event) (s : One) → after c (es ++ e ∷ []) s ≡ (step c e (after c es s)).0
after-more c [] e s = refl
after-more c (a ∷ es) e s = after-more c es e (step c a s).0

pub seen-own : (c : Config) (v : ℕ) (es : List Event) (e : Event) → is_owner v (owner_of e) ≡ true → seen c v (es ++ e ∷ []) ≡ (step c e (seen c v es)).0
seen-own c v es e h = ap (λ l. after c l (empty_screen c)) (own-more v es e h) ∙ after-more c (own v es) e (empty_screen c)

pub seen-other : (c : Config) (v : ℕ) (es : List Event) (e : Event) → is_owner v (owner_of e) ≡ false → seen c v (es ++ e ∷ []) ≡ seen c v es
seen-other c v es e h = ap (λ l. after c l (empty_screen c)) (own-less v es e h)

pub next-seen : (c : Config) (v : ℕ) (es : List Event) → next_bytes c v es ≡ (step c (Cut v) (seen c v es)).1.bytes
next-seen c v es = ap (λ a. a.bytes) (answer-own c v es (Cut v) refl)

-- ---- places that are asked for

no-element : (bs : List Bool) (k : ℕ) → list_any (λ b. b) bs ≡ false → get_or bs k false ≡ false
no-element [] k none = refl
no-element (false ∷ bs) zero none = refl
no-element (false ∷ bs) (suc k) none = no-element bs k none
no-element (true ∷ bs) k none = absurd cc

none-at : (m : Marks) (x y : ℤ) → has_asked m ≡ false → asked_at m x y ≡ false
none-at m x y none = go (on_screen m.width m.height x y) (no-element m.asked (nat_abs y * m.width + nat_abs x) none)
  where
    go : (on : Bool) → get_or m.asked (nat_abs y * m.width + nat_abs x) false ≡ false → cond on (get_or m.asked (nat_abs y * m.width + nat_abs x) false) false ≡ false
    go true h = h
    go false h = refl

none-of : (f : ℕ → Bool) → ((i : ℕ) → f i ≡ false) → (ns : List ℕ) → list_any (λ b. b) (map f ns) ≡ false
none-of f none [] = refl
none-of f none (n ∷ ns) = ap (λ b. b || list_any (λ b. b) (map f ns)) (none n) ∙ none-of f none ns

unasked-resized : (w h : ℕ) (view : ℤ → ℤ → Bool) (m : Marks) → has_asked m ≡ false → has_asked (resized w h view m) ≡ false
unasked-resized w h view m none =
    none-of (λ i. asked_at m (pos (i % w)) (pos (i / w)) && view (pos (i % w)) (pos (i / w)))
    (λ i. ap (λ b. b && view (pos (i % w)) (pos (i / w))) (none-at m (pos (i % w)) (pos (i / w)) none)) (range_with_len 0 (w * h))

-- ---- drawing calls

copied-asked : (b uses : Bool) (set : ℤ → ℤ → Bool) (by : ℤ × ℤ) (m : Marks) → has_asked m ≡ false → has_asked (cond b m (copied_by set by uses m)) ≡ false
copied-asked true uses set by m h = h
copied-asked false true set by m h = h
copied-asked false false set by m h = h

asks-shown : (c : Config) (e : Event) (b : Bool) (w : Viewer (List ℕ)) → is_asking w ≡ false → is_asking (shown_drawing c e b w) ≡ false
asks-shown c (Write r l) b w h = h
asks-shown c (Paint r l) b w h = h
asks-shown c (Mark r) b w h = h
asks-shown c (ScheduleCopy r x y) b w h = copied-asked (does_nothing c.width c.height (places_in r) (x, y)) w.uses_copyrect (cut_destination c.width c.height (places_in r) (x, y)) (x, y) w.marks h
asks-shown c (DoCopy r x y) b w h = copied-asked (does_nothing c.width c.height (places_in r) (x, y)) w.uses_copyrect (cut_destination c.width c.height (places_in r) (x, y)) (x, y) w.marks h
asks-shown c Bell b w h = h
asks-shown c (CutText t) b w h = h
asks-shown c (Resize k l) b w h = unasked-resized k l (in_view k l w) w.marks h
asks-shown c (Connect n) b w h = h
asks-shown c (Hear n p) b w h = h
asks-shown c (Cut n) b w h = h
asks-shown c (Close n) b w h = h

owed-shown : (c : Config) (e : Event) (b : Bool) (w : Viewer (List ℕ)) → is_notice e ≡ false → is_owed (Some w) ≡ false → is_owed (Some (shown_drawing c e b w)) ≡ false
owed-shown c (Write r l) b w mute h = h
owed-shown c (Paint r l) b w mute h = h
owed-shown c (Mark r) b w mute h = h
owed-shown c (ScheduleCopy r x y) b w mute h = h
owed-shown c (DoCopy r x y) b w mute h = h
owed-shown c Bell b w mute h = absurd (true≢false mute)
owed-shown c (CutText t) b w mute h = absurd (true≢false mute)
owed-shown c (Resize k l) b w mute h = h
owed-shown c (Connect n) b w mute h = h
owed-shown c (Hear n p) b w mute h = h
owed-shown c (Cut n) b w mute h = h
owed-shown c (Close n) b w mute h = h

asks-drawn-by : (c : Config) (e : Event) (s : One) (r : Option ScreenError) → asks s.viewer ≡ false → asks (draw_step c e s r).0.viewer ≡ false
asks-drawn-by c e s (Some r) h = h
asks-drawn-by c e s None h = go s.viewer h
  where
    go : (o : Option (Viewer (List ℕ))) → asks o ≡ false → asks (option_map (λ w. shown_drawing c e (is_open_viewer w) w) o) ≡ false
    go None h = refl
    go (Some w) h = asks-shown c e (is_open_viewer w) w h

owed-drawn-by : (c : Config) (e : Event) (s : One) (r : Option ScreenError) → is_notice e ≡ false → is_owed s.viewer ≡ false → is_owed (draw_step c e s r).0.viewer ≡ false
owed-drawn-by c e s (Some r) mute h = h
owed-drawn-by c e s None mute h = go s.viewer h
  where
    go : (o : Option (Viewer (List ℕ))) → is_owed o ≡ false → is_owed (option_map (λ w. shown_drawing c e (is_open_viewer w) w) o) ≡ false
    go None h = refl
    go (Some w) h = owed-shown c e (is_open_viewer w) w mute h

asks-drawn : (c : Config) (v : ℕ) (es : List Event) (e : Event) → owner_of e ≡ None → asks (viewer_of c v es) ≡ false → asks (viewer_of c v (es ++ e ∷ [])) ≡ false
asks-drawn c v es e h none =
    let s = seen c v es in
    let d = asks-drawn-by (at_size s.picture c) e s (drawing_refusal (at_size s.picture c) e) none in
    let one : asks (step c e s).0.viewer ≡ false = rw h d in
    ap (λ (o : One). asks o.viewer) (seen-own c v es e (ap (is_owner v) h)) ∙ one

owed-drawn : (c : Config) (v : ℕ) (es : List Event) (e : Event) → owner_of e ≡ None → is_notice e ≡ false → is_owed (viewer_of c v es) ≡ false → is_owed (viewer_of c v (es ++ e ∷ [])) ≡ false
owed-drawn c v es e h mute none =
    let s = seen c v es in
    let d = owed-drawn-by (at_size s.picture c) e s (drawing_refusal (at_size s.picture c) e) mute none in
    let one : is_owed (step c e s).0.viewer ≡ false = rw h d in
    ap (λ (o : One). is_owed o.viewer) (seen-own c v es e (ap (is_owner v) h)) ∙ one

-- drawing opens no request
pub asks-drawings : (c : Config) (v : ℕ) (es more : List Event) → are_drawings more ≡ true → asks (viewer_of c v es) ≡ false → asks (viewer_of c v (es ++ more)) ≡ false
asks-drawings c v es [] h none = ap (λ l. asks (viewer_of c v l)) (append-nil es) ∙ none
asks-drawings c v es (e ∷ more) h none =
    let both = and_parts _ _ h in
    ap (λ l. asks (viewer_of c v l)) (sym (append_assoc es (e ∷ []) more))
    ∙ asks-drawings c v (es ++ e ∷ []) more both.1 (asks-drawn c v es e (drawing (owner_of e) both.0) none)

-- and what is no bell or text leaves nothing that waits without a request
pub owed-drawings : (c : Config) (v : ℕ) (es more : List Event) → are_drawings more ≡ true → has_notice more ≡ false → is_owed (viewer_of c v es) ≡ false → is_owed (viewer_of c v (es ++ more)) ≡ false
owed-drawings c v es [] h mute none = ap (λ l. is_owed (viewer_of c v l)) (append-nil es) ∙ none
owed-drawings c v es (e ∷ more) h mute none =
    let both = and_parts _ _ h in
    let quiet = or_parts _ _ mute in
    ap (λ l. is_owed (viewer_of c v l)) (sym (append_assoc es (e ∷ []) more))
    ∙ owed-drawings c v (es ++ e ∷ []) more both.1 quiet.1 (owed-drawn c v es e (drawing (owner_of e) both.0) quiet.0 none)

-- ---- others' events

-- another viewer's event, or a drawing call, opens no request
asks-one : (c : Config) (n v : ℕ) → (n ≡ v → ⊥) → (es : List Event) (e : Event) → is_owner n (owner_of e) ≡ true → asks (viewer_of c v es) ≡ false → asks (viewer_of c v (es ++ e ∷ [])) ≡ false
asks-one c n v apart es e h none = go (owner_of e) refl h
  where
    other : (m : ℕ) (b : Bool) → (m == v) ≡ b → owner_of e ≡ Some m → (m == n) ≡ true → asks (viewer_of c v (es ++ e ∷ [])) ≡ false
    other m true mv is mn = absurd (apart (sym ((Decides-eqb m n).0 mn) ∙ (Decides-eqb m v).0 mv))
    other m false mv is mn = ap (λ (o : One). asks o.viewer) (seen-other c v es e (ap (is_owner v) is ∙ mv)) ∙ none

    go : (o : Option ℕ) → owner_of e ≡ o → is_owner n o ≡ true → asks (viewer_of c v (es ++ e ∷ [])) ≡ false
    go None is h = asks-drawn c v es e is none
    go (Some m) is h = other m (m == v) refl is h

pub asks-others : (c : Config) (n v : ℕ) → (n ≡ v → ⊥) → (es more : List Event) → are_of n more ≡ true → asks (viewer_of c v es) ≡ false → asks (viewer_of c v (es ++ more)) ≡ false
asks-others c n v apart es [] h none = ap (λ l. asks (viewer_of c v l)) (append-nil es) ∙ none
asks-others c n v apart es (e ∷ more) h none =
    let both = and_parts _ _ h in
    ap (λ l. asks (viewer_of c v l)) (sym (append_assoc es (e ∷ []) more))
    ∙ asks-others c n v apart (es ++ e ∷ []) more both.1 (asks-one c n v apart es e both.0 none)

-- ---- a viewer that isn't there

absent-drawn-by : (c : Config) (e : Event) (s : One) (r : Option ScreenError) → s.viewer ≡ None → (draw_step c e s r).0.viewer ≡ None
absent-drawn-by c e s (Some r) h = h
absent-drawn-by c e s None h = ap (option_map (λ w. shown_drawing c e (is_open_viewer w) w)) h

absent-drawn : (c : Config) (v : ℕ) (es : List Event) (e : Event) → owner_of e ≡ None → viewer_of c v es ≡ None → viewer_of c v (es ++ e ∷ []) ≡ None
absent-drawn c v es e h none =
    let s = seen c v es in
    let d = absent-drawn-by (at_size s.picture c) e s (drawing_refusal (at_size s.picture c) e) none in
    let one : (step c e s).0.viewer ≡ None = rw h d in
    ap (λ (o : One). o.viewer) (seen-own c v es e (ap (is_owner v) h)) ∙ one

-- drawing brings none
pub absent-drawings : (c : Config) (v : ℕ) (es more : List Event) → are_drawings more ≡ true → viewer_of c v es ≡ None → viewer_of c v (es ++ more) ≡ None
absent-drawings c v es [] h none = ap (viewer_of c v) (append-nil es) ∙ none
absent-drawings c v es (e ∷ more) h none =
    let both = and_parts _ _ h in
    ap (viewer_of c v) (sym (append_assoc es (e ∷ []) more))
    ∙ absent-drawings c v (es ++ e ∷ []) more both.1 (absent-drawn c v es e (drawing (owner_of e) both.0) none)

absent-one : (c : Config) (n v : ℕ) → (n ≡ v → ⊥) → (es : List Event) (e : Event) → is_owner n (owner_of e) ≡ true → viewer_of c v es ≡ None → viewer_of c v (es ++ e ∷ []) ≡ None
absent-one c n v apart es e h none = go (owner_of e) refl h
  where
    other : (m : ℕ) (b : Bool) → (m == v) ≡ b → owner_of e ≡ Some m → (m == n) ≡ true → viewer_of c v (es ++ e ∷ []) ≡ None
    other m true mv is mn = absurd (apart (sym ((Decides-eqb m n).0 mn) ∙ (Decides-eqb m v).0 mv))
    other m false mv is mn = ap (λ (o : One). o.viewer) (seen-other c v es e (ap (is_owner v) is ∙ mv)) ∙ none

    go : (o : Option ℕ) → owner_of e ≡ o → is_owner n o ≡ true → viewer_of c v (es ++ e ∷ []) ≡ None
    go None is h = absent-drawn c v es e is none
    go (Some m) is h = other m (m == v) refl is h

-- nor do other viewers' events
pub absent-others : (c : Config) (n v : ℕ) → (n ≡ v → ⊥) → (es more : List Event) → are_of n more ≡ true → viewer_of c v es ≡ None → viewer_of c v (es ++ more) ≡ None
absent-others c n v apart es [] h none = ap (viewer_of c v) (append-nil es) ∙ none
absent-others c n v apart es (e ∷ more) h none =
    let both = and_parts _ _ h in
    ap (viewer_of c v) (sym (append_assoc es (e ∷ []) more))
    ∙ absent-others c n v apart (es ++ e ∷ []) more both.1 (absent-one c n v apart es e both.0 none)

-- ---- a cut

front-none : (owed : Bool) (ns : List Notice) → (owed || not (none_wait ns)) ≡ false → map_bytes owed ++ flat_map notice_bytes ns ≡ []
front-none true ns h = absurd (true≢false h)
front-none false [] h = refl
front-none false (n ∷ ns) h = absurd (true≢false h)

all_sent : (limit : ℕ) (m : Marks) → Sent
all_sent limit m = record { copies = copies_of limit m; offset = m.offset; pixels = pixels_of limit m; after = after_sending (copies_of limit m) (pixels_of limit m) m }

-- a viewer that doesn't ask is sent what needs no request
unasked-sending : (w h limit : ℕ) (picture : List ℕ) (v : Viewer (List ℕ)) → has_asked v.marks ≡ false → sending_open w h limit picture v ≡ (front_bytes v, record v { map_owed = false; notices = [] })
unasked-sending w h limit picture v none = go (tells_size w h v) (pending v.marks) (ap (λ b. b && is_size_owed w h v) none) (unasked_is_not_pending v.marks none)
  where
    go : (t b : Bool) → t ≡ false → b ≡ false
        → cond t (with_size w h v) (with_update w h picture v (cond b (Some (record { copies = copies_of limit v.marks; offset = v.marks.offset; pixels = pixels_of limit v.marks; after = after_sending (copies_of limit v.marks) (pixels_of limit v.marks) v.marks })) None))
        ≡ (front_bytes v, record v { map_owed = false; notices = [] })
    go true b t h = absurd (true≢false t)
    go false true t h = absurd (true≢false h)
    go false false t h = refl

asks-sent : (w h limit : ℕ) (picture : List ℕ) (v : Viewer (List ℕ)) → is_asking v ≡ false → is_asking (sending w h limit picture v).1 ≡ false
asks-sent w h limit picture v none = go (is_open_viewer v)
  where
    go : (b : Bool) → is_asking (cond b (sending_open w h limit picture v) ([], v)).1 ≡ false
    go true = ap (λ (p : List ℕ × Viewer (List ℕ)). is_asking p.1) (unasked-sending w h limit picture v none) ∙ none
    go false = none

quiet-sent : (w h limit : ℕ) (picture : List ℕ) (v : Viewer (List ℕ)) → is_asking v ≡ false → is_owed (Some v) ≡ false → (sending w h limit picture v).0 ≡ []
quiet-sent w h limit picture v none owed = go (is_open_viewer v) owed
  where
    go : (b : Bool) → (b && (v.map_owed || not (none_wait v.notices))) ≡ false → (cond b (sending_open w h limit picture v) ([], v)).0 ≡ []
    go true h = ap (λ (p : List ℕ × Viewer (List ℕ)). p.0) (unasked-sending _ _ _ picture v none) ∙ front-none v.map_owed v.notices h
    go false h = refl

asks-cut-by : (c : Config) (n : ℕ) (s : One) (o : Option (Viewer (List ℕ))) → s.viewer ≡ o → asks o ≡ false → asks (own_step c (Cut n) s o).0.viewer ≡ false
asks-cut-by c n s None is h = ap asks is
asks-cut-by c n s (Some w) is h = asks-sent c.width c.height c.rects_per_update s.picture.colours w h

-- a cut opens no request
pub asks-cut : (c : Config) (v : ℕ) (es : List Event) → asks (viewer_of c v es) ≡ false → asks (viewer_of c v (es ++ Cut v ∷ [])) ≡ false
asks-cut c v es none =
    let s = seen c v es in
    ap (λ (o : One). asks o.viewer) (seen-own c v es (Cut v) (mine v (Cut v) refl)) ∙ asks-cut-by (at_size s.picture c) v s s.viewer refl none

quiet-by : (c : Config) (n : ℕ) (s : One) (o : Option (Viewer (List ℕ))) → asks o ≡ false → is_owed o ≡ false → (own_step c (Cut n) s o).1.bytes ≡ []
quiet-by c n s None h owed = refl
quiet-by c n s (Some w) h owed = quiet-sent c.width c.height c.rects_per_update s.picture.colours w h owed

-- there is nothing to send where nothing is asked for and nothing waits that needs no request
pub quiet-next : (c : Config) (v : ℕ) (es : List Event) → asks (viewer_of c v es) ≡ false → is_owed (viewer_of c v es) ≡ false → next_bytes c v es ≡ []
quiet-next c v es none owed = let s = seen c v es in next-seen c v es ∙ quiet-by (at_size s.picture c) v s s.viewer none owed

no-front : (owed : Bool) (ns : List Notice) → map_bytes owed ++ flat_map notice_bytes ns ≡ [] → (owed ≡ false) × (ns ≡ [])
unfolding colour_map
no-front true ns h = absurd cc
no-front false [] h = (refl, refl)
no-front false (notice.Bell ∷ ns) h = absurd cc
no-front false (notice.CutText t ∷ ns) h = absurd cc

some-update : (w h : ℕ) (picture : List ℕ) (v : Viewer (List ℕ)) (s : Sent) (owed : Bool) (ns : List Notice) → some_bytes ((map_bytes owed ++ flat_map notice_bytes ns) ++ update_bytes w h picture v s) ≡ true
unfolding colour_map
some-update w h picture v s true ns = refl
some-update w h picture v s false [] = refl
some-update w h picture v s false (notice.Bell ∷ ns) = refl
some-update w h picture v s false (notice.CutText t ∷ ns) = refl

some-size : (w h : ℕ) (owed : Bool) (ns : List Notice) → some_bytes ((map_bytes owed ++ flat_map notice_bytes ns) ++ size_bytes w h) ≡ true
unfolding colour_map
some-size w h true ns = refl
some-size w h false [] = refl
some-size w h false (notice.Bell ∷ ns) = refl
some-size w h false (notice.CutText t ∷ ns) = refl

none-but : (l : List ℕ) → some_bytes l ≡ true → l ≡ [] → ⊥
none-but l some none = true≢false (sym some ∙ ap some_bytes none)

-- a step that sends nothing changes nothing, and nothing waits that needs no request
abbrev sent_by : ℕ → ℕ → List ℕ → Viewer (List ℕ) → Bool → Bool → Option Sent → List ℕ × Viewer (List ℕ)
sent_by w h picture v b tells o = cond b (cond tells (with_size w h v) (with_update w h picture v o)) ([], v)

sent-nothing : (w h : ℕ) (picture : List ℕ) (v : Viewer (List ℕ)) (b tells : Bool) (o : Option Sent) → (sent_by w h picture v b tells o).0 ≡ []
    → ((sent_by w h picture v b tells o).1 ≡ v) × ((b && (v.map_owed || not (none_wait v.notices))) ≡ false)
sent-nothing w h picture v true true o none = absurd (none-but _ (some-size w h v.map_owed v.notices) none)
sent-nothing w h picture v true false None none =
    let nothing = no-front v.map_owed v.notices none in (
      ap (λ (owed : Bool). record v { map_owed = owed; notices = [] }) (sym nothing.0) ∙ ap (λ (ns : List Notice). record v { notices = ns }) (sym nothing.1),
      ap (λ (owed : Bool). owed || not (none_wait v.notices)) nothing.0 ∙ ap (λ (ns : List Notice). not (none_wait ns)) nothing.1,
    )
sent-nothing w h picture v true false (Some s) none = absurd (none-but _ (some-update w h picture v s v.map_owed v.notices) none)
sent-nothing w h picture v false tells o none = (refl, refl)

owed-sent : (w h : ℕ) (picture : List ℕ) (v : Viewer (List ℕ)) (b tells : Bool) (o : Option Sent) → is_open_viewer v ≡ b → is_owed (Some (sent_by w h picture v b tells o).1) ≡ false
owed-sent w h picture v true true o is = ap (λ (x : Bool). x && false) is
owed-sent w h picture v true false None is = ap (λ (x : Bool). x && false) is
owed-sent w h picture v true false (Some s) is = ap (λ (x : Bool). x && false) is
owed-sent w h picture v false tells o is = ap (λ (x : Bool). x && (v.map_owed || not (none_wait v.notices))) is

owed-cut-by : (c : Config) (n : ℕ) (s : One) (o : Option (Viewer (List ℕ))) → s.viewer ≡ o → is_owed (own_step c (Cut n) s o).0.viewer ≡ false
owed-cut-by c n s None is = ap is_owed is
owed-cut-by c n s (Some v) is = owed-sent c.width c.height s.picture.colours v (is_open_viewer v) (tells_size c.width c.height v) (cut_of c.rects_per_update v.marks) refl

-- after a cut nothing waits that needs no request
pub owed-cut : (c : Config) (v : ℕ) (es : List Event) → is_owed (viewer_of c v (es ++ Cut v ∷ [])) ≡ false
owed-cut c v es =
    let s = seen c v es in
    ap (λ (o : One). is_owed o.viewer) (seen-own c v es (Cut v) (mine v (Cut v) refl)) ∙ owed-cut-by (at_size s.picture c) v s s.viewer refl

cut-nothing-by : (c : Config) (n : ℕ) (s : One) (o : Option (Viewer (List ℕ))) → s.viewer ≡ o → (own_step c (Cut n) s o).1.bytes ≡ [] → ((own_step c (Cut n) s o).0 ≡ s) × (is_owed o ≡ false)
cut-nothing-by c n s None is h = (refl, refl)
cut-nothing-by c n s (Some v) is h =
    let nothing = sent-nothing c.width c.height s.picture.colours v (is_open_viewer v) (tells_size c.width c.height v) (cut_of c.rects_per_update v.marks) h in
    (ap (λ (u : Viewer (List ℕ)). record s { viewer = Some u }) nothing.0 ∙ ap (λ (u : Option (Viewer (List ℕ))). record s { viewer = u }) (sym is), nothing.1)

-- after a cut that gave nothing there is nothing to send
pub cut-nothing : (c : Config) (v : ℕ) (es : List Event) → next_bytes c v es ≡ [] → (next_bytes c v (es ++ Cut v ∷ []) ≡ []) × (is_owed (viewer_of c v (es ++ Cut v ∷ [])) ≡ false)
cut-nothing c v es none =
    let s = seen c v es in
    let nothing = cut-nothing-by (at_size s.picture c) v s s.viewer refl (sym (next-seen c v es) ∙ none) in
    let same : seen c v (es ++ Cut v ∷ []) ≡ s = seen-own c v es (Cut v) (mine v (Cut v) refl) ∙ nothing.0 in (
      next-seen c v (es ++ Cut v ∷ []) ∙ ap (λ (o : One). (step c (Cut v) o).1.bytes) same ∙ sym (next-seen c v es) ∙ none,
      ap (λ (o : One). is_owed o.viewer) same ∙ nothing.1,
    )

-- ---- what a screen holds

asks-kept : (o : Option (Viewer (List ℕ))) → (elim (option_map kept_viewer o) [ None ↦ false | Some viewer ↦ is_asking viewer ]) ≡ asks o
asks-kept None = refl
asks-kept (Some w) = refl

pub asks-held : held_as_alone → (c : Config) (v : ℕ) (es : List Event) → is_asking_on (state c es) v ≡ asks (viewer_of c v es)
asks-held held c v es = ap (λ o. elim o [ None ↦ false | Some viewer ↦ is_asking viewer ]) (held c es v) ∙ asks-kept (viewer_of c v es)
