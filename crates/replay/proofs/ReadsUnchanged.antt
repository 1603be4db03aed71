-- An event that did not happen leaves the screen of one viewer as it was, and gives it nothing.
use Rattle.std.proofs.Common.{◌≡◌, ℕ, Bool, true, false, true≢false, List, [], ◌∷◌, ◌++◌, Option, Some, None, refl, sym, ◌∙◌, ap}
use Rattle.std.specs.Prelude.{flat_map, is_none, if◌then◌else◌}
use Rattle.copy_schedule.specs.Marks.{Sent, cut_of}
use Rattle.messages.specs.Server.{colour_map}
use Rattle.updates.specs.declared.notices.Notice.{Notice}
use Rattle.updates.specs.declared.notices.Notice.TheVariants as notice
use Rattle.updates.specs.Bytes.{map_bytes, notice_bytes, size_bytes}
use Rattle.viewer.specs.Viewer.{Viewer, is_open_viewer}
use Rattle.viewer.specs.Sending.{update_bytes, tells_size, with_size, with_update}
use Rattle.scene.specs.declared.ScreenError.{ScreenError}
use Rattle.screen.specs.declared.Config.{Config}
use Rattle.screen.specs.declared.Event.{Event}
use Rattle.screen.specs.declared.Event.TheVariants.{Write, Paint, Mark, ScheduleCopy, DoCopy, Bell, CutText, Resize, Connect, Hear, Cut, Close}
use Rattle.scene.specs.Alone.{One, at_size, step, own_step, draw_step, drawing_refusal, some_bytes}
use Rattle.scene.specs.History.{has_happened}

no_front : (owed : Bool) (ns : List Notice) → some_bytes (map_bytes owed ++ flat_map notice_bytes ns) ≡ false → (owed ≡ false) × (ns ≡ [])
unfolding colour_map
no_front true ns h = absurd (true≢false h)
no_front false [] h = (refl, refl)
no_front false (notice.Bell ∷ ns) h = absurd (true≢false h)
no_front false (notice.CutText t ∷ ns) h = absurd (true≢false h)

some_update : (w h : ℕ) (picture : List ℕ) (v : Viewer (List ℕ)) (s : Sent) (owed : Bool) (ns : List Notice) → some_bytes ((map_bytes owed ++ flat_map notice_bytes ns) ++ update_bytes w h picture v s) ≡ true
unfolding colour_map
some_update w h picture v s true ns = refl
some_update w h picture v s false [] = refl
some_update w h picture v s false (notice.Bell ∷ ns) = refl
some_update w h picture v s false (notice.CutText t ∷ ns) = refl

some_size : (w h : ℕ) (owed : Bool) (ns : List Notice) → some_bytes ((map_bytes owed ++ flat_map notice_bytes ns) ++ size_bytes w h) ≡ true
unfolding colour_map
some_size w h true ns = refl
some_size w h false [] = refl
some_size w h false (notice.Bell ∷ ns) = refl
some_size w h false (notice.CutText t ∷ ns) = refl

-- a sending step, by whether the viewer is open, whether the size is told, and what is cut
abbrev sent : ℕ → ℕ → List ℕ → Viewer (List ℕ) → Bool → Bool → Option Sent → List ℕ × Viewer (List ℕ)
sent w h picture v b tells o = if b then (if tells then with_size w h v else with_update w h picture v o) else ([], v)

sent_nothing : (w h : ℕ) (picture : List ℕ) (v : Viewer (List ℕ)) (b tells : Bool) (o : Option Sent) → some_bytes (sent w h picture v b tells o).0 ≡ false → (sent w h picture v b tells o).1 ≡ v
sent_nothing w h picture v true true o none = absurd (true≢false (sym (some_size w h v.map_owed v.notices) ∙ none))
sent_nothing w h picture v true false None none =
    let nothing = no_front v.map_owed v.notices none in
    ap (λ (owed : Bool). record v { map_owed = owed; notices = [] }) (sym nothing.0) ∙ ap (λ (ns : List Notice). record v { notices = ns }) (sym nothing.1)
sent_nothing w h picture v true false (Some s) none = absurd (true≢false (sym (some_update w h picture v s v.map_owed v.notices) ∙ none))
sent_nothing w h picture v false tells o none = refl

no_bytes : (bytes : List ℕ) → some_bytes bytes ≡ false → bytes ≡ []
no_bytes [] h = refl
no_bytes (b ∷ bytes) h = absurd (true≢false h)

-- nothing has changed, and nothing is given
pub record IsNothing (s : One) (after : One) (bytes : List ℕ) : Type 0 where
  pub same : after ≡ s
  pub none : bytes ≡ []

drawn_nothing : (c : Config) (e : Event) (s : One) (o : Option ScreenError) → is_none (draw_step c e s o).1.refused ≡ false → IsNothing s (draw_step c e s o).0 (draw_step c e s o).1.bytes
drawn_nothing c e s None h = absurd (true≢false h)
drawn_nothing c e s (Some r) h = record { same = refl; none = refl }

own_nothing : (c : Config) (e : Event) (s : One) (o : Option (Viewer (List ℕ))) → s.viewer ≡ o → has_happened e (own_step c e s o).1 ≡ false → IsNothing s (own_step c e s o).0 (own_step c e s o).1.bytes
own_nothing c (Connect n) s None is h = absurd (true≢false h)
own_nothing c (Connect n) s (Some v) is h = record { same = refl; none = refl }
own_nothing c (Hear n piece) s None is h = record { same = refl; none = refl }
own_nothing c (Hear n piece) s (Some v) is h = absurd (true≢false h)
own_nothing c (Cut n) s None is h = record { same = refl; none = refl }
own_nothing c (Cut n) s (Some v) is h = record {
  same =
      ap (λ (u : Viewer (List ℕ)). record s { viewer = Some u }) (sent_nothing c.width c.height s.picture.colours v (is_open_viewer v) (tells_size c.width c.height v) (cut_of c.rects_per_update v.marks) h)
      ∙ ap (λ (u : Option (Viewer (List ℕ))). record s { viewer = u }) (sym is);
  none = no_bytes _ h;
}
own_nothing c (Close n) s None is h = record { same = refl; none = refl }
own_nothing c (Close n) s (Some v) is h = absurd (true≢false h)
own_nothing c (Write r l) s o is h = record { same = refl; none = refl }
own_nothing c (Paint r l) s o is h = record { same = refl; none = refl }
own_nothing c (Mark r) s o is h = record { same = refl; none = refl }
own_nothing c (ScheduleCopy r x y) s o is h = record { same = refl; none = refl }
own_nothing c (DoCopy r x y) s o is h = record { same = refl; none = refl }
own_nothing c Bell s o is h = record { same = refl; none = refl }
own_nothing c (CutText t) s o is h = record { same = refl; none = refl }
own_nothing c (Resize w k) s o is h = record { same = refl; none = refl }

pub step_nothing : (c : Config) (e : Event) (s : One) → has_happened e (step c e s).1 ≡ false → IsNothing s (step c e s).0 (step c e s).1.bytes
step_nothing c (Write r l) s h = drawn_nothing (at_size s.picture c) (Write r l) s (drawing_refusal (at_size s.picture c) (Write r l)) h
step_nothing c (Paint r l) s h = drawn_nothing (at_size s.picture c) (Paint r l) s (drawing_refusal (at_size s.picture c) (Paint r l)) h
step_nothing c (Mark r) s h = drawn_nothing (at_size s.picture c) (Mark r) s None h
step_nothing c (ScheduleCopy r x y) s h = drawn_nothing (at_size s.picture c) (ScheduleCopy r x y) s None h
step_nothing c (DoCopy r x y) s h = drawn_nothing (at_size s.picture c) (DoCopy r x y) s None h
step_nothing c Bell s h = drawn_nothing (at_size s.picture c) Bell s None h
step_nothing c (CutText t) s h = drawn_nothing (at_size s.picture c) (CutText t) s (drawing_refusal (at_size s.picture c) (CutText t)) h
step_nothing c (Resize w k) s h = drawn_nothing (at_size s.picture c) (Resize w k) s (drawing_refusal (at_size s.picture c) (Resize w k)) h
step_nothing c (Connect n) s h = own_nothing (at_size s.picture c) (Connect n) s s.viewer refl h
step_nothing c (Hear n p) s h = own_nothing (at_size s.picture c) (Hear n p) s s.viewer refl h
step_nothing c (Cut n) s h = own_nothing (at_size s.picture c) (Cut n) s s.viewer refl h
step_nothing c (Close n) s h = own_nothing (at_size s.picture c) (Close n) s s.viewer refl h
