-- Calls that draw.
use Rattle.std.proofs.Common.{◌≡◌, ◌≢◌, ℕ, ℤ, Bool, true, true≢false, List, [], ◌∷◌, ◌++◌, append-nil, Option, Some, None, Result, Ok, Err, refl, sym, ap, ◌∙◌, inl, inr, subst}
use Rattle.std.proofs.lemmas.Bool.{and_from, or_parts, or_from}
use Rattle.std.specs.Prelude.{OnOk, OnErr, MatchResult, option_map, not}
use Rattle.std.specs.List.{list_any}
use Rattle.region.specs.declared.Rect.{Rect}
use Rattle.region.specs.RegionView.{in_range}
use Rattle.screen.specs.declared.Input.{Input}
use Rattle.screen.specs.declared.Config.{Config}
use Rattle.screen.specs.declared.Event.{Event}
use Rattle.screen.specs.declared.ScreenError.{ScreenError}
use Rattle.screen.specs.declared.Drawing.{Drawing}
use Rattle.screen.specs.declared.Drawing.TheVariants.{Write, Paint, MarkRect, MarkRegion, ScheduleCopyRect, ScheduleCopyRegion, DoCopyRect, DoCopyRegion, Bell, CutText, NewFramebuffer}
use Rattle.screen.specs.Alone.{owner_of}
use Rattle.screen.specs.Answers.{is_drawing}
use Rattle.screen.specs.Calls.{event_of}
use Rattle.screen.specs.Refusals.{Refuses}
use Rattle.screen.specs.State.{State, state, refusal}
use Rattle.connections.specs.Drawing.{Surface, IsNotedAfter, IsDrawnFrom}
use Rattle.connections.specs.Serving.{Serving, Serves, drawn_is_served}
use Rattle.connections.specs.Recorded.{RecordsMore}
use Rattle.connections.specs.RecordedLemmas.{records-still}
use Rattle.c_screen.specs.Codes.{Answers, IsRefusal, code_of, done, shut}
use Rattle.c_screen.specs.Desk.{IsListOf, due_by, far_or_none}
use Rattle.c_server.specs.declared.visits.Visit.{Visit}
use Rattle.c_server.specs.Desk.{Standing, StandsFor, desk_sockets, region_due}
use Rattle.c_server.specs.Calls.{Draws, DrawsRegion}

-- a drawing call is nobody's
pub drawing_own : (d : Drawing) → is_drawing (owner_of (event_of d)) ≡ true
drawing_own (Write rect colours) = refl
drawing_own (Paint rect colours) = refl
drawing_own (MarkRect rect) = refl
drawing_own (MarkRegion region) = refl
drawing_own (ScheduleCopyRect rect dx dy) = refl
drawing_own (ScheduleCopyRegion region dx dy) = refl
drawing_own (DoCopyRect rect dx dy) = refl
drawing_own (DoCopyRegion region dx dy) = refl
drawing_own Bell = refl
drawing_own (CutText text) = refl
drawing_own (NewFramebuffer width height) = refl

-- what is known of a call by its code
abbrev IsCodeOf : Result (Unit {0}) ScreenError → ℤ → Type 0
IsCodeOf result code = MatchResult result (λ _. code ≡ done) (λ _. code ≢ done)

happened : {P : Type 0} (result : Result (Unit {0}) ScreenError) (code : ℤ) → IsCodeOf result code → code ≡ done → OnOk result P → P
happened (Ok x) code is is_done p = p
happened (Err x) code is is_done p = absurd (is is_done)

was_refused : {P : Type 0} (result : Result (Unit {0}) ScreenError) (code : ℤ) → IsCodeOf result code → code ≢ done → OnErr result P → P
was_refused (Ok x) code is not_done p = absurd (not_done is)
was_refused (Err x) code is not_done p = p

-- one call that was noted: it happened, or was refused
call_drawn : (c : Config) (list : List Event) (e : Event) (a b : Surface) → IsNotedAfter e a b → is_drawing (owner_of e) ≡ true → b.screen ≡ state c (list ++ e ∷ []) → RecordsMore c list (e ∷ []) a.scribed b.scribed → IsDrawnFrom c list a b
call_drawn c list e a b noted own screen recorded = record {
  calls = e ∷ [];
  drawings = and_from _ _ own refl;
  screen = screen;
  recorded = recorded;
  none = λ no. absurd (true≢false (sym noted.drawn ∙ no));
  quiet = λ fine. let parts = or_parts _ _ (sym noted.noticed ∙ fine) in (parts.1, or_from _ _ parts.0 refl);
}

call_undrawn : (c : Config) (list : List Event) (e : Event) (a b : Surface) → IsNotedAfter e a b → b.screen ≡ state c list → b.scribed ≡ a.scribed → IsDrawnFrom c list a b
call_undrawn c list e a b noted screen still = record {
  calls = [];
  drawings = refl;
  screen = screen ∙ ap (state c) (sym (append-nil list));
  recorded = records-still c list a.scribed b.scribed still;
  none = λ no. absurd (true≢false (sym noted.drawn ∙ no));
  quiet = λ fine. ((or_parts _ _ (sym noted.noticed ∙ fine)).1, refl);
}

pub draws : drawn_is_served → (desk : Standing) (before : Option Serving) (s : Serving) (a t : Surface) (e : Event) (result : Result (Unit {0}) ScreenError) (number code : ℤ) (port granted : ℕ) (inputs : List (ℕ × Input)) (visits : List Visit) (text : List ℕ) (lost full texts : ℕ) (path : List ℕ) (on : Bool)
    → number ≡ code → record { served = before; port = port; viewers = granted; inputs = inputs; visits = visits; text = text; lost = lost; full_requests = full; text_room = texts; record_path = path; recorded = on } ≡ desk → before ≡ Some s → a ≡ s.surface → is_drawing (owner_of e) ≡ true → IsCodeOf result code
    → ((due : Option ScreenError) → Refuses result due → Answers (option_map code_of due) (λ n. n ≡ done) code)
    → ((c : Config) (list : List Event) → a.screen ≡ state c list → OnOk result (t.screen ≡ state c (list ++ e ∷ [])))
    → ((c : Config) (list : List Event) → a.screen ≡ state c list → OnOk result (RecordsMore c list (e ∷ []) a.scribed t.scribed)) → OnErr result (t.scribed ≡ a.scribed) → Refuses result (refusal a.screen e) → OnErr result (t.screen ≡ a.screen) → IsNotedAfter e a t
    → Draws e desk (record { served = Some (record s { surface = t }); port = port; viewers = granted; inputs = inputs; visits = visits; text = text; lost = lost; full_requests = full; text_room = texts; record_path = path; recorded = on }) number
unfolding call_drawn call_undrawn
draws law desk before s a t e result number code port granted inputs visits text lost full texts path on number_is view is same own code_is answers step recorded unrecorded refuses err noted =
    rw (sym view) (rw is (rw number_is (subst (λ (x : Surface). ((c : Config) (list : List Event) → x.screen ≡ state c list → OnOk result (t.screen ≡ state c (list ++ e ∷ []))) → ((c : Config) (list : List Event) → x.screen ≡ state c list → OnOk result (RecordsMore c list (e ∷ []) x.scribed t.scribed)) → OnErr result (t.scribed ≡ x.scribed) → Refuses result (refusal x.screen e) → OnErr result (t.screen ≡ x.screen) → IsNotedAfter e x t → Draws e (standing s) (standing later) code) (sym same) drawn step recorded unrecorded refuses err noted)))
  where
    standing : Serving → Standing
    standing s = record { served = Some s; port = port; viewers = granted; inputs = inputs; visits = visits; text = text; lost = lost; full_requests = full; text_room = texts; record_path = path; recorded = on }

    later : Serving
    later = record s { surface = t }

    drawn : ((c : Config) (list : List Event) → s.surface.screen ≡ state c list → OnOk result (t.screen ≡ state c (list ++ e ∷ [])))
        → ((c : Config) (list : List Event) → s.surface.screen ≡ state c list → OnOk result (RecordsMore c list (e ∷ []) s.surface.scribed t.scribed)) → OnErr result (t.scribed ≡ s.surface.scribed) → Refuses result (refusal s.surface.screen e) → OnErr result (t.screen ≡ s.surface.screen) → IsNotedAfter e s.surface t
        → Draws e (standing s) (standing later) code
    drawn step recorded unrecorded refuses err noted = record {
      answer = answers (refusal s.surface.screen e) refuses;
      step = λ c list stands is_done. law c (desk_sockets on c) list s t (call_drawn c list e s.surface t noted own (happened result code code_is is_done (step c list stands.screen)) (happened result code code_is is_done (recorded c list stands.screen))) stands;
      same = refl;
      refused = λ not_done.
          let as_before = was_refused result code code_is not_done err in
          record {
            screen = ap Some as_before;
            served = λ c list stands. subst (λ (l : List Event). Serves c (desk_sockets on c) l later) (append-nil list) (law c (desk_sockets on c) list s t (call_undrawn c list e s.surface t noted (as_before ∙ stands.screen) (was_refused result code code_is not_done unrecorded)) stands);
            same = refl;
          };
    }

-- a drawing call that can't be refused but for memory, for the places of rectangles
pub draws_places : (rects places : List Rect) (event : List Rect → Event) (e : Event) (old new : Standing) (n code : ℤ) → code ≡ n → e ≡ event places → ((s : State) → refusal s e ≡ None) → IsListOf rects places → region_due old rects ≡ None
    → Draws e old new n → DrawsRegion rects event old new code
draws_places rects places event e old new n code code_is same free list_of accepted d = rw code_is (record {
  answer = subst (λ o. Answers o (λ n. n ≡ done) n) (sym accepted) (answers old.served refl d.answer);
  step = λ is_done. (places, (list_of, λ c list stands. subst (λ (f : Event). StandsFor c (list ++ f ∷ []) new) same (d.step c list stands is_done)));
  same = d.same;
  refused = d.refused;
})
  where
    answers : (o : Option Serving) → old.served ≡ o → Answers (due_by (option_map (λ s. s.surface.screen) o) e) (λ n. n ≡ done) n → Answers None (λ n. n ≡ done) n
    answers None is h = let two : ◌≡◌ {A = Option ℤ} (Some shut) None = ap (λ o. elim o [ None ↦ Some shut | Some s ↦ far_or_none (list_any (λ r. not (in_range r)) rects) ]) (sym is) ∙ accepted in absurd cc
    answers (Some s) is h = subst (λ o. Answers (option_map code_of o) (λ n. n ≡ done) n) (free s.surface.screen) h

-- a refusal
pub undrawn_places : (rects : List Rect) (event : List Rect → Event) (desk : Standing) (n code : ℤ) → code ≡ n → IsRefusal (region_due desk rects) n → DrawsRegion rects event desk desk code
undrawn_places rects event desk n code code_is h = rw code_is (record {
  answer = never (region_due desk rects) h.answer;
  step = λ is_done. absurd (h.refuses is_done);
  same = refl;
  refused = λ not_done. record { screen = refl; served = λ c list stands. stands; same = refl };
})
  where
    never : (o : Option ℤ) → Answers o (λ n. ⊥) n → Answers o (λ n. n ≡ done) n
    never None (inl impossible) = absurd impossible
    never None (inr memory) = inr memory
    never (Some r) same = same
