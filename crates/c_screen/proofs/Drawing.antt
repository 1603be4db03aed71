-- Calls that draw.
use Rattle.std.proofs.Common.{◌≡◌, ◌≢◌, ℕ, ℤ, List, [], ◌∷◌, ◌++◌, Option, Some, None, Result, Ok, Err, refl, sym, ap, ◌∙◌, inl, inr, subst}
use Rattle.std.proofs.lemmas.Option.{same_Some}
use Rattle.std.specs.Prelude.{OnOk, OnErr, MatchResult, IsOkUnless, option_map, not}
use Rattle.std.specs.List.{list_any}
use Rattle.region.specs.declared.Rect.{Rect}
use Rattle.region.specs.RegionView.{in_range}
use Rattle.screen.specs.declared.Input.{Input}
use Rattle.screen.specs.declared.Config.{Config}
use Rattle.screen.specs.declared.Event.{Event}
use Rattle.screen.specs.declared.ScreenError.{ScreenError}
use Rattle.screen.specs.declared.ScreenError.TheVariants as refusals
use Rattle.screen.specs.Refusals.{Refuses}
use Rattle.screen.specs.State.{State, state, refusal}
use Rattle.c_screen.specs.Codes.{Answers, IsRefusal, code_of, done, done_code, shut}
use Rattle.c_screen.specs.Desk.{Standing, StandsFor, IsListOf, due_by, far_or_none, region_due}
use Rattle.c_screen.specs.Calls.{Draws, DrawsRegion}

-- no refusal has the code of what is done
pub never_done : (e : ScreenError) → code_of e ≢ done
never_done refusals.BadSize = λ same. absurd (cc)
never_done refusals.BadName = λ same. absurd (cc)
never_done refusals.BadRectLimit = λ same. absurd (cc)
never_done refusals.BadRect = λ same. absurd (cc)
never_done refusals.BadPixelCount = λ same. absurd (cc)
never_done refusals.TextTooLong = λ same. absurd (cc)
never_done refusals.NoViewer = λ same. absurd (cc)
never_done refusals.NumberInUse = λ same. absurd (cc)
never_done refusals.OutOfMemory = λ same. absurd (cc)

abbrev refusal_in : {X : Type 0} → ScreenError → Result X ScreenError → ScreenError
refusal_in d (Ok x) = d
refusal_in d (Err e) = e

same_refusal : {X : Type 0} (d e : ScreenError) → Path (Result X ScreenError) (Err d) (Err e) → d ≡ e
same_refusal d e same = ap (refusal_in d) same

pub answer_ok : {X : Type 0} (x : X) (due : Option ScreenError) (IsGiven : ℤ → Type 0) (code : ℤ) → IsGiven code → Refuses (Ok x) due → Answers (option_map code_of due) IsGiven code
answer_ok x None IsGiven code given refuses = inl given
answer_ok x (Some e) IsGiven code given refuses = absurd (cc)

pub answer_err : {X : Type 0} (r : Result X ScreenError) (x : ScreenError) (due : Option ScreenError) (IsGiven : ℤ → Type 0) → r ≡ Err x → Refuses r due → Answers (option_map code_of due) IsGiven (code_of x)
answer_err (Ok y) x None IsGiven is refuses = absurd (cc)
answer_err (Err y) x None IsGiven is refuses = inr (ap code_of (sym (same_refusal y x is)) ∙ ap code_of refuses)
answer_err r x (Some e) IsGiven is refuses = ap code_of (same_refusal x e (sym is ∙ refuses))

pub draws : (desk : Standing) (before : Option State) (s t : State) (f e : Event) (result : Result (Unit {0}) ScreenError) (code : ℤ) (output : List (ℕ × List ℕ)) (inputs : List (ℕ × Input)) (text : List ℕ)
    → record { screen = before; output = output; inputs = inputs; text = text } ≡ desk → before ≡ Some s → f ≡ e → code ≡ done_code result
    → ((c : Config) (list : List Event) → s ≡ state c list → OnOk result (t ≡ state c (list ++ f ∷ []))) → Refuses result (refusal s f) → OnErr result (t ≡ s) → Draws e desk (record { screen = Some t; output = output; inputs = inputs; text = text }) code
draws desk before s t f e result code output inputs text view is same code_is step refuses err = rw (sym view) (rw is (rw code_is (rw (sym same) (go result step refuses err)))) where
  standing : State → Standing
  standing s = record { screen = Some s; output = output; inputs = inputs; text = text }

  go : (result : Result (Unit {0}) ScreenError) → ((c : Config) (list : List Event) → s ≡ state c list → OnOk result (t ≡ state c (list ++ f ∷ []))) → Refuses result (refusal s f) → OnErr result (t ≡ s) → Draws f (standing s) (standing t) (done_code result)
  go (Ok x) step refuses err = record {
    answer = answer_ok x (refusal s f) _ done refl refuses;
    step = λ c list stands is_done. ap Some (step c list (same_Some _ _ stands));
    same = refl;
    refused = λ not_done. absurd (not_done refl);
  }
  go (Err x) step refuses err = record {
    answer = answer_err (Err x) x (refusal s f) _ refl refuses;
    step = λ c list stands is_done. absurd (never_done x is_done);
    same = refl;
    refused = λ not_done. ap standing err;
  }

-- a drawing call that can't be refused but for memory, for the places of rectangles
pub draws_places : (rects places : List Rect) (event : List Rect → Event) (e : Event) (desk old new : Standing) (n code : ℤ) → old ≡ desk → code ≡ n → e ≡ event places → ((s : State) → refusal s e ≡ None) → IsListOf rects places → region_due old rects ≡ None
    → Draws e old new n → DrawsRegion rects event desk new code
draws_places rects places event e desk old new n code desk_is code_is same free list_of accepted d = rw (sym desk_is) (rw code_is (record {
  answer = subst (λ o. Answers o (λ n. n ≡ done) n) (sym accepted) (answers old.screen refl d.answer);
  step = λ is_done. (places, (list_of, λ c list stands. subst (λ (f : Event). StandsFor c (list ++ f ∷ []) new) same (d.step c list stands is_done)));
  same = d.same;
  refused = d.refused;
}))
  where
    answers : (o : Option State) → old.screen ≡ o → Answers (due_by o e) (λ n. n ≡ done) n → Answers None (λ n. n ≡ done) n
    answers None is h = let two : ◌≡◌ {A = Option ℤ} (Some shut) None = ap (λ o. elim o [ None ↦ Some shut | Some s ↦ far_or_none (list_any (λ r. not (in_range r)) rects) ]) (sym is) ∙ accepted in absurd cc
    answers (Some s) is h = subst (λ o. Answers (option_map code_of o) (λ n. n ≡ done) n) (free s) h

-- a refusal
pub undrawn_places : (rects : List Rect) (event : List Rect → Event) (desk old new : Standing) (n code : ℤ) → old ≡ desk → new ≡ desk → code ≡ n → IsRefusal (region_due old rects) n → DrawsRegion rects event desk new code
undrawn_places rects event desk old new n code desk_is new_is code_is h = rw (sym desk_is) (rw (new_is ∙ sym desk_is) (rw code_is (record {
  answer = never (region_due old rects) h.answer;
  step = λ is_done. absurd (h.refuses is_done);
  same = refl;
  refused = λ not_done. refl;
})))
  where
    never : (o : Option ℤ) → Answers o (λ n. ⊥) n → Answers o (λ n. n ≡ done) n
    never None (inl impossible) = absurd impossible
    never None (inr memory) = inr memory
    never (Some r) same = same

-- the code of what came of a call
pub answered : (r : Result (Unit {0}) ScreenError) (code : ℤ) → code ≡ done_code r → (due : Option ScreenError) → Refuses r due → Answers (option_map code_of due) (λ n. n ≡ done) code
answered (Ok x) code is due refuses = rw is (answer_ok {X = Unit {0}} x due (λ n. n ≡ done) done refl refuses)
answered (Err e) code is due refuses = rw is (answer_err {X = Unit {0}} (Err e) e due (λ n. n ≡ done) refl refuses)

pub told_apart : (r : Result (Unit {0}) ScreenError) (code : ℤ) → code ≡ done_code r → MatchResult r (λ x. code ≡ done) (λ e. code ≢ done)
told_apart (Ok x) code is = is
told_apart (Err e) code is = λ same. never_done e (sym is ∙ same)

-- what is refused is refused
pub refuses-so : {X : Type 0} (result : Result X ScreenError) (due : Option ScreenError) (e : ScreenError) → due ≡ Some e → result ≡ Err e → Refuses result due
refuses-so result due e is so = rw is so

-- for memory alone where nothing else is due
pub refuses-memory : {X : Type 0} (result : Result X ScreenError) (due : Option ScreenError) → due ≡ None → IsOkUnless result refusals.OutOfMemory → Refuses result due
refuses-memory result due is so = rw is so
