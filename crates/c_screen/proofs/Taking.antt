-- A program's own pixels.
use Rattle.std.proofs.Common.{◌≡◌, ◌⊎◌, ℕ, ℤ, pos, min, ◌^◌, List, Option, Some, None, Result, Ok, Err, sym, ap, ◌∙◌, inl, inr, refl, subst}
use Rattle.std.specs.Prelude.{MatchResult}
use Rattle.screen.specs.declared.Input.{Input}
use Rattle.screen.specs.declared.Config.{Config}
use Rattle.screen.specs.declared.Event.{Event}
use Rattle.screen.specs.declared.ScreenError.{ScreenError}
use Rattle.screen.specs.Alone.{config_refusal}
use Rattle.screen.specs.State.{State, state}
use Rattle.screen.specs.Takes.{Takes}
use Rattle.source_pixels.specs.Source.{Source}
use Rattle.c_screen.specs.Codes.{code_of}
use Rattle.c_screen.specs.Desk.{Standing}
use Rattle.c_screen.specs.Pixels.{source_due}
use Rattle.c_screen.specs.Calls.{TakesPixels, TakesIn}

abbrev IsCode : Result ℕ ScreenError → ℤ → Type 0
IsCode r code = MatchResult r (λ places. code ≡ pos (min places (2 ^ 62))) (λ e. code ≡ code_of e)

taken_in : (s : Source) (left top : ℕ) (a t : State) (r : Result ℕ ScreenError) (code : ℤ) → IsCode r code
    → ((config : Config) (list : List Event) → config_refusal config ≡ None → a ≡ state config list → Takes s left top config list a t r)
    → TakesIn left top code (Some s) (Some a) (Some t)
taken_in s left top a t (Ok places) code is takes = λ c list fine stands. inl (places, (is, takes c list fine stands))
taken_in s left top a t (Err e) code is takes = λ c list fine stands.
    let partly = takes c list fine stands in
    inr (is ∙ ap code_of partly.memory, record { memory = refl; pieces = partly.pieces; events = partly.events; places = partly.places })

pub takes : (desk : Standing) (before : Option State) (a t : State) (source : Option Source) (made : Source) (left top : ℕ) (r : Result ℕ ScreenError) (number code : ℤ) (output : List (ℕ × List ℕ)) (inputs : List (ℕ × Input)) (text : List ℕ)
    → number ≡ code → record { screen = before; output = output; inputs = inputs; text = text } ≡ desk → before ≡ Some a → source_due source ≡ None → source ≡ Some made → IsCode r code
    → ((config : Config) (list : List Event) → config_refusal config ≡ None → a ≡ state config list → Takes made left top config list a t r)
    → TakesPixels source left top desk (record { screen = Some t; output = output; inputs = inputs; text = text }) number
takes desk before a t source made left top r number code output inputs text number_is view is accepted source_is code_is taking =
    rw (sym view) (rw is (rw number_is (record {
      refused = λ refusal due. let two : ◌≡◌ {A = Option ℤ} None (Some refusal) = sym accepted ∙ due in absurd cc;
      taken = λ fine. subst (λ (o : Option Source). TakesIn left top code o (Some a) (Some t)) (sym source_is) (taken_in made left top a t r code code_is taking);
      same = refl;
    })))
