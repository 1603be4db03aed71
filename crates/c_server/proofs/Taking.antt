-- A program's own pixels.
use Rattle.std.proofs.Common.{◌≡◌, ℕ, ℤ, pos, min, ◌^◌, Bool, true, false, true≢false, List, [], ◌∷◌, ◌++◌, Option, Some, None, Result, Ok, Err, refl, sym, ap, ◌∙◌, inl, inr, subst}
use Rattle.std.specs.Prelude.{MatchResult}
use Rattle.screen.specs.declared.Input.{Input}
use Rattle.screen.specs.declared.Config.{Config}
use Rattle.screen.specs.declared.Event.{Event}
use Rattle.screen.specs.declared.ScreenError.{ScreenError}
use Rattle.screen.specs.Alone.{config_refusal}
use Rattle.screen.specs.State.{state}
use Rattle.source_pixels.specs.declared.pieces.Piece.{Piece}
use Rattle.source_pixels.specs.Source.{Source}
use Rattle.screen.specs.Paints.{paints_of}
use Rattle.screen.specs.Takes.{TakesTelling}
use Rattle.connections.specs.Recorded.{RecordsMore}
use Rattle.connections.specs.Drawing.{Surface, IsDrawnFrom, are_drawings, has_notice}
use Rattle.connections.specs.Serving.{Serving, drawn_is_served}
use Rattle.c_screen.specs.Codes.{code_of}
use Rattle.c_server.specs.declared.visits.Visit.{Visit}
use Rattle.c_server.specs.Desk.{Standing, desk_sockets}
use Rattle.c_screen.specs.Pixels.{source_due}
use Rattle.c_server.specs.Calls.{TakesPixels, TakesIn}

-- paints are drawing calls, and no notices
paints_drawings : (left top : ℕ) (qs : List Piece) → are_drawings (paints_of left top qs) ≡ true
paints_drawings left top [] = refl
paints_drawings left top (q ∷ qs) = paints_drawings left top qs

paints_quiet : (left top : ℕ) (qs : List Piece) → has_notice (paints_of left top qs) ≡ false
paints_quiet left top [] = refl
paints_quiet left top (q ∷ qs) = paints_quiet left top qs

painted : (c : Config) (list : List Event) (left top : ℕ) (qs : List Piece) (a b : Surface) → b.screen ≡ state c (list ++ paints_of left top qs) → RecordsMore c list (paints_of left top qs) a.scribed b.scribed → b.drawn ≡ true → b.noticed ≡ a.noticed → IsDrawnFrom c list a b
painted c list left top qs a b screen recorded drawn noticed = record {
  calls = paints_of left top qs;
  drawings = paints_drawings left top qs;
  screen = screen;
  recorded = recorded;
  none = λ no. absurd (true≢false (sym drawn ∙ no));
  quiet = λ fine. (sym noticed ∙ fine, paints_quiet left top qs);
}

abbrev IsCode : Result ℕ ScreenError → ℤ → Type 0
IsCode r code = MatchResult r (λ places. code ≡ pos (min places (2 ^ 62))) (λ e. code ≡ code_of e)

taken_in : drawn_is_served → (on : Bool) (s : Source) (left top : ℕ) (a : Serving) (t : Surface) (r : Result ℕ ScreenError) (code : ℤ) → IsCode r code
    → ((config : Config) (list : List Event) → config_refusal config ≡ None → a.surface.screen ≡ state config list → TakesTelling (λ es. RecordsMore config list es a.surface.scribed t.scribed) s left top config list a.surface.screen t.screen r) → t.drawn ≡ true → t.noticed ≡ a.surface.noticed
    → TakesIn left top code on (Some s) (Some a) (Some (record a { surface = t }))
unfolding painted
taken_in law on s left top a t (Ok places) code is takes drawn noticed = λ c list fine serves.
    let taken = takes c list fine serves.screen in
    inl (record {
      places = places;
      number = is;
      taken = taken.0;
      served = law c (desk_sockets on c) list a t (painted c list left top taken.0.pieces a.surface t taken.0.events taken.1 drawn noticed) serves;
    })
taken_in law on s left top a t (Err e) code is takes drawn noticed = λ c list fine serves.
    let partly = takes c list fine serves.screen in
    inr (
      is ∙ ap code_of partly.0.memory,
      record {
        taken = record { memory = refl; pieces = partly.0.pieces; events = partly.0.events; places = partly.0.places };
        served = law c (desk_sockets on c) list a t (painted c list left top partly.0.pieces a.surface t partly.0.events partly.1 drawn noticed) serves;
      },
    )

pub takes : drawn_is_served → (desk : Standing) (before : Option Serving) (s : Serving) (a t : Surface) (source : Option Source) (made : Source) (left top : ℕ) (r : Result ℕ ScreenError) (number code : ℤ) (port granted : ℕ) (inputs : List (ℕ × Input)) (visits : List Visit) (text : List ℕ) (lost full texts : ℕ) (path : List ℕ) (on : Bool)
    → number ≡ code → record { served = before; port = port; viewers = granted; inputs = inputs; visits = visits; text = text; lost = lost; full_requests = full; text_room = texts; record_path = path; recorded = on } ≡ desk → before ≡ Some s → a ≡ s.surface → source_due source ≡ None → source ≡ Some made → IsCode r code
    → ((config : Config) (list : List Event) → config_refusal config ≡ None → a.screen ≡ state config list → TakesTelling (λ es. RecordsMore config list es a.scribed t.scribed) made left top config list a.screen t.screen r) → t.drawn ≡ true → t.noticed ≡ a.noticed
    → TakesPixels source left top desk (record { served = Some (record s { surface = t }); port = port; viewers = granted; inputs = inputs; visits = visits; text = text; lost = lost; full_requests = full; text_room = texts; record_path = path; recorded = on }) number
takes law desk before s a t source made left top r number code port granted inputs visits text lost full texts path on number_is view is same accepted source_is code_is taking drawn noticed =
    rw (sym view) (rw is (rw number_is (record {
      refused = λ refusal due. let two : ◌≡◌ {A = Option ℤ} None (Some refusal) = sym accepted ∙ due in absurd cc;
      taken = λ fine. subst (λ (o : Option Source). TakesIn left top code on o (Some s) (Some later)) (sym source_is)
          (taken_in law on made left top s t r code code_is
          (subst (λ (x : Surface). (config : Config) (list : List Event) → config_refusal config ≡ None → x.screen ≡ state config list → TakesTelling (λ es. RecordsMore config list es x.scribed t.scribed) made left top config list x.screen t.screen r) same taking)
          drawn (noticed ∙ ap (λ (x : Surface). x.noticed) same));
      same = refl;
    })))
  where
    later : Serving
    later = record s { surface = t }
