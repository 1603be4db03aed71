-- Connections that the program has.
use Rattle.std.proofs.Common.{◌≡◌, ◌<◌, ℕ, ℤ, pos, Bool, List, [], ◌++◌, Option, Some, Result, refl, sym, inl, inr, subst, append-nil, arith}
use Rattle.std.specs.Prelude.{IfOk, ◌≤ℤ◌, ◌⊎◌, is_some, count_by}
use Rattle.screen.specs.declared.Input.{Input}
use Rattle.screen.specs.declared.Config.{Config}
use Rattle.screen.specs.declared.Event.{Event}
use Rattle.connections.specs.Serving.{Serving}
use Rattle.connections.specs.Telling.{words_after}
use Rattle.event_loop.specs.Sockets.{GoesOnServing}
use Rattle.event_loop.specs.Admitting.{IsAdmittedOr}
use Rattle.event_loop.specs.declared.event_loop.LoopError.{LoopError}
use Rattle.event_loop.specs.declared.viewers.Admission.{Admission}
use Rattle.c_screen.specs.Codes.{out_of_memory}
use Rattle.c_server.specs.declared.visits.Visit.{Visit}
use Rattle.c_server.specs.Codes.{adopt_code}
use Rattle.c_server.specs.Desk.{Standing, StandsFor, held_where}
use Rattle.c_server.specs.Gathering.{PutsComing}
use Rattle.c_server.specs.Calls.{Adopts, IsAdopted, IsAdoptedOrFull, IsSocketRefusal}

-- there is room
room : (s : Serving) (old new : Standing) (code : ℤ) (live : ℕ) → live ≡ count_by is_some s.slots → live < old.viewers → ((code ≡ out_of_memory) × (new ≡ old)) ⊎ IsAdopted s old new code → IsAdoptedOrFull s old new code
room s old new code live is few h = (λ many. absurd (omega (is, few, many, arith)), λ less. h)

-- a descriptor is the number that was handed on
pub taken-at : (f fd : ℤ) → pos 0 ≤ℤ f → f ≡ fd → pos 0 ≤ℤ fd
taken-at f fd h same = subst (λ (n : ℤ). pos 0 ≤ℤ n) same h

pub refused-at : (f fd code : ℤ) → IsSocketRefusal f code → f ≡ fd → IsSocketRefusal fd code
refused-at f fd code h same = subst (λ (n : ℤ). IsSocketRefusal n code) same h

-- nothing happens
stays : (old new : Standing) → new ≡ old → (c : Config) (list : List Event) → StandsFor c list old → (more : List Event) × StandsFor c (list ++ more) new × (words_after c list more ≡ [])
stays old new same c list stands = ([], subst (λ (d : Standing). StandsFor c (list ++ []) d) (sym same) (rw (append-nil list) stands), refl)

-- the loop was asked
pub adopts : (fd : ℤ) (desk : Standing) (before : Option Serving) (s t : Serving) (answer : Result Admission LoopError) (number code : ℤ) (live : ℕ) (port granted : ℕ) (inputs : List (ℕ × Input)) (visits visits_made visits_put : List Visit) (text : List ℕ) (lost lost_now full texts : ℕ) (path : List ℕ) (on : Bool)
    → number ≡ code → record { served = before; port = port; viewers = granted; inputs = inputs; visits = visits; text = text; lost = lost; full_requests = full; text_room = texts; record_path = path; recorded = on } ≡ desk → before ≡ Some s → pos 0 ≤ℤ fd → live ≡ count_by is_some s.slots → live < granted → code ≡ adopt_code answer → IfOk answer (IsAdmittedOr s t)
    → visits_made ≡ visits → PutsComing answer visits_made visits_put lost lost_now → GoesOnServing s t
    → Adopts fd desk (record { served = Some t; port = port; viewers = granted; inputs = inputs; visits = visits_put; text = text; lost = lost_now; full_requests = full; text_room = texts; record_path = path; recorded = on }) number
adopts fd desk before s t answer number code live port granted inputs visits visits_made visits_put text lost lost_now full texts path on number_is view is some live_is few code_is admitted made puts goes =
    rw (sym view) (rw is (rw number_is (record {
      answer = inr (
        some,
        room s _ _ code live live_is few (inr (record {
          now = t;
          served = refl;
          answer = answer;
          number = code_is;
          admitted = admitted;
          came = subst (λ (l : List Visit). PutsComing answer l visits_put lost lost_now) made puts;
        })),
      );
      served = λ c list stands. goes (held_where on) c list stands;
      same = refl;
    })))

-- it is no connection
pub adopts-not : (fd : ℤ) (desk : Standing) (before : Option Serving) (s : Serving) (number code : ℤ) (port granted : ℕ) (inputs : List (ℕ × Input)) (visits : List Visit) (text : List ℕ) (lost full texts : ℕ) (path : List ℕ) (on : Bool)
    → number ≡ code → record { served = before; port = port; viewers = granted; inputs = inputs; visits = visits; text = text; lost = lost; full_requests = full; text_room = texts; record_path = path; recorded = on } ≡ desk → before ≡ Some s → IsSocketRefusal fd code
    → Adopts fd desk (record { served = Some s; port = port; viewers = granted; inputs = inputs; visits = visits; text = text; lost = lost; full_requests = full; text_room = texts; record_path = path; recorded = on }) number
adopts-not fd desk before s number code port granted inputs visits text lost full texts path on number_is view is refusal =
    rw (sym view) (rw is (rw number_is (record {
      answer = inl (refusal, refl);
      served = stays (record { served = Some s; port = port; viewers = granted; inputs = inputs; visits = visits; text = text; lost = lost; full_requests = full; text_room = texts; record_path = path; recorded = on }) (record { served = Some s; port = port; viewers = granted; inputs = inputs; visits = visits; text = text; lost = lost; full_requests = full; text_room = texts; record_path = path; recorded = on }) refl;
      same = refl;
    })))
