-- What the calls of a server's desk do: the number that each answers, and the desk before and after it.
use Rattle.std.specs.Prelude.{◌≡◌, ◌≢◌, ◌⊎◌, ℕ, is_some, count_by, ◌^◌, ◌+◌, ◌-◌, ◌<◌, ◌≤◌, min, ℤ, pos, Bool, true, false, if◌then◌else◌, ◌<ℤ◌, ◌≤ℤ◌, List, [], ◌∷◌, ◌++◌, length, drop, take, Option, Some, None, Result, Ok, IfOk, MatchOption, option_map}
use Rattle.std.specs.declared.alloc.AllocError.{AllocError}
use Rattle.std.specs.Map.{keys_of}
use Rattle.std.specs.declared.time.Duration.{Duration}
use Rattle.std.specs.declared.net.ip_addr.IpAddr.{IpAddr}
use Rattle.std.specs.Net.Text.{ip_text}
use Rattle.region.specs.declared.Rect.{Rect}
use Rattle.screen.specs.declared.Config.{Config}
use Rattle.screen.specs.declared.Input.{Input}
use Rattle.screen.specs.declared.Event.{Event}
use Rattle.screen.specs.declared.ScreenError.TheVariants.{OutOfMemory}
use Rattle.screen.specs.Alone.{config_refusal}
use Rattle.connections.specs.Telling.{words_after, inputs_after}
use Rattle.connections.specs.Serving.{Serving, Serves, number_at}
use Rattle.connections.specs.Recorded.{is_broken}
use Rattle.source_pixels.specs.Source.{Source}
use Rattle.screen.specs.Takes.{IsTaken, IsPartlyTaken}
use Rattle.screen.specs.Paints.{paints_of}
use Rattle.event_loop.specs.declared.event_loop.LoopError.{LoopError}
use Rattle.event_loop.specs.declared.viewers.Admission.{Admission}
use Rattle.event_loop.specs.Admitting.{IsAdmittedOr}
use Rattle.event_loop.specs.Traffic.{IsTrafficOf}
use Rattle.event_loop.specs.declared.traffic.Traffic.{Traffic}
use Rattle.c_screen.specs.Codes.{Answers, code_of, done, no_viewer, out_of_memory, shut}
use Rattle.c_screen.specs.Calls.{settings_code, settings_room, shown_in}
use Rattle.c_screen.specs.Desk.{IsListOf}
use Rattle.c_screen.specs.Inputs.{IsFetched}
use Rattle.c_screen.specs.declared.told.Told.{Told}
use Rattle.c_server.specs.declared.visits.Visit.{Visit}
use Rattle.c_server.specs.Codes.{adopt_code, bad_address, bad_socket, cannot_listen, cannot_record, full, too_many_ports, network_failed, clock_failed, closed_code, turn_code}
use Rattle.c_server.specs.System.{IsAddress, IsNoAddress, milliseconds_of}
use Rattle.c_server.specs.Visits.{AreVisits}
use Rattle.c_server.specs.Gathering.{PutsComing}
use Rattle.c_screen.specs.Pixels.{source_due}
use Rattle.c_server.specs.Desk.{nothing_there, texts_limit, texts_size, Standing, StandsFor, IsAsBefore, IsPartOf, IsPutBehind, desk_sockets, due, is_named, region_due}

-- what a call of `listen` answers where the screen is none that is refused, by the digits of the address, and the path of the file in which it is to be recorded
abbrev pub IsListenCode : List ℕ → List ℕ → ℤ → Type 0
IsListenCode digits path code = (code ≡ done) ⊎ (((code ≡ bad_address) × IsNoAddress digits) ⊎ ((code ≡ cannot_listen) ⊎ ((code ≡ cannot_record) × (is_named path ≡ true))))

-- the desk listens, on this port unless it is 0 of the IP address that the digits spell, and serves a screen with nothing on it to no viewer yet, and to so many at once at most, which is recorded where a file was named; or it is as it was
pub record Listens (c : Config) (viewers : ℕ) (digits : List ℕ) (port : ℕ) (old new : Standing) (code : ℤ) : Type 0 where
  pub answer : Answers (option_map code_of (config_refusal c)) (IsListenCode digits old.record_path) code
  pub spelled : code ≡ done → IsAddress digits
  pub serves : code ≡ done → StandsFor c [] new
  pub port_is : code ≡ done → port ≢ 0 → new.port ≡ port
  pub granted : code ≡ done → new.viewers ≡ viewers
  pub recorded : code ≡ done → new.recorded ≡ is_named old.record_path
  pub unnamed : code ≡ done → new.record_path ≡ []
  pub inputs : code ≡ done → new.inputs ≡ []
  pub visits : code ≡ done → new.visits ≡ []
  pub text : code ≡ done → new.text ≡ []
  pub lost : code ≡ done → new.lost ≡ 0
  pub full_requests : code ≡ done → new.full_requests ≡ 0
  pub text_room : code ≡ done → new.text_room ≡ texts_limit
  pub refused : code ≢ done → new ≡ old

-- what a server's further listening answers where it isn't closed, by the digits of the address and the port that was asked for: the port, which is that one unless it was 0; or why it doesn't listen
abbrev pub IsFurtherCode : List ℕ → ℕ → ℤ → Type 0
IsFurtherCode digits port code =
    ((granted : ℕ) × (code ≡ pos granted) × IsAddress digits × (port ≢ 0 → granted ≡ port))
    ⊎ (((code ≡ bad_address) × IsNoAddress digits) ⊎ ((code ≡ cannot_listen) ⊎ ((code ≡ too_many_ports) ⊎ (code ≡ out_of_memory))))

-- a server listens further, or it is refused; what it serves, and to whom, stays
pub record ListensFurther (digits : List ℕ) (port : ℕ) (old new : Standing) (code : ℤ) : Type 0 where
  pub answer : MatchOption old.served (code ≡ shut) (λ s. IsFurtherCode digits port code)
  pub same : new ≡ old

-- what a call of `serve` answers where the screen is none that is refused, by the path of the file in which it is to be recorded
abbrev pub IsServeCode : List ℕ → ℤ → Type 0
IsServeCode path code = (code ≡ done) ⊎ ((code ≡ network_failed) ⊎ ((code ≡ cannot_record) × (is_named path ≡ true)))

-- the desk listens nowhere, and serves a screen with nothing on it to no viewer yet, and to so many at once at most, which is recorded where a file was named; or it is as it was
pub record ServesUnbound (c : Config) (viewers : ℕ) (old new : Standing) (code : ℤ) : Type 0 where
  pub answer : Answers (option_map code_of (config_refusal c)) (IsServeCode old.record_path) code
  pub serves : code ≡ done → StandsFor c [] new
  pub others : code ≡ done → new ≡ record nothing_there { served = new.served; viewers = viewers; recorded = is_named old.record_path }
  pub refused : code ≢ done → new ≡ old

-- why a descriptor of the program's is no connection: it is no connected socket, and stays the program's; or the system refuses not to wait at it
abbrev pub IsSocketRefusal : ℤ → ℤ → Type 0
IsSocketRefusal fd code = (code ≡ bad_socket) ⊎ ((pos 0 ≤ℤ fd) × (code ≡ network_failed))

-- what a server's further listening at a socket of the program's answers where that is one: 0, or why it doesn't listen there
abbrev pub IsListeningCode : ℤ → Type 0
IsListeningCode code = (code ≡ done) ⊎ ((code ≡ cannot_listen) ⊎ ((code ≡ too_many_ports) ⊎ (code ≡ out_of_memory)))

-- a server listens further at a socket that the program has by a descriptor, or it is refused; what it serves, and to whom, stays
pub record ListensAt (fd : ℤ) (old new : Standing) (code : ℤ) : Type 0 where
  pub answer : MatchOption old.served (code ≡ shut) (λ s. IsSocketRefusal fd code ⊎ ((pos 0 ≤ℤ fd) × IsListeningCode code))
  pub same : new ≡ old

-- The loop was asked to take a connection in, and its answer is the code. It is the viewer with the next number, whose coming is put behind those that wait, or counted as lost; or it was refused, and nothing has changed; or the answer is a failure.
pub record IsAdopted (s : Serving) (old new : Standing) (code : ℤ) : Type 0 where
  pub now : Serving
  pub served : new.served ≡ Some now
  pub answer : Result Admission LoopError
  pub number : code ≡ adopt_code answer
  pub admitted : IfOk answer (IsAdmittedOr s now)
  pub came : PutsComing answer old.visits new.visits old.lost new.lost

-- a connection is turned away where as many viewers are connected as were granted; else the loop was asked, unless memory is refused
abbrev pub IsAdoptedOrFull : Serving → Standing → Standing → ℤ → Type 0
IsAdoptedOrFull s old new code = (old.viewers ≤ count_by is_some s.slots → (code ≡ full) × (new ≡ old)) × (count_by is_some s.slots < old.viewers → ((code ≡ out_of_memory) × (new ≡ old)) ⊎ IsAdopted s old new code)

-- A connection that the program has by a descriptor is taken in, or refused. Whatever list of events the screen stood for, it stands for it with others behind it, in which no viewer says anything, and none leaves, and by that list each viewer is served.
pub record Adopts (fd : ℤ) (old new : Standing) (code : ℤ) : Type 0 where
  pub answer : MatchOption old.served ((code ≡ shut) × (new ≡ old)) (λ s. (IsSocketRefusal fd code × (new ≡ old)) ⊎ ((pos 0 ≤ℤ fd) × IsAdoptedOrFull s old new code))
  pub served : (c : Config) (list : List Event) → StandsFor c list old → (more : List Event) × StandsFor c (list ++ more) new × (words_after c list more ≡ [])
  pub same : new ≡ record old { served = new.served; visits = new.visits; lost = new.lost }

-- the next screen is recorded in the file of this path, or in none; or memory for the path is refused
pub record NamesRecord (path : List ℕ) (old new : Standing) (code : ℤ) : Type 0 where
  pub answer : (code ≡ done) ⊎ (code ≡ out_of_memory)
  pub named : code ≡ done → new ≡ record old { record_path = path }
  pub refused : code ≢ done → new ≡ old

-- whether what is served is recorded: 0 for no, 1 for yes, 2 where the record has ended before its session
abbrev pub record_state : Bool → Serving → ℤ
record_state recorded s = if recorded then (if is_broken s.surface.scribed then pos 2 else pos 1) else pos 0

-- The screen stands for a list with more events behind it. Of the inputs of these, or of the first ones where the turn ended by an error, some wait behind those that waited, in order; and behind the comings and goings that waited those of the turn, as many as may wait. What doesn't wait is counted as lost, and no more, as far as that is counted.
pub record IsTurnBy (c : Config) (list : List Event) (old new : Standing) (code : ℤ) : Type 0 where
  pub more : List Event
  pub stands : StandsFor c (list ++ more) new
  pub told : List (ℕ × Input)
  pub rest : List (ℕ × Input)
  pub inputs : told ++ rest ≡ inputs_after c list more
  pub all : code ≡ done → rest ≡ []
  pub kept : List (ℕ × Input)
  pub part : IsPartOf kept told
  pub waiting : new.inputs ≡ old.inputs ++ kept
  pub visits : List Visit
  pub are : AreVisits visits
  pub put : new.visits ≡ old.visits ++ take (1024 - length old.visits) visits
  pub lost : new.lost < 2 ^ 64 - 1 → new.lost ≡ old.lost + ((length told - length kept) + (length visits - (1024 - length old.visits)))

-- A turn: whatever list of events the screen stood for, it stands for it with others behind it, and by that list each viewer is served, also where the turn ended by an error. What waited to be fetched waits still, and what came waits behind it. What waits in texts takes from the room for them.
pub record TakesTurn (old new : Standing) (code : ℤ) : Type 0 where
  pub answer : MatchOption old.served (code ≡ shut) (λ s. (answer : Result (Unit {0}) LoopError) × (code ≡ turn_code answer))
  pub served : (c : Config) (list : List Event) → StandsFor c list old → IsTurnBy c list old new code
  pub inputs : IsPutBehind 4096 old.inputs new.inputs
  pub visits : IsPutBehind 1024 old.visits new.visits
  pub lost : old.lost ≤ new.lost
  pub full_requests : old.full_requests ≤ new.full_requests
  pub texts : texts_size new.inputs + new.text_room ≡ texts_size old.inputs + old.text_room
  pub same : new ≡ record old { served = new.served; inputs = new.inputs; visits = new.visits; lost = new.lost; full_requests = new.full_requests; text_room = new.text_room }

-- a call draws: where it is done its event comes behind the others, and else nothing is drawn; what waits to be fetched stays
pub record Draws (e : Event) (old new : Standing) (code : ℤ) : Type 0 where
  pub answer : Answers (due old e) (λ n. n ≡ done) code
  pub step : (c : Config) (list : List Event) → StandsFor c list old → code ≡ done → StandsFor c (list ++ e ∷ []) new
  pub same : new ≡ record old { served = new.served }
  pub refused : code ≢ done → IsAsBefore old new

-- the same for the places of a list of rectangles, which the event has by their canonical list
pub record DrawsRegion (rects : List Rect) (event : List Rect → Event) (old new : Standing) (code : ℤ) : Type 0 where
  pub answer : Answers (region_due old rects) (λ n. n ≡ done) code
  pub step : code ≡ done → (places : List Rect) × (IsListOf rects places × ((c : Config) (list : List Event) → StandsFor c list old → StandsFor c (list ++ event places ∷ []) new))
  pub same : new ≡ record old { served = new.served }
  pub refused : code ≢ done → IsAsBefore old new

-- the first inputs that wait are put at the room's start, up to the first text, and the number says how many they are; a text that is fetched gives its room back
pub record FetchesInputs (old new : Standing) (room_old room_new : List Told) (code : ℤ) : Type 0 where
  pub answer : MatchOption old.served (code ≡ shut) (λ s. pos 0 ≤ℤ code)
  pub fetched : pos 0 ≤ℤ code → (number : ℕ) × ((code ≡ pos number) × IsFetched (length room_old) old.inputs new.inputs room_old room_new old.text new.text number)
  pub texts : texts_size old.inputs + old.text_room < 2 ^ 64 → texts_size new.inputs + new.text_room ≡ texts_size old.inputs + old.text_room
  pub same : new ≡ record old { inputs = new.inputs; text = new.text; text_room = new.text_room }
  pub refused : code <ℤ pos 0 → (new ≡ old) × (room_new ≡ room_old)

-- as many of a list as there is room for
abbrev pub count_fitting : {X : Type 0} → List X → List X → ℕ
count_fitting items room = min (length items) (length room)

-- the first comings and goings that wait are put at the room's start, and the number says how many they are
pub record FetchesVisits (old new : Standing) (room_old room_new : List Visit) (code : ℤ) : Type 0 where
  pub answer : MatchOption old.served (code ≡ shut) (λ s. code ≡ pos (count_fitting old.visits room_old))
  pub room : pos 0 ≤ℤ code → room_new ≡ take (count_fitting old.visits room_old) old.visits ++ drop (count_fitting old.visits room_old) room_old
  pub others : pos 0 ≤ℤ code → new.visits ≡ drop (count_fitting old.visits room_old) old.visits
  pub same : new ≡ record old { visits = new.visits }
  pub refused : code <ℤ pos 0 → (new ≡ old) × (room_new ≡ room_old)

-- the first bytes of the text that was fetched last are put at the room's start, as many as fit, at most 2^30, and the number says how many they are
abbrev pub count_shown : List ℕ → List ℕ → ℕ
count_shown text room = min (count_fitting text room) (2 ^ 30)

pub record ShowsText (old new : Standing) (room_old room_new : List ℕ) (code : ℤ) : Type 0 where
  pub answer : MatchOption old.served (code ≡ shut) (λ s. code ≡ pos (count_shown old.text room_old))
  pub shown : pos 0 ≤ℤ code → room_new ≡ take (count_shown old.text room_old) old.text ++ drop (count_shown old.text room_old) room_old
  pub same : new ≡ old
  pub refused : code <ℤ pos 0 → room_new ≡ room_old

-- digits are put at the room's start, as many as fit; or memory for them is refused
abbrev pub AreDigitsIn : List ℕ → List ℕ → List ℕ → ℤ → Type 0
AreDigitsIn digits room_old room_new code = ((code ≡ pos (count_shown digits room_old)) × (room_new ≡ take (count_shown digits room_old) digits ++ drop (count_shown digits room_old) room_old)) ⊎ (code ≡ out_of_memory)

-- the connection of a viewer has some IP address, whose digits are put there; or the system doesn't tell
abbrev pub IsAddressIn : List ℕ → List ℕ → ℤ → Type 0
IsAddressIn room_old room_new code = ((address : IpAddr) × AreDigitsIn (ip_text address) room_old room_new code) ⊎ (code ≡ network_failed)

-- a viewer's address is told, if one has the number
pub record TellsAddress (v : ℕ) (old new : Standing) (room_old room_new : List ℕ) (code : ℤ) : Type 0 where
  pub answer : MatchOption old.served (code ≡ shut) (λ s. ((code ≡ no_viewer) × ((key : ℕ) → number_at s.slots key ≢ Some v)) ⊎ (((key : ℕ) × (number_at s.slots key ≡ Some v)) × IsAddressIn room_old room_new code))
  pub same : new ≡ old
  pub refused : code <ℤ pos 0 → room_new ≡ room_old

-- what moved of a viewer that is connected is put there in numbers, as many as fit: the bytes read, the bytes written, the updates cut, and for how many milliseconds it had said nothing
abbrev pub IsTrafficIn : Serving → ℕ → List ℕ → List ℕ → ℤ → Type 0
IsTrafficIn s v room_old room_new code = (traffic : Traffic) × IsTrafficOf s v traffic × (silent : ℕ) ×
    (code ≡ pos (count_shown (traffic.received ∷ traffic.sent ∷ traffic.updates ∷ silent ∷ []) room_old)) × (room_new ≡ shown_in (traffic.received ∷ traffic.sent ∷ traffic.updates ∷ silent ∷ []) room_old)

-- a call changes nothing but a room, which shows what moved of a viewer, if one has the number
pub record ShowsTraffic (v : ℕ) (old new : Standing) (room_old room_new : List ℕ) (code : ℤ) : Type 0 where
  pub answer : MatchOption old.served (code ≡ shut) (λ s. ((code ≡ no_viewer) × ((key : ℕ) → number_at s.slots key ≢ Some v)) ⊎ IsTrafficIn s v room_old room_new code)
  pub same : new ≡ old
  pub refused : code <ℤ pos 0 → room_new ≡ room_old

-- a call changes nothing but a room, which shows what a viewer has set
pub record ShowsSettings (v : ℕ) (old new : Standing) (room_old room_new : List ℕ) (code : ℤ) : Type 0 where
  pub answer : MatchOption old.served (code ≡ shut) (λ s. code ≡ settings_code v room_old s.surface.screen)
  pub room : MatchOption old.served (room_new ≡ room_old) (λ s. room_new ≡ settings_room v room_old s.surface.screen)
  pub same : new ≡ old

-- the connected viewers' numbers, in order of connecting
abbrev pub numbers_of : Serving → List ℕ
numbers_of s = keys_of s.surface.screen.viewers

-- the first of these are put at the room's start, as many as fit, at most 2^30, and the number says how many they are; or memory is refused
pub record ShowsNumbers (old new : Standing) (room_old room_new : List ℕ) (code : ℤ) : Type 0 where
  pub answer : MatchOption old.served (code ≡ shut) (λ s. (code ≡ pos (count_shown (numbers_of s) room_old)) ⊎ (code ≡ out_of_memory))
  pub shown : pos 0 ≤ℤ code → MatchOption old.served ⊥ (λ s. room_new ≡ shown_in (numbers_of s) room_old)
  pub same : new ≡ old
  pub refused : code <ℤ pos 0 → room_new ≡ room_old

-- a call changes nothing, and answers a number of what is served, or shut
pub record Tells (number : Serving → ℤ) (old new : Standing) (code : ℤ) : Type 0 where
  pub answer : MatchOption old.served (code ≡ shut) (λ s. code ≡ number s)
  pub same : new ≡ old

-- why a program's pixels are not taken in: the server is shut, or they are refused
abbrev pub take_due : Option Serving → Option Source → Option ℤ
take_due None source = Some shut
take_due (Some served) source = source_due source

-- they are taken in: so many places changed, what differed is painted, and by that each viewer is served
pub record IsTakenIn (s : Source) (left top : ℕ) (recorded : Bool) (c : Config) (list : List Event) (old new : Serving) (code : ℤ) : Type 0 where
  pub places : ℕ
  pub number : code ≡ pos (min places (2 ^ 62))
  pub taken : IsTaken s left top c list old.surface.screen new.surface.screen places
  pub served : Serves c (desk_sockets recorded c) (list ++ paints_of left top taken.pieces) new

-- for want of memory only some of what differed is painted
pub record IsTakenInPart (s : Source) (left top : ℕ) (recorded : Bool) (c : Config) (list : List Event) (old new : Serving) : Type 0 where
  pub taken : IsPartlyTaken s left top c list old.surface.screen new.surface.screen OutOfMemory
  pub served : Serves c (desk_sockets recorded c) (list ++ paints_of left top taken.pieces) new

-- a program's own pixels are taken into the picture, with their corner at a place of it
abbrev pub TakesIn : ℕ → ℕ → ℤ → Bool → Option Source → Option Serving → Option Serving → Type 0
TakesIn left top code recorded (Some s) (Some a) (Some b) = (c : Config) (list : List Event) → config_refusal c ≡ None → Serves c (desk_sockets recorded c) list a → IsTakenIn s left top recorded c list a b code ⊎ ((code ≡ out_of_memory) × IsTakenInPart s left top recorded c list a b)
TakesIn left top code recorded (Some s) (Some a) None = ⊥
TakesIn left top code recorded source old new = Unit {0}

pub record TakesPixels (source : Option Source) (left top : ℕ) (old new : Standing) (code : ℤ) : Type 0 where
  pub refused : (refusal : ℤ) → take_due old.served source ≡ Some refusal → (code ≡ refusal) × (new ≡ old)
  pub taken : take_due old.served source ≡ None → TakesIn left top code old.recorded source old.served new.served
  pub same : new ≡ record old { served = new.served }

-- a call changes nothing, and answers some number, or shut
pub record TellsSome (old new : Standing) (code : ℤ) : Type 0 where
  pub answer : old.served ≡ None → code ≡ shut
  pub same : new ≡ old

-- a call changes nothing, and answers how many milliseconds some wait takes; or the system doesn't tell the time
pub record TellsWait (old new : Standing) (code : ℤ) : Type 0 where
  pub answer : MatchOption old.served (code ≡ shut) (λ s. ((wait : Option Duration) × (code ≡ pos (milliseconds_of wait))) ⊎ (code ≡ clock_failed))
  pub same : new ≡ old

-- A viewer is let go, where one has the number. Each is served as before, by the list that the screen stood for or that with more events behind it.
pub record LetsGo (v : ℕ) (old new : Standing) (code : ℤ) : Type 0 where
  pub answer : MatchOption old.served (code ≡ shut) (λ s. (there : Result Bool AllocError) × (code ≡ closed_code there) × (there ≡ Ok false → (key : ℕ) → number_at s.slots key ≢ Some v))
  pub served : (c : Config) (list : List Event) → StandsFor c list old → (more : List Event) × StandsFor c (list ++ more) new
  pub same : new ≡ record old { served = new.served }

-- what a waker answers, by whether it is open
abbrev pub IsWakeCode : Bool → ℤ → Type 0
IsWakeCode true code = (code ≡ done) ⊎ (code ≡ network_failed)
IsWakeCode false code = code ≡ shut

-- a waker wakes, or the system refuses it, or it is shut; it stays so
pub record Wakes (old new : Bool) (code : ℤ) : Type 0 where
  pub answer : IsWakeCode old code
  pub same : new ≡ old
