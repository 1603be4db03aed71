-- What the calls of a desk do: the number that each answers, and the desk before and after it.
use Rattle.std.specs.Prelude.{◌≡◌, ◌≢◌, ◌⊎◌, ℕ, ◌+◌, ◌*◌, ◌^◌, nat_lt, min, ℤ, pos, ◌<ℤ◌, ◌≤ℤ◌, ◌&&◌, if◌then◌else◌, List, [], ◌∷◌, ◌++◌, length, drop, take, slice_index, Option, Some, None, option_map, MatchOption}
use Rattle.std.specs.Map.{keys_of}
use Rattle.source_pixels.specs.Source.{Source}
use Rattle.region.specs.declared.Rect.{Rect}
use Rattle.screen.specs.declared.Config.{Config}
use Rattle.screen.specs.declared.Event.{Event}
use Rattle.screen.specs.declared.Event.TheVariants.{Connect, Hear, Cut, Close}
use Rattle.screen.specs.declared.ScreenError.TheVariants.{OutOfMemory}
use Rattle.screen.specs.Alone.{config_refusal, something_to_send, some_bytes}
use Rattle.screen.specs.Answers.{answer_to}
use Rattle.viewer.specs.Viewer.{KeptViewer, settings_of}
use Rattle.screen.specs.State.{State, state, viewer_at}
use Rattle.screen.specs.Takes.{IsTaken, IsPartlyTaken}
use Rattle.c_screen.specs.Codes.{Answers, code_of, done, fault_code, no_viewer, off_screen, one_or_zero, out_of_memory, shut, truth_code}
use Rattle.c_screen.specs.Desk.{Standing, StandsFor, IsListOf, due, region_due, cut_due, cut_into_due, absence, put_output, without, next_piece, left_of}
use Rattle.c_screen.specs.Inputs.{told_by, IsFetched}
use Rattle.c_screen.specs.Pixels.{source_due}
use Rattle.c_screen.specs.Settings.{settings_words}
use Rattle.c_screen.specs.declared.told.Told.{Told}

-- the desk opens a screen with nothing on it, or is as it was
pub record Opens (c : Config) (old new : Standing) (code : ℤ) : Type 0 where
  pub answer : Answers (option_map code_of (config_refusal c)) (λ n. n ≡ done) code
  pub opened : code ≡ done → new ≡ record { screen = Some (state c []); output = []; inputs = []; text = [] }
  pub refused : code ≢ done → new ≡ old

-- a call draws: where it is done its event comes behind the others, and else nothing changed; what waits stays
pub record Draws (e : Event) (old new : Standing) (code : ℤ) : Type 0 where
  pub answer : Answers (due old e) (λ n. n ≡ done) code
  pub step : (c : Config) (list : List Event) → StandsFor c list old → code ≡ done → StandsFor c (list ++ e ∷ []) new
  pub same : new ≡ record old { screen = new.screen }
  pub refused : code ≢ done → new ≡ old

-- the same for the places of a list of rectangles, which the event has by their canonical list
pub record DrawsRegion (rects : List Rect) (event : List Rect → Event) (old new : Standing) (code : ℤ) : Type 0 where
  pub answer : Answers (region_due old rects) (λ n. n ≡ done) code
  pub step : code ≡ done → (places : List Rect) × (IsListOf rects places × ((c : Config) (list : List Event) → StandsFor c list old → StandsFor c (list ++ event places ∷ []) new))
  pub same : new ≡ record old { screen = new.screen }
  pub refused : code ≢ done → new ≡ old

-- why a program's pixels are not taken in: the desk is shut, or they are refused
abbrev pub take_due : Option State → Option Source → Option ℤ
take_due None source = Some shut
take_due (Some screen) source = source_due source

-- They are taken into the picture, with their corner at a place of it, and the number says how many places changed. For want of memory some of what differed is painted, or nothing.
abbrev pub TakesIn : ℕ → ℕ → ℤ → Option Source → Option State → Option State → Type 0
TakesIn left top code (Some s) (Some a) (Some b) =
    (c : Config) (list : List Event) → config_refusal c ≡ None → a ≡ state c list →
    ((places : ℕ) × ((code ≡ pos (min places (2 ^ 62))) × IsTaken s left top c list a b places)) ⊎ ((code ≡ out_of_memory) × IsPartlyTaken s left top c list a b OutOfMemory)
TakesIn left top code (Some s) (Some a) None = ⊥
TakesIn left top code source old new = Unit {0}

-- a program's own pixels are taken in; what waits stays
pub record TakesPixels (source : Option Source) (left top : ℕ) (old new : Standing) (code : ℤ) : Type 0 where
  pub refused : (refusal : ℤ) → take_due old.screen source ≡ Some refusal → (code ≡ refusal) × (new ≡ old)
  pub taken : take_due old.screen source ≡ None → TakesIn left top code source old.screen new.screen
  pub same : new ≡ record old { screen = new.screen }

-- a viewer connects, and what it is answered waits for it
pub record Connects (v : ℕ) (old new : Standing) (code : ℤ) : Type 0 where
  pub answer : Answers (due old (Connect v)) (λ n. n ≡ done) code
  pub step : (c : Config) (list : List Event) → StandsFor c list old → code ≡ done → StandsFor c (list ++ Connect v ∷ []) new
  pub output : (c : Config) (list : List Event) → StandsFor c list old → code ≡ done → new.output ≡ put_output v (answer_to c list (Connect v)).bytes old.output
  pub same : new ≡ record old { screen = new.screen; output = new.output }
  pub refused : code ≢ done → new ≡ old

-- a viewer is heard: what it is answered waits for it, what it told waits for the program, and the number says why it is heard no further
pub record Hears (v : ℕ) (piece : List ℕ) (old new : Standing) (code : ℤ) : Type 0 where
  pub answer : Answers (due old (Hear v piece)) (λ n. pos 0 ≤ℤ n) code
  pub step : (c : Config) (list : List Event) → StandsFor c list old → pos 0 ≤ℤ code → StandsFor c (list ++ Hear v piece ∷ []) new
  pub fault : (c : Config) (list : List Event) → StandsFor c list old → pos 0 ≤ℤ code → code ≡ fault_code (answer_to c list (Hear v piece)).closed
  pub output : (c : Config) (list : List Event) → StandsFor c list old → pos 0 ≤ℤ code → new.output ≡ put_output v (answer_to c list (Hear v piece)).bytes old.output
  pub inputs : (c : Config) (list : List Event) → StandsFor c list old → pos 0 ≤ℤ code → new.inputs ≡ old.inputs ++ told_by v (answer_to c list (Hear v piece)).inputs
  pub same : new.text ≡ old.text
  pub refused : code <ℤ pos 0 → new ≡ old

-- an update is cut for a viewer, for which it waits, and 1 is answered; 0 where there is nothing to send
pub record Cuts (v : ℕ) (old new : Standing) (code : ℤ) : Type 0 where
  pub answer : Answers (cut_due old v) (λ n. (n ≡ pos 0) ⊎ (n ≡ pos 1)) code
  pub step : (c : Config) (list : List Event) → StandsFor c list old → pos 0 ≤ℤ code → StandsFor c (list ++ Cut v ∷ []) new
  pub number : (c : Config) (list : List Event) → StandsFor c list old → pos 0 ≤ℤ code → code ≡ one_or_zero (some_bytes (answer_to c list (Cut v)).bytes)
  pub output : (c : Config) (list : List Event) → StandsFor c list old → pos 0 ≤ℤ code → new.output ≡ put_output v (answer_to c list (Cut v)).bytes old.output
  pub same : new ≡ record old { screen = new.screen; output = new.output }
  pub refused : code <ℤ pos 0 → new ≡ old

-- an update is cut for a viewer into one that held nothing, and 1 is answered; 0 where there is nothing to send, and it holds nothing; what waits in the desk stays
pub record CutsInto (v : ℕ) (old new : Standing) (held_old held_new : List ℕ) (code : ℤ) : Type 0 where
  pub answer : Answers (cut_into_due old v held_old) (λ n. (n ≡ pos 0) ⊎ (n ≡ pos 1)) code
  pub step : (c : Config) (list : List Event) → StandsFor c list old → pos 0 ≤ℤ code → StandsFor c (list ++ Cut v ∷ []) new
  pub number : (c : Config) (list : List Event) → StandsFor c list old → pos 0 ≤ℤ code → code ≡ one_or_zero (some_bytes (answer_to c list (Cut v)).bytes)
  pub held : (c : Config) (list : List Event) → StandsFor c list old → pos 0 ≤ℤ code → held_new ≡ (answer_to c list (Cut v)).bytes
  pub same : new ≡ record old { screen = new.screen }
  pub refused : code <ℤ pos 0 → (new ≡ old) × (held_new ≡ held_old)

-- a viewer's connection is closed, and nothing waits for it any more
pub record Closes (v : ℕ) (old new : Standing) (code : ℤ) : Type 0 where
  pub answer : Answers (due old (Close v)) (λ n. n ≡ done) code
  pub step : (c : Config) (list : List Event) → StandsFor c list old → code ≡ done → StandsFor c (list ++ Close v ∷ []) new
  pub output : code ≡ done → new.output ≡ without v old.output
  pub same : new ≡ record old { screen = new.screen; output = new.output }
  pub refused : code ≢ done → new ≡ old

-- the first bytes of the first piece that waits for a viewer are put at the room's start, and the number says how many they are: none only where there is no room, or the piece has none
pub record Gives (v : ℕ) (old new : Standing) (room_old room_new : List ℕ) (code : ℤ) : Type 0 where
  pub answer : Answers (absence old.screen v) (λ n. pos 0 ≤ℤ n) code
  pub given : pos 0 ≤ℤ code → (bytes left : List ℕ) × ((bytes ++ left ≡ next_piece v old.output) × (code ≡ pos (length bytes)) × (room_new ≡ bytes ++ drop (length bytes) room_old) × (new.output ≡ left_of v left old.output))
  pub some : code ≡ pos 0 → (room_old ≡ []) ⊎ (next_piece v old.output ≡ [])
  pub same : new ≡ record old { output = new.output }
  pub refused : code <ℤ pos 0 → (new ≡ old) × (room_new ≡ room_old)

-- the first bytes that an update holds are put at the room's start, and the number says how many they are: none only where there is no room, or it holds none; only memory is refused
pub record GivesHeld (old new room_old room_new : List ℕ) (code : ℤ) : Type 0 where
  pub answer : Answers None (λ n. pos 0 ≤ℤ n) code
  pub given : pos 0 ≤ℤ code → (bytes : List ℕ) × ((bytes ++ new ≡ old) × (code ≡ pos (length bytes)) × (room_new ≡ bytes ++ drop (length bytes) room_old))
  pub some : code ≡ pos 0 → (room_old ≡ []) ⊎ (old ≡ [])
  pub refused : code <ℤ pos 0 → (new ≡ old) × (room_new ≡ room_old)

-- the first inputs that wait are put at the room's start, up to the first text, and the number says how many they are
pub record Fetches (old new : Standing) (room_old room_new : List Told) (code : ℤ) : Type 0 where
  pub answer : MatchOption old.screen (code ≡ shut) (λ screen. pos 0 ≤ℤ code)
  pub fetched : pos 0 ≤ℤ code → (number : ℕ) × ((code ≡ pos number) × IsFetched (length room_old) old.inputs new.inputs room_old room_new old.text new.text number)
  pub same : new ≡ record old { inputs = new.inputs; text = new.text }
  pub refused : code <ℤ pos 0 → (new ≡ old) × (room_new ≡ room_old)

abbrev pub count_shown : List ℕ → List ℕ → ℕ
count_shown items room = min (min (length items) (length room)) (2 ^ 30)

-- a room with these at its start
abbrev pub shown_in : List ℕ → List ℕ → List ℕ
shown_in items room = take (count_shown items room) items ++ drop (count_shown items room) room

-- the first items of a list are put at the room's start, as many as fit, at most 2^30, and the number says how many they are
pub record Shows (items : List ℕ) (old new : Standing) (room_old room_new : List ℕ) (code : ℤ) : Type 0 where
  pub answer : MatchOption old.screen (code ≡ shut) (λ screen. (code ≡ pos (count_shown items room_old)) ⊎ (code ≡ out_of_memory))
  pub shown : pos 0 ≤ℤ code → room_new ≡ take (count_shown items room_old) items ++ drop (count_shown items room_old) room_old
  pub same : new ≡ old
  pub refused : code <ℤ pos 0 → room_new ≡ room_old

-- the same of the text that was fetched last, which wants no memory
pub record ShowsText (old new : Standing) (room_old room_new : List ℕ) (code : ℤ) : Type 0 where
  pub answer : MatchOption old.screen (code ≡ shut) (λ screen. code ≡ pos (count_shown old.text room_old))
  pub shown : MatchOption old.screen (room_new ≡ room_old) (λ screen. room_new ≡ shown_in old.text room_old)
  pub same : new ≡ old

-- the live viewers' numbers, in order of connecting
abbrev pub numbers_of : Option State → List ℕ
numbers_of None = []
numbers_of (Some screen) = keys_of screen.viewers

-- a call changes nothing, and answers what its screen holds, or shut
pub record Tells (number : State → ℤ) (old new : Standing) (code : ℤ) : Type 0 where
  pub answer : MatchOption old.screen (code ≡ shut) (λ screen. code ≡ number screen)
  pub same : new ≡ old

-- what a screen holds of a viewer, or no_viewer
abbrev pub of_viewer : ℕ → (KeptViewer → ℤ) → State → ℤ
of_viewer v number screen = elim (viewer_at screen v) [ None ↦ no_viewer | Some viewer ↦ number viewer ]

-- what a viewer has set is shown in a room: in how many words, or no_viewer
abbrev pub settings_code : ℕ → List ℕ → State → ℤ
settings_code v room screen = of_viewer v (λ viewer. pos (count_shown (settings_words (settings_of viewer)) room)) screen

-- and the room then: at its start stand the words, as many as fit; without such a viewer it is the same
abbrev pub settings_room : ℕ → List ℕ → State → List ℕ
settings_room v room screen = elim (viewer_at screen v) [ None ↦ room | Some viewer ↦ shown_in (settings_words (settings_of viewer)) room ]

-- a call changes nothing but a room, which shows what a viewer has set
pub record ShowsSettings (v : ℕ) (old new : Standing) (room_old room_new : List ℕ) (code : ℤ) : Type 0 where
  pub answer : MatchOption old.screen (code ≡ shut) (λ screen. code ≡ settings_code v room_old screen)
  pub room : MatchOption old.screen (room_new ≡ room_old) (λ screen. room_new ≡ settings_room v room_old screen)
  pub same : new ≡ old

-- the colour of a place, or off_screen
abbrev pub colour_at : ℕ → ℕ → State → ℤ
colour_at x y screen =
    if nat_lt x screen.picture.width && nat_lt y screen.picture.height then pos (slice_index screen.picture.colours (y * screen.picture.width + x)) else off_screen

-- whether a cut would give a viewer something
pub record TellsPending (v : ℕ) (old new : Standing) (code : ℤ) : Type 0 where
  pub answer : Answers (absence old.screen v) (λ n. (n ≡ pos 0) ⊎ (n ≡ pos 1)) code
  pub number : (c : Config) (list : List Event) → StandsFor c list old → code ≡ truth_code (something_to_send (answer_to c list (Cut v)))
  pub same : new ≡ old
