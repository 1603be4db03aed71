-- What a session says of what was recorded, and what can be said.
use Rattle.std.specs.Prelude.{◌≡◌, ⊤, ℕ, ℤ, ◌*◌, ◌%◌, ◌^◌, ◌<◌, ◌≤◌, true, None, List, length, map, nat_abs, ◌-ℤ◌, FitsSigned}
use Rattle.std.specs.Int.{w32}
use Rattle.std.specs.List.{AllByRecursion}
use Rattle.region.specs.declared.Rect.{Rect}
use Rattle.scene.specs.Alone.{is_within, config_refusal}
use Rattle.screen.specs.declared.Config.{Config}
use Rattle.screen.specs.declared.History.TheVariants.{NotKept}
use Rattle.screen.specs.declared.Event.{Event}
use Rattle.screen.specs.declared.Event.TheVariants as event
use Rattle.play_script.specs.Words.{number_limit}
use Rattle.replay.specs.Sessions.{Session}

-- red, green and blue; what stands above them isn't said
abbrev pub said_colours : List ℕ → List ℕ
said_colours cs = map (λ c. c % 0x100_0000) cs

-- an event without what stands above its colours
abbrev pub said_event : Event → Event
said_event (event.Write rect colours) = event.Write rect (said_colours colours)
said_event (event.Paint rect colours) = event.Paint rect (said_colours colours)
said_event e = e

-- a session doesn't say whether the events were kept
abbrev pub said_config : Config → Config
said_config c = record c { history = NotKept }

-- what a session says of a screen and of what happened to it
abbrev pub said_session : Config → List Event → Session
said_session c es = record { config = said_config c; events = map said_event es }

-- What a line can say is sound.

abbrev pub AreBytes : List ℕ → Type 0
AreBytes bytes = AllByRecursion (λ b. b < 256) bytes

pub record AreCorners (r : Rect) : Type 0 where
  pub x1 : FitsSigned w32 r.x1
  pub y1 : FitsSigned w32 r.y1
  pub x2 : FitsSigned w32 r.x2
  pub y2 : FitsSigned w32 r.y2

pub record AreMoved (rects : List Rect) (dx dy : ℤ) : Type 0 where
  pub corners : AllByRecursion AreCorners rects
  pub right : FitsSigned w32 dx
  pub down : FitsSigned w32 dy

-- 0 <= x1 <= x2 < 2^31, and likewise y; and a colour for each place, at most 2^24
pub record AreColoursOf (r : Rect) (colours : List ℕ) : Type 0 where
  pub within : is_within number_limit number_limit r ≡ true
  pub count : length colours ≡ nat_abs (r.x2 -ℤ r.x1) * nat_abs (r.y2 -ℤ r.y1)
  pub few : length colours ≤ 2 ^ 24

abbrev pub IsSound : Event → Type 0
IsSound (event.Write rect colours) = AreColoursOf rect colours
IsSound (event.Paint rect colours) = AreColoursOf rect colours
IsSound (event.Mark rects) = AllByRecursion AreCorners rects
IsSound (event.ScheduleCopy rects dx dy) = AreMoved rects dx dy
IsSound (event.DoCopy rects dx dy) = AreMoved rects dx dy
IsSound event.Bell = ⊤
IsSound (event.CutText text) = AreBytes text
IsSound (event.Resize width height) = (width < 2 ^ 31) × (height < 2 ^ 31)
IsSound (event.Connect viewer) = viewer < 2 ^ 64
IsSound (event.Hear viewer piece) = (viewer < 2 ^ 64) × AreBytes piece
IsSound (event.Cut viewer) = viewer < 2 ^ 64
IsSound (event.Close viewer) = viewer < 2 ^ 64

pub record IsSoundConfig (c : Config) : Type 0 where
  pub width : c.width < 2 ^ 31
  pub height : c.height < 2 ^ 31
  pub name : AreBytes c.name
  pub limit : c.rects_per_update < 2 ^ 31

abbrev pub AreSound : Config → List Event → Type 0
AreSound c es = IsSoundConfig c × AllByRecursion IsSound es

-- An event of values of their types. Numbers that a screen refuses where they are too large are left out.
abbrev pub IsTyped : Event → Type 0
IsTyped (event.Mark rects) = AllByRecursion AreCorners rects
IsTyped (event.ScheduleCopy rects dx dy) = AreMoved rects dx dy
IsTyped (event.DoCopy rects dx dy) = AreMoved rects dx dy
IsTyped (event.CutText text) = AreBytes text
IsTyped (event.Connect viewer) = viewer < 2 ^ 64
IsTyped (event.Hear viewer piece) = (viewer < 2 ^ 64) × AreBytes piece
IsTyped (event.Cut viewer) = viewer < 2 ^ 64
IsTyped (event.Close viewer) = viewer < 2 ^ 64
IsTyped _ = ⊤

-- a screen that is not refused, and events
pub record IsRun (c : Config) (list : List Event) : Type 0 where
  pub screen : config_refusal c ≡ None
  pub name : AreBytes c.name
  pub events : AllByRecursion IsTyped list
