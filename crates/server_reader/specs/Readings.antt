-- What a reader's steps show is what a viewer shows, by RFC 6143 section 7.6.
use Rattle.std.specs.Prelude.{◌≡◌, ℕ, true, false, List, [], ◌++◌, None, Some, IsSome}
use Rattle.encode_raw.specs.Reading.{Shown}
use Rattle.viewer_picture.specs.Messages.{ColourMap, messages_at}
use Rattle.server_reader.specs.declared.step.Next.{Next}
use Rattle.server_reader.specs.declared.stage.Size.{Size}
use Rattle.server_reader.specs.Stages.{display}
use Rattle.server_reader.specs.Steps.{View, IsView, opened, ReadingPoint, GoesOn, shown_after, colours_after, IsStep, IsKept, IsNoMessage, is_faulted, is_between}

-- a new reader, over whatever is shown, which is yet to be told bytes
abbrev pub start : Size → Shown → ColourMap → List ℕ → ReadingPoint
start size shown colours bytes = record { view = opened size.width size.height; shown = shown; colours = colours; left = bytes }

-- What a reader began over, and where it is: its view, and what its steps show.
pub record Reading : Type 0 where
  pub size : Size
  pub first : Shown
  pub map : ColourMap
  pub view : View
  pub shown : Shown
  pub colours : ColourMap

-- it read these bytes since its ServerInit: whatever follows, a viewer reads on from there
abbrev pub HasRead : Reading → List ℕ → Type 0
HasRead r bytes = GoesOn (start r.size r.first r.map bytes) (record { view = r.view; shown = r.shown; colours = r.colours; left = [] })

-- a new one
abbrev pub begun : Size → Shown → ColourMap → Reading
begun size shown colours = record { size = size; first = shown; map = colours; view = opened size.width size.height; shown = shown; colours = colours }

-- behind a step
abbrev pub stepped : Reading → Next → View → Reading
stepped r next after = record r { view = after; shown = shown_after next.step r.shown; colours = colours_after next.step r.colours }

-- Bytes since the ServerInit, in pieces of whatever length, are read step by step as they are read at once.
pub record ReadsAsTheRfc : Type 0 where
  pub begins : (size : Size) (shown : Shown) (colours : ColourMap) → HasRead (begun size shown colours) []
  -- a step reads the front of a piece
  pub step : (r : Reading) (bytes piece : List ℕ) (next : Next) (after : View) → HasRead r bytes → (s : IsStep r.view piece next after)
      → HasRead (stepped r next after) (bytes ++ s.front)
  -- where more is needed, all of a piece was read
  pub kept : (r : Reading) (bytes piece : List ℕ) (after : View) → HasRead r bytes → IsKept r.view piece after → HasRead (record r { view = after }) (bytes ++ piece)
  -- between messages the steps show what a viewer shows that reads all bytes
  pub shows : (r : Reading) (bytes : List ℕ) → HasRead r bytes → is_between r.view ≡ true
      → messages_at (display r.size r.first r.map) bytes ≡ Some (display r.view.state.size r.shown r.colours)
  -- behind a fault, whatever follows has no reading
  pub refuses : (r : Reading) (bytes piece : List ℕ) → HasRead r bytes → IsNoMessage r.view piece
      → (later : List ℕ) → messages_at (display r.size r.first r.map) (bytes ++ piece ++ later) ≡ None
  -- Without a fault, and with no part of a group held, something that follows has one: a fault comes with the last byte of its group.
  pub refuses_at_once : (r : Reading) (bytes : List ℕ) → HasRead r bytes → IsView r.view → r.view.held ≡ [] → is_faulted r.view.state.stage ≡ false
      → (later : List ℕ) × IsSome (messages_at (display r.size r.first r.map) (bytes ++ later))
