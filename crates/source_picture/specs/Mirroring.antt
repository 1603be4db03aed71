-- What a picture shows is what its source said.
use Rattle.std.specs.Prelude.{◌≡◌, ℕ, ◌+◌, ◌*◌, ◌≤◌, ◌<◌, ◌⊎◌, Bool, true, false, not, ◌||◌, List, [], ◌∷◌, ◌++◌, length, Option, None, Some}
use Rattle.encode_raw.specs.Reading.{Shown}
use Rattle.viewer_picture.specs.Messages.{ColourMap, nothing_shown, nothing_mapped, messages_at}
use Rattle.server_reader.specs.declared.step.Step.{Step}
use Rattle.server_reader.specs.declared.step.Step.TheVariants as step
use Rattle.server_reader.specs.declared.step.Next.{Next}
use Rattle.server_reader.specs.declared.stage.Size.{Size}
use Rattle.server_reader.specs.OnPicture.{ends_update}
use Rattle.server_reader.specs.Stages.{display, reads}
use Rattle.server_reader.specs.Steps.{View, opened, shown_after, colours_after, GoesOn, point, IsStep, IsKept, is_between}
use Rattle.server_reader.specs.Readings.{HasRead}
use Rattle.server_reader.specs.Pictures.{HasColour}
use Rattle.screen.specs.declared.Config.{Config}
use Rattle.screen.specs.declared.Event.{Event}
use Rattle.screen.specs.Alone.{is_size}
use Rattle.screen.specs.Frame.{Frame}
use Rattle.screen.specs.State.{State, state}
use Rattle.screen.specs.Taken.{colour_on}
use Rattle.source_picture.specs.declared.source.DrawEnd.{DrawEnd}
use Rattle.source_picture.specs.declared.source.DrawEnd.TheVariants as end
use Rattle.source_picture.specs.declared.source.Drawn.{Drawn}
use Rattle.source_picture.specs.declared.asking.Asking.{Asking}
use Rattle.source_picture.specs.Bands.{BandView, no_band}
use Rattle.source_picture.specs.Asking.{first_asking, asked_after}
use Rattle.source_picture.specs.Texts.{TextView, text_after}

-- where a source's reader stands, what is asked of it, its text, and the pixels that wait to be taken into the picture
pub record SourceView : Type 0 where
  pub reader : View
  pub asking : Asking
  pub text : TextView
  pub waiting : BandView

-- 7.3.2: behind a ServerInit that told this size
abbrev pub begun : (width height : ℕ) → SourceView
begun width height = record { reader = opened width height; asking = first_asking; text = record { kept = []; left = 0 }; waiting = no_band }

-- its first update hasn't come whole, or a message is in the middle
abbrev pub is_owing : SourceView → Bool
is_owing v = not v.asking.has_update || not (is_between v.reader)

-- ---- steps one after the other

abbrev pub shown_behind : List Step → Shown → Shown
shown_behind [] shown = shown
shown_behind (done ∷ steps) shown = shown_behind steps (shown_after done shown)

abbrev pub colours_behind : List Step → ColourMap → ColourMap
colours_behind [] colours = colours
colours_behind (done ∷ steps) colours = colours_behind steps (colours_after done colours)

abbrev pub asked_behind : List Step → Asking → Asking
asked_behind [] asking = asking
asked_behind (done ∷ steps) asking = asked_behind steps (asked_after done asking)

abbrev pub text_behind : List Step → TextView → TextView
text_behind [] text = text
text_behind (done ∷ steps) text = text_behind steps (text_after done text)

-- of a piece nothing is read, or all of it is taken, and more is needed
abbrev pub Keeps : (before : View) (piece : List ℕ) (after : View) (rest : List ℕ) → Type 0
Keeps before piece after rest = ((after ≡ before) × (rest ≡ piece)) ⊎ (IsKept before piece after × (rest ≡ []))

-- a step is read from the front of a piece, and then others behind it; an update's end leaves the reader between messages
pub record IsReadThen (before : View) (piece : List ℕ) (done : Step) (behind : View → List ℕ → Type 0) : Type 0 where
  pub next : Next
  pub after : View
  pub read : IsStep before piece next after
  pub is : next.step ≡ done
  pub ended : ends_update next.step ≡ true → is_between after ≡ true
  pub more : behind after next.rest.now

-- a reader's steps, one after the other
abbrev pub AreRead : List Step → (before : View) (piece : List ℕ) (after : View) (rest : List ℕ) → Type 0
AreRead [] before piece after rest = Keeps before piece after rest
AreRead (done ∷ steps) before piece after rest = IsReadThen before piece done (λ now left. AreRead steps now left after rest)

-- The front of a piece of a source's bytes was read as these steps, whatever was shown, and the rest is left.
pub record IsReadAs (before : SourceView) (piece : List ℕ) (steps : List Step) (after : SourceView) (rest : List ℕ) : Type 0 where
  pub read : AreRead steps before.reader piece after.reader rest
  pub goes : (shown : Shown) (colours : ColourMap)
      → GoesOn (record { view = before.reader; shown = shown; colours = colours; left = piece })
      (record { view = after.reader; shown = shown_behind steps shown; colours = colours_behind steps colours; left = rest })
  pub asked : after.asking ≡ asked_behind steps before.asking
  pub text : after.text ≡ text_behind steps before.text

abbrev pub IsRead : (before : SourceView) (piece : List ℕ) (after : SourceView) (rest : List ℕ) → Type 0
IsRead before piece after rest = (steps : List Step) × IsReadAs before piece steps after rest

-- how much work a step is: as many places as it draws, and 64 more
abbrev pub cost_of : Step → ℕ
cost_of (step.Pixels a bytes) = a.w * a.h + 64
cost_of (step.Fill a pixel) = a.w * a.h + 64
cost_of (step.Copy a x y) = a.w * a.h + 64
cost_of _ = 64

abbrev pub costs_of : List Step → ℕ
costs_of [] = 0
costs_of (done ∷ steps) = cost_of done + costs_of steps

-- how much of a piece is read at least, where all of it is more
abbrev pub share : ℕ
share = 65536

-- steps that are at least so much work
abbrev pub IsReadFor : (work : ℕ) (before : SourceView) (piece : List ℕ) (after : SourceView) (rest : List ℕ) → Type 0
IsReadFor work before piece after rest = (steps : List Step) × IsReadAs before piece steps after rest × (work ≤ costs_of steps)

-- The front of a piece was read, and its end is left: nothing, or what stands behind a share of work.
pub record IsShare (before : SourceView) (piece : List ℕ) (after : SourceView) (rest : List ℕ) : Type 0 where
  pub front : List ℕ
  pub end : piece ≡ front ++ rest
  pub steps : List Step
  pub read : IsReadAs before piece steps after rest
  pub enough : 0 < length rest → share ≤ costs_of steps

-- one step of it
pub record IsNext (before : SourceView) (piece : List ℕ) (next : Next) (after : SourceView) : Type 0 where
  pub read : IsStep before.reader piece next after.reader
  pub ended : ends_update next.step ≡ true → is_between after.reader ≡ true
  pub asked : after.asking ≡ asked_after next.step before.asking
  pub text : after.text ≡ text_after next.step before.text

-- ---- mirrors

-- A picture has the size that a source told last, and at each of its places that shows something, the colour of the pixel shown there.
pub record Mirrors (reader : View) (shown : Shown) (picture : Frame) : Type 0 where
  pub wide : picture.width ≡ reader.state.size.width
  pub high : picture.height ≡ reader.state.size.height
  pub colours : (x y : ℕ) → x < picture.width → y < picture.height → HasColour (shown x y) (colour_on picture x y)

-- A picture that mirrored what was shown before mirrors what is shown behind the steps that were read.
pub record IsMirrored (before : SourceView) (piece : List ℕ) (after : SourceView) (rest : List ℕ) (old new : Frame) : Type 0 where
  pub steps : List Step
  pub read : IsReadAs before piece steps after rest
  pub mirrors : (shown : Shown) → Mirrors before.reader shown old → Mirrors after.reader (shown_behind steps shown) new

-- one step of it
pub record IsMirroredNext (before : SourceView) (piece : List ℕ) (after : SourceView) (rest : List ℕ) (old new : Frame) : Type 0 where
  pub next : Next
  pub read : IsNext before piece next after
  pub left : next.rest.now ≡ rest
  pub mirrors : (shown : Shown) → Mirrors before.reader shown old → Mirrors after.reader (shown_after next.step shown) new

-- a step, or none where more is needed
abbrev pub ReadsNext : (before : SourceView) (piece : List ℕ) (after : SourceView) → Option Drawn → Type 0
ReadsNext before piece after None = IsReadAs before piece [] after []
ReadsNext before piece after (Some drawn) = (next : Next) × IsNext before piece next after × (next.rest.now ≡ drawn.rest.now) × (drawn.cost ≡ cost_of next.step)

abbrev pub MirrorsNext : (before : SourceView) (piece : List ℕ) (after : SourceView) (old new : Frame) → Option Drawn → Type 0
MirrorsNext before piece after old new None = IsMirrored before piece after [] old new
MirrorsNext before piece after old new (Some drawn) = IsMirroredNext before piece after drawn.rest.now old new

-- a screen stands for a list of events with more behind it
abbrev pub StandsOn : Config → List Event → State → Type 0
StandsOn c list s = (more : List Event) × (s ≡ state c (list ++ more))

-- the screen stands for more events, and its picture goes on mirroring the source
abbrev pub GoesOnMirroring : Config → List Event → (before : SourceView) (piece : List ℕ) (after : SourceView) (rest : List ℕ) → (old new : State) → Type 0
GoesOnMirroring c list before piece after rest old new = StandsOn c list new × IsMirrored before piece after rest old.picture new.picture

-- ---- ends

-- whatever was shown, and whatever follows: what began before a piece and goes on with it has no reading
abbrev pub GivesNoReading : (before : View) (piece : List ℕ) → Type 0
GivesNoReading before piece = (shown : Shown) (colours : ColourMap) (later : List ℕ) (n : ℕ) → length (before.held ++ (piece ++ later)) ≤ n
    → reads n (point (record { view = before; shown = shown; colours = colours; left = piece }) later) ≡ None

-- why no more is drawn: no message goes on with the piece; the size told last is no screen's; or for want of memory
abbrev pub HasEnded : DrawEnd → (before : View) (piece : List ℕ) (after : View) → Type 0
HasEnded (end.Fault fault) before piece after = GivesNoReading before piece
HasEnded end.Size before piece after = is_size after.state.size.width after.state.size.height ≡ false
HasEnded end.Memory before piece after = Unit {0}

-- ---- from the ServerInit on

-- A source's bytes since its ServerInit told this size, what is known of it, and a picture that mirrors what its steps show.
pub record HasMirrored (size : Size) (bytes : List ℕ) (view : SourceView) (picture : Frame) : Type 0 where
  pub shown : Shown
  pub colours : ColourMap
  pub read : HasRead (record { size = size; first = nothing_shown; map = nothing_mapped; view = view.reader; shown = shown; colours = colours }) bytes
  pub mirrors : Mirrors view.reader shown picture

-- what a viewer shows that read bytes behind such a ServerInit: each place that shows something has its colour
pub record ShowsAll (size : Size) (bytes : List ℕ) (picture : Frame) : Type 0 where
  pub now : Size
  pub shown : Shown
  pub colours : ColourMap
  pub read : messages_at (display size nothing_shown nothing_mapped) bytes ≡ Some (display now shown colours)
  pub wide : picture.width ≡ now.width
  pub high : picture.height ≡ now.height
  pub mirrored : (x y : ℕ) → x < picture.width → y < picture.height → HasColour (shown x y) (colour_on picture x y)

-- Bytes since the ServerInit, in pieces of whatever length, drawn one after the other, are on the picture as a viewer shows them.
pub record MirrorsAsTheRfc : Type 0 where
  pub begins : (width height : ℕ) (picture : Frame) → picture.width ≡ width → picture.height ≡ height → HasMirrored (record { width = width; height = height }) [] (begun width height) picture
  -- a piece is drawn
  pub drawn : (size : Size) (bytes piece : List ℕ) (before after : SourceView) (old new : Frame) → HasMirrored size bytes before old → IsMirrored before piece after [] old new
      → HasMirrored size (bytes ++ piece) after new
  -- between messages, and so behind each whole update
  pub shows : (size : Size) (bytes : List ℕ) (view : SourceView) (picture : Frame) → HasMirrored size bytes view picture → is_between view.reader ≡ true → ShowsAll size bytes picture
  -- behind a fault
  pub refuses : (size : Size) (bytes piece : List ℕ) (view : SourceView) (picture : Frame) → HasMirrored size bytes view picture → GivesNoReading view.reader piece
      → (later : List ℕ) → messages_at (display size nothing_shown nothing_mapped) (bytes ++ piece ++ later) ≡ None
