-- What a step of a source does to a picture.
use Rattle.std.specs.Prelude.{◌≡◌, ℕ, ◌-◌, ◌+◌, ◌*◌, ◌<◌, ◌≤◌, ◌⊎◌, false, if◌then◌else◌, List}
use Rattle.pixel_translate.specs.declared.Area.{Area}
use Rattle.encode_raw.specs.Reading.{is_inside}
use Rattle.server_reader.specs.declared.step.Step.{Step}
use Rattle.server_reader.specs.declared.step.Step.TheVariants as step
use Rattle.server_reader.specs.declared.stage.Size.{Size}
use Rattle.server_reader.specs.OnPicture.{StepIsOn}
use Rattle.server_reader.specs.Groups.{pixel_in}
use Rattle.server_reader.specs.Steps.{rows_in}
use Rattle.server_reader.specs.Pictures.{Picture, colour_of, picture_drawn}
use Rattle.screen.specs.declared.ScreenError.{ScreenError}
use Rattle.screen.specs.declared.ScreenError.TheVariants as refusal
use Rattle.screen.specs.Alone.{is_size}
use Rattle.screen.specs.Frame.{Frame}
use Rattle.screen.specs.Taken.{colour_on}

-- an area has a colour at each place within it
abbrev pub coloured : Area → Picture → Picture → Picture
coloured a colour picture x y = if is_inside a x y then colour (x - a.x) (y - a.y) else picture x y

-- 7.7.1: an area has pixels
abbrev pub with_pixels : Area → (bytes : List ℕ) → Picture → Picture
with_pixels a bytes = coloured a (λ x y. colour_of (rows_in a.w bytes x y))

-- an area has pixels whose rows begin a stride of bytes behind the one above
abbrev pub with_rows : Area → (bytes : List ℕ) (stride : ℕ) → Picture → Picture
with_rows a bytes stride = coloured a (λ x y. colour_of (pixel_in bytes (stride * y + 4 * x)))

-- an area has one pixel
abbrev pub with_pixel : Area → (pixel : ℕ) → Picture → Picture
with_pixel a pixel = coloured a (λ x y. colour_of pixel)

-- 7.7.2: an area has what the area of its size at another place had
abbrev pub with_copy : Area → (from_x from_y : ℕ) → Picture → Picture
with_copy a from_x from_y picture = coloured a (λ x y. picture (x + from_x) (y + from_y)) picture

-- a picture keeps its size, and has at each of its places what a change makes of it
pub record IsPainted (change : Picture → Picture) (old new : Frame) : Type 0 where
  pub wide : new.width ≡ old.width
  pub high : new.height ≡ old.height
  pub colours : (x y : ℕ) → x < old.width → y < old.height → colour_on new x y ≡ change (colour_on old) x y

-- 7.8.2: a picture has a size
pub record HasSize (width height : ℕ) (f : Frame) : Type 0 where
  pub wide : f.width ≡ width
  pub high : f.height ≡ height

-- A step is done to a picture: each place has what it is to have, or the picture has the step's size.
abbrev pub IsDone : Step → (old new : Frame) → Type 0
IsDone (step.Size width height) old new = HasSize width height new
IsDone done old new = IsPainted (picture_drawn done) old new

-- what a reader's steps keep to on a picture of its size: areas that lie on it, and as many pixels as places
abbrev pub LiesOn : Step → Frame → Type 0
LiesOn done f = StepIsOn (record { width = f.width; height = f.height }) done

-- an area lies on a picture
pub record IsOnFrame (x y w h : ℕ) (f : Frame) : Type 0 where
  pub right : x + w ≤ f.width
  pub bottom : y + h ≤ f.height

-- a step is refused for want of memory, or since a picture of this size is no screen's
abbrev pub IsRefusedFor : Size → ScreenError → Type 0
IsRefusedFor size why = (why ≡ refusal.OutOfMemory) ⊎ (is_size size.width size.height ≡ false)
