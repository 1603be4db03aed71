-- A picture to which steps are done.
use Rattle.std.specs.Prelude.{◌≡◌, ℕ, ◌+◌, ◌-◌, ◌%◌, ◌^◌, if◌then◌else◌, Option, None, Some}
use Rattle.encode_raw.specs.Reading.{Dot, Shown, is_inside}
use Rattle.server_reader.specs.declared.step.Step.{Step}
use Rattle.server_reader.specs.declared.step.Step.TheVariants as step
use Rattle.server_reader.specs.Steps.{rows_in, shown_after}

-- the colour 0x00RRGGBB of each place
abbrev pub Picture : Type 0
Picture = (x y : ℕ) → ℕ

-- 7.4: a pixel's top byte says nothing
abbrev pub colour_of : (pixel : ℕ) → ℕ
colour_of pixel = pixel % 2 ^ 24

-- what the caller does; what a new size leaves is its own choice
abbrev pub picture_drawn : Step → Picture → Picture
picture_drawn (step.Pixels a bytes) picture x y = if is_inside a x y then colour_of (rows_in a.w bytes.now (x - a.x) (y - a.y)) else picture x y
picture_drawn (step.Fill a pixel) picture x y = if is_inside a x y then colour_of pixel else picture x y
picture_drawn (step.Copy a from_x from_y) picture x y = if is_inside a x y then picture (x - a.x + from_x) (y - a.y + from_y) else picture x y
picture_drawn _ picture x y = picture x y

abbrev pub HasColour : Option Dot → (colour : ℕ) → Type 0
HasColour None colour = Unit {0}
HasColour (Some dot) colour = colour ≡ colour_of dot.pixel

-- each place that shows something has its colour
abbrev pub Agrees : Picture → Shown → Type 0
Agrees picture shown = (x y : ℕ) → HasColour (shown x y) (picture x y)

-- a picture to which each step is done agrees with what the steps show
abbrev pub drawn_agrees : Type 0
drawn_agrees = (done : Step) (picture : Picture) (shown : Shown) → Agrees picture shown → Agrees (picture_drawn done picture) (shown_after done shown)
