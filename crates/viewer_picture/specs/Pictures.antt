-- When what a viewer shows is what is drawn (RFC 6143, 3 and 7.6.1).
use Rattle.std.specs.Prelude.{◌≡◌, ℕ, true, false, if◌then◌else◌, List, ℤ, ◌-ℤ◌, nat_abs, Option, None, Some}
use Rattle.pixel_translate.specs.declared.PixelFormat.{PixelFormat}
use Rattle.pixel_translate.specs.Pixel.{pixel}
use Rattle.region.specs.Region.{on_screen}
use Rattle.encode_raw.specs.Reading.{Dot, Shown}
use Rattle.copy_schedule.specs.declared.Mark.TheVariants.{Clean, Copied}
use Rattle.copy_schedule.specs.Marks.{Marks, is_copied, is_owed, mark_at}
use Rattle.framebuffer.specs.Picture.{colour_at}

-- what a place of the screen shows
abbrev pub dot_at : Shown → ℤ → ℤ → Option Dot
dot_at shown x y = shown (nat_abs x) (nat_abs y)

-- it shows a colour: the colour's pixel in some format (7.4)
abbrev pub ShowsColour : Option Dot → ℕ → Type 0
ShowsColour dot colour = (f : PixelFormat) × (dot ≡ Some (record { format = f; pixel = pixel f colour }))

-- Of a w by h screen each clean place shows its colour; and of a place that awaits a copy, the place that the copy is from is on the screen
-- and shows its colour (7.7.2).
pub record ShowsPicture (w h : ℕ) (picture : List ℕ) (marks : Marks) (shown : Shown) : Type 0 where
  pub clean : (x y : ℤ) → on_screen w h x y ≡ true → mark_at marks x y ≡ Clean → ShowsColour (dot_at shown x y) (colour_at w h picture x y)
  pub copied : (x y : ℤ) → on_screen w h x y ≡ true → mark_at marks x y ≡ Copied
      → (on_screen w h (x -ℤ marks.offset.0) (y -ℤ marks.offset.1) ≡ true) × ShowsColour (dot_at shown (x -ℤ marks.offset.0) (y -ℤ marks.offset.1)) (colour_at w h picture x y)

-- something is shown, and it is the colour's pixel in the format in which it is shown
abbrev pub IsPixelOf : Option Dot → ℕ → Type 0
IsPixelOf None colour = ⊥
IsPixelOf (Some dot) colour = dot.pixel ≡ pixel dot.format colour

-- what a place would show once each copy that is awaited was made
abbrev pub once_copied : Marks → Shown → ℤ → ℤ → Option Dot
once_copied marks shown x y = if is_copied (mark_at marks x y) then dot_at shown (x -ℤ marks.offset.0) (y -ℤ marks.offset.1) else dot_at shown x y

-- Then each place that isn't owed shows its colour; and each copy is from the screen.
pub record ShowsOnceCopied (w h : ℕ) (picture : List ℕ) (marks : Marks) (shown : Shown) : Type 0 where
  pub shows : (x y : ℤ) → on_screen w h x y ≡ true → is_owed (mark_at marks x y) ≡ false → IsPixelOf (once_copied marks shown x y) (colour_at w h picture x y)
  pub sources : (x y : ℤ) → on_screen w h x y ≡ true → is_copied (mark_at marks x y) ≡ true → on_screen w h (x -ℤ marks.offset.0) (y -ℤ marks.offset.1) ≡ true

-- a viewer shows a picture by its marks exactly where it would show all but what is owed once it made the copies
pub record PicturesAreOwedOrShown : Type 0 where
  pub enough : (w h : ℕ) (picture : List ℕ) (marks : Marks) (shown : Shown)
      → ShowsPicture w h picture marks shown → ShowsOnceCopied w h picture marks shown
  pub needed : (w h : ℕ) (picture : List ℕ) (marks : Marks) (shown : Shown)
      → ShowsOnceCopied w h picture marks shown → ShowsPicture w h picture marks shown
