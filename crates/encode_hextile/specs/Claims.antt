-- What a viewer shows that reads a rectangle back.
use Rattle.std.specs.Prelude.{◌≡◌, ℕ, pos, ◌<◌, ◌*◌, List, ◌++◌, length, Some}
use Rattle.pixel_translate.specs.declared.Area.{Area}
use Rattle.pixel_translate.specs.declared.PixelFormat.{PixelFormat}
use Rattle.pixel_translate.specs.Pixel.{IsArea}
use Rattle.encode_raw.specs.Reading.{head_at, Shown, Patch, patched}
use Rattle.encode_raw.specs.Claims.{pixels_of}
use Rattle.encode_hextile.specs.Hextile.{hextile}
use Rattle.encode_hextile.specs.Reading.{hextile_at}

-- A rectangle in Hextile, with whatever follows it, is read as its head and its pixels, and shows each colour's pixel at its place.
pub record ReadsBack (f : PixelFormat) (a : Area) (colours more : List ℕ) : Type 0 where
  pub body : List ℕ
  pub patch : Patch
  pub head : head_at (hextile f a colours ++ more) ≡ Some (record { area = a; encoding = pos 5 }, body)
  pub pixels : hextile_at f a.w a.h body ≡ Some (patch, more)
  pub shown : (before : Shown) (x y : ℕ) → patched f a patch before x y ≡ patched f a (pixels_of f a.w colours) before x y

-- each one that has as many colours as places
abbrev pub hextile_reads_back : Type 0
hextile_reads_back = (f : PixelFormat) (a : Area) (colours more : List ℕ) → IsArea a → 0 < length colours → length colours ≡ a.w * a.h → ReadsBack f a colours more
