-- What a viewer shows that reads a rectangle back.
use Rattle.std.specs.Prelude.{◌≡◌, ℕ, pos, ◌+◌, ◌*◌, List, ◌++◌, length, slice_index, Some}
use Rattle.pixel_translate.specs.declared.Area.{Area}
use Rattle.pixel_translate.specs.declared.PixelFormat.{PixelFormat}
use Rattle.pixel_translate.specs.Pixel.{IsArea, pixel}
use Rattle.encode_raw.specs.Raw.{raw}
use Rattle.encode_raw.specs.Reading.{head_at, raw_at, Shown, Patch, patched}

-- the pixels of a rectangle's colours, row by row
abbrev pub pixels_of : PixelFormat → ℕ → List ℕ → Patch
pixels_of f w colours x y = pixel f (slice_index colours (y * w + x))

-- A rectangle in Raw, with whatever follows it, is read as its head and its pixels, and shows each colour's pixel at its place.
pub record ReadsBack (f : PixelFormat) (a : Area) (colours more : List ℕ) : Type 0 where
  pub body : List ℕ
  pub patch : Patch
  pub head : head_at (raw f a colours ++ more) ≡ Some (record { area = a; encoding = pos 0 }, body)
  pub pixels : raw_at f a.w a.h body ≡ Some (patch, more)
  pub shown : (before : Shown) (x y : ℕ) → patched f a patch before x y ≡ patched f a (pixels_of f a.w colours) before x y

-- each one that has as many colours as places
abbrev pub raw_reads_back : Type 0
raw_reads_back = (f : PixelFormat) (a : Area) (colours more : List ℕ) → IsArea a → length colours ≡ a.w * a.h → ReadsBack f a colours more
