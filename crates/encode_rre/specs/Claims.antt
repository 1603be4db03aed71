-- What a viewer shows that reads a rectangle back.
use Rattle.std.specs.Prelude.{◌≡◌, ℕ, ℤ, pos, ◌<◌, ◌*◌, ◌⊎◌, List, ◌++◌, length, Some}
use Rattle.pixel_translate.specs.declared.Area.{Area}
use Rattle.pixel_translate.specs.declared.PixelFormat.{PixelFormat}
use Rattle.pixel_translate.specs.Pixel.{IsArea}
use Rattle.encode_raw.specs.Reading.{head_at, raw_at, Shown, Patch, patched}
use Rattle.encode_raw.specs.Claims.{pixels_of}
use Rattle.encode_rre.specs.Rre.{rre}
use Rattle.subrectangles.specs.Reading.{rre_at}

-- 7.7: the pixels of a rectangle, by its encoding: Raw is 0, and RRE is 2
abbrev pub IsReadAs : PixelFormat → Area → ℤ → List ℕ → Patch → List ℕ → Type 0
IsReadAs f a encoding body patch more =
    ((encoding ≡ pos 0) × (raw_at f a.w a.h body ≡ Some (patch, more)))
    ⊎ ((encoding ≡ pos 2) × (rre_at f body ≡ Some (patch, more)))

-- A rectangle, with whatever follows it, is read as its head and its pixels, and shows each colour's pixel at its place.
pub record ReadsBack (f : PixelFormat) (a : Area) (colours more : List ℕ) : Type 0 where
  pub encoding : ℤ
  pub body : List ℕ
  pub patch : Patch
  pub head : head_at (rre f a colours ++ more) ≡ Some (record { area = a; encoding = encoding }, body)
  pub pixels : IsReadAs f a encoding body patch more
  pub shown : (before : Shown) (x y : ℕ) → patched f a patch before x y ≡ patched f a (pixels_of f a.w colours) before x y

-- each one that has as many colours as places
abbrev pub rre_reads_back : Type 0
rre_reads_back = (f : PixelFormat) (a : Area) (colours more : List ℕ) → IsArea a → 0 < length colours → length colours ≡ a.w * a.h → ReadsBack f a colours more
