-- How a viewer reads RRE, by RFC 6143 section 7.7.3 alone: any subrectangles.
use Rattle.std.specs.Prelude.{ℕ, zero, suc, if◌then◌else◌, List, Option, Some}
use Rattle.std.specs.Int.{w16, w32}
use Rattle.pixel_translate.specs.declared.PixelFormat.{PixelFormat}
use Rattle.encode_raw.specs.Reading.{◌>>=◌, number_at, pixel_at, Patch, is_inside}
use Rattle.subrectangles.specs.declared.Subrectangle.{Subrectangle}

-- 7.7.3: a subrectangle's pixel, place and size
abbrev pub subrectangle_at : PixelFormat → List ℕ → Option (Subrectangle × List ℕ)
subrectangle_at f bytes = do
  pixel ← pixel_at f bytes
  x ← number_at w16 pixel.1
  y ← number_at w16 x.1
  w ← number_at w16 y.1
  h ← number_at w16 w.1
  Some (record { x = x.0; y = y.0; w = w.0; h = h.0; pixel = pixel.0 }, h.1)

-- 7.7.3: the subrectangle painted over what is there
abbrev pub painted : Subrectangle → Patch → Patch
painted s patch x y = if is_inside (record { x = s.x; y = s.y; w = s.w; h = s.h }) x y then s.pixel else patch x y

-- so many subrectangles, painted one after the other
unfoldable pub subrectangles_at : PixelFormat → ℕ → Patch → List ℕ → Option (Patch × List ℕ)
subrectangles_at f zero patch bytes = Some (patch, bytes)
subrectangles_at f (suc n) patch bytes = do
  s ← subrectangle_at f bytes
  subrectangles_at f n (painted s.0 patch) s.1

-- 7.7.3: the background, and the subrectangles over it
abbrev pub rre_at : PixelFormat → List ℕ → Option (Patch × List ℕ)
rre_at f bytes = do
  count ← number_at w32 bytes
  background ← pixel_at f count.1
  subrectangles_at f count.0 (λ x y. background.0) background.1
