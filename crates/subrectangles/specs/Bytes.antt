-- A subrectangle's bytes, as RFC 6143 section 7.7.3 has them.
use Rattle.std.proofs.Common.{◌≡◌, ℕ, suc, ◌+◌, ◌*◌, ◌++◌, List, [], ◌∷◌, length, sym, ◌∙◌, arith, length-append, zero-mul}
use Rattle.std.proofs.Math.Nat.{suc-mul}
use Rattle.std.specs.List.{flat_map}
use Rattle.pixel_translate.specs.declared.PixelFormat.{PixelFormat}
use Rattle.pixel_translate.specs.Pixel.{be16, bytes_per_pixel, pixel_bytes}
use Rattle.pixel_translate.specs.Bounds.{pixel_length}
use Rattle.subrectangles.specs.declared.Subrectangle.{Subrectangle}

-- 7.7.3: a subrectangle's pixel, place and size
abbrev pub subrectangle_bytes : PixelFormat → Subrectangle → List ℕ
subrectangle_bytes f s = pixel_bytes f s.pixel ++ be16 s.x ++ be16 s.y ++ be16 s.w ++ be16 s.h

-- how many they are
pub sub_length : (f : PixelFormat) (s : Subrectangle) → length (subrectangle_bytes f s) ≡ bytes_per_pixel f + 8
sub_length f s = simp length-append (omega (arith, pixel_length f s.pixel))

pub subs_length : (f : PixelFormat) (subs : List Subrectangle) → length (flat_map (subrectangle_bytes f) subs) ≡ length subs * (bytes_per_pixel f + 8)
subs_length f [] = sym (zero-mul (bytes_per_pixel f + 8))
subs_length f (s ∷ subs) =
    let more = subs_length f subs in
    let e : suc (length subs) * (bytes_per_pixel f + 8) ≡ length subs * (bytes_per_pixel f + 8) + (bytes_per_pixel f + 8) = suc-mul (length subs) (bytes_per_pixel f + 8) in
    length-append (subrectangle_bytes f s) (flat_map (subrectangle_bytes f) subs) ∙ omega (arith, more, sub_length f s, e)
