-- RRE, as RFC 6143 section 7.7.3 has it.
use Rattle.std.specs.Prelude.{ℕ, ◌*◌, nat_lt, if◌then◌else◌, pos, List, ◌++◌, length, map, flat_map}
use Rattle.pixel_translate.specs.declared.Area.{Area}
use Rattle.pixel_translate.specs.declared.PixelFormat.{PixelFormat}
use Rattle.pixel_translate.specs.Pixel.{be32, bytes_per_pixel, pixel, pixel_bytes}
use Rattle.encode_raw.specs.Raw.{head, raw}
use Rattle.subrectangles.specs.declared.Subrectangle.{Subrectangle}
use Rattle.subrectangles.specs.Bytes.{subrectangle_bytes}
use Rattle.subrectangles.specs.Subrectangles.{rows_of, background_of, subrectangles}

-- 7.7.3: how many subrectangles there are, the background, and each of them
abbrev pub rre_data : PixelFormat → ℕ → List Subrectangle → List ℕ
rre_data f b subs = be32 (length subs) ++ pixel_bytes f b ++ flat_map (subrectangle_bytes f) subs

-- the data of a rectangle whose pixels stand row by row, w in a row
abbrev pub rre_of : PixelFormat → ℕ → ℕ → List ℕ → List ℕ
rre_of f w h pixels =
    let b = background_of pixels in
    rre_data f b (subrectangles b (rows_of w h pixels))

-- 7.7.3: RRE where its data is shorter, else Raw
abbrev pub rre : PixelFormat → Area → List ℕ → List ℕ
rre f a colours =
    let coded = rre_of f a.w a.h (map (pixel f) colours) in
    if nat_lt (length coded) (a.w * a.h * bytes_per_pixel f) then head a (pos 2) ++ coded else raw f a colours
