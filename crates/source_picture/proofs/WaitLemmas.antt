-- What waits, and the picture that it is taken into.
use Rattle.std.proofs.Common.{◌≡◌, ℕ, ◌+◌, ◌-◌, ◌*◌, ◌<◌, ◌≤◌, max, Bool, true, false, cond, List, take, drop, refl, sym, ap, ◌∙◌, arith}
use Rattle.std.specs.Prelude.{◌==◌}
use Rattle.std.proofs.lemmas.Bool.Decides.{nat_tests}
use Rattle.pixel_translate.specs.declared.Area.{Area}
use Rattle.encode_raw.specs.Reading.{is_inside}
use Rattle.source_pixels.specs.declared.formats.SourceFormat.TheVariants as kind
use Rattle.source_pixels.specs.Formats.{colour_of, server_format}
use Rattle.source_pixels.specs.Source as source
use Rattle.source_pixels.specs.Source.{source_refusal}
use Rattle.screen.specs.Frame.{Frame}
use Rattle.screen.specs.Taken.{taken, colour_on}
use Rattle.server_reader.specs.Groups.{pixel_in}
use Rattle.server_reader.specs.Pictures as reader
use Rattle.server_reader.specs.Pictures.{Picture}
use Rattle.source_picture.specs.Bands.{BandView, beside, GoesOnWith, rows_of, with_band}
use Rattle.source_picture.specs.Painting.{coloured, with_rows, with_pixels, with_pixel, IsPainted}
use Rattle.source_picture.proofs.ColourLemmas.{pixel_colour}
use Rattle.source_picture.proofs.PaintLemmas.{taken_to}

-- a band's pixels
abbrev colour_in : (bytes : List ℕ) → Picture
colour_in bytes x y = reader.colour_of (pixel_in bytes (4 * (y * 2048 + x)))

none_in : (a : Area) (x y : ℕ) → a.w ≡ 0 → is_inside a x y ≡ false
none_in a x y none = grind (arith, nat_tests)

is_zero : (w : ℕ) → (w == 0) ≡ true → w ≡ 0
is_zero w e = grind (arith, nat_tests)

pub nothing_waits : (b : BandView) (f : Frame) → b.area.w ≡ 0 → with_band b f ≡ f
nothing_waits b f none = ap (λ w. cond (w == 0) f (taken (rows_of b.area b.bytes 8192) b.area.x b.area.y f)) none

pub some_wait : (b : BandView) (f : Frame) → (b.area.w == 0) ≡ false → with_band b f ≡ taken (rows_of b.area b.bytes 8192) b.area.x b.area.y f
some_wait b f some = ap (λ t. cond t f (taken (rows_of b.area b.bytes 8192) b.area.x b.area.y f)) some

taken_band : (b : BandView) (f : Frame) → IsPainted (coloured b.area (colour_in b.bytes)) f (taken (rows_of b.area b.bytes 8192) b.area.x b.area.y f)
taken_band b f = taken_to (rows_of b.area b.bytes 8192) b.area (colour_in b.bytes) f refl refl (λ x y left top. each x y)
  where
    each : (x y : ℕ) → source.colour_at (rows_of b.area b.bytes 8192) x y ≡ colour_in b.bytes x y
    each x y = ap (λ k. colour_of (kind.TrueColour server_format) (take 4 (drop k b.bytes))) (let e : y * 8192 + x * 4 ≡ 4 * (y * 2048 + x) = omega arith in e) ∙ pixel_colour b.bytes (4 * (y * 2048 + x))

-- a picture with a band's pixels
band_shows : (b : BandView) (f : Frame) → IsPainted (coloured b.area (colour_in b.bytes)) f (with_band b f)
band_shows b f = by (b.area.w == 0) refl
  where
    by : (t : Bool) → (b.area.w == 0) ≡ t → IsPainted (coloured b.area (colour_in b.bytes)) f (cond t f (taken (rows_of b.area b.bytes 8192) b.area.x b.area.y f))
    by true e = record {
      wide = refl;
      high = refl;
      colours = λ x y left top. sym (ap (λ t. cond t (colour_in b.bytes (x - b.area.x) (y - b.area.y)) (colour_on f x y)) (none_in b.area x y (is_zero b.area.w e)));
    }
    by false e = taken_band b f

-- ---- an area put into a band

abbrev wider : (b a : Area) → Area
wider b a = record b { w = max b.w (a.x - b.x + a.w) }

-- pixels of a band that an area was put into
abbrev ArePut : (b a : Area) (old new rows : List ℕ) (stride : ℕ) → Type 0
ArePut b a old new rows stride = (x y : ℕ) → x < 2048 → pixel_in new (4 * (y * 2048 + x))
    ≡ cond (is_inside (beside b a) x y) (pixel_in rows (stride * (y - (a.y - b.y)) + 4 * (x - (a.x - b.x)))) (pixel_in old (4 * (y * 2048 + x)))

put_at : (b a : Area) (old new rows : List ℕ) (stride x y p : ℕ) → GoesOnWith b a → b.w ≤ 2048 → ArePut b a old new rows stride
    → cond (is_inside (wider b a) x y) (colour_in new (x - b.x) (y - b.y)) p
    ≡ cond (is_inside a x y) (reader.colour_of (pixel_in rows (stride * (y - a.y) + 4 * (x - a.x)))) (cond (is_inside b x y) (colour_in old (x - b.x) (y - b.y)) p)
put_at b a old new rows stride x y p goes wide put = by (is_inside a x y) refl
  where
    there : ℕ
    there = reader.colour_of (pixel_in rows (stride * (y - a.y) + 4 * (x - a.x)))

    in_wider : is_inside a x y ≡ true → is_inside (wider b a) x y ≡ true
    in_wider e = let right = goes.left in let top = goes.top in let bottom = goes.bottom in grind (arith, nat_tests)

    in_beside : is_inside a x y ≡ true → is_inside (beside b a) (x - b.x) (y - b.y) ≡ true
    in_beside e = let left = goes.left in let top = goes.top in grind (arith, nat_tests)

    narrow : is_inside a x y ≡ true → x - b.x < 2048
    narrow e = let left = goes.left in let right = goes.right in grind (arith, nat_tests)

    right_of : is_inside a x y ≡ true → x - b.x - (a.x - b.x) ≡ x - a.x
    right_of e = let left = goes.left in omega (arith, left)

    below : is_inside a x y ≡ true → y - b.y - (a.y - b.y) ≡ y - a.y
    below e = let top = goes.top in omega (arith, top)

    also_wider : is_inside b x y ≡ true → is_inside (wider b a) x y ≡ true
    also_wider e = grind (arith, nat_tests)

    not_beside : is_inside a x y ≡ false → is_inside b x y ≡ true → is_inside (beside b a) (x - b.x) (y - b.y) ≡ false
    not_beside e i = let left = goes.left in let top = goes.top in grind (arith, nat_tests)

    narrow_too : is_inside b x y ≡ true → x - b.x < 2048
    narrow_too e = grind (arith, nat_tests, wide)

    not_wider : is_inside a x y ≡ false → is_inside b x y ≡ false → is_inside (wider b a) x y ≡ false
    not_wider e i = let left = goes.left in let joined = goes.joined in let top = goes.from_top in let bottom = goes.to_bottom in grind (arith, nat_tests)

    by : (t : Bool) → is_inside a x y ≡ t → cond (is_inside (wider b a) x y) (colour_in new (x - b.x) (y - b.y)) p ≡ cond t there (cond (is_inside b x y) (colour_in old (x - b.x) (y - b.y)) p)
    by true e =
        ap (λ t. cond t (colour_in new (x - b.x) (y - b.y)) p) (in_wider e)
        ∙ ap reader.colour_of
        (put (x - b.x) (y - b.y) (narrow e)
        ∙ ap (λ t. cond t (pixel_in rows (stride * (y - b.y - (a.y - b.y)) + 4 * (x - b.x - (a.x - b.x)))) (pixel_in old (4 * ((y - b.y) * 2048 + (x - b.x))))) (in_beside e)
        ∙ ap (λ n. pixel_in rows (stride * n + 4 * (x - b.x - (a.x - b.x)))) (below e)
        ∙ ap (λ n. pixel_in rows (stride * (y - a.y) + 4 * n)) (right_of e))
    by false e = also (is_inside b x y) refl
      where
        also : (t : Bool) → is_inside b x y ≡ t → cond (is_inside (wider b a) x y) (colour_in new (x - b.x) (y - b.y)) p ≡ cond t (colour_in old (x - b.x) (y - b.y)) p
        also true i =
            ap (λ t. cond t (colour_in new (x - b.x) (y - b.y)) p) (also_wider i)
            ∙ ap reader.colour_of
            (put (x - b.x) (y - b.y) (narrow_too i)
            ∙ ap (λ t. cond t (pixel_in rows (stride * (y - b.y - (a.y - b.y)) + 4 * (x - b.x - (a.x - b.x)))) (pixel_in old (4 * ((y - b.y) * 2048 + (x - b.x))))) (not_beside e i))
        also false i = ap (λ t. cond t (colour_in new (x - b.x) (y - b.y)) p) (not_wider e i)

pub put_painted : (b c : BandView) (a : Area) (rows : List ℕ) (stride : ℕ) (f : Frame) → GoesOnWith b.area a → b.area.w ≤ 2048 → c.area ≡ wider b.area a → ArePut b.area a b.bytes c.bytes rows stride
    → IsPainted (with_rows a rows stride) (with_band b f) (with_band c f)
put_painted b c a rows stride f goes wide is put =
    let old = band_shows b f in
    let new = band_shows c f in
    record {
      wide = new.wide ∙ sym old.wide;
      high = new.high ∙ sym old.high;
      colours = λ x y left top.
          let across : x < f.width = let e = old.wide in omega arith in
          let down : y < f.height = let e = old.high in omega arith in
          new.colours x y across down
          ∙ ap (λ (m : Area). cond (is_inside m x y) (colour_in c.bytes (x - m.x) (y - m.y)) (colour_on f x y)) is
          ∙ put_at b.area a b.bytes c.bytes rows stride x y (colour_on f x y) goes wide put
          ∙ ap (λ n. cond (is_inside a x y) (reader.colour_of (pixel_in rows (stride * (y - a.y) + 4 * (x - a.x)))) n) (sym (old.colours x y across down));
    }

-- ---- rows

-- a choice whose first side is the same where it is taken
chosen : (b : Bool) (p q r : ℕ) → (b ≡ true → p ≡ q) → cond b p r ≡ cond b q r
chosen true p q r same = same refl
chosen false p q r same = refl

repainted : (one two : Picture → Picture) (f g : Frame) → ((p : Picture) (x y : ℕ) → one p x y ≡ two p x y) → IsPainted one f g → IsPainted two f g
repainted one two f g same it = record { wide = it.wide; high = it.high; colours = λ x y left top. it.colours x y left top ∙ same (colour_on f) x y }

pub rows_painted : (a : Area) (bytes : List ℕ) (stride : ℕ) (f g : Frame) → stride ≡ 4 * a.w → IsPainted (with_rows a bytes stride) f g → IsPainted (with_pixels a bytes) f g
rows_painted a bytes stride f g is it = repainted (with_rows a bytes stride) (with_pixels a bytes) f g
    (λ p x y. ap (λ n. cond (is_inside a x y) (reader.colour_of (pixel_in bytes n)) (p x y)) (place (x - a.x) (y - a.y))) it
  where
    place : (x y : ℕ) → stride * y + 4 * x ≡ 4 * (y * a.w + x)
    place x y = ap (λ n. n * y + 4 * x) is ∙ omega arith

pub fill_painted : (a : Area) (row : List ℕ) (pixel : ℕ) (f g : Frame) → a.w ≤ 16 → ((k : ℕ) → k < 16 → pixel_in row (4 * k) ≡ pixel) → IsPainted (with_rows a row 0) f g → IsPainted (with_pixel a pixel) f g
fill_painted a row pixel f g small each it = repainted (with_rows a row 0) (with_pixel a pixel) f g
    (λ p x y. chosen (is_inside a x y) (reader.colour_of (pixel_in row (0 * (y - a.y) + 4 * (x - a.x)))) (reader.colour_of pixel) (p x y)
    (λ i. ap reader.colour_of (ap (pixel_in row) (omega arith) ∙ each (x - a.x) (near x y i)))) it
  where
    near : (x y : ℕ) → is_inside a x y ≡ true → x - a.x < 16
    near x y i = grind (arith, nat_tests, small)
