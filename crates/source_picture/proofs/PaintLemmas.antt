-- What is taken into a picture, and what is copied in it.
use Rattle.std.proofs.Common.{◌≡◌, ℕ, zero, suc, ◌+◌, ◌-◌, ◌<◌, ◌≤◌, ◌&&◌, Bool, true, false, cond, [], ◌∷◌, refl, ap, ◌∙◌, arith}
use Rattle.std.specs.Prelude.{ℤ, pos, ◌-ℤ◌, nat_abs, slice_index, replicate}
use Rattle.std.proofs.lemmas.Bool.Decides.{nat_tests}
use Rattle.std.proofs.lemmas.Int.{ints}
use Rattle.pixel_translate.specs.declared.Area.{Area}
use Rattle.encode_raw.specs.Reading.{is_inside}
use Rattle.region.specs.Region.{in_rect, on_screen}
use Rattle.region.specs.declared.Rect.{Rect}
use Rattle.region.specs.Places.{cut_destination}
use Rattle.region.specs.PlaceLemmas.{value_on}
use Rattle.screen.specs.Frame.{Frame}
use Rattle.screen.specs.Picture.{colour_at, copied_colours, places_in}
use Rattle.source_pixels.specs.Source.{Source}
use Rattle.source_pixels.specs.Source as source
use Rattle.screen.specs.Taken.{taken, rect_at, colour_on}
use Rattle.server_reader.specs.Pictures.{Picture, colour_of}
use Rattle.source_picture.specs.Painting.{coloured, with_pixel, with_copy, IsPainted, IsOnFrame}

-- a choice whose first side is the same where it is taken
chosen : (b : Bool) (p q r : ℕ) → (b ≡ true → p ≡ q) → cond b p r ≡ cond b q r
chosen true p q r same = same refl
chosen false p q r same = refl

on : (w h x y : ℕ) → x < w → y < h → on_screen w h (pos x) (pos y) ≡ true
on w h x y left top = grind (arith, nat_tests)

apart : (a b : ℕ) → a ≤ b → nat_abs (pos b -ℤ pos a) ≡ b - a
apart a b h = omega (arith, ints, h)

record IsIn (a : Area) (x y : ℕ) : Type 0 where
  pub left : a.x ≤ x
  pub right : x < a.x + a.w
  pub top : a.y ≤ y
  pub bottom : y < a.y + a.h

inside : (a : Area) (x y : ℕ) → is_inside a x y ≡ true → IsIn a x y
inside a x y e = record { left = left a x y e; right = right a x y e; top = top a x y e; bottom = bottom a x y e }
  where
    left : (a : Area) (x y : ℕ) → is_inside a x y ≡ true → a.x ≤ x
    left a x y e = grind (arith, nat_tests)

    right : (a : Area) (x y : ℕ) → is_inside a x y ≡ true → x < a.x + a.w
    right a x y e = grind (arith, nat_tests)

    top : (a : Area) (x y : ℕ) → is_inside a x y ≡ true → a.y ≤ y
    top a x y e = grind (arith, nat_tests)

    bottom : (a : Area) (x y : ℕ) → is_inside a x y ≡ true → y < a.y + a.h
    bottom a x y e = grind (arith, nat_tests)

-- a source's colours, in the area that they are taken to
pub taken_to : (s : Source) (a : Area) (colour : Picture) (f : Frame) → s.width ≡ a.w → s.height ≡ a.h
    → ((x y : ℕ) → x < a.w → y < a.h → source.colour_at s x y ≡ colour x y) → IsPainted (coloured a colour) f (taken s a.x a.y f)
taken_to s a colour f wide high each = record { wide = refl; high = refl; colours = λ x y left top. at x y left top }
  where
    same_place : (x y : ℕ) → in_rect (rect_at a.x a.y s.width s.height) (pos x) (pos y) ≡ is_inside a x y
    same_place x y = ap (λ w. in_rect (rect_at a.x a.y w s.height) (pos x) (pos y)) wide ∙ ap (λ h. in_rect (rect_at a.x a.y a.w h) (pos x) (pos y)) high

    there : (x y : ℕ) → is_inside a x y ≡ true → source.colour_at s (nat_abs (pos x -ℤ pos a.x)) (nat_abs (pos y -ℤ pos a.y)) ≡ colour (x - a.x) (y - a.y)
    there x y e =
        let i = inside a x y e in
        ap (λ n. source.colour_at s n (nat_abs (pos y -ℤ pos a.y))) (apart a.x x i.left) ∙ ap (λ n. source.colour_at s (x - a.x) n) (apart a.y y i.top)
        ∙ each (x - a.x) (y - a.y) (omega (arith, i.left, i.right)) (omega (arith, i.top, i.bottom))

    at : (x y : ℕ) → x < f.width → y < f.height → colour_on (taken s a.x a.y f) x y ≡ coloured a colour (colour_on f) x y
    at x y left top =
        value_on 0 f.width f.height
        (λ X Y. cond (in_rect (rect_at a.x a.y s.width s.height) X Y) (source.colour_at s (nat_abs (X -ℤ pos a.x)) (nat_abs (Y -ℤ pos a.y))) (colour_at f.width f.height f.colours X Y))
        (pos x) (pos y) (on f.width f.height x y left top)
        ∙ ap (λ b. cond b (source.colour_at s (nat_abs (pos x -ℤ pos a.x)) (nat_abs (pos y -ℤ pos a.y))) (colour_on f x y)) (same_place x y)
        ∙ chosen (is_inside a x y) _ _ (colour_on f x y) (there x y)

-- ---- fills

-- one more band of rows
pub filled_on : (a : Area) (pixel : ℕ) (done rows : ℕ) (f g k : Frame) → IsPainted (with_pixel (record a { h = done }) pixel) f g
    → IsPainted (with_pixel (record a { y = a.y + done; h = rows }) pixel) g k → IsPainted (with_pixel (record a { h = done + rows }) pixel) f k
filled_on a pixel done rows f g k first second = record {
  wide = second.wide ∙ first.wide;
  high = second.high ∙ first.high;
  colours = λ x y left top.
      second.colours x y (let e = first.wide in omega arith) (let e = first.high in omega arith)
      ∙ ap (λ c. cond (is_inside (record a { y = a.y + done; h = rows }) x y) (colour_of pixel) c) (first.colours x y left top)
      ∙ joined a done rows x y (colour_of pixel) (colour_on f x y);
}
  where
    joined : (a : Area) (done rows x y p c : ℕ) → cond (is_inside (record a { y = a.y + done; h = rows }) x y) p (cond (is_inside (record a { h = done }) x y) p c)
        ≡ cond (is_inside (record a { h = done + rows }) x y) p c
    joined a done rows x y p c = grind (arith, nat_tests)

-- no rows
pub filled_none : (a : Area) (pixel : ℕ) (f : Frame) → IsPainted (with_pixel (record a { h = 0 }) pixel) f f
filled_none a pixel f = record { wide = refl; high = refl; colours = λ x y left top. none a x y (colour_of pixel) (colour_on f x y) }
  where
    none : (a : Area) (x y p c : ℕ) → c ≡ cond (is_inside (record a { h = 0 }) x y) p c
    none a x y p c = grind (arith, nat_tests)

-- ---- copies

abbrev pub rect_of : Area → Rect
rect_of a = record { x1 = pos a.x; y1 = pos a.y; x2 = pos (a.x + a.w); y2 = pos (a.y + a.h) }

-- the places of an area of the picture
same_places : (a : Area) (x y : ℕ) → places_in (rect_of a ∷ []) (pos x) (pos y) ≡ is_inside a x y
same_places a x y = grind (arith, nat_tests)

pub copied : (a : Area) (from_x from_y : ℕ) (f : Frame) (dx dy : ℤ) → dx ≡ pos a.x -ℤ pos from_x → dy ≡ pos a.y -ℤ pos from_y → IsOnFrame a.x a.y a.w a.h f → IsOnFrame from_x from_y a.w a.h f
    → IsPainted (with_copy a from_x from_y) f (record f { colours = copied_colours f.width f.height (places_in (rect_of a ∷ [])) (dx, dy) f.colours })
copied a from_x from_y f dx dy across down there here = record { wide = refl; high = refl; colours = at }
  where
    source_x : (x : ℕ) → a.x ≤ x → pos x -ℤ dx ≡ pos (x - a.x + from_x)
    source_x x h = ap (λ d. pos x -ℤ d) across ∙ (let e : pos x -ℤ (pos a.x -ℤ pos from_x) ≡ pos (x - a.x + from_x) = omega (arith, ints, h) in e)

    source_y : (y : ℕ) → a.y ≤ y → pos y -ℤ dy ≡ pos (y - a.y + from_y)
    source_y y h = ap (λ d. pos y -ℤ d) down ∙ (let e : pos y -ℤ (pos a.y -ℤ pos from_y) ≡ pos (y - a.y + from_y) = omega (arith, ints, h) in e)

    known : (x y : ℕ) → x < f.width → y < f.height → (b : Bool) → is_inside a x y ≡ b
        → cond (cut_destination f.width f.height (places_in (rect_of a ∷ [])) (dx, dy) (pos x) (pos y)) (colour_at f.width f.height f.colours (pos x -ℤ dx) (pos y -ℤ dy)) (colour_on f x y)
        ≡ cond b (colour_on f (x - a.x + from_x) (y - a.y + from_y)) (colour_on f x y)
    known x y left top false out =
        ap (λ b. cond (b && on_screen f.width f.height (pos x) (pos y) && on_screen f.width f.height (pos x -ℤ dx) (pos y -ℤ dy)) (colour_at f.width f.height f.colours (pos x -ℤ dx) (pos y -ℤ dy)) (colour_on f x y)) (same_places a x y ∙ out)
    known x y left top true in_it =
        let i = inside a x y in_it in
        let sx = source_x x i.left in
        let sy = source_y y i.top in
        let inner : on_screen f.width f.height (pos (x - a.x + from_x)) (pos (y - a.y + from_y)) ≡ true =
        on f.width f.height (x - a.x + from_x) (y - a.y + from_y) (omega (arith, i.left, i.right, here.right)) (omega (arith, i.top, i.bottom, here.bottom)) in
        ap (λ b. cond (b && on_screen f.width f.height (pos x) (pos y) && on_screen f.width f.height (pos x -ℤ dx) (pos y -ℤ dy)) (colour_at f.width f.height f.colours (pos x -ℤ dx) (pos y -ℤ dy)) (colour_on f x y)) (same_places a x y ∙ in_it)
        ∙ ap (λ b. cond (b && on_screen f.width f.height (pos x -ℤ dx) (pos y -ℤ dy)) (colour_at f.width f.height f.colours (pos x -ℤ dx) (pos y -ℤ dy)) (colour_on f x y)) (on f.width f.height x y left top)
        ∙ ap (λ s. cond (on_screen f.width f.height s (pos y -ℤ dy)) (colour_at f.width f.height f.colours s (pos y -ℤ dy)) (colour_on f x y)) sx
        ∙ ap (λ s. cond (on_screen f.width f.height (pos (x - a.x + from_x)) s) (colour_at f.width f.height f.colours (pos (x - a.x + from_x)) s) (colour_on f x y)) sy
        ∙ ap (λ b. cond b (colour_on f (x - a.x + from_x) (y - a.y + from_y)) (colour_on f x y)) inner

    at : (x y : ℕ) → x < f.width → y < f.height
        → colour_on (record f { colours = copied_colours f.width f.height (places_in (rect_of a ∷ [])) (dx, dy) f.colours }) x y ≡ with_copy a from_x from_y (colour_on f) x y
    at x y left top =
        value_on 0 f.width f.height
        (λ X Y. cond (cut_destination f.width f.height (places_in (rect_of a ∷ [])) (dx, dy) X Y) (colour_at f.width f.height f.colours (X -ℤ dx) (Y -ℤ dy)) (colour_at f.width f.height f.colours X Y))
        (pos x) (pos y) (on f.width f.height x y left top)
        ∙ known x y left top (is_inside a x y) refl

-- each of some zeros
pub zero_bytes : (n k : ℕ) → slice_index (replicate n 0) k ≡ 0
zero_bytes zero k = refl
zero_bytes (suc n) zero = refl
zero_bytes (suc n) (suc k) = zero_bytes n k
