-- What a viewer shows by its marks, and what it would show once it made its copies.
use Rattle.std.proofs.Common.{◌≡◌, true, false, cond, ℕ, List, Option, None, Some, refl, sym, ap, subst}
use Rattle.std.specs.Prelude.{ℤ, ◌-ℤ◌}
use Rattle.region.specs.Region.{on_screen}
use Rattle.encode_raw.specs.Reading.{Dot, Shown}
use Rattle.copy_schedule.specs.declared.Mark.{Mark}
use Rattle.copy_schedule.specs.declared.Mark.TheVariants.{Clean, Copied, Owed}
use Rattle.copy_schedule.specs.Marks.{Marks, is_copied, is_owed, mark_at}
use Rattle.framebuffer.specs.Picture.{colour_at}
use Rattle.viewer_picture.specs.Pictures.{dot_at, ShowsColour, ShowsPicture, IsPixelOf, ShowsOnceCopied, PicturesAreOwedOrShown}

pixel-of : (dot : Option Dot) (colour : ℕ) → ShowsColour dot colour → IsPixelOf dot colour
pixel-of dot colour (f, e) = subst (λ (d : Option Dot). IsPixelOf d colour) (sym e) refl

shows-it : (dot : Option Dot) (colour : ℕ) → IsPixelOf dot colour → ShowsColour dot colour
shows-it None colour e = absurd e
shows-it (Some dot) colour e = (dot.format, ap (λ (n : ℕ). Some (record { format = dot.format; pixel = n })) e)

module _ (w h : ℕ) (picture : List ℕ) (m : Marks) (shown : Shown) where
  abbrev from : ℤ → ℤ → Option Dot
  from x y = dot_at shown (x -ℤ m.offset.0) (y -ℤ m.offset.1)

  abbrev by : Mark → ℤ → ℤ → Option Dot
  by k x y = cond (is_copied k) (from x y) (dot_at shown x y)

  enough : ShowsPicture w h picture m shown → ShowsOnceCopied w h picture m shown
  enough s = record {
    shows = λ x y on e. go x y on (mark_at m x y) refl e;
    sources = λ x y on e. (s.copied x y on (is (mark_at m x y) e)).0;
  }
    where
      is : (k : Mark) → is_copied k ≡ true → k ≡ Copied
      is Clean e = absurd cc
      is Copied e = refl
      is Owed e = absurd cc

      go : (x y : ℤ) → on_screen w h x y ≡ true → (k : Mark) → mark_at m x y ≡ k → is_owed k ≡ false → IsPixelOf (by k x y) (colour_at w h picture x y)
      go x y on Clean at e = pixel-of (dot_at shown x y) (colour_at w h picture x y) (s.clean x y on at)
      go x y on Copied at e = pixel-of (from x y) (colour_at w h picture x y) (s.copied x y on at).1
      go x y on Owed at e = absurd cc

  needed : ShowsOnceCopied w h picture m shown → ShowsPicture w h picture m shown
  needed s = record {
    clean = λ x y on e. shows-it (dot_at shown x y) (colour_at w h picture x y) (subst (λ k. IsPixelOf (by k x y) (colour_at w h picture x y)) e (s.shows x y on (ap is_owed e)));
    copied = λ x y on e. (s.sources x y on (ap is_copied e), shows-it (from x y) (colour_at w h picture x y) (subst (λ k. IsPixelOf (by k x y) (colour_at w h picture x y)) e (s.shows x y on (ap is_owed e))));
  }

pub owed-or-shown : PicturesAreOwedOrShown
owed-or-shown = record { enough = enough; needed = needed }
