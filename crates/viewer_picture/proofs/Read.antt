-- A rectangle is read back, in each encoding.
use Rattle.std.proofs.Common.{◌≡◌, ℕ, ℤ, pos, Bool, true, cond, ◌&&◌, inl, inr, List, ◌++◌, Some, None, Option, refl, ap, ◌∙◌, arith, append_assoc, FitsSigned}
use mathlib.Core.Path.{fun_ext}
use Rattle.std.specs.Int.{w16, w32, to_be_bytes, from_be_bytes}
use Rattle.std.proofs.lemmas.Nat.{from_be_bytes-to_be_bytes_2}
use Rattle.pixel_translate.specs.declared.Area.{Area}
use Rattle.pixel_translate.specs.declared.PixelFormat.{PixelFormat}
use Rattle.pixel_translate.specs.Pixel.{be16}
use Rattle.encode_raw.specs.Raw.{head, copyrect}
use Rattle.encode_raw.specs.Reading.{◌>>=◌, Head, Shown, Patch, patched, shown_after_copy}
use Rattle.encode_raw.specs.Claims.{pixels_of, raw_reads_back}
use Rattle.encode_raw.specs.Back.{head_back}
use Rattle.encode_rre.specs.Claims.{IsReadAs, rre_reads_back}
use Rattle.encode_hextile.specs.Claims.{hextile_reads_back}
use Rattle.viewer_picture.specs.Messages.{Agreed, is_in_picture, may_come, written, data_at, rectangle_at}
use Rattle.viewer_picture.specs.Claims.{IsPart, RectanglesAreRead}

-- what is shown once a head and its data are read
abbrev guarded : Agreed → Shown → Bool → Area → ℤ → List ℕ → Option (Shown × List ℕ)
guarded g shown legal a e body = cond legal (data_at g a shown e body) None

abbrev headed : Agreed → Shown → Option (Head × List ℕ) → Option (Shown × List ℕ)
headed g shown o = o >>= λ h. guarded g shown (is_in_picture g h.0.area && may_come g.listed h.0.encoding) h.0.area h.0.encoding h.1

abbrev some : Shown → List ℕ → Option (Shown × List ℕ)
some shown more = Some (shown, more)

-- a rectangle of the picture whose encoding may come
legal : (g : Agreed) (a : Area) (e : ℤ) (shown : Shown) (body : List ℕ) → is_in_picture g a ≡ true → may_come g.listed e ≡ true
    → guarded g shown (is_in_picture g a && may_come g.listed e) a e body ≡ data_at g a shown e body
legal g a e shown body inside comes = ap (λ b. guarded g shown (b && may_come g.listed e) a e body) inside ∙ ap (λ b. guarded g shown b a e body) comes

same : (f : PixelFormat) (a : Area) (p q : Patch) (shown : Shown) → ((before : Shown) (x y : ℕ) → patched f a p before x y ≡ patched f a q before x y) → patched f a p shown ≡ patched f a q shown
same f a p q shown each = fun_ext (λ x. fun_ext (λ y. each shown x y))

data-is : (g : Agreed) (a : Area) (e : ℤ) (shown : Shown) (body : List ℕ) (patch : Patch) (more : List ℕ) → is_in_picture g a ≡ true → may_come g.listed (pos 2) ≡ true → IsReadAs g.format a e body patch more
    → guarded g shown (is_in_picture g a && may_come g.listed e) a e body ≡ Some (patched g.format a patch shown, more)
data-is g a e shown body patch more inside comes (inl h) =
    ap (λ n. guarded g shown (is_in_picture g a && may_come g.listed n) a n body) h.0 ∙ legal g a (pos 0) shown body inside refl ∙ ap (written g.format a shown) h.1
data-is g a e shown body patch more inside comes (inr h) =
    ap (λ n. guarded g shown (is_in_picture g a && may_come g.listed n) a n body) h.0 ∙ legal g a (pos 2) shown body inside comes ∙ ap (written g.format a shown) h.1

copy-is : (g : Agreed) (a : Area) (sx sy : ℕ) → IsPart g a → IsPart g (record a { x = sx; y = sy }) → may_come g.listed (pos 1) ≡ true → (shown : Shown) (more : List ℕ)
    → rectangle_at g shown (copyrect a sx sy ++ more) ≡ Some (shown_after_copy a sx sy shown, more)
copy-is g a sx sy part source comes shown more =
    let small : FitsSigned w32 (pos 1) = record { sfits = omega arith } in
    let from : ℕ → ℕ → Option (Shown × List ℕ) = λ x y. cond (is_in_picture g (record a { x = x; y = y })) (some (shown_after_copy a x y shown) more) None in
    ap (rectangle_at g shown) (append_assoc (head a (pos 1)) (be16 sx ++ be16 sy) more)
    ∙ ap (headed g shown) (head_back a (pos 1) (be16 sx ++ be16 sy ++ more) part.fits small)
    ∙ legal g a (pos 1) shown (be16 sx ++ be16 sy ++ more) part.inside comes
    ∙ ap (λ (n : ℕ). from n (from_be_bytes w16 (to_be_bytes w16 sy))) (from_be_bytes-to_be_bytes_2 sx source.fits.x)
    ∙ ap (from sx) (from_be_bytes-to_be_bytes_2 sy source.fits.y)
    ∙ ap (λ b. cond b (some (shown_after_copy a sx sy shown) more) None) source.inside

pub rectangles-read : raw_reads_back → rre_reads_back → hextile_reads_back → RectanglesAreRead
rectangles-read as_raw as_rre as_hextile = record {
  raw = λ g a colours part whole shown more.
      let r = as_raw g.format a colours more part.fits whole in
      ap (headed g shown) r.head ∙ legal g a (pos 0) shown r.body part.inside refl ∙ ap (written g.format a shown) r.pixels ∙ ap (λ s. some s more) (same g.format a r.patch (pixels_of g.format a.w colours) shown r.shown);
  rre = λ g a colours part comes places whole shown more.
      let r = as_rre g.format a colours more part.fits places whole in
      ap (headed g shown) r.head ∙ data-is g a r.encoding shown r.body r.patch more part.inside comes r.pixels ∙ ap (λ s. some s more) (same g.format a r.patch (pixels_of g.format a.w colours) shown r.shown);
  hextile = λ g a colours part comes places whole shown more.
      let r = as_hextile g.format a colours more part.fits places whole in
      ap (headed g shown) r.head ∙ legal g a (pos 5) shown r.body part.inside comes ∙ ap (written g.format a shown) r.pixels ∙ ap (λ s. some s more) (same g.format a r.patch (pixels_of g.format a.w colours) shown r.shown);
  copyrect = copy-is;
}
