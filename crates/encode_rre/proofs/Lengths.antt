-- How long the data of a rectangle in RRE is.
use Rattle.std.proofs.Common.{◌≡◌, ℕ, suc, pos, ◌+◌, ◌*◌, ◌/◌, ◌^◌, ◌<◌, ◌≤◌, ◌++◌, inl, inr, Bool, true, false, cond, ltb, List, [], ◌∷◌, length, map, refl, sym, ap, ◌∙◌, arith, length-append, zero-mul}
use Rattle.std.proofs.Math.Nat.{suc-mul, mul-le-mul, mul-le-mul_right}
use Rattle.std.specs.List.{flat_map}
use Rattle.std.proofs.lemmas.Bool.{lt-ltb, cases_lt}
use Rattle.std.proofs.lemmas.Bool.Decides.{leb_tells}
use Rattle.pixel_translate.specs.declared.Area.{Area}
use Rattle.pixel_translate.specs.declared.PixelFormat.{PixelFormat}
use Rattle.pixel_translate.specs.Pixel.{bytes_per_pixel, pixel, pixel_bytes}
use Rattle.pixel_translate.specs.Bounds.{pixel_length}
use Rattle.encode_raw.specs.Raw.{head, raw}
use Rattle.subrectangles.specs.declared.Subrectangle.{Subrectangle}
use Rattle.subrectangles.specs.Bytes.{subrectangle_bytes, subs_length}
use Rattle.encode_rre.specs.Rre.{rre_data, rre_of, rre}
use Rattle.subrectangles.specs.Subrectangles.{rows_of, background_of, subrectangles}

pub data_length : (f : PixelFormat) (b : ℕ) (subs : List Subrectangle) → length (rre_data f b subs) ≡ 4 + bytes_per_pixel f + length subs * (bytes_per_pixel f + 8)
data_length f b subs = omega (arith, length-append (pixel_bytes f b) (flat_map (subrectangle_bytes f) subs), pixel_length f b, subs_length f subs)

pub pick_no : (t : Bool) (x y : List ℕ) → t ≡ false → cond t x y ≡ y
pick_no true x y e = absurd cc
pick_no false x y e = refl

pub pick_yes : (t : Bool) (x y : List ℕ) → t ≡ true → cond t x y ≡ x
pick_yes true x y e = refl
pick_yes false x y e = absurd cc

not_below : (m n : ℕ) → n ≤ m → ltb m n ≡ false
not_below m n le = elim (leb_tells (suc m) n) [ inl q ↦ absurd (omega (arith, q.1)) | inr q ↦ q.0 ]

coded_length : (f : PixelFormat) (w h : ℕ) (colours pixels : List ℕ) (b : ℕ) → pixels ≡ map (pixel f) colours → b ≡ background_of pixels
    → length (rre_of f w h (map (pixel f) colours)) ≡ 4 + bytes_per_pixel f + length (subrectangles b (rows_of w h pixels)) * (bytes_per_pixel f + 8)
coded_length f w h colours pixels b e g =
    ap (λ (ps : List ℕ). length (rre_of f w h ps)) (sym e) ∙ data_length f (background_of pixels) (subrectangles (background_of pixels) (rows_of w h pixels))
    ∙ ap (λ (t : ℕ). 4 + bytes_per_pixel f + length (subrectangles t (rows_of w h pixels)) * (bytes_per_pixel f + 8)) (sym g)

pub raw_where : (f : PixelFormat) (a : Area) (colours pixels : List ℕ) (b : ℕ) → pixels ≡ map (pixel f) colours → b ≡ background_of pixels
    → a.w * a.h * bytes_per_pixel f ≤ 4 + bytes_per_pixel f + length (subrectangles b (rows_of a.w a.h pixels)) * (bytes_per_pixel f + 8) → rre f a colours ≡ raw f a colours
raw_where f a colours pixels b e g le =
    pick_no _ (head a (pos 2) ++ rre_of f a.w a.h (map (pixel f) colours)) (raw f a colours) (not_below _ _ (omega (arith, le, coded_length f a.w a.h colours pixels b e g)))

pub rre_where : (f : PixelFormat) (a : Area) (colours pixels : List ℕ) (b : ℕ) → pixels ≡ map (pixel f) colours → b ≡ background_of pixels
    → 4 + bytes_per_pixel f + length (subrectangles b (rows_of a.w a.h pixels)) * (bytes_per_pixel f + 8) < a.w * a.h * bytes_per_pixel f
    → head a (pos 2) ++ rre_data f b (subrectangles b (rows_of a.w a.h pixels)) ≡ rre f a colours
rre_where f a colours pixels b e g lt =
    ap (λ (t : ℕ). head a (pos 2) ++ rre_data f t (subrectangles t (rows_of a.w a.h pixels))) g
    ∙ ap (λ (ps : List ℕ). head a (pos 2) ++ rre_of f a.w a.h ps) e
    ∙ sym (pick_yes _ (head a (pos 2) ++ rre_of f a.w a.h (map (pixel f) colours)) (raw f a colours) (lt-ltb _ _ (omega (arith, lt, coded_length f a.w a.h colours pixels b e g))))

-- more than the limit are too many
pub too_many : (n raw_len unit : ℕ) → 0 < unit → raw_len / unit < n → raw_len ≤ n * unit
too_many n raw_len unit some lt =
    let more : suc (raw_len / unit) * unit ≤ n * unit = mul-le-mul_right unit lt in
    omega (arith, more, suc-mul (raw_len / unit) unit)

pub le_more : (r d p : ℕ) → r ≤ d → r ≤ 4 + p + d
le_more r d p le = omega arith

pub same_subs : (b w v h k : ℕ) (ps qs : List ℕ) → w ≡ v → h ≡ k → ps ≡ qs → subrectangles b (rows_of w h ps) ≡ subrectangles b (rows_of v k qs)
same_subs b w v h k ps qs e f g =
    ap (λ (t : ℕ). subrectangles b (rows_of t h ps)) e ∙ ap (λ (t : ℕ). subrectangles b (rows_of v t ps)) f ∙ ap (λ (t : List ℕ). subrectangles b (rows_of v k t)) g

-- fewer than 2^32 subrectangles, where they are shorter than Raw
pub few : (w h p n : ℕ) → w < 2 ^ 16 → h < 2 ^ 16 → 4 + p + n * (p + 8) < w * h * p → n < 2 ^ 32
few w h p n wide high lt = elim (cases_lt n (2 ^ 32)) [
  | inl small ↦ small
  | inr big ↦
      let places : w * h ≤ 2 ^ 16 * 2 ^ 16 = mul-le-mul (let a : w ≤ 2 ^ 16 = omega arith in a) (let a : h ≤ 2 ^ 16 = omega arith in a) in
      let raw : w * h * p ≤ n * p = mul-le-mul_right p (let a : w * h ≤ n = omega arith in a) in
      absurd (omega arith)
]
