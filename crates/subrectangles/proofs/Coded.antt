-- Subrectangles that are appended row by row.
use Rattle.std.proofs.Common.{◌≡◌, ℕ, ◌+◌, ◌≤◌, ◌++◌, List, length, sym, ap, ◌∙◌, arith, append_assoc}
use Rattle.std.proofs.Math.Nat.{mul-le-mul_right}
use Rattle.std.specs.List.{flat_map, range_with_len}
use Rattle.std.proofs.lemmas.Grind.{flat_map-append}
use Rattle.pixel_translate.specs.declared.PixelFormat.{PixelFormat}
use Rattle.pixel_translate.specs.Pixel.{bytes_per_pixel}
use Rattle.subrectangles.specs.declared.Subrectangle.{Subrectangle}
use Rattle.subrectangles.specs.Bytes.{subrectangle_bytes, subs_length}
use Rattle.subrectangles.specs.Scans.{row_more, fewer_rows}

-- the subrectangles of one row more
pub rows_more : (sb : Subrectangle → List ℕ) (g : ℕ → List Subrectangle) (y : ℕ) (front now new : List ℕ) → now ≡ front ++ flat_map sb (flat_map g (range_with_len 0 y))
    → new ≡ now ++ flat_map sb (g y) → new ≡ front ++ flat_map sb (flat_map g (range_with_len 0 (y + 1)))
rows_more sb g y front now new e h =
    h ∙ ap (λ (t : List ℕ). t ++ flat_map sb (g y)) e ∙ append_assoc front (flat_map sb (flat_map g (range_with_len 0 y))) (flat_map sb (g y))
    ∙ ap (λ (t : List ℕ). front ++ t) (sym (flat_map-append sb (flat_map g (range_with_len 0 y)) (g y)) ∙ ap (flat_map sb) (sym (row_more g y)))

-- those of some rows are no longer than those of all
pub rows_fewer : (f : PixelFormat) (g : ℕ → List Subrectangle) (y m : ℕ)
    → length (flat_map (subrectangle_bytes f) (flat_map g (range_with_len 0 y))) ≤ length (flat_map (subrectangle_bytes f) (flat_map g (range_with_len 0 (y + m))))
rows_fewer f g y m =
    let le = mul-le-mul_right (bytes_per_pixel f + 8) (fewer_rows g y m) in
    omega (arith, le, subs_length f (flat_map g (range_with_len 0 y)), subs_length f (flat_map g (range_with_len 0 (y + m))))
