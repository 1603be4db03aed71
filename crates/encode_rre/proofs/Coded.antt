-- A rectangle in RRE, with the number of its subrectangles written last.
use Rattle.std.proofs.Common.{◌≡◌, ℕ, ◌+◌, ◌++◌, List, length, take, drop, sym, ap, ◌∙◌}
use Rattle.std.proofs.Math.Seq.{take-append_seam, drop-append-add}
use Rattle.pixel_translate.specs.Pixel.{be32}

-- four places between a front and a back, written
pub four_written : (front number back all : List ℕ) (start : ℕ) → length front ≡ start → all ≡ front ++ (be32 0 ++ back) → take start all ++ (number ++ drop (start + 4) all) ≡ front ++ (number ++ back)
four_written front number back all start len e =
    let first : take start all ≡ front = ap (take start) e ∙ ap (λ (n : ℕ). take n (front ++ (be32 0 ++ back))) (sym len) ∙ take-append_seam front (be32 0 ++ back) in
    let last : drop (start + 4) all ≡ back =
    ap (drop (start + 4)) e ∙ ap (λ (n : ℕ). drop (n + 4) (front ++ (be32 0 ++ back))) (sym len) ∙ drop-append-add front (be32 0 ++ back) 4 in
    ap (λ (t : List ℕ). t ++ (number ++ drop (start + 4) all)) first ∙ ap (λ (t : List ℕ). front ++ (number ++ t)) last
