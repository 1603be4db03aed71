-- Rows of a rectangle that stand in lists of their own, and the values row by row.
use Rattle.std.proofs.Common.{◌≡◌, ℕ, zero, suc, ◌+◌, ◌*◌, ◌-◌, ◌<◌, ◌≤◌, List, [], ◌∷◌, ◌++◌, length, length-append, take, drop, get_or, sym, ap, ◌∙◌, arith, All, map, append_assoc}
use Rattle.std.specs.List.{flat_map}
use Rattle.std.proofs.Math.Nat.{zero-mul, suc-mul}
use Rattle.std.proofs.Math.Seq.{take-add, take-append_seam, drop-append-add}
use Rattle.std.proofs.lemmas.List.{get_or-drop, get_or-take}
use Rattle.std.proofs.lemmas.List.Elements.{All-head, All-tail}
use Rattle.std.proofs.lemmas.List.Concat.{flat_map-cons}
use Rattle.subrectangles.specs.Subrectangles.{rows_of, row_at}
use Rattle.subrectangles.specs.Scans.{row_is}

-- the values from a row's place on begin with that row
pub apart_row : {S : Type 0} (f : S → List ℕ) (d : S) (w : ℕ) (rs : List S) (y : ℕ) → All (λ r. length r ≡ w) (map f rs) → y < length rs
    → take w (drop (y * w) (flat_map f rs)) ≡ f (get_or rs y d)
apart_row f d w [] y each lt = absurd (omega arith)
apart_row f d w (r ∷ rs) zero each lt =
    ap (λ (n : ℕ). take w (drop n (flat_map f (r ∷ rs)))) (zero-mul w) ∙ ap (λ (n : ℕ). take n (flat_map f (r ∷ rs))) (sym (All-head (λ q. length q ≡ w) (f r) (map f rs) each))
    ∙ ap (take (length (f r))) (flat_map-cons f r rs) ∙ take-append_seam (f r) (flat_map f rs)
apart_row f d w (r ∷ rs) (suc y) each lt =
    let here : length (f r) ≡ w = All-head (λ q. length q ≡ w) (f r) (map f rs) each in
    let at : suc y * w ≡ length (f r) + y * w = omega (arith, here, suc-mul y w) in
    ap (take w) (ap (λ (n : ℕ). drop n (flat_map f (r ∷ rs))) at ∙ ap (drop (length (f r) + y * w)) (flat_map-cons f r rs) ∙ drop-append-add (f r) (flat_map f rs) (y * w))
    ∙ apart_row f d w rs y (All-tail (λ q. length q ≡ w) (f r) (map f rs) each) (omega arith)

-- so many rows have so many values
pub apart_len : {S : Type 0} (f : S → List ℕ) (w : ℕ) (rs : List S) → All (λ r. length r ≡ w) (map f rs) → length (flat_map f rs) ≡ length rs * w
apart_len f w [] each = sym (zero-mul w)
apart_len f w (r ∷ rs) each =
    let here : length (f r) ≡ w = All-head (λ q. length q ≡ w) (f r) (map f rs) each in
    let rest = apart_len f w rs (All-tail (λ q. length q ≡ w) (f r) (map f rs) each) in
    ap (length {A = ℕ}) (flat_map-cons f r rs) ∙ omega (arith, here, rest, suc-mul (length rs) w, length-append (f r) (flat_map f rs))

-- one row more
pub row_behind : (w h : ℕ) (ps : List ℕ) (y : ℕ) → y < h → take ((y + 1) * w) ps ≡ take (y * w) ps ++ row_at (rows_of w h ps) y
row_behind w h ps y lt =
    ap (λ (n : ℕ). take n ps) (let e : (y + 1) * w ≡ y * w + w = omega arith in e) ∙ take-add (y * w) w ps ∙ ap (λ (r : List ℕ). take (y * w) ps ++ r) (sym (row_is w h ps y lt))

-- a value of the rows up to one is before that row or in it
pub in_rows : (w h : ℕ) (ps : List ℕ) (y k : ℕ) → y < h → k < (y + 1) * w → y * w ≤ k → get_or ps k 0 ≡ get_or (row_at (rows_of w h ps) y) (k - y * w) 0
in_rows w h ps y k lt below le =
    let next : (y + 1) * w ≡ y * w + w = omega arith in
    sym (ap (λ (r : List ℕ). get_or r (k - y * w) 0) (row_is w h ps y lt) ∙ get_or-take w (drop (y * w) ps) (k - y * w) 0 (omega (arith, next)) ∙ get_or-drop (y * w) ps (k - y * w) 0
    ∙ ap (λ (i : ℕ). get_or ps i 0) (let e : y * w + (k - y * w) ≡ k = omega arith in e))

-- one part more behind all that stands there
pub behind : (front head done more all : List ℕ) → all ≡ done ++ more → (front ++ (head ++ done)) ++ more ≡ front ++ (head ++ all)
behind front head done more all e =
    append_assoc front (head ++ done) more ∙ ap (λ (t : List ℕ). front ++ t) (append_assoc head done more ∙ ap (λ (t : List ℕ). head ++ t) (sym e))
