-- Blocks and the picture's definitions, which speak of places by whole numbers.
use Rattle.std.proofs.Common.{◌≡◌, ◌⊎◌, inl, inr, ◌&&◌, ℕ, zero, suc, ℤ, pos, ◌+◌, ◌-◌, ◌*◌, ◌/◌, ◌%◌, ◌^◌, ◌<◌, ◌≤◌, Bool, true, false, cond, List, length, get_or, refl, sym, ap, ◌∙◌, arith, mul_comm}
use Rattle.std.specs.Prelude.{nat_abs, ◌-ℤ◌, ◌+ℤ◌}
use Rattle.std.proofs.Math.IntN.{+ℤ-neg_ℤ_cancel}
use Rattle.std.proofs.Math.Nat.{mod-add-div, mod-lt, div-lt_iff_lt-mul}
use Rattle.std.proofs.lemmas.Bool.Decides.{nat_tests}
use Rattle.std.proofs.lemmas.List.FromFn.{fill_by_all, get_or-map-range_with_len, length-map-range_with_len}
use Rattle.region.specs.declared.Rect.{Rect}
use Rattle.region.specs.Region.{in_rect, covers, on_screen}
use Rattle.framebuffer.specs.Moves.{colour_moved}
use Rattle.std.specs.Ordering.{int_eq}
use Rattle.std.proofs.lemmas.Int.{ints}
use Rattle.region.specs.Places.{by_place, same_offset}
use Rattle.framebuffer.specs.declared.blocks.Block.{Block}
use Rattle.framebuffer.specs.Blocks.{block_rect, is_in_block, block_colours}
use Rattle.framebuffer.specs.Picture.{colour_at, colour_in, written, moved_colours, colours_of}
use Rattle.framebuffer.specs.BlockLemmas.{IsWritten}

in_rect_of : (b : Block) (x y : ℕ) → in_rect (block_rect b) (pos x) (pos y) ≡ is_in_block b y x
in_rect_of b x y = refl

-- how far one number is from another
pub distance : (a b : ℕ) → a ≤ b → nat_abs (pos b -ℤ pos a) ≡ b - a
distance a b h =
    let parts : b ≡ b - a + a = omega arith in
    ap (λ n. nat_abs (pos n -ℤ pos a)) parts ∙ ap nat_abs (+ℤ-neg_ℤ_cancel (pos (b - a)) (pos a))

on_it : (w h x y : ℕ) → x < w → y < h → on_screen w h (pos x) (pos y) ≡ true
on_it w h x y left top = grind (arith, nat_tests)

inside : (b : Block) (x y : ℕ) → is_in_block b y x ≡ true → (b.left ≤ x) × (b.top ≤ y)
inside b x y h = (grind (arith, nat_tests), grind (arith, nat_tests))

-- the picture whose places are written is the picture with the rectangle's colours replaced
pub written_is : (w h : ℕ) (b : Block) (colours old now : List ℕ) → 0 < w → length old ≡ w * h → length now ≡ length old → IsWritten w b colours old now → now ≡ written w h (block_rect b) colours old
written_is w h b colours old now some size same done =
    fill_by_all f now (w * h) 0 (same ∙ size) (λ k below.
    let left : k % w < w = mod-lt k some in
    let top : k / w < h = (div-lt_iff_lt-mul {k = w} {x = k} {y = h} some).1 (let e = mul_comm w h in omega (arith, e)) in
    ap (λ n. get_or now n 0) (let e = mod-add-div k w in omega (arith, e))
    ∙ done (k / w) (k % w) left
    ∙ sym (by_test (k % w) (k / w) left top (is_in_block b (k / w) (k % w)) refl))
  where
    f : ℕ → ℕ
    f i = cond (in_rect (block_rect b) (pos (i % w)) (pos (i / w))) (colour_in (block_rect b) colours (pos (i % w)) (pos (i / w)) % 2 ^ 24) (colour_at w h old (pos (i % w)) (pos (i / w)))

    by_test : (x y : ℕ) → x < w → y < h → (t : Bool) → is_in_block b y x ≡ t
        → cond t (colour_in (block_rect b) colours (pos x) (pos y) % 2 ^ 24) (colour_at w h old (pos x) (pos y)) ≡ cond t (get_or colours ((y - b.top) * b.columns + (x - b.left)) 0 % 2 ^ 24) (get_or old (y * w + x) 0)
    by_test x y left top true e =
        let here = inside b x y e in
        let wide : nat_abs (pos (b.left + b.columns) -ℤ pos b.left) ≡ b.columns = distance b.left (b.left + b.columns) (omega arith) ∙ omega arith in
        rw (distance b.top y here.1, wide, distance b.left x here.0) refl
    by_test x y left top false e = ap (λ t. cond t (get_or old (y * w + x) 0) 0) (on_it w h x y left top)

-- the picture whose places in rectangles have the colours of the places before them
pub moved_is : (w h : ℕ) (pieces : List Rect) (by : ℤ × ℤ) (old now : List ℕ) → 0 < w → length old ≡ w * h → length now ≡ length old
    → ((y x : ℕ) → y < h → x < w → get_or now (y * w + x) 0 ≡ colour_moved w h pieces by (λ row. true) old y x) → now ≡ moved_colours w h (covers pieces) by old
moved_is w h pieces by old now some size same done =
    fill_by_all f now (w * h) 0 (same ∙ size) (λ k below.
    let left : k % w < w = mod-lt k some in
    let top : k / w < h = (div-lt_iff_lt-mul {k = w} {x = k} {y = h} some).1 (let e = mul_comm w h in omega (arith, e)) in
    ap (λ n. get_or now n 0) (let e = mod-add-div k w in omega (arith, e))
    ∙ done (k / w) (k % w) top left
    ∙ sym (ap (cond (covers pieces (pos (k % w)) (pos (k / w))) (colour_at w h old (pos (k % w) -ℤ by.0) (pos (k / w) -ℤ by.1)))
    (ap (λ t. cond t (get_or old (k / w * w + k % w) 0) 0) (on_it w h (k % w) (k / w) left top))))
  where
    f : ℕ → ℕ
    f i = cond (covers pieces (pos (i % w)) (pos (i / w))) (colour_at w h old (pos (i % w) -ℤ by.0) (pos (i / w) -ℤ by.1)) (colour_at w h old (pos (i % w)) (pos (i / w)))

both_same : (a b : Bool) → (a && b) ≡ true → (a ≡ true) × (b ≡ true)
both_same true b e = (refl, e)
both_same false b e = absurd cc

no_way : (z x : ℤ) → int_eq z (pos 0) ≡ true → x -ℤ z ≡ x
no_way z x e = grind (arith, ints)

-- a block without places has no place
pub empty_block : (b : Block) → b.rows * b.columns ≡ 0 → (x y : ℤ) → in_rect (block_rect b) x y ≡ false
empty_block b none x y = by b.rows b.columns none refl refl
  where
    by : (rows columns : ℕ) → rows * columns ≡ 0 → b.rows ≡ rows → b.columns ≡ columns → in_rect (block_rect b) x y ≡ false
    by zero columns none rows_is columns_is = grind (arith, ints)
    by (suc rows) zero none rows_is columns_is = grind (arith, ints)
    by (suc rows) (suc columns) none rows_is columns_is = absurd (omega arith)

-- colours that are written to no place leave the picture
pub written_nowhere : (w h : ℕ) (b : Block) (colours picture : List ℕ) → 0 < w → length picture ≡ w * h → b.rows * b.columns ≡ 0 → written w h (block_rect b) colours picture ≡ picture
written_nowhere w h b colours picture some size none =
    sym (fill_by_all f picture (w * h) 0 size (λ k below.
    let left : k % w < w = mod-lt k some in
    let top : k / w < h = (div-lt_iff_lt-mul {k = w} {x = k} {y = h} some).1 (let e = mul_comm w h in omega (arith, e)) in
    ap (λ n. get_or picture n 0) (let e = mod-add-div k w in omega (arith, e)) ∙ sym (ap (λ t. cond t (get_or picture (k / w * w + k % w) 0) 0) (on_it w h (k % w) (k / w) left top))
    ∙ sym (ap (λ t. cond t (colour_in (block_rect b) colours (pos (k % w)) (pos (k / w)) % 2 ^ 24) (colour_at w h picture (pos (k % w)) (pos (k / w)))) (empty_block b none (pos (k % w)) (pos (k / w))))))
  where
    f : ℕ → ℕ
    f i = cond (in_rect (block_rect b) (pos (i % w)) (pos (i / w))) (colour_in (block_rect b) colours (pos (i % w)) (pos (i / w)) % 2 ^ 24) (colour_at w h picture (pos (i % w)) (pos (i / w)))

-- colours that move nowhere, or of no place, leave the picture
pub idle : (w h : ℕ) (set : ℤ → ℤ → Bool) (by : ℤ × ℤ) (picture : List ℕ) → 0 < w → length picture ≡ w * h → (same_offset by (pos 0, pos 0) ≡ true) ⊎ ((x y : ℤ) → set x y ≡ false) → moved_colours w h set by picture ≡ picture
idle w h set by picture some size why =
    sym (fill_by_all f picture (w * h) 0 size (λ k below.
    let left : k % w < w = mod-lt k some in
    let top : k / w < h = (div-lt_iff_lt-mul {k = w} {x = k} {y = h} some).1 (let e = mul_comm w h in omega (arith, e)) in
    let here : get_or picture k 0 ≡ colour_at w h picture (pos (k % w)) (pos (k / w)) =
    ap (λ n. get_or picture n 0) (let e = mod-add-div k w in omega (arith, e)) ∙ sym (ap (λ t. cond t (get_or picture (k / w * w + k % w) 0) 0) (on_it w h (k % w) (k / w) left top)) in
    here ∙ sym (still why (pos (k % w)) (pos (k / w)))))
  where
    f : ℕ → ℕ
    f i = cond (set (pos (i % w)) (pos (i / w))) (colour_at w h picture (pos (i % w) -ℤ by.0) (pos (i / w) -ℤ by.1)) (colour_at w h picture (pos (i % w)) (pos (i / w)))

    same : {A : Type 0} (b : Bool) (z : A) → cond b z z ≡ z
    same true z = refl
    same false z = refl

    still : (same_offset by (pos 0, pos 0) ≡ true) ⊎ ((x y : ℤ) → set x y ≡ false) → (x y : ℤ) → cond (set x y) (colour_at w h picture (x -ℤ by.0) (y -ℤ by.1)) (colour_at w h picture x y) ≡ colour_at w h picture x y
    still (inr none) x y = ap (λ b. cond b (colour_at w h picture (x -ℤ by.0) (y -ℤ by.1)) (colour_at w h picture x y)) (none x y)
    still (inl near) x y =
        let parts = both_same (int_eq by.0 (pos 0)) (int_eq by.1 (pos 0)) near in
        ap (λ z. cond (set x y) (colour_at w h picture z (y -ℤ by.1)) (colour_at w h picture x y)) (no_way by.0 x parts.0)
        ∙ ap (λ z. cond (set x y) (colour_at w h picture x z) (colour_at w h picture x y)) (no_way by.1 y parts.1)
        ∙ same (set x y) (colour_at w h picture x y)

has_some : (rows columns k : ℕ) → k < rows * columns → 0 < columns
has_some rows zero k below = absurd (omega arith)
has_some rows (suc columns) k below = omega arith

-- the colours of a block are those of its rectangle
pub colours_are : (w h : ℕ) (b : Block) (picture : List ℕ) → b.left + b.columns ≤ w → b.top + b.rows ≤ h → block_colours w b picture ≡ colours_of w h picture (block_rect b)
colours_are w h b picture wide high =
    let width : nat_abs (pos (b.left + b.columns) -ℤ pos b.left) ≡ b.columns = distance b.left (b.left + b.columns) (omega arith) ∙ omega arith in
    let height : nat_abs (pos (b.top + b.rows) -ℤ pos b.top) ≡ b.rows = distance b.top (b.top + b.rows) (omega arith) ∙ omega arith in
    fill_by_all (λ k. at (pos (k % b.columns)) (pos (k / b.columns))) (block_colours w b picture) (b.columns * b.rows) 0
    (length-map-range_with_len colour 0 (b.rows * b.columns) ∙ mul_comm b.rows b.columns)
    (λ k below. let fits : k < b.rows * b.columns = (let e = mul_comm b.rows b.columns in omega (arith, e)) in
    get_or-map-range_with_len colour 0 (b.rows * b.columns) k k 0 fits (omega arith) ∙ each k fits)
    ∙ sym (ap (λ c. by_place c (nat_abs (pos (b.top + b.rows) -ℤ pos b.top)) at) width ∙ ap (λ r. by_place b.columns r at) height)
  where
    colour : ℕ → ℕ
    colour k = get_or picture ((b.top + k / b.columns) * w + (b.left + k % b.columns)) 0

    at : ℤ → ℤ → ℕ
    at x y = colour_at w h picture (x +ℤ pos b.left) (y +ℤ pos b.top)

    each : (k : ℕ) → k < b.rows * b.columns → colour k ≡ at (pos (k % b.columns)) (pos (k / b.columns))
    each k below =
        let some : 0 < b.columns = has_some b.rows b.columns k below in
        let left : k % b.columns < b.columns = mod-lt k some in
        let top : k / b.columns < b.rows = (div-lt_iff_lt-mul {k = b.columns} {x = k} {y = b.rows} some).1 below in
        ap (λ n. get_or picture n 0) (let e : (b.top + k / b.columns) * w + (b.left + k % b.columns) ≡ (k / b.columns + b.top) * w + (k % b.columns + b.left) = omega arith in e)
        ∙ sym (ap (λ t. cond t (get_or picture ((k / b.columns + b.top) * w + (k % b.columns + b.left)) 0) 0) (on_it w h (k % b.columns + b.left) (k / b.columns + b.top) (omega arith) (omega arith)))

pub colours_long : (w : ℕ) (b : Block) (picture : List ℕ) → length (block_colours w b picture) ≡ b.columns * b.rows
colours_long w b picture = length-map-range_with_len (λ k. get_or picture ((b.top + k / b.columns) * w + (b.left + k % b.columns)) 0) 0 (b.rows * b.columns) ∙ mul_comm b.rows b.columns
