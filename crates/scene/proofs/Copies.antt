-- What a copy does to the picture and the viewers, by the rectangles that it moves colours to.
use Rattle.std.proofs.Common.{◌≡◌, ◌≢◌, ℕ, ℤ, pos, ◌+◌, ◌*◌, ◌/◌, ◌%◌, ◌<◌, ◌≤◌, ◌⊎◌, inl, inr, Bool, true, false, cond, not, ◌||◌, List, [], ◌∷◌, map, All, refl, sym, ap, subst, ◌∙◌, arith, mul_comm}
use Rattle.std.specs.Prelude.{nat_abs, ◌<ℤ◌, ◌-ℤ◌, ◌&&◌, slice_index_or}
use Rattle.std.specs.List.{list_any, range_with_len}
use Rattle.std.proofs.Math.Nat.{mul-le-mul_right}
use Rattle.std.proofs.lemmas.Nat.{div-mul-add, mod-mul-add}
use Rattle.std.proofs.lemmas.Int.{ints}
use Rattle.std.proofs.lemmas.List.FromFn.{get_or-map-range_with_len, length-map-range_with_len}
use Rattle.std.proofs.lemmas.List.Folds.{list_any_at}
use Rattle.region.specs.declared.Rect.{Rect}
use Rattle.region.specs.Region.{in_rect, covers, on_screen}
use Rattle.region.specs.Places.{some_place, cut_destination, IsOnScreen, same_offset, longest_side}
use Rattle.region.specs.RegionView.{RegionView}
use Rattle.copy_schedule.specs.Marks.{copied_by}
use Rattle.copy_schedule.specs.Log.{IsCutEntry}
use Rattle.copy_schedule.specs.declared.LogEntry.TheVariants.{Copy}
use Rattle.viewer_list.specs.Viewers.{drawn, IsOfSize}
use Rattle.viewer.specs.Viewer.{KeptViewer, does_nothing, viewer_copied}

-- ---- whether a copy does something

no_place : (w h : ℕ) → some_place w h (covers []) ≡ false
no_place w h = go (range_with_len 0 (w * h))
  where
    go : (is : List ℕ) → list_any (λ b. b) (map (λ i. covers [] (pos (i % w)) (pos (i / w))) is) ≡ false
    go [] = refl
    go (i ∷ is) = go is

or_true : (b : Bool) → (b || true) ≡ true
or_true true = refl
or_true false = refl

pub nothing : (w h : ℕ) (set : ℤ → ℤ → Bool) (by : ℤ × ℤ) (pieces : List Rect) → covers pieces ≡ cut_destination w h set by → (same_offset by (pos 0, pos 0) ≡ true) ⊎ (pieces ≡ []) → does_nothing w h set by ≡ true
nothing w h set by pieces places (inl same) = ap (λ b. b || not (some_place w h (cut_destination w h set by))) same
nothing w h set by pieces places (inr none) =
    ap (λ (f : ℤ → ℤ → Bool). same_offset by (pos 0, pos 0) || not (some_place w h f)) (sym places ∙ ap covers none)
    ∙ ap (λ b. same_offset by (pos 0, pos 0) || not b) (no_place w h) ∙ or_true (same_offset by (pos 0, pos 0))

-- a rectangle's corner is one of its places
corner : (r : Rect) → r.x1 <ℤ r.x2 → r.y1 <ℤ r.y2 → in_rect r r.x1 r.y1 ≡ true
corner r wide high = grind (arith, ints)

some_of : (w h : ℕ) (r : Rect) (rects : List Rect) → IsOnScreen w h r → some_place w h (covers (r ∷ rects)) ≡ true
some_of w h r rects on =
    let x : ℕ = nat_abs r.x1 in
    let y : ℕ = nat_abs r.y1 in
    let is_x : pos x ≡ r.x1 = (let low = on.left in omega (arith, ints, low)) in
    let is_y : pos y ≡ r.y1 = (let low = on.top in omega (arith, ints, low)) in
    let left : x < w = (let a = on.left in let b = on.columns in let c = on.right in omega (arith, ints, a, b, c)) in
    let top : y < h = (let a = on.top in let b = on.rows in let c = on.bottom in omega (arith, ints, a, b, c)) in
    let k : ℕ = y * w + x in
    let fits : k < w * h = (let up : (y + 1) * w ≤ h * w = mul-le-mul_right w (omega arith) in let e = mul_comm w h in omega (arith, up, e, left)) in
    let value : ℕ → Bool = λ i. covers (r ∷ rects) (pos (i % w)) (pos (i / w)) in
    let here : value k ≡ true = ap (λ a. covers (r ∷ rects) (pos a) (pos (k / w))) (mod-mul-add y w x left) ∙ ap (λ b. covers (r ∷ rects) (pos x) (pos b)) (div-mul-add y w x left)
    ∙ ap (λ a. covers (r ∷ rects) a (pos y)) is_x ∙ ap (covers (r ∷ rects) r.x1) is_y ∙ ap (λ b. b || covers rects r.x1 r.y1) (corner r on.columns on.rows) in
    list_any_at (λ b. b) (map value (range_with_len 0 (w * h))) k false (let n = length-map-range_with_len value 0 (w * h) in omega (arith, n, fits))
    (get_or-map-range_with_len value 0 (w * h) k k false fits (omega arith) ∙ here)

pub something : (w h : ℕ) (set : ℤ → ℤ → Bool) (by : ℤ × ℤ) (pieces : List Rect) → covers pieces ≡ cut_destination w h set by → All (IsOnScreen w h) pieces → (same_offset by (pos 0, pos 0) ≡ false) × (pieces ≢ []) → does_nothing w h set by ≡ false
something w h set by [] places inside far = absurd (far.1 refl)
something w h set by (r ∷ pieces) places inside far =
    ap (λ b. b || not (some_place w h (cut_destination w h set by))) far.0
    ∙ ap (λ (f : ℤ → ℤ → Bool). not (some_place w h f)) (sym places)
    ∙ ap not (some_of w h r pieces (inside 0 r (omega arith)))

-- ---- where it does something, it is on the screen

inside : (a b c : Bool) → (a && b && c) ≡ true → (b && c) ≡ true
inside true b c e = e
inside false b c e = absurd cc

pub all-cut : (w h : ℕ) (set : ℤ → ℤ → Bool) (region : RegionView) (dx dy : ℤ) (seats : List KeptViewer) → covers region.list ≡ cut_destination w h set (dx, dy) → All (IsOfSize w h) seats
    → All (λ s. IsCutEntry s.marks.width s.marks.height (Copy region dx dy)) seats
all-cut w h set region dx dy seats places sized = λ k d below x y is.
    let size = sized k d below in
    ap (λ n. on_screen n (slice_index_or seats k d).marks.height x y && on_screen n (slice_index_or seats k d).marks.height (x -ℤ dx) (y -ℤ dy)) size.width
    ∙ ap (λ n. on_screen w n x y && on_screen w n (x -ℤ dx) (y -ℤ dy)) size.height
    ∙ inside (set x y) (on_screen w h x y) (on_screen w h (x -ℤ dx) (y -ℤ dy)) (ap (λ (f : ℤ → ℤ → Bool). f x y) (sym places) ∙ is)

-- ---- the viewers

-- nothing is done to a seat
pub viewer_still : (w h : ℕ) (set : ℤ → ℤ → Bool) (by : ℤ × ℤ) (s : KeptViewer) → does_nothing w h set by ≡ true → s ≡ viewer_copied w h set by s
viewer_still w h set by s none = sym (ap (λ b. record s { marks = cond b s.marks (copied_by (cut_destination w h set by) by s.uses_copyrect s.marks) }) none)

-- the copy is done
pub viewer_moved : (w h : ℕ) (set : ℤ → ℤ → Bool) (region : RegionView) (dx dy : ℤ) (s : KeptViewer) → covers region.list ≡ cut_destination w h set (dx, dy) → does_nothing w h set (dx, dy) ≡ false
    → drawn (Copy region dx dy) s ≡ viewer_copied w h set (dx, dy) s
viewer_moved w h set region dx dy s places some =
    ap (λ (f : ℤ → ℤ → Bool). record s { marks = copied_by f (dx, dy) s.uses_copyrect s.marks }) places
    ∙ sym (ap (λ b. record s { marks = cond b s.marks (copied_by (cut_destination w h set (dx, dy)) (dx, dy) s.uses_copyrect s.marks) }) some)

-- ---- rectangles of a screen are rectangles of a larger one, and of one of the same size

pub within : (w h : ℕ) (pieces now : List Rect) → w ≤ longest_side → h ≤ longest_side → now ≡ pieces → All (IsOnScreen w h) pieces → All (IsOnScreen longest_side longest_side) now
within w h pieces now wide high same all = subst (All (IsOnScreen longest_side longest_side)) (sym same) (λ k d below. larger (slice_index_or pieces k d) (all k d below))
  where
    larger : (r : Rect) → IsOnScreen w h r → IsOnScreen longest_side longest_side r
    larger r on = record {
      left = on.left;
      columns = on.columns;
      right = (let right = on.right in omega (arith, ints, right, wide));
      top = on.top;
      rows = on.rows;
      bottom = (let bottom = on.bottom in omega (arith, ints, bottom, high));
    }

pub alike : (w h v g : ℕ) (of : Rect → Rect) (pieces now : List Rect) → w ≡ v → h ≡ g → now ≡ pieces → All (λ r. IsOnScreen w h (of r)) pieces → All (λ r. IsOnScreen v g (of r)) now
alike w h v g of pieces now wide high same all =
    subst (All (λ r. IsOnScreen v g (of r))) (sym same) (subst (λ k. All (λ r. IsOnScreen v k (of r)) pieces) high (subst (λ k. All (λ r. IsOnScreen k h (of r)) pieces) wide all))
