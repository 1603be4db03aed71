-- Values by place, and rectangles of a screen: lemmas for the crates above.
use Rattle.std.proofs.Common.{◌≡◌, ℕ, zero, suc, ◌+◌, ◌*◌, ◌/◌, ◌%◌, ◌<◌, zero-add, Bool, true, false, cond, not, ◌||◌, List, [], ◌∷◌, length, get_or, All, refl, sym, ◌∙◌, ap, arith, mul_comm}
use Rattle.std.specs.Prelude.{ℤ, pos, ◌≤ℤ◌, ◌<ℤ◌, nat_abs}
use Rattle.std.specs.List.{list_any}
use Rattle.std.proofs.Math.Nat.{mod-add-div, mod-lt, div-lt_iff_lt-mul}
use Rattle.std.proofs.lemmas.Int.{ints}
use Rattle.std.proofs.lemmas.Nat.{div-mul-add, mod-mul-add, mul-add-lt}
use Rattle.std.proofs.lemmas.List.FromFn.{fill_by_all, get_or-map-range_with_len, length-map-range_with_len}
use Rattle.region.specs.declared.Rect.{Rect}
use Rattle.region.specs.Region.{on_screen}
use Rattle.region.specs.RegionView.{in_range}
use Rattle.region.specs.Places.{by_place, at_place, IsOnScreen, longest_side}

-- the places of a screen
pub record IsPlace (w h : ℕ) (x y : ℤ) : Type 0 where
  pub left : pos 0 ≤ℤ x
  pub right : x <ℤ pos w
  pub top : pos 0 ≤ℤ y
  pub bottom : y <ℤ pos h

pub is_place : (w h : ℕ) (x y : ℤ) → on_screen w h x y ≡ true → IsPlace w h x y
is_place w h x y on = record { left = left w h x y on; right = right w h x y on; top = top w h x y on; bottom = bottom w h x y on }
  where
    left : (w h : ℕ) (x y : ℤ) → on_screen w h x y ≡ true → pos 0 ≤ℤ x
    left w h x y on = grind (arith, ints)

    right : (w h : ℕ) (x y : ℤ) → on_screen w h x y ≡ true → x <ℤ pos w
    right w h x y on = grind (arith, ints)

    top : (w h : ℕ) (x y : ℤ) → on_screen w h x y ≡ true → pos 0 ≤ℤ y
    top w h x y on = grind (arith, ints)

    bottom : (w h : ℕ) (x y : ℤ) → on_screen w h x y ≡ true → y <ℤ pos h
    bottom w h x y on = grind (arith, ints)

-- a place with a number is in a row of the screen
pub row_below : (w h k : ℕ) → 0 < w → k < w * h → k / w < h
row_below w h k some below = (div-lt_iff_lt-mul {k = w} {x = k} {y = h} some).1 (let e = mul_comm w h in omega (arith, e))

-- a place with a number is on the screen
pub on_screen-number : (w h k : ℕ) → 0 < w → k < w * h → on_screen w h (pos (k % w)) (pos (k / w)) ≡ true
on_screen-number w h k some below = grind (arith, mod-lt k some, (div-lt_iff_lt-mul {k = w} {x = k} {y = h} some).1 (let e = mul_comm w h in omega (arith, e)))

-- and has the value at that number
pub at_place-number : {X : Type 0} (d : X) (w h : ℕ) (values : List X) (k : ℕ) → 0 < w → k < w * h → at_place d w h values (pos (k % w)) (pos (k / w)) ≡ get_or values k d
at_place-number d w h values k some below =
    ap (λ b. cond b (get_or values (k / w * w + k % w) d) d) (on_screen-number w h k some below)
    ∙ ap (λ n. get_or values n d) (let e = mod-add-div k w in omega (arith, e))

-- a list that has each place's value by its number is the values by place
pub by_place-numbers : {X : Type 0} (d : X) (w h : ℕ) (value : ℤ → ℤ → X) (values : List X) → length values ≡ w * h → ((k : ℕ) → k < w * h → get_or values k d ≡ value (pos (k % w)) (pos (k / w))) → values ≡ by_place w h value
by_place-numbers d w h value values all each = fill_by_all (λ k. value (pos (k % w)) (pos (k / w))) values (w * h) d all each

some_column : (w h k : ℕ) → k < w * h → 0 < w
some_column zero h k below = absurd (omega arith)
some_column (suc w) h k below = omega arith

pub same_by_place : {X : Type 0} (w h : ℕ) (f g : ℤ → ℤ → X) → ((x y : ℤ) → on_screen w h x y ≡ true → f x y ≡ g x y) → by_place w h f ≡ by_place w h g
same_by_place w h f g each = by_place-numbers (g (pos 0) (pos 0)) w h g (by_place w h f) (length-map-range_with_len (λ i. f (pos (i % w)) (pos (i / w))) 0 (w * h)) (λ k below.
    get_or-map-range_with_len (λ i. f (pos (i % w)) (pos (i / w))) 0 (w * h) k k (g (pos 0) (pos 0)) below (zero-add k) ∙ each (pos (k % w)) (pos (k / w)) (on_screen-number w h k (some_column w h k below) below))

-- the number of a place, and its column or row
pub number : (x : ℤ) → pos 0 ≤ℤ x → pos (nat_abs x) ≡ x
number x low = omega (arith, ints, low)

pub below : (w : ℕ) (x : ℤ) → pos 0 ≤ℤ x → x <ℤ pos w → nat_abs x < w
below w x low high = omega (arith, ints, low, high)

pub value_on : {X : Type 0} (d : X) (w h : ℕ) (f : ℤ → ℤ → X) (x y : ℤ) → on_screen w h x y ≡ true → at_place d w h (by_place w h f) x y ≡ f x y
value_on d w h f x y on =
    let place = is_place w h x y on in
    let column = below w x place.left place.right in
    let row = below h y place.top place.bottom in
    ap (λ b. cond b (get_or (by_place w h f) (nat_abs y * w + nat_abs x) d) d) on
    ∙ get_or-map-range_with_len (λ i. f (pos (i % w)) (pos (i / w))) 0 (w * h) (nat_abs y * w + nat_abs x) (nat_abs y * w + nat_abs x) d (mul-add-lt (nat_abs y) w (nat_abs x) h row column) (zero-add (nat_abs y * w + nat_abs x))
    ∙ ap (λ n. f (pos n) (pos ((nat_abs y * w + nat_abs x) / w))) (mod-mul-add (nat_abs y) w (nat_abs x) column) ∙ ap (λ n. f (pos (nat_abs x)) (pos n)) (div-mul-add (nat_abs y) w (nat_abs x) column)
    ∙ ap (λ a. f a (pos (nat_abs y))) (number x place.left) ∙ ap (f x) (number y place.top)

-- a value that is d off the screen
pub value_at : {X : Type 0} (d : X) (w h : ℕ) (f : ℤ → ℤ → X) → ((x y : ℤ) → on_screen w h x y ≡ false → f x y ≡ d) → (x y : ℤ) → at_place d w h (by_place w h f) x y ≡ f x y
value_at d w h f off x y = go (on_screen w h x y) refl
  where
    go : (t : Bool) → on_screen w h x y ≡ t → at_place d w h (by_place w h f) x y ≡ f x y
    go true on = value_on d w h f x y on
    go false is_off = ap (λ b. cond b (get_or (by_place w h f) (nat_abs y * w + nat_abs x) d) d) is_off ∙ sym (off x y is_off)

-- a rectangle of the largest screen has coordinates that regions can have
rect-in_range : (r : Rect) → IsOnScreen longest_side longest_side r → in_range r ≡ true
rect-in_range r on =
    let left = on.left in
    let columns = on.columns in
    let right = on.right in
    let top = on.top in
    let rows = on.rows in
    let bottom = on.bottom in
    grind (arith, ints)

pub all-in_range : (rects : List Rect) → All (IsOnScreen longest_side longest_side) rects → list_any (λ r. not (in_range r)) rects ≡ false
all-in_range [] all = refl
all-in_range (r ∷ rects) all =
    ap (λ b. not b || list_any (λ r. not (in_range r)) rects) (rect-in_range r (all 0 r (omega arith)))
    ∙ all-in_range rects (λ k d below. all (suc k) d (omega (arith, below)))
