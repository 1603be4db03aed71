-- Where a canonical list's rectangles and their sources lie, and that an earlier copy leaves the source of a later one.
use Rattle.std.proofs.Common.{◌≡◌, ℕ, zero, suc, ◌<◌, Bool, true, false, ◌||◌, List, [], ◌∷◌, ◌++◌, length, get_or, take, reverse, refl, sym, ap, subst, ◌∙◌, arith}
use Rattle.std.specs.Prelude.{ℤ, pos, ◌-ℤ◌, ◌<ℤ◌, flat_map}
use Rattle.std.specs.List.{All}
use Rattle.std.proofs.lemmas.Int.{ints}
use Rattle.std.proofs.lemmas.List.{reverse-append}
use Rattle.std.proofs.lemmas.List.Folds.{list_any-append, list_any_at, Any-from_list_any}
use Rattle.std.proofs.lemmas.List.Elements.{All-from_recursion}
use Rattle.region.specs.declared.Rect.{Rect}
use Rattle.region.specs.Region.{in_rect, covers, on_screen, IsCanonical, by_band, in_order}
use Rattle.region.specs.Places.{IsOnScreen, source_rect}
use Rattle.region.specs.Copies.{InOrder}
use Rattle.region.specs.OrderLemmas.{by_band-joined, in_order-plain, in_order-both, in_order-bands}
use Rattle.region.specs.ScreenLemmas.{HasPlaces, rects_some}
use Rattle.region.specs.PlaceLemmas.{IsPlace, is_place}

-- ---- the places of a list in another order

covers-append : (rs qs : List Rect) (x y : ℤ) → covers (rs ++ qs) x y ≡ (covers rs x y || covers qs x y)
covers-append rs qs x y = list_any-append (λ r. in_rect r x y) rs qs

either-way : (a b : Bool) → (a || (b || false)) ≡ (b || a)
either-way true true = refl
either-way true false = refl
either-way false true = refl
either-way false false = refl

covers-reverse : (rs : List Rect) (x y : ℤ) → covers (reverse rs) x y ≡ covers rs x y
covers-reverse [] x y = refl
covers-reverse (r ∷ rs) x y =
    ap (λ (l : List Rect). covers l x y) (reverse-append (r ∷ []) rs)
    ∙ covers-append (reverse rs) (r ∷ []) x y
    ∙ either-way (covers (reverse rs) x y) (in_rect r x y)
    ∙ ap (λ b. in_rect r x y || b) (covers-reverse rs x y)

covers-turned : (lines : List (List Rect)) (x y : ℤ) → covers (flat_map reverse lines) x y ≡ covers (flat_map (λ l. l) lines) x y
covers-turned [] x y = refl
covers-turned (l ∷ lines) x y =
    covers-append (reverse l) (flat_map reverse lines) x y
    ∙ ap (λ b. b || covers (flat_map reverse lines) x y) (covers-reverse l x y)
    ∙ ap (λ b. covers l x y || b) (covers-turned lines x y)
    ∙ sym (covers-append l (flat_map (λ l. l) lines) x y)

covers-bands_turned : (rs : List Rect) (x y : ℤ) → covers (in_order true false rs) x y ≡ covers rs x y
covers-bands_turned rs x y = covers-turned (by_band rs) x y ∙ ap (λ (l : List Rect). covers l x y) (by_band-joined rs)

pub covers-in_order : (reverse_x reverse_y : Bool) (rs : List Rect) (x y : ℤ) → covers (in_order reverse_x reverse_y rs) x y ≡ covers rs x y
covers-in_order false false rs x y = ap (λ (l : List Rect). covers l x y) (in_order-plain rs)
covers-in_order true true rs x y = ap (λ (l : List Rect). covers l x y) (in_order-both rs) ∙ covers-reverse rs x y
covers-in_order true false rs x y = covers-bands_turned rs x y
covers-in_order false true rs x y = ap (λ (l : List Rect). covers l x y) (in_order-bands rs) ∙ covers-reverse (in_order true false rs) x y ∙ covers-bands_turned rs x y

-- ---- rectangles on a screen

-- a place in rectangles of a screen is on it
pub covered-on-screen : (w h : ℕ) (rs : List Rect) (x y : ℤ) → All (IsOnScreen w h) rs → covers rs x y ≡ true → on_screen w h x y ≡ true
covered-on-screen w h rs x y all there =
    let found = Any-from_list_any (λ r. in_rect r x y) rs there in
    let P : Rect → Type 0 = IsOnScreen w h in
    here found.1 (subst P found.3 (all found.0 found.1 found.2)) found.4
  where
    here : (r : Rect) → IsOnScreen w h r → in_rect r x y ≡ true → on_screen w h x y ≡ true
    here r s e =
        let left = s.left in
        let right = s.right in
        let top = s.top in
        let bottom = s.bottom in
        grind (arith, ints)

-- a rectangle of a canonical list has a first and a last place
record HasEnds (rs : List Rect) (r : Rect) : Type 0 where
  columns : r.x1 <ℤ r.x2
  rows : r.y1 <ℤ r.y2
  first : covers rs r.x1 r.y1 ≡ true
  last : covers rs (r.x2 -ℤ pos 1) (r.y2 -ℤ pos 1) ≡ true

all-ends : (rs : List Rect) → IsCanonical rs → All (HasEnds rs) rs
all-ends rs c = λ k d below.
    let r : Rect = get_or rs k d in
    let some : HasPlaces r = All-from_recursion HasPlaces rs (rects_some rs c) k d below in
    record {
      columns = some.0;
      rows = some.1;
      first = list_any_at (λ q. in_rect q r.x1 r.y1) rs k d below (first_in r some.0 some.1);
      last = list_any_at (λ q. in_rect q (r.x2 -ℤ pos 1) (r.y2 -ℤ pos 1)) rs k d below (last_in r some.0 some.1);
    }
  where
    first_in : (r : Rect) → r.x1 <ℤ r.x2 → r.y1 <ℤ r.y2 → in_rect r r.x1 r.y1 ≡ true
    first_in r a b = grind (arith, ints)

    last_in : (r : Rect) → r.x1 <ℤ r.x2 → r.y1 <ℤ r.y2 → in_rect r (r.x2 -ℤ pos 1) (r.y2 -ℤ pos 1) ≡ true
    last_in r a b = grind (arith, ints)

-- where the places of a canonical list are on a screen, so are its rectangles
pub rects-on-screen : (w h : ℕ) (rs : List Rect) → IsCanonical rs → ((x y : ℤ) → covers rs x y ≡ true → on_screen w h x y ≡ true) → All (IsOnScreen w h) rs
rects-on-screen w h rs c on = λ k d below. between (get_or rs k d) (all-ends rs c k d below)
  where
    between : (r : Rect) → HasEnds rs r → IsOnScreen w h r
    between r ends =
        let first : IsPlace w h r.x1 r.y1 = is_place w h r.x1 r.y1 (on r.x1 r.y1 ends.first) in
        let last : IsPlace w h (r.x2 -ℤ pos 1) (r.y2 -ℤ pos 1) = is_place w h (r.x2 -ℤ pos 1) (r.y2 -ℤ pos 1) (on (r.x2 -ℤ pos 1) (r.y2 -ℤ pos 1) ends.last) in
        record {
          left = first.left;
          columns = ends.columns;
          right = omega (arith, ints, last.right);
          top = first.top;
          rows = ends.rows;
          bottom = omega (arith, ints, last.bottom);
        }

-- and where their sources are, so are the sources of the rectangles
pub sources-on-screen : (w h : ℕ) (by : ℤ × ℤ) (rs : List Rect) → IsCanonical rs → ((x y : ℤ) → covers rs x y ≡ true → on_screen w h (x -ℤ by.0) (y -ℤ by.1) ≡ true) → All (λ r. IsOnScreen w h (source_rect by r)) rs
sources-on-screen w h by rs c on = λ k d below. moved (get_or rs k d) (all-ends rs c k d below)
  where
    placed : (x1 y1 x2 y2 dx dy : ℤ) → x1 <ℤ x2 → y1 <ℤ y2 → IsPlace w h (x1 -ℤ dx) (y1 -ℤ dy) → IsPlace w h (x2 -ℤ pos 1 -ℤ dx) (y2 -ℤ pos 1 -ℤ dy)
        → IsOnScreen w h (record { x1 = x1 -ℤ dx; y1 = y1 -ℤ dy; x2 = x2 -ℤ dx; y2 = y2 -ℤ dy })
    placed x1 y1 x2 y2 dx dy columns rows first last = record {
      left = first.left;
      columns = omega (arith, ints, columns);
      right = omega (arith, ints, last.right);
      top = first.top;
      rows = omega (arith, ints, rows);
      bottom = omega (arith, ints, last.bottom);
    }

    moved : (r : Rect) → HasEnds rs r → IsOnScreen w h (source_rect by r)
    moved r ends = placed r.x1 r.y1 r.x2 r.y2 by.0 by.1 ends.columns ends.rows
        (is_place w h (r.x1 -ℤ by.0) (r.y1 -ℤ by.1) (on r.x1 r.y1 ends.first))
        (is_place w h (r.x2 -ℤ pos 1 -ℤ by.0) (r.y2 -ℤ pos 1 -ℤ by.1) (on (r.x2 -ℤ pos 1) (r.y2 -ℤ pos 1) ends.last))

-- ---- copies one after the other

-- the source of a rectangle has no place of an earlier one
pub source-spared : (by : ℤ × ℤ) (rs : List Rect) (i : ℕ) (d : Rect) (x y : ℤ) → InOrder by rs → i < length rs → in_rect (get_or rs i d) x y ≡ true → covers (take i rs) (x -ℤ by.0) (y -ℤ by.1) ≡ false
source-spared by [] i d x y h below e = absurd (omega arith)
source-spared by (r ∷ rs) zero d x y h below e = refl
source-spared by (r ∷ rs) (suc i) d x y h below e =
    let first : in_rect r (x -ℤ by.0) (y -ℤ by.1) ≡ false = h.0 x y (list_any_at (λ q. in_rect q x y) rs i d (omega arith) e) in
    ap (λ b. b || covers (take i rs) (x -ℤ by.0) (y -ℤ by.1)) first ∙ source-spared by rs i d x y h.1 (omega arith) e
