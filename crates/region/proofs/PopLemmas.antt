-- The rectangle at an end of bands is the first of their rectangles in an order.
use Rattle.std.proofs.Common.{◌≡◌, ◌≢◌, Bool, true, false, List, [], ◌∷◌, ◌++◌, map, refl, sym, ◌∙◌, ap, subst, arith, Option, Some, None}
use Rattle.std.specs.Prelude.{◌&&◌, IfSome, not, ℤ, ◌<ℤ◌, flat_map, reverse, slice_get}
use Rattle.std.specs.List.{last_or}
use Rattle.std.specs.Option.{option_map}
use Rattle.std.specs.Ordering.{int_eq}
use Rattle.std.proofs.lemmas.Int.{ints}
use Rattle.std.proofs.lemmas.Option.{same_Some}
use Rattle.std.proofs.lemmas.List.{map-append, reverse-append}
use Rattle.region.specs.declared.Rect.{Rect}
use Rattle.region.specs.Region.{covers, beside, by_band, reversed_if, in_order}
use Rattle.region.specs.Pops.{IsFirst, IsWithout}
use Rattle.region_bands.specs.declared.Interval.{Interval}
use Rattle.region_bands.specs.Bands.{Band, rows_of}
use Rattle.region_sets.specs.Sets.{AreBands, has}
use Rattle.region_sets.specs.Queries.{in_rectangle}
use Rattle.region_sets.specs.declared.queries.Rectangle.{Rectangle}
use Rattle.region_sets.specs.Ends.{end_in_band, end_rectangle}
use Rattle.region.specs.Rects.{rect_of, rect_in, rects_of_band, rects_in}
use Rattle.region.proofs.BandRectLemmas.{covers_has}
use Rattle.region.proofs.CallLemmas.{in_same}

-- ---- the rectangles of each band

same_top : (n : ℤ) → int_eq n n ≡ true
same_top n = grind (arith, ints)

other_top : (n m : ℤ) → n <ℤ m → int_eq n m ≡ false
other_top n m h = grind (arith, ints)

-- the lines begin below a row, and none is empty
abbrev Below : ℤ → List (List Rect) → Type 0
Below top [] = Unit {0}
Below top ([] ∷ lines) = ⊥
Below top ((q ∷ qs) ∷ lines) = top <ℤ q.y1

one_band : (b : Band) (row : List Interval) (rs : List Rect) → row ≢ [] → Below b.top (by_band rs) → by_band (rects_of_band (record b { row = row }) ++ rs) ≡ rects_of_band (record b { row = row }) ∷ by_band rs
one_band b [] rs some h = absurd (some refl)
one_band b (i ∷ []) rs some h = go (by_band rs) h
  where
    go : (lines : List (List Rect)) → Below b.top lines → beside (rect_of (rows_of b) i) lines ≡ (rect_of (rows_of b) i ∷ []) ∷ lines
    go [] h = refl
    go ([] ∷ lines) h = absurd h
    go ((q ∷ qs) ∷ lines) h = rw (other_top b.top q.y1 h) refl
one_band b (i ∷ j ∷ row) rs some h = ap (beside (rect_of (rows_of b) i)) (one_band b (j ∷ row) rs (λ e. cc) h) ∙ rw (same_top b.top) refl

pub lines_of : (bands : List Band) → AreBands bands → by_band (rects_in bands) ≡ map rects_of_band bands
lines_of [] h = refl
lines_of (b ∷ []) h = one_band b b.row [] h.columns tt
lines_of (b ∷ c ∷ rest) h = one_band b b.row (rects_in (c ∷ rest)) h.0.columns (subst (Below b.top) (sym (lines_of (c ∷ rest) h.2)) (first c.row (columns rest h.2))) ∙ ap (λ l. rects_of_band b ∷ l) (lines_of (c ∷ rest) h.2)
  where
    columns : (rest : List Band) → AreBands (c ∷ rest) → c.row ≢ []
    columns [] g = g.columns
    columns (d ∷ rest) g = g.0.columns

    below : b.top <ℤ c.top
    below = omega (arith, ints, h.0.some, h.1.order)

    first : (row : List Interval) → row ≢ [] → Below b.top (rects_of_band (record c { row = row }) ∷ map rects_of_band rest)
    first [] some = absurd (some refl)
    first (i ∷ row) some = below

-- ---- the first of them in an order

lasts : {X : Type 0} (y : X) (l : List X) (x : X) → last_or (Some y) l ≡ Some x → (front : List X) × (y ∷ l ≡ front ++ x ∷ [])
lasts y [] x e = ([], ap (λ z. z ∷ []) (same_Some y x e))
lasts y (z ∷ l) x e = let r = lasts z l x e in (y ∷ r.0, ap (λ t. y ∷ t) r.1)

last_split : {X : Type 0} (l : List X) (x : X) → last_or None l ≡ Some x → (front : List X) × (l ≡ front ++ x ∷ [])
last_split [] x e = absurd (cc)
last_split (y ∷ l) x e = lasts y l x e

reversed : {X Y : Type 0} (f : X → Y) (l front : List X) (x : X) → l ≡ front ++ x ∷ [] → reverse (map f l) ≡ f x ∷ reverse (map f front)
reversed f l front x e = ap (λ t. reverse (map f t)) e ∙ ap reverse (map-append f front (x ∷ [])) ∙ reverse-append (map f front) (f x ∷ [])

abbrev in_rows_of : Band → Interval → Rectangle
in_rows_of b i = record { rows = rows_of b; columns = i }

in_band : (reverse_x : Bool) (b : Band) (r : Rectangle) → end_in_band reverse_x (Some b) ≡ Some r → (rest : List Rect) × (reversed_if reverse_x (rects_of_band b) ≡ rect_in r ∷ rest)
in_band false b r e = go b.row e
  where
    go : (row : List Interval) → option_map (in_rows_of b) (slice_get row 0) ≡ Some r → (rest : List Rect) × (map (rect_of (rows_of b)) row ≡ rect_in r ∷ rest)
    go [] e = absurd (cc)
    go (i ∷ row) e = (map (rect_of (rows_of b)) row, ap (λ q. rect_in q ∷ map (rect_of (rows_of b)) row) (same_Some (in_rows_of b i) r e))
in_band true b r e = go (last_or None b.row) refl
  where
    go : (found : Option Interval) → last_or None b.row ≡ found → (rest : List Rect) × (reverse (rects_of_band b) ≡ rect_in r ∷ rest)
    go None is = absurd (let no : None ≡ Some r = ap (option_map (in_rows_of b)) (sym is) ∙ e in cc)
    go (Some i) is =
        let parts = last_split b.row i is in
        let same : in_rows_of b i ≡ r = same_Some (in_rows_of b i) r (ap (option_map (in_rows_of b)) (sym is) ∙ e) in
        (reverse (map (rect_of (rows_of b)) parts.0), reversed (rect_of (rows_of b)) b.row parts.0 i parts.1 ∙ ap (λ q. rect_in q ∷ reverse (map (rect_of (rows_of b)) parts.0)) same)

in_lines : (reverse_x : Bool) (b : Band) (lines : List (List Rect)) (r : Rectangle) → end_in_band reverse_x (Some b) ≡ Some r → (rest : List Rect) × (flat_map (reversed_if reverse_x) (rects_of_band b ∷ lines) ≡ rect_in r ∷ rest)
in_lines reverse_x b lines r e =
    let found = in_band reverse_x b r e in
    (found.0 ++ flat_map (reversed_if reverse_x) lines, ap (λ l. l ++ flat_map (reversed_if reverse_x) lines) found.1)

in_bands : (reverse_x reverse_y : Bool) (bands : List Band) (r : Rectangle) → end_rectangle reverse_x reverse_y bands ≡ Some r → (rest : List Rect) × (flat_map (reversed_if reverse_x) (reversed_if reverse_y (map rects_of_band bands)) ≡ rect_in r ∷ rest)
in_bands reverse_x false [] r e = absurd (cc)
in_bands reverse_x false (b ∷ bands) r e = in_lines reverse_x b (map rects_of_band bands) r e
in_bands reverse_x true bands r e = go (last_or None bands) refl
  where
    go : (found : Option Band) → last_or None bands ≡ found → (rest : List Rect) × (flat_map (reversed_if reverse_x) (reverse (map rects_of_band bands)) ≡ rect_in r ∷ rest)
    go None is = absurd (let no : None ≡ Some r = ap (end_in_band reverse_x) (sym is) ∙ e in cc)
    go (Some b) is =
        let parts = last_split bands b is in
        let found = in_lines reverse_x b (reverse (map rects_of_band parts.0)) r (ap (end_in_band reverse_x) (sym is) ∙ e) in
        (found.0, ap (flat_map (reversed_if reverse_x)) (reversed rects_of_band bands parts.0 b parts.1) ∙ found.1)

pub is_first : (reverse_x reverse_y : Bool) (bands : List Band) (list : List Rect) (found : Option Rectangle) (result : Option Rect) → AreBands bands → rects_in bands ≡ list → found ≡ end_rectangle reverse_x reverse_y bands → result ≡ option_map rect_in found
    → IfSome result (IsFirst reverse_x reverse_y list)
is_first reverse_x reverse_y bands list found result h is end e = subst (λ o. IfSome o (IsFirst reverse_x reverse_y list)) (sym e) (go found end)
  where
    go : (o : Option Rectangle) → o ≡ end_rectangle reverse_x reverse_y bands → IfSome (option_map rect_in o) (IsFirst reverse_x reverse_y list)
    go None end = tt
    go (Some r) end =
        let first = in_bands reverse_x reverse_y bands r (sym end) in
        record { rest = first.0; is = ap (in_order reverse_x reverse_y) (sym is) ∙ ap (λ l. flat_map (reversed_if reverse_x) (reversed_if reverse_y l)) (lines_of bands h) ∙ first.1 }

pub is_without : (old new : List Band) (was is : List Rect) (found : Option Rectangle) (result : Option Rect) → rects_in old ≡ was → rects_in new ≡ is → IfSome found (λ r. (x y : ℤ) → has new x y ≡ (has old x y && not (in_rectangle r x y))) → result ≡ option_map rect_in found
    → IfSome result (λ rect. IsWithout rect was is)
is_without old new was is found result e f h r = subst (λ o. IfSome o (λ rect. IsWithout rect was is)) (sym r) (go found h)
  where
    go : (o : Option Rectangle) → IfSome o (λ r. (x y : ℤ) → has new x y ≡ (has old x y && not (in_rectangle r x y))) → IfSome (option_map rect_in o) (λ rect. IsWithout rect was is)
    go None h = tt
    go (Some q) h = λ x y. ap (λ l. covers l x y) (sym f) ∙ covers_has new x y ∙ h x y ∙ ap (λ b. b && not (in_rectangle q x y)) (sym (covers_has old x y) ∙ ap (λ l. covers l x y) e) ∙ ap (λ b. covers was x y && not b) (in_same (rect_in q) x y)
