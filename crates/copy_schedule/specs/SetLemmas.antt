-- Places and ranges: what lies on a screen, and what a move makes of it.
use Rattle.std.proofs.Common.{◌≡◌, ℕ, ◌≤◌, ◌<◌, Bool, true, false, not, ◌&&◌, ◌||◌, List, [], get_or, sym, refl, ◌∙◌, ap, arith, Result, Ok, Err, IfOk, IsOk, true≢false}
use Rattle.std.specs.Prelude.{ℤ, pos, ◌+ℤ◌, ◌-ℤ◌, ◌<ℤ◌, ◌≤ℤ◌, nat_abs}
use Rattle.std.proofs.lemmas.Bool.{and_parts, or_parts}
use Rattle.std.proofs.lemmas.Int.{ints}
use Rattle.std.proofs.lemmas.List.Folds.{list_any_none, list_any_at}
use Rattle.std.proofs.lemmas.List.Elements.{All-from_recursion}
use Rattle.region.specs.declared.Rect.{Rect}
use Rattle.region.specs.Region.{covers, in_rect, on_screen, IsCanonical}
use Rattle.region.specs.RegionView.{coordinate, in_range, moved_rect, leaves_range, IsBox}
use Rattle.region.specs.ScreenLemmas.{HasPlaces, rects_some}
use Rattle.copy_schedule.specs.Marks.{IsCutTo}
use Rattle.copy_schedule.specs.MarkSets.{LiesOn}
use Rattle.copy_schedule.specs.Sets.{is_far_by, lies_between, window_rect}
use Rattle.copy_schedule.specs.declared.windows.Window.{Window}
use Rattle.copy_schedule.specs.Windows.{in_window}
use Rattle.region.specs.PlaceLemmas.{is_place}
use Rattle.region.specs.Places.{longest_side}

-- a rectangle within a screen
within_screen : (w h : ℕ) (r : Rect) → lies_between w r.x1 r.x2 ≡ true → lies_between h r.y1 r.y2 ≡ true → (x y : ℤ) → in_rect r x y ≡ true → on_screen w h x y ≡ true
within_screen w h r columns rows x y within = grind (arith, ints)

-- a region's box is within a screen
pub box_within : (w h : ℕ) (rs : List Rect) (r : Rect) → IsBox r rs → (lies_between w r.x1 r.x2 && lies_between h r.y1 r.y2) ≡ true → LiesOn w h rs
box_within w h rs r box within x y at =
    let parts = and_parts (lies_between w r.x1 r.x2) (lies_between h r.y1 r.y2) within in
    within_screen w h r parts.0 parts.1 x y (box.holds x y at)

pub nothing_lies : (w h : ℕ) (rs : List Rect) → rs ≡ [] → LiesOn w h rs
nothing_lies w h rs e x y at = absurd (true≢false (sym at ∙ ap (λ l. covers l x y) e))

-- a set on a screen is the part that is on it
pub all_part : (w h : ℕ) (part rs : List Rect) → part ≡ rs → LiesOn w h part → (x y : ℤ) → covers part x y ≡ (covers rs x y && on_screen w h x y)
all_part w h part rs same lies x y = go (covers part x y) refl ∙ ap (λ l. covers l x y && on_screen w h x y) same
  where
    and_false : (t : Bool) → (false && t) ≡ false
    and_false t = refl

    go : (t : Bool) → covers part x y ≡ t → t ≡ (t && on_screen w h x y)
    go true at = sym (lies x y at)
    go false at = refl

-- a window's rectangle, on a screen and off it
on_window : (w h : ℕ) (a : Window) (r : Rect) (dx dy x y : ℤ) → ((i j : ℕ) → i < w → j < h → in_window a i j ≡ in_rect r (pos i -ℤ dx) (pos j -ℤ dy)) → on_screen w h x y ≡ true → in_rect (window_rect a) x y ≡ in_rect r (x -ℤ dx) (y -ℤ dy)
on_window w h a r dx dy x y is on =
    let place = is_place w h x y on in
    let column = number x place.left in
    let row = number y place.top in
    ap (λ i. in_rect (window_rect a) i y) column ∙ ap (in_rect (window_rect a) (pos (nat_abs x))) row
    ∙ is (nat_abs x) (nat_abs y) (below w x place.left place.right) (below h y place.top place.bottom)
    ∙ ap (λ i. in_rect r (i -ℤ dx) (pos (nat_abs y) -ℤ dy)) (sym column) ∙ ap (λ j. in_rect r (x -ℤ dx) (j -ℤ dy)) (sym row)
  where
    number : (x : ℤ) → pos 0 ≤ℤ x → x ≡ pos (nat_abs x)
    number x low = omega (arith, ints, low)

    below : (w : ℕ) (x : ℤ) → pos 0 ≤ℤ x → x <ℤ pos w → nat_abs x < w
    below w x low high = omega (arith, ints, low, high)

off_window : (w h : ℕ) (a : Window) (x y : ℤ) → a.x2 ≤ w → a.y2 ≤ h → on_screen w h x y ≡ false → in_rect (window_rect a) x y ≡ false
off_window w h a x y right bottom off = grind (arith, ints)

-- a window's rectangle is a moved rectangle's part of the screen
pub part_places : (w h : ℕ) (a : Window) (r : Rect) (dx dy : ℤ) → a.x2 ≤ w → a.y2 ≤ h → ((i j : ℕ) → i < w → j < h → in_window a i j ≡ in_rect r (pos i -ℤ dx) (pos j -ℤ dy)) → (x y : ℤ) → in_rect (window_rect a) x y ≡ (in_rect r (x -ℤ dx) (y -ℤ dy) && on_screen w h x y)
part_places w h a r dx dy right bottom is x y = go (on_screen w h x y) refl
  where
    and_true : (c : Bool) → c ≡ (c && true)
    and_true true = refl
    and_true false = refl

    and_false : (c : Bool) → false ≡ (c && false)
    and_false true = refl
    and_false false = refl

    go : (t : Bool) → on_screen w h x y ≡ t → in_rect (window_rect a) x y ≡ (in_rect r (x -ℤ dx) (y -ℤ dy) && t)
    go true on = on_window w h a r dx dy x y is on ∙ and_true (in_rect r (x -ℤ dx) (y -ℤ dy))
    go false off = off_window w h a x y right bottom off ∙ and_false (in_rect r (x -ℤ dx) (y -ℤ dy))

-- a larger screen
pub wider : (w h : ℕ) (x y : ℤ) → w ≤ longest_side → h ≤ longest_side → on_screen w h x y ≡ true → on_screen longest_side longest_side x y ≡ true
wider w h x y columns rows on = grind (arith, ints)

pub lies_wider : (w h : ℕ) (rs : List Rect) → w ≤ longest_side → h ≤ longest_side → LiesOn w h rs → LiesOn longest_side longest_side rs
lies_wider w h rs columns rows on x y within = wider w h x y columns rows (on x y within)

-- both ends of a far move can't be on a screen
pub off_by_far : (x y dx dy : ℤ) → (is_far_by dx || is_far_by dy) ≡ true → on_screen longest_side longest_side x y ≡ true → on_screen longest_side longest_side (x -ℤ dx) (y -ℤ dy) ≡ false
off_by_far x y dx dy far on = grind (arith, ints)

-- a rectangle on a screen stays in range under a near move
stays : (r : Rect) (dx dy : ℤ) → (is_far_by dx || is_far_by dy) ≡ false → r.x1 <ℤ r.x2 → r.y1 <ℤ r.y2 → on_screen longest_side longest_side r.x1 r.y1 ≡ true → on_screen longest_side longest_side (r.x2 -ℤ pos 1) (r.y2 -ℤ pos 1) ≡ true
    → not (in_range (moved_rect dx dy r)) ≡ false
stays r dx dy near columns rows first last =
    let apart = or_parts (is_far_by dx) (is_far_by dy) near in
    let head = is_place longest_side longest_side r.x1 r.y1 first in
    let end = is_place longest_side longest_side (r.x2 -ℤ pos 1) (r.y2 -ℤ pos 1) last in
    all_true (coordinate (r.x1 +ℤ dx)) (coordinate (r.y1 +ℤ dy)) (coordinate (r.x2 +ℤ dx)) (coordinate (r.y2 +ℤ dy)) (near_coordinate r.x1 dx apart.0 head.left (below r.x1 head.right)) (near_coordinate r.y1 dy apart.1 head.top (below r.y1 head.bottom))
    (near_coordinate r.x2 dx apart.0 (after r.x1 r.x2 head.left columns) (end_of r.x2 end.right)) (near_coordinate r.y2 dy apart.1 (after r.y1 r.y2 head.top rows) (end_of r.y2 end.bottom))
  where
    near_coordinate : (x d : ℤ) → is_far_by d ≡ false → pos 0 ≤ℤ x → x ≤ℤ pos longest_side → coordinate (x +ℤ d) ≡ true
    near_coordinate x d near low high = grind (arith, ints)

    below : (x : ℤ) → x <ℤ pos longest_side → x ≤ℤ pos longest_side
    below x h = omega (arith, ints, h)

    after : (x z : ℤ) → pos 0 ≤ℤ x → x <ℤ z → pos 0 ≤ℤ z
    after x z low less = omega (arith, ints, low, less)

    end_of : (x : ℤ) → (x -ℤ pos 1) <ℤ pos longest_side → x ≤ℤ pos longest_side
    end_of x h = omega (arith, ints, h)

    all_true : (a b c d : Bool) → a ≡ true → b ≡ true → c ≡ true → d ≡ true → not ((a && b) && (c && d)) ≡ false
    all_true true true true true p q r s = refl
    all_true false b c d p q r s = absurd (true≢false (sym p))
    all_true true false c d p q r s = absurd (true≢false (sym q))
    all_true true true false d p q r s = absurd (true≢false (sym r))
    all_true true true true false p q r s = absurd (true≢false (sym s))

first_in : (r : Rect) → HasPlaces r → in_rect r r.x1 r.y1 ≡ true
first_in r some = let a : r.x1 <ℤ r.x2 = some.0 in let b : r.y1 <ℤ r.y2 = some.1 in grind (arith, ints)

last_in : (r : Rect) → HasPlaces r → in_rect r (r.x2 -ℤ pos 1) (r.y2 -ℤ pos 1) ≡ true
last_in r some = let a : r.x1 <ℤ r.x2 = some.0 in let b : r.y1 <ℤ r.y2 = some.1 in grind (arith, ints)

pub near_stays : (rs : List Rect) (dx dy : ℤ) → IsCanonical rs → LiesOn longest_side longest_side rs → (is_far_by dx || is_far_by dy) ≡ false → leaves_range dx dy rs ≡ false
near_stays rs dx dy canonical on near = list_any_none (λ r. not (in_range (moved_rect dx dy r))) rs (λ k d below.
    let r : Rect = get_or rs k d in
    let some : HasPlaces r = All-from_recursion HasPlaces rs (rects_some rs canonical) k d below in
    let at : (x y : ℤ) → in_rect r x y ≡ true → on_screen longest_side longest_side x y ≡ true = λ x y within. on x y (list_any_at (λ q. in_rect q x y) rs k d below within) in
    stays r dx dy near some.0 some.1 (at r.x1 r.y1 (first_in r some)) (at (r.x2 -ℤ pos 1) (r.y2 -ℤ pos 1) (last_in r some)))

pub ok_holds : {T E : Type 0} (r : Result T E) (P : Type 0) → IsOk r → IfOk r (λ _. P) → P
ok_holds (Ok v) P ok h = h
ok_holds (Err e) P ok h = absurd (true≢false (sym ok))

-- a region that was moved, seen from where it is
pub moved_places : (before rs after : List Rect) (dx dy ex ey : ℤ) → before ≡ rs → ex ≡ dx → ey ≡ dy → ((x y : ℤ) → covers after (x +ℤ ex) (y +ℤ ey) ≡ covers before x y) → (x y : ℤ) → covers after x y ≡ covers rs (x -ℤ dx) (y -ℤ dy)
moved_places before rs after dx dy ex ey same is_dx is_dy at x y =
    ap (λ a. covers after a y) (back x ex dx is_dx) ∙ ap (covers after (x -ℤ dx +ℤ ex)) (back y ey dy is_dy) ∙ at (x -ℤ dx) (y -ℤ dy) ∙ ap (λ l. covers l (x -ℤ dx) (y -ℤ dy)) same
  where
    back : (x e d : ℤ) → e ≡ d → x ≡ x -ℤ d +ℤ e
    back x e d is = omega (arith, ints, is)

-- Sets made of sets on a screen.

pub lies_either : (w h : ℕ) (a b c : List Rect) → LiesOn w h a → LiesOn w h b → ((x y : ℤ) → covers c x y ≡ (covers a x y || covers b x y)) → LiesOn w h c
lies_either w h a b c on_a on_b each x y at = go (covers a x y) (covers b x y) refl refl (sym (each x y) ∙ at)
  where
    go : (s t : Bool) → covers a x y ≡ s → covers b x y ≡ t → (s || t) ≡ true → on_screen w h x y ≡ true
    go true t in_a in_b e = on_a x y in_a
    go false true in_a in_b e = on_b x y in_b
    go false false in_a in_b e = absurd (true≢false (sym e))

pub lies_part : (w h : ℕ) (a c : List Rect) (test : ℤ → ℤ → Bool) → LiesOn w h a → ((x y : ℤ) → covers c x y ≡ (covers a x y && test x y)) → LiesOn w h c
lies_part w h a c test on_a each x y at = on_a x y (and_parts (covers a x y) (test x y) (sym (each x y) ∙ at)).0

pub lies_on_part : (w h : ℕ) (c : List Rect) (test : ℤ → ℤ → Bool) → ((x y : ℤ) → covers c x y ≡ (test x y && on_screen w h x y)) → LiesOn w h c
lies_on_part w h c test each x y at = (and_parts (test x y) (on_screen w h x y) (sym (each x y) ∙ at)).1

-- a set that is cut to a screen with its sources
pub cut_lies : (w h : ℕ) (by : ℤ × ℤ) (rs : List Rect) → IsCutTo w h by rs → LiesOn w h rs
cut_lies w h by rs cut x y at = (and_parts (on_screen w h x y) (on_screen w h (x -ℤ by.0) (y -ℤ by.1)) (cut x y at)).0

pub cut_wider : (w h : ℕ) (by : ℤ × ℤ) (rs : List Rect) → w ≤ longest_side → h ≤ longest_side → IsCutTo w h by rs → IsCutTo longest_side longest_side by rs
cut_wider w h by rs columns rows cut x y at =
    let parts = and_parts (on_screen w h x y) (on_screen w h (x -ℤ by.0) (y -ℤ by.1)) (cut x y at) in
    both _ _ (wider w h x y columns rows parts.0) (wider w h (x -ℤ by.0) (y -ℤ by.1) columns rows parts.1)
  where
    both : (a b : Bool) → a ≡ true → b ≡ true → (a && b) ≡ true
    both a b p q = ap (λ t. t && b) p ∙ q

-- no copy by a far offset takes a colour from a screen
pub far_lost : (copied drawn none : List Rect) (dx dy : ℤ) (stays : Bool) → none ≡ [] → (is_far_by dx || is_far_by dy) ≡ true → stays ≡ true → IsCutTo longest_side longest_side (dx, dy) drawn
    → (x y : ℤ) → covers none x y ≡ (covers copied x y && (not stays || covers drawn (x +ℤ dx) (y +ℤ dy)))
far_lost copied drawn none dx dy stays is_none far is cut x y =
    ap (λ l. covers l x y) is_none ∙ and_false (covers copied x y) ∙ ap (λ t. covers copied x y && t) (sym (ap (λ t. t || covers drawn (x +ℤ dx) (y +ℤ dy)) (ap not is) ∙ not_drawn (covers drawn (x +ℤ dx) (y +ℤ dy)) refl))
  where
    and_false : (t : Bool) → false ≡ (t && false)
    and_false true = refl
    and_false false = refl

    not_drawn : (t : Bool) → covers drawn (x +ℤ dx) (y +ℤ dy) ≡ t → t ≡ false
    not_drawn true at =
        let parts = and_parts (on_screen longest_side longest_side (x +ℤ dx) (y +ℤ dy)) (on_screen longest_side longest_side (x +ℤ dx -ℤ dx) (y +ℤ dy -ℤ dy)) (cut (x +ℤ dx) (y +ℤ dy) at) in
        absurd (true≢false (sym parts.1 ∙ off_by_far (x +ℤ dx) (y +ℤ dy) dx dy far parts.0))
    not_drawn false at = refl

-- the copied places from which a copy by a near offset takes colours
pub near_lost : (copied drawn sources lost : List Rect) (dx dy ex ey : ℤ) (stays : Bool) → stays ≡ true → ((x : ℤ) → x -ℤ ex ≡ x +ℤ dx) → ((y : ℤ) → y -ℤ ey ≡ y +ℤ dy) → LiesOn longest_side longest_side copied
    → ((x y : ℤ) → on_screen longest_side longest_side x y ≡ true → covers sources x y ≡ covers drawn (x -ℤ ex) (y -ℤ ey)) → ((x y : ℤ) → covers lost x y ≡ (covers copied x y && covers sources x y))
    → (x y : ℤ) → covers lost x y ≡ (covers copied x y && (not stays || covers drawn (x +ℤ dx) (y +ℤ dy)))
near_lost copied drawn sources lost dx dy ex ey stays is back_x back_y lies each_source each x y =
    each x y ∙ go (covers copied x y) refl ∙ ap (λ t. covers copied x y && (t || covers drawn (x +ℤ dx) (y +ℤ dy))) (sym (ap not is))
  where
    go : (t : Bool) → covers copied x y ≡ t → (t && covers sources x y) ≡ (t && (false || covers drawn (x +ℤ dx) (y +ℤ dy)))
    go true at = each_source x y (lies x y at) ∙ ap (λ a. covers drawn a (y -ℤ ey)) (back_x x) ∙ ap (covers drawn (x +ℤ dx)) (back_y y)
    go false at = refl

-- the copied places that are asked for with their sources
pub asked_copies : (copied asked sources both all : List Rect) (dx dy : ℤ) → LiesOn longest_side longest_side copied → ((x y : ℤ) → on_screen longest_side longest_side x y ≡ true → covers sources x y ≡ covers asked (x -ℤ dx) (y -ℤ dy))
    → ((x y : ℤ) → covers both x y ≡ (covers copied x y && covers asked x y)) → ((x y : ℤ) → covers all x y ≡ (covers both x y && covers sources x y))
    → (x y : ℤ) → covers all x y ≡ (covers asked x y && covers copied x y && covers asked (x -ℤ dx) (y -ℤ dy))
asked_copies copied asked sources both all dx dy lies each_source each_both each x y =
    each x y ∙ ap (λ t. t && covers sources x y) (each_both x y) ∙ go (covers copied x y) refl
  where
    none : (a t : Bool) → false ≡ ((a && false) && t)
    none true t = refl
    none false t = refl

    one : (a s : Bool) → (a && s) ≡ ((a && true) && s)
    one true s = refl
    one false s = refl

    go : (t : Bool) → covers copied x y ≡ t → ((t && covers asked x y) && covers sources x y) ≡ ((covers asked x y && t) && covers asked (x -ℤ dx) (y -ℤ dy))
    go true at = ap (λ t. covers asked x y && t) (each_source x y (lies x y at)) ∙ one (covers asked x y) (covers asked (x -ℤ dx) (y -ℤ dy))
    go false at = none (covers asked x y) (covers asked (x -ℤ dx) (y -ℤ dy))

-- a rectangle that isn't moved
pub unmoved : (r : Rect) (w h : ℕ) (x y : ℤ) → (in_rect r (x -ℤ pos 0) (y -ℤ pos 0) && on_screen w h x y) ≡ (in_rect r x y && on_screen w h x y)
unmoved r w h x y = ap (λ a. in_rect r a (y -ℤ pos 0) && on_screen w h x y) (minus x) ∙ ap (λ b. in_rect r x b && on_screen w h x y) (minus y)
  where
    minus : (x : ℤ) → x -ℤ pos 0 ≡ x
    minus x = omega (arith, ints)
