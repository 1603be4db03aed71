-- Places of rectangles that hold one another, or share places.
use Rattle.std.proofs.Common.{◌≡◌, Bool, true, false, ◌&&◌, refl, sym, ◌∙◌, ap, arith, Option, Some, None}
use Rattle.std.specs.Prelude.{ℤ, int_le, int_lt, ◌||◌, not, IsTrue, ◌↔◌, ◌<ℤ◌}
use Rattle.std.specs.Option.{is_some}
use Rattle.std.proofs.lemmas.Int.{ints}
use Rattle.region.specs.declared.Rect.{Rect}
use Rattle.region.specs.Region.{in_rect}
use Rattle.region.specs.Forms.{HasPlaces, IsPlain, in_plain, PlainsShare, lies_in, overlap}
use Rattle.region_sets.specs.Strips.{nearer}
use Rattle.region_sets.specs.Walks.{farther}

from_farther : (a b x : ℤ) → int_le (farther a b) x ≡ (int_le a x && int_le b x)
from_farther a b x = grind (arith, ints)

to_nearer : (a b x : ℤ) → int_lt x (nearer a b) ≡ (int_lt x a && int_lt x b)
to_nearer a b x = grind (arith, ints)

pub in_overlap : (a b : Rect) (x y : ℤ) → in_rect (overlap a b) x y ≡ (in_rect a x y && in_rect b x y)
in_overlap a b x y =
    ap (λ t. ((t && int_lt x (nearer a.x2 b.x2)) && int_le (farther a.y1 b.y1) y) && int_lt y (nearer a.y2 b.y2)) (from_farther a.x1 b.x1 x)
    ∙ ap (λ t. (((int_le a.x1 x && int_le b.x1 x) && t) && int_le (farther a.y1 b.y1) y) && int_lt y (nearer a.y2 b.y2)) (to_nearer a.x2 b.x2 x)
    ∙ ap (λ t. (((int_le a.x1 x && int_le b.x1 x) && (int_lt x a.x2 && int_lt x b.x2)) && t) && int_lt y (nearer a.y2 b.y2)) (from_farther a.y1 b.y1 y)
    ∙ ap (λ t. (((int_le a.x1 x && int_le b.x1 x) && (int_lt x a.x2 && int_lt x b.x2)) && (int_le a.y1 y && int_le b.y1 y)) && t) (to_nearer a.y2 b.y2 y)
    ∙ four (int_le a.x1 x) (int_le b.x1 x) (int_lt x a.x2) (int_lt x b.x2) (int_le a.y1 y) (int_le b.y1 y) (int_lt y a.y2) (int_lt y b.y2)
  where
    two : (p q r s : Bool) → ((p && q) && (r && s)) ≡ ((p && r) && (q && s))
    two true true r s = refl
    two true false true s = refl
    two true false false s = refl
    two false q r s = refl

    four : (a1 b1 a2 b2 a3 b3 a4 b4 : Bool) → ((((a1 && b1) && (a2 && b2)) && (a3 && b3)) && (a4 && b4)) ≡ ((((a1 && a2) && a3) && a4) && (((b1 && b2) && b3) && b4))
    four a1 b1 a2 b2 a3 b3 a4 b4 =
        ap (λ t. (t && (a3 && b3)) && (a4 && b4)) (two a1 b1 a2 b2)
        ∙ ap (λ t. t && (a4 && b4)) (two (a1 && a2) (b1 && b2) a3 b3)
        ∙ two ((a1 && a2) && a3) ((b1 && b2) && b3) a4 b4

pub no_overlap : (a b : Rect) → (int_lt (overlap a b).x1 (overlap a b).x2 && int_lt (overlap a b).y1 (overlap a b).y2) ≡ false → (x y : ℤ) → false ≡ (in_rect a x y && in_rect b x y)
no_overlap a b none x y = none_in (overlap a b) none ∙ in_overlap a b x y
  where
    none_in : (r : Rect) → (int_lt r.x1 r.x2 && int_lt r.y1 r.y2) ≡ false → false ≡ in_rect r x y
    none_in r e = grind (arith, ints)

pub has_places : (r : Rect) → (int_lt r.x1 r.x2 && int_lt r.y1 r.y2) ≡ true → HasPlaces r
has_places r e = record { columns = grind (arith, ints); rows = grind (arith, ints) }

-- a rectangle that lies in another one has its places there
pub inside : (r q : Rect) (x y : ℤ) → lies_in r q ≡ true → in_rect r x y ≡ true → in_rect q x y ≡ true
inside r q x y e h =
    let sides = both (int_le q.x1 r.x1 && int_le r.x2 q.x2) (int_le q.y1 r.y1 && int_le r.y2 q.y2) e in
    let wide = both (int_le q.x1 r.x1) (int_le r.x2 q.x2) sides.0 in
    let high = both (int_le q.y1 r.y1) (int_le r.y2 q.y2) sides.1 in
    let three = both ((int_le r.x1 x && int_lt x r.x2) && int_le r.y1 y) (int_lt y r.y2) h in
    let two = both (int_le r.x1 x && int_lt x r.x2) (int_le r.y1 y) three.0 in
    let one = both (int_le r.x1 x) (int_lt x r.x2) two.0 in
    join ((int_le q.x1 x && int_lt x q.x2) && int_le q.y1 y) (int_lt y q.y2)
    (join (int_le q.x1 x && int_lt x q.x2) (int_le q.y1 y) (join (int_le q.x1 x) (int_lt x q.x2) (after q.x1 r.x1 x wide.0 one.0) (before x r.x2 q.x2 one.1 wide.1)) (after q.y1 r.y1 y high.0 two.1))
    (before y r.y2 q.y2 three.1 high.1)
  where
    both : (a b : Bool) → (a && b) ≡ true → (a ≡ true) × (b ≡ true)
    both true b e = (refl, e)
    both false b e = absurd (cc)

    join : (a b : Bool) → a ≡ true → b ≡ true → (a && b) ≡ true
    join true b e f = f
    join false b e f = absurd (cc)

    after : (a b x : ℤ) → int_le a b ≡ true → int_le b x ≡ true → int_le a x ≡ true
    after a b x e f = grind (arith, ints)

    before : (x a b : ℤ) → int_lt x a ≡ true → int_le a b ≡ true → int_lt x b ≡ true
    before x a b e f = grind (arith, ints)

pub either_outer : (r q : Rect) (x y : ℤ) → lies_in r q ≡ true → in_rect q x y ≡ (in_rect q x y || in_rect r x y)
either_outer r q x y e = go (in_rect q x y) (in_rect r x y) (inside r q x y e)
  where
    go : (t u : Bool) → (u ≡ true → t ≡ true) → t ≡ (t || u)
    go true u h = refl
    go false true h = h refl
    go false false h = refl

pub either_turned : (r q : Rect) (x y : ℤ) → lies_in r q ≡ true → in_rect q x y ≡ (in_rect r x y || in_rect q x y)
either_turned r q x y e = go (in_rect q x y) (in_rect r x y) (inside r q x y e)
  where
    go : (t u : Bool) → (u ≡ true → t ≡ true) → t ≡ (u || t)
    go t true h = h refl
    go t false h = refl

pub none_left : (r q : Rect) (x y : ℤ) → lies_in r q ≡ true → false ≡ (in_rect r x y && not (in_rect q x y))
none_left r q x y e = go (in_rect q x y) (in_rect r x y) (inside r q x y e)
  where
    go : (t u : Bool) → (u ≡ true → t ≡ true) → false ≡ (u && not t)
    go true true h = refl
    go false true h = absurd (let e = h refl in cc)
    go t false h = refl

pub all_left : (r q : Rect) (shared : Option Rect) (x y : ℤ) → ((x y : ℤ) → in_plain shared x y ≡ (in_rect r x y && in_rect q x y)) → is_some shared ≡ false → in_rect r x y ≡ (in_rect r x y && not (in_rect q x y))
all_left r q None x y h e = go (in_rect r x y) (in_rect q x y) (h x y)
  where
    go : (t u : Bool) → false ≡ (t && u) → t ≡ (t && not u)
    go true true e = absurd (cc)
    go true false e = refl
    go false u e = refl
all_left r q (Some s) x y h e = absurd (cc)

pub whether_shared : (r q : Rect) (shared : Option Rect) → ((x y : ℤ) → in_plain shared x y ≡ (in_rect r x y && in_rect q x y)) → IsPlain shared → IsTrue (is_some shared) ↔ PlainsShare (Some r) (Some q)
whether_shared r q None h plain = ((λ e. absurd (cc)), λ s. absurd (let e : false ≡ true = h s.0 s.1.0 ∙ s.1.1 in cc))
whether_shared r q (Some s) h plain = ((λ e. (s.x1, (s.y1, sym (h s.x1 s.y1) ∙ corner s plain))), (λ e. refl))
  where
    corner : (s : Rect) → HasPlaces s → in_rect s s.x1 s.y1 ≡ true
    corner s p = at (p.columns) (p.rows)
      where
        at : s.x1 <ℤ s.x2 → s.y1 <ℤ s.y2 → in_rect s s.x1 s.y1 ≡ true
        at c r = grind (arith, ints)
