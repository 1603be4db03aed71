-- The pieces of rectangles that a copy moves colours to.
use Rattle.std.proofs.Common.{◌≡◌, ℕ, ℤ, ◌+◌, ◌<◌, Bool, true, false, ◌&&◌, ◌||◌, List, [], ◌∷◌, ◌++◌, length, get_or, take, map, All, refl, sym, ap, ◌∙◌, arith}
use Rattle.std.specs.Prelude.{◌-ℤ◌, ◌<ℤ◌, int_lt}
use Rattle.std.proofs.lemmas.Int.{ints}
use Rattle.std.proofs.lemmas.List.{take_more, map-append}
use Rattle.std.proofs.lemmas.List.Folds.{list_any-append}
use Rattle.std.proofs.lemmas.List.Elements.{All-append, All-nil}
use Rattle.region.specs.declared.Rect.{Rect}
use Rattle.region.specs.RegionView.{one_if}
use Rattle.region.specs.Region.{in_rect, covers, on_screen}
use Rattle.region.specs.Places.{cut_destination, IsOnScreen, source_rect}
use Rattle.framebuffer.specs.Picture.{straight, places_in}

pub record ArePieces (w h : ℕ) (by : ℤ × ℤ) (rects pieces : List Rect) : Type 0 where
  pub places : (x y : ℤ) → covers pieces x y ≡ cut_destination w h (places_in rects) by x y
  pub inside : All (IsOnScreen w h) pieces
  pub sources : All (λ r. IsOnScreen w h (source_rect by r)) pieces

or_false : (b : Bool) → (b || false) ≡ b
or_false true = refl
or_false false = refl

-- a rectangle without places covers none
none_in : (r : Rect) (x y : ℤ) → (int_lt r.x1 r.x2 && int_lt r.y1 r.y2) ≡ false → in_rect r x y ≡ false
none_in r x y none = grind (arith, ints)

covers_if : (r : Rect) (t : Bool) (x y : ℤ) → t ≡ (int_lt r.x1 r.x2 && int_lt r.y1 r.y2) → covers (one_if t r) x y ≡ in_rect r x y
covers_if r true x y e = or_false (in_rect r x y)
covers_if r false x y e = sym (none_in r x y (sym e))

union_more : (rects : List Rect) (i : ℕ) (d : Rect) (x y : ℤ) → i < length rects → places_in (take (i + 1) rects) x y ≡ (places_in (take i rects) x y || in_rect (straight (get_or rects i d)) x y)
union_more rects i d x y below =
    ap (λ l. covers (map straight l) x y) (take_more rects i d below)
    ∙ ap (λ l. covers l x y) (map-append straight (take i rects) (get_or rects i d ∷ []))
    ∙ list_any-append (λ r. in_rect r x y) (map straight (take i rects)) (straight (get_or rects i d) ∷ [])
    ∙ ap (λ b. places_in (take i rects) x y || b) (or_false (in_rect (straight (get_or rects i d)) x y))

either : (a b s t : Bool) → ((a && s && t) || (b && s && t)) ≡ ((a || b) && s && t)
either a b s t = grind (arith)

has_some : (r : Rect) → (int_lt r.x1 r.x2 && int_lt r.y1 r.y2) ≡ true → (r.x1 <ℤ r.x2) × (r.y1 <ℤ r.y2)
has_some r e = (grind (arith, ints), grind (arith, ints))

all_if : (P : Rect → Type 0) (r : Rect) (t : Bool) → (t ≡ true → P r) → All P (one_if t r)
all_if P r true h = λ k d below. one k d below
  where
    one : (k : ℕ) (d : Rect) → k < 1 → P (get_or (r ∷ []) k d)
    one k d below = let first : k ≡ 0 = omega arith in rw first (h refl)
all_if P r false h = All-nil P

pub no_pieces : (w h : ℕ) (by : ℤ × ℤ) (pieces : List Rect) → pieces ≡ [] → ArePieces w h by [] pieces
no_pieces w h by pieces e = rw e (record { places = λ x y. refl; inside = All-nil (IsOnScreen w h); sources = All-nil (λ r. IsOnScreen w h (source_rect by r)) })

pub more_pieces : (w h : ℕ) (by : ℤ × ℤ) (rects : List Rect) (i : ℕ) (d piece : Rect) (pieces new : List Rect) → i < length rects
    → ((x y : ℤ) → in_rect piece x y ≡ (in_rect (straight (get_or rects i d)) x y && on_screen w h x y && on_screen w h (x -ℤ by.0) (y -ℤ by.1)))
    → (piece.x1 <ℤ piece.x2 → piece.y1 <ℤ piece.y2 → IsOnScreen w h piece) → (piece.x1 <ℤ piece.x2 → piece.y1 <ℤ piece.y2 → IsOnScreen w h (source_rect by piece))
    → new ≡ pieces ++ one_if (int_lt piece.x1 piece.x2 && int_lt piece.y1 piece.y2) piece → ArePieces w h by (take i rects) pieces → ArePieces w h by (take (i + 1) rects) new
more_pieces w h by rects i d piece pieces new below places inside sources is old =
    let t = int_lt piece.x1 piece.x2 && int_lt piece.y1 piece.y2 in
    rw is (record {
      places = λ x y.
          list_any-append (λ r. in_rect r x y) pieces (one_if t piece)
          ∙ ap (λ b. b || covers (one_if t piece) x y) (old.places x y)
          ∙ ap (λ b. cut_destination w h (places_in (take i rects)) by x y || b) (covers_if piece t x y refl ∙ places x y)
          ∙ either (places_in (take i rects) x y) (in_rect (straight (get_or rects i d)) x y) (on_screen w h x y) (on_screen w h (x -ℤ by.0) (y -ℤ by.1))
          ∙ ap (λ b. b && on_screen w h x y && on_screen w h (x -ℤ by.0) (y -ℤ by.1)) (sym (union_more rects i d x y below));
      inside = All-append (IsOnScreen w h) pieces (one_if t piece) old.inside (all_if (IsOnScreen w h) piece t (λ e. let some = has_some piece e in inside some.0 some.1));
      sources = All-append (λ r. IsOnScreen w h (source_rect by r)) pieces (one_if t piece) old.sources (all_if (λ r. IsOnScreen w h (source_rect by r)) piece t (λ e. let some = has_some piece e in sources some.0 some.1));
    })
