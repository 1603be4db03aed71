-- The rectangles that were put into a list while bands were read.
use Rattle.std.proofs.Common.{◌≡◌, ◌<◌, length, Bool, List, [], ◌∷◌, ◌++◌, map, refl, sym, ◌∙◌, ap, subst, arith, Option, Some, None}
use Rattle.std.specs.Prelude.{slice_get}
use Rattle.std.specs.Option.{option_map}
use Rattle.std.proofs.lemmas.Option.{same_Some}
use Rattle.std.specs.Global.{Vec}
use Rattle.std.specs.Vec.{with_items}
use Rattle.std.proofs.lemmas.List.{with_items_is, append_assoc, append-nil, map-append}
use Rattle.region.specs.declared.Rect.{Rect}
use Rattle.region_bands.specs.declared.Interval.{Interval}
use Rattle.region_bands.specs.declared.Rows.{Rows}
use Rattle.region_bands.specs.Bands.{Band, Reading, reading, rows_of, first_row}
use Rattle.region.specs.Region.{reversed_if}
use Rattle.region.specs.Rects.{rect_of, rects_of_band, lines_in}

-- the intervals read so far of a row with these rows were put behind the list
pub record Listed (rows : Rows) (old new : List Rect) (start now : Reading) : Type 0 where
  pub front : List Interval
  pub was : start.left ≡ front ++ now.left
  pub is : new ≡ old ++ map (rect_of rows) front
  pub same : now ≡ record start { left = now.left }

-- the bands read so far were put behind the list, each from the right where reverse_x
pub record ListedBands (reverse_x : Bool) (old new : List Rect) (start now : Reading) : Type 0 where
  pub front : List Band
  pub was : start.bands ≡ front ++ now.bands
  pub is : new ≡ old ++ lines_in reverse_x front
  pub begun : now ≡ reading now.bands

abbrev pub left_is : List Interval → Reading → Reading
left_is l r = record r { left = l }

pub first_there : {X : Type 0} (l : List X) (x : X) → slice_get l 0 ≡ Some x → (rest : List X) × (l ≡ x ∷ rest)
first_there [] x e = absurd (cc)
first_there (y ∷ rest) x e = (rest, ap (λ z. z ∷ rest) (same_Some y x e))

pub none_there : {X : Type 0} (l : List X) → slice_get l 0 ≡ None → l ≡ []
none_there [] e = refl
none_there (y ∷ rest) e = absurd (cc)

one_more : {X : Type 0} (front : List X) (x : X) (rest : List X) → front ++ (x ∷ rest) ≡ (front ++ x ∷ []) ++ rest
one_more front x rest = sym (append_assoc front (x ∷ []) rest)

pub listed_more : (rows : Rows) (old list longer : List Rect) (start now after : Reading) → Listed rows old list start now → (i : Interval) (found : Option Interval) → found ≡ slice_get now.left 0 → found ≡ Some i
    → ((f : Interval) (rest : List Interval) → now.left ≡ f ∷ rest → after ≡ record now { left = rest }) → longer ≡ list ++ rect_of rows i ∷ []
    → Listed rows old longer start after × (length after.left < length now.left)
listed_more rows old list longer start now after h i found e some skip put = (
  record {
    front = h.front ++ i ∷ [];
    was = h.was ∙ ap (λ l. h.front ++ l) there.1 ∙ one_more h.front i there.0 ∙ ap (λ r. (h.front ++ i ∷ []) ++ r.left) (sym past);
    is = put ∙ ap (λ l. l ++ rect_of rows i ∷ []) h.is ∙ append_assoc old (map (rect_of rows) h.front) (rect_of rows i ∷ []) ∙ ap (λ l. old ++ l) (sym (map-append (rect_of rows) h.front (i ∷ [])));
    same = past ∙ ap (left_is there.0) h.same ∙ ap (λ l. left_is l start) (sym (ap (λ r. r.left) past));
  },
  subst (λ r. length r.left < length now.left) (sym past) (subst (λ l. length there.0 < length l) (sym there.1) (omega arith)),
)
  where
    there : (rest : List Interval) × (now.left ≡ i ∷ rest)
    there = first_there now.left i (sym e ∙ some)

    past : after ≡ record now { left = there.0 }
    past = skip i there.0 there.1

pub listed_all : (rows : Rows) (old list : List Rect) (start now : Reading) → Listed rows old list start now → (found : Option Interval) → found ≡ slice_get now.left 0 → found ≡ None
    → (list ≡ old ++ map (rect_of rows) start.left) × (now ≡ record start { left = [] })
listed_all rows old list start now h found e none = (
  h.is ∙ ap (λ l. old ++ map (rect_of rows) l) (sym (h.was ∙ ap (λ l. h.front ++ l) ended ∙ append-nil h.front)),
  h.same ∙ ap (λ l. left_is l start) ended,
)
  where
    ended : now.left ≡ []
    ended = none_there now.left (sym e ∙ none)

pub bands_more : (reverse_x : Bool) (old list longer : List Rect) (start now passed after : Reading) → ListedBands reverse_x old list start now → (rows : Rows) (found : Option Rows) → found ≡ option_map rows_of (slice_get now.bands 0) → found ≡ Some rows
    → longer ≡ list ++ reversed_if reverse_x (map (rect_of rows) now.left) → passed ≡ record now { left = [] } → ((f : Band) (rest : List Band) → passed.bands ≡ f ∷ rest → after ≡ reading rest)
    → ListedBands reverse_x old longer start after × (length after.bands < length now.bands)
bands_more reverse_x old list longer start now passed after h rows found e some put read advance = go now.bands refl
  where
    go : (bands : List Band) → now.bands ≡ bands → ListedBands reverse_x old longer start after × (length after.bands < length now.bands)
    go [] none = absurd (let no : None ≡ Some rows = sym (e ∙ ap (λ l. option_map rows_of (slice_get l 0)) none) ∙ some in cc)
    go (b ∷ rest) is = (
      record {
        front = h.front ++ b ∷ [];
        was = h.was ∙ ap (λ l. h.front ++ l) is ∙ one_more h.front b rest ∙ ap (λ r. (h.front ++ b ∷ []) ++ r.bands) (sym past);
        is =
            put ∙ ap (λ l. l ++ reversed_if reverse_x (map (rect_of rows) now.left)) h.is
            ∙ append_assoc old (lines_in reverse_x h.front) (reversed_if reverse_x (map (rect_of rows) now.left))
            ∙ ap (λ l. old ++ (lines_in reverse_x h.front ++ reversed_if reverse_x l)) row ∙ ap (λ l. old ++ l) (sym (more h.front));
        begun = past ∙ ap reading (sym (ap (λ r. r.bands) past));
      },
      subst (λ r. length r.bands < length now.bands) (sym past) (subst (λ l. length rest < length l) (sym is) (omega arith)),
    )
      where
        past : after ≡ reading rest
        past = advance b rest (ap (λ r. r.bands) read ∙ is)

        same : rows ≡ rows_of b
        same = sym (same_Some (rows_of b) rows (sym (e ∙ ap (λ l. option_map rows_of (slice_get l 0)) is) ∙ some))

        row : map (rect_of rows) now.left ≡ rects_of_band b
        row = ap (λ r. map (rect_of rows) r.left) h.begun ∙ ap (λ l. map (rect_of rows) (first_row l)) is ∙ ap (λ r. map (rect_of r) b.row) same

        more : (front : List Band) → lines_in reverse_x (front ++ b ∷ []) ≡ lines_in reverse_x front ++ reversed_if reverse_x (rects_of_band b)
        more [] = append-nil (reversed_if reverse_x (rects_of_band b))
        more (c ∷ front) =
            ap (λ l. reversed_if reverse_x (rects_of_band c) ++ l) (more front)
            ∙ sym (append_assoc (reversed_if reverse_x (rects_of_band c)) (lines_in reverse_x front) (reversed_if reverse_x (rects_of_band b)))

-- what a list of a Vec is, once its slice is written
pub written : {X : Type 0} (v : Vec X) (before new : List X) → before ≡ v.items → length new ≡ length before → (with_items v new).items ≡ new
written v before new e same = with_items_is v new (same ∙ ap length e ∙ sym v.ok.0)
