-- What contracts see of the bands that the arena has.
use Rattle.std.proofs.Common.{◌≡◌, ◌≢◌, ℕ, List, [], ◌∷◌, ◌++◌, map, Option, Some, None, refl, subst, sym, ap, ◌∙◌, Contains, eqb, pos}
use Rattle.std.specs.Prelude.{slice_get}
use Rattle.std.specs.Option.{option_map_or}
use Rattle.std.specs.List.{IsDistinct}
use Rattle.std.proofs.lemmas.Bool.{eq-eqb, ne_eqb}
use Rattle.std.proofs.lemmas.List.{append-nil, map-append}
use Rattle.span_arena.specs.Arena.{Arena, list_of, ids_of, span_of, IsSound}
use Rattle.span_arena.specs.declared.Span.{Span}
use Rattle.span_arena.specs.DistinctLemmas.{here, distinct_between}
use Rattle.span_arena.specs.ViewLemmas.{ids_are}
use Rattle.region_bands.specs.declared.Interval.{Interval}
use Rattle.region_bands.specs.declared.Lists.{Lists}
use Rattle.region_bands.specs.Bands.{Band, Bands}
use Rattle.region_bands.specs.Held.{Each, PlacedInterval, HasRow, Entry, at_of, band_of, placed_band, placed_interval, ids_in, intervals_in, ids_before, ids_from, interval_at, ids_below, band_at, view_of, IsLeft, Holds, Shows, IsHeld}
use Rattle.region_bands.specs.EachLemmas.{each_left, each_right, later}
use Rattle.region_bands.proofs.HasLemmas.{IsSpan, ids_split}

-- a list in which no id comes twice, cut before the first of its back
pub before_cut : (front back : List ℕ) → IsDistinct eqb (front ++ back) → ids_before (slice_get back 0) (front ++ back) ≡ front
before_cut front [] distinct = append-nil front
before_cut front (x ∷ back) distinct = go front (λ k there same. distinct_between front (x ∷ back) distinct k x there (here x back) (sym same))
  where
    go : (front : List ℕ) → ((k : ℕ) → Contains front k → k ≢ x) → ids_before (Some x) (front ++ x ∷ back) ≡ front
    go [] apart = rw (eq-eqb x x refl) refl
    go (y ∷ ys) apart = rw (ne_eqb y x (apart y (here y ys))) (ap (λ (l : List ℕ). y ∷ l) (go ys (λ k there. apart k (later y k ys there))))

pub from_cut : (front back : List ℕ) → IsDistinct eqb (front ++ back) → ids_from (slice_get back 0) (front ++ back) ≡ back
from_cut front [] distinct = refl
from_cut front (x ∷ back) distinct = go front (λ k there same. distinct_between front (x ∷ back) distinct k x there (here x back) (sym same))
  where
    go : (front : List ℕ) → ((k : ℕ) → Contains front k → k ≢ x) → ids_from (Some x) (front ++ x ∷ back) ≡ x ∷ back
    go [] apart = rw (eq-eqb x x refl) refl
    go (y ∷ ys) apart = rw (ne_eqb y x (apart y (here y ys))) (go ys (λ k there. apart k (later y k ys there)))

-- the ids of placed intervals and bands
pub row_ids : (row : List PlacedInterval) → ids_in (map placed_interval row) ≡ ids_in row
row_ids [] = refl
row_ids (p ∷ row) = ap (λ (l : List ℕ). p.0 ∷ l) (row_ids row)

pub band_ids : (es : List Entry) → ids_in (map placed_band es) ≡ map at_of es
band_ids [] = refl
band_ids (e ∷ es) = ap (λ (l : List ℕ). e.at ∷ l) (band_ids es)

pub all_ids : (above below : List Entry) → ids_in (map placed_band above ++ map placed_band below) ≡ map at_of above ++ map at_of below
all_ids above below =
    ids_split (map placed_band above) (map placed_band below)
    ∙ ap (λ (l : List ℕ). l ++ ids_in (map placed_band below)) (band_ids above)
    ∙ ap (λ (l : List ℕ). map at_of above ++ l) (band_ids below)

module _ (a : Arena) where
  pub row_read : (row : List PlacedInterval) → Each (IsSpan a) (map placed_interval row) → map (interval_at a) (ids_in row) ≡ intervals_in row
  row_read [] all = refl
  row_read (p ∷ row) all =
      ap (λ (o : Option Span). option_map_or (λ s. record { from = s.start; to = s.stop }) o (record { from = pos 0; to = pos 0 }) ∷ map (interval_at a) (ids_in row)) all.0
      ∙ ap (λ (l : List Interval). p.1 ∷ l) (row_read row all.1)

  pub row_list : (list : ℕ) (row : List PlacedInterval) → HasRow a list row → list_of a list ≡ Some (ids_in row)
  row_list list row has = has.ids ∙ ap Some (row_ids row)

  pub below_ids : (e : Entry) → span_of a e.at ≡ Some (placed_band e).1 → HasRow a e.list e.row → ids_below a e.at ≡ ids_in e.row
  below_ids e span has =
      ap (λ (o : Option Span). option_map_or (λ s. option_map_or (ids_of a) s.sub []) o []) span
      ∙ ids_are a e.list (ids_in e.row) (row_list e.list e.row has)

  pub band_read : (e : Entry) → span_of a e.at ≡ Some (placed_band e).1 → HasRow a e.list e.row → band_at a e.at ≡ band_of e
  band_read e span has =
      ap (λ (o : Option Span). option_map_or (λ s. record { top = s.start; bottom = s.stop; row = map (interval_at a) (ids_below a e.at) }) o (record { top = pos 0; bottom = pos 0; row = [] })) span
      ∙ ap (λ (l : List Interval). record { top = e.top; bottom = e.bottom; row = l }) (ap (map (interval_at a)) (below_ids e span has) ∙ row_read e.row has.spans)

  pub bands_read : (es : List Entry) → Each (IsSpan a) (map placed_band es) → Each (λ e. HasRow a e.list e.row) es → map (band_at a) (map at_of es) ≡ map band_of es
  bands_read [] spans rows = refl
  bands_read (e ∷ es) spans rows =
      ap (λ (b : Band). b ∷ map (band_at a) (map at_of es)) (band_read e spans.0 rows.0)
      ∙ ap (λ (l : List Band). band_of e ∷ l) (bands_read es spans.1 rows.1)

  pub left_read : IsSound a → (gap left : Option ℕ) (es : List Entry) (xs : List Interval) → gap ≡ slice_get (map at_of es) 0 → Each (IsSpan a) (map placed_band es) → Each (λ e. HasRow a e.list e.row) es → IsLeft left es xs → map (interval_at a) (option_map_or (λ at. ids_from left (ids_below a at)) gap []) ≡ xs
  left_read sound gap left [] xs is spans rows there = ap (λ (o : Option ℕ). map (interval_at a) (option_map_or (λ at. ids_from left (ids_below a at)) o [])) is ∙ sym there.1
  left_read sound gap left (e ∷ es) xs is spans rows there =
      let ids : ids_below a e.at ≡ ids_in there.passed ++ ids_in there.rest = below_ids e spans.0 rows.0 ∙ ap (λ (l : List PlacedInterval). ids_in l) there.row_is ∙ ids_split there.passed there.rest in
      let list : list_of a e.list ≡ Some (ids_in there.passed ++ ids_in there.rest) = row_list e.list e.row rows.0 ∙ ap Some (ap (λ (l : List PlacedInterval). ids_in l) there.row_is ∙ ids_split there.passed there.rest) in
      let spans_there : Each (IsSpan a) (map placed_interval there.passed ++ map placed_interval there.rest) = subst (Each (IsSpan a)) (ap (map placed_interval) there.row_is ∙ map-append placed_interval there.passed there.rest) rows.0.spans in
      ap (λ (o : Option ℕ). map (interval_at a) (option_map_or (λ at. ids_from left (ids_below a at)) o [])) is
      ∙ ap (λ (l : List ℕ). map (interval_at a) (ids_from left l)) ids
      ∙ ap (λ (o : Option ℕ). map (interval_at a) (ids_from o (ids_in there.passed ++ ids_in there.rest))) there.left_is
      ∙ ap (map (interval_at a)) (from_cut (ids_in there.passed) (ids_in there.rest) (sound.once e.list (ids_in there.passed ++ ids_in there.rest) list))
      ∙ row_read there.rest (each_right (IsSpan a) (map placed_interval there.passed) (map placed_interval there.rest) spans_there)
      ∙ sym there.intervals_are

-- the five parts, together
same_parts : (v : Bands) (above : List Band) (row left : List Interval) (below : List Band) (spare : ℕ) → above ≡ v.above → row ≡ v.row → left ≡ v.left → below ≡ v.below → spare ≡ v.spare → record { above = above; row = row; left = left; below = below; spare = spare } ≡ v
same_parts v above row left below spare e1 e2 e3 e4 e5 = rw (e1, e2, e3, e4, e5) refl

module _ (a : Arena) (bands rows : ℕ) (gap left : Option ℕ) (v : Bands) (h : Holds a bands rows gap left v) where
  pub bands_list : list_of a bands ≡ Some (map at_of h.above ++ map at_of h.below)
  bands_list = h.has_bands.ids ∙ ap Some (all_ids h.above h.below)

  pub bands_apart : IsDistinct eqb (map at_of h.above ++ map at_of h.below)
  bands_apart = h.sound.once bands (map at_of h.above ++ map at_of h.below) bands_list

  pub spans_above : Each (IsSpan a) (map placed_band h.above)
  spans_above = each_left (IsSpan a) (map placed_band h.above) (map placed_band h.below) h.has_bands.spans

  pub spans_below : Each (IsSpan a) (map placed_band h.below)
  spans_below = each_right (IsSpan a) (map placed_band h.above) (map placed_band h.below) h.has_bands.spans

  ids_there : ids_of a bands ≡ map at_of h.above ++ map at_of h.below
  ids_there = ids_are a bands (map at_of h.above ++ map at_of h.below) bands_list

  above_seen : map (band_at a) (ids_before gap (ids_of a bands)) ≡ v.above
  above_seen =
      ap (λ (o : Option ℕ). map (band_at a) (ids_before o (ids_of a bands))) h.gap_is
      ∙ ap (λ (l : List ℕ). map (band_at a) (ids_before (slice_get (map at_of h.below) 0) l)) ids_there
      ∙ ap (map (band_at a)) (before_cut (map at_of h.above) (map at_of h.below) bands_apart)
      ∙ bands_read a h.above spans_above h.rows_above
      ∙ sym h.above_is

  below_seen : map (band_at a) (ids_from gap (ids_of a bands)) ≡ v.below
  below_seen =
      ap (λ (o : Option ℕ). map (band_at a) (ids_from o (ids_of a bands))) h.gap_is
      ∙ ap (λ (l : List ℕ). map (band_at a) (ids_from (slice_get (map at_of h.below) 0) l)) ids_there
      ∙ ap (map (band_at a)) (from_cut (map at_of h.above) (map at_of h.below) bands_apart)
      ∙ bands_read a h.below spans_below h.rows_below
      ∙ sym h.below_is

  row_seen : map (interval_at a) (ids_of a rows) ≡ v.row
  row_seen = ap (map (interval_at a)) (ids_are a rows (ids_in h.row) (row_list a rows h.row h.has_row)) ∙ row_read a h.row h.has_row.spans ∙ sym h.row_is

  pub holds_seen : (lists : Lists) → lists.bands ≡ bands → lists.row ≡ rows → view_of a (Some lists) gap left ≡ v
  holds_seen lists bands_is rows_is =
      same_parts v _ _ _ _ _
      (ap (λ (l : ℕ). map (band_at a) (ids_before gap (ids_of a l))) bands_is ∙ above_seen)
      (ap (λ (l : ℕ). map (interval_at a) (ids_of a l)) rows_is ∙ row_seen)
      (left_read a h.sound gap left h.below v.left h.gap_is spans_below h.rows_below h.is_left)
      (ap (λ (l : ℕ). map (band_at a) (ids_from gap (ids_of a l))) bands_is ∙ below_seen)
      (sym h.spare_is)

pub seen : (a : Arena) (lists : Option Lists) (gap left : Option ℕ) (v : Bands) → Shows a lists gap left v → view_of a lists gap left ≡ v
seen a None gap left v shows = sym shows.2
seen a (Some lists) gap left v shows = holds_seen a lists.bands lists.row gap left v shows lists refl refl

pub shown : (a : Arena) (lists : Option Lists) (gap left : Option ℕ) (v : Bands) → IsHeld a lists gap left → view_of a lists gap left ≡ v → Shows a lists gap left v
shown a lists gap left v held is = subst (Shows a lists gap left) (sym (seen a lists gap left held.0 held.1) ∙ is) held.1

-- with these lists
pub holds_for : (a : Arena) (lists : Option Lists) (gap left : Option ℕ) (v : Bands) → IsHeld a lists gap left → view_of a lists gap left ≡ v → (some : Lists) → lists ≡ Some some → Holds a some.bands some.row gap left v
holds_for a lists gap left v held is some there =
    let S : Option Lists → Type 0 = λ l. Shows a l gap left v in
    subst S there (shown a lists gap left v held is)

pub shows_for : (a : Arena) (lists : Option Lists) (gap left : Option ℕ) (v : Bands) (some : Lists) → lists ≡ Some some → Holds a some.bands some.row gap left v → Shows a lists gap left v
shows_for a lists gap left v some there holds =
    let S : Option Lists → Type 0 = λ l. Shows a l gap left v in
    subst S (sym there) holds
