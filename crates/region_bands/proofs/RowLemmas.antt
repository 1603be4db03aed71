-- What is left where the first band's row loses an interval.
use Rattle.std.proofs.Common.{◌≡◌, ℕ, ◌+◌, List, [], ◌∷◌, ◌++◌, map, Option, Some, None, is_some, true, refl, subst, sym, ap, ◌∙◌, Contains, eqb, arith, inl, inr, Bool, ◌↔◌}
use Rattle.std.specs.Option.{option_map}
use Rattle.std.specs.List.{last_or}
use Rattle.std.specs.Prelude.{slice_get, IfSome}
use Rattle.std.proofs.lemmas.List.{append-nil, map-append}
use Rattle.std.proofs.lemmas.List.Elements.{Contains-append_right}
use Rattle.std.proofs.lemmas.Map.Keys.{IsDistinct-tail}
use Rattle.std.proofs.lemmas.Option.{same_Some}
use Rattle.std.specs.List.{IsDistinct}
use Rattle.span_arena.specs.Arena.{Arena, list_of, ids_of, span_of, last_in, IsSound}
use Rattle.span_arena.specs.declared.Span.{Span}
use Rattle.span_arena.specs.DistinctLemmas.{here, apart_from_first, distinct_between, distinct_right}
use Rattle.span_arena.specs.ViewLemmas.{ids_are}
use Rattle.region_bands.specs.declared.Interval.{Interval}
use Rattle.region_bands.specs.Bands.{Band, Bands, first_row, row_of}
use Rattle.region_bands.specs.Held.{Each, Placed, PlacedInterval, Has, Keeps, HasRow, list_in, band_of, placed_band, placed_interval, ids_in, intervals_in, first_under, interval_at, view_of, IsOverList, Holds, Shows, IsHeld}
use Rattle.region_bands.specs.EachLemmas.{each_right, later, last_cases, last_or_last, last_same}
use Rattle.region_bands.proofs.HasLemmas.{IsSpan, list_there, span_in}
use Rattle.region_bands.proofs.SeenLemmas.{row_list, row_read, below_ids, holds_for, shows_for}
use Rattle.region_bands.proofs.StepLemmas.{HasEntry, FirstBelow, first_below, LastAbove, last_above, none_above, over_list, rows_kept, last_in_last}
use Rattle.region_bands.specs.declared.Lists.{Lists}
use Rattle.region_bands.proofs.CallLemmas.{lists_at as lists_there}
use Rattle.region_bands.proofs.CutLemmas.{bands_at, lists_at, rest_rows}

module _ (a : Arena) (bands rows : ℕ) (gap left : Option ℕ) (v : Bands) (h : Holds a bands rows gap left v) (first : Band) (rest : List Band) (is : v.below ≡ first ∷ rest) where
  abbrev f : FirstBelow a bands rows gap left v h first rest
  f = first_below a bands rows gap left v h first rest is

  -- the list below the gap's span
  pub list_below : (at : ℕ) → gap ≡ Some at → (s : Span) → span_of a at ≡ Some s → (list : ℕ) → s.sub ≡ Some list → list ≡ f.e.list
  list_below at at_is s found list sub =
      same_Some list f.e.list (sym sub ∙ ap (λ (x : Span). x.sub) (same_Some s (placed_band f.e).1 (sym found ∙ ap (span_of a) (same_Some at f.e.at (sym at_is ∙ f.gap_is)) ∙ f.span)))

  pub below_there : is_some (list_of a f.e.list) ≡ true
  below_there = list_there a f.e.list (map placed_interval f.e.row) f.row

  pub below_ids_are : ids_of a f.e.list ≡ ids_in f.e.row
  below_ids_are = ids_are a f.e.list (ids_in f.e.row) (row_list a f.e.list f.e.row f.row)

  -- an interval of the row
  pub record Picked (k : ℕ) (front back : List PlacedInterval) : Type 0 where
    pub p : PlacedInterval
    pub row_is : f.e.row ≡ front ++ p ∷ back
    pub id_is : p.0 ≡ k

  pub row_there : (k : ℕ) (front back : List PlacedInterval) (picked : Picked k front back) → Has a f.e.list (map placed_interval front ++ placed_interval picked.p ∷ map placed_interval back)
  row_there k front back picked = subst (Has a f.e.list) (ap (map placed_interval) picked.row_is ∙ map-append placed_interval front (picked.p ∷ back)) f.row

  pub picked_span : (k : ℕ) (front back : List PlacedInterval) (picked : Picked k front back) (s : Span) → span_of a k ≡ Some s → s ≡ (placed_interval picked.p).1
  picked_span k front back picked s found =
      same_Some s (placed_interval picked.p).1 (sym found ∙ ap (span_of a) (sym picked.id_is) ∙ span_in a f.e.list (map placed_interval front) (placed_interval picked.p) (map placed_interval back) (row_there k front back picked))

  pub picked_first : (k : ℕ) → Some k ≡ slice_get (ids_of a f.e.list) 0 → (back : List PlacedInterval) × Picked k [] back
  picked_first k leads = by f.e.row refl (leads ∙ ap (λ (l : List ℕ). slice_get l 0) below_ids_are)
    where
      by : (row : List PlacedInterval) → f.e.row ≡ row → Some k ≡ slice_get (ids_in row) 0 → (back : List PlacedInterval) × Picked k [] back
      by [] row_is found = absurd (cc)
      by (p ∷ back) row_is found = (back, record { p = p; row_is = row_is; id_is = same_Some p.0 k (sym found) })

  pub picked_last : (k : ℕ) → Some k ≡ last_in (ids_of a f.e.list) → (front : List PlacedInterval) × Picked k front []
  picked_last k leads =
      let found : Some k ≡ last_in (ids_in f.e.row) = leads ∙ ap last_in below_ids_are in
      elim (last_cases f.e.row) [
        | inl none ↦ absurd (let gone : Some k ≡ None = found ∙ ap (λ (l : List PlacedInterval). last_in (ids_in l)) none in cc)
        | inr some ↦ (some.0, record { p = some.1; row_is = some.2; id_is = same_Some some.1.0 k (sym (found ∙ ap (λ (l : List PlacedInterval). last_in (ids_in l)) some.2 ∙ ap last_in (map-append (λ (p : PlacedInterval). p.0) some.0 (some.1 ∷ [])) ∙ last_in_last (ids_in some.0) some.1.0)) })
      ]

  -- a band with intervals has a first and a last one
  pub row_some : (first_row v.below ≡ [] → ⊥) → f.e.row ≡ [] → ⊥
  row_some some none = some (ap first_row is ∙ ap (λ (b : Band). b.row) f.first_is ∙ ap intervals_in none)

  pub no_first : (first_row v.below ≡ [] → ⊥) → None ≡ slice_get (ids_of a f.e.list) 0 → ⊥
  no_first some leads = by f.e.row refl (leads ∙ ap (λ (l : List ℕ). slice_get l 0) below_ids_are)
    where
      by : (row : List PlacedInterval) → f.e.row ≡ row → None ≡ slice_get (ids_in row) 0 → ⊥
      by [] row_is found = row_some some row_is
      by (p ∷ back) row_is found = absurd (cc)

  pub no_last : (first_row v.below ≡ [] → ⊥) → None ≡ last_in (ids_of a f.e.list) → ⊥
  no_last some leads = by f.e.row refl (leads ∙ ap last_in below_ids_are)
    where
      by : (row : List PlacedInterval) → f.e.row ≡ row → None ≡ last_in (ids_in row) → ⊥
      by [] row_is found = row_some some row_is
      by (p ∷ back) row_is found = absurd (cc)

  module _ (b : Arena) (front back : List PlacedInterval) (has : Has b f.e.list (map placed_interval front ++ map placed_interval back)) (keeps : Keeps a b f.e.list) (sound : IsSound b) where
    tail : IsDistinct eqb (rows ∷ (map list_in h.above ++ f.e.list ∷ map list_in f.es))
    tail = IsDistinct-tail eqb bands (rows ∷ (map list_in h.above ++ f.e.list ∷ map list_in f.es)) (lists_at a bands rows gap left v h first rest f)

    inner : IsDistinct eqb (map list_in h.above ++ f.e.list ∷ map list_in f.es)
    inner = IsDistinct-tail eqb rows (map list_in h.above ++ f.e.list ∷ map list_in f.es) tail

    first_in : Contains (map list_in h.above ++ f.e.list ∷ map list_in f.es) f.e.list
    first_in = Contains-append_right (map list_in h.above) (f.e.list ∷ map list_in f.es) f.e.list (here f.e.list (map list_in f.es))

    bands_stay : Has b bands (map placed_band h.above ++ placed_band f.e ∷ map placed_band f.es)
    bands_stay = keeps bands (map placed_band h.above ++ placed_band f.e ∷ map placed_band f.es)
        (λ same. apart_from_first bands (rows ∷ (map list_in h.above ++ f.e.list ∷ map list_in f.es)) (lists_at a bands rows gap left v h first rest f) f.e.list (later rows f.e.list (map list_in h.above ++ f.e.list ∷ map list_in f.es) first_in) (sym same))
        (bands_at a bands rows gap left v h first rest f)

    row_has : HasRow b f.e.list (front ++ back)
    row_has = subst (Has b f.e.list) (sym (map-append placed_interval front back)) has

    rest_has : Each (HasEntry b) f.es
    rest_has = rows_kept a b f.e.list keeps f.es (λ k there. apart_from_first f.e.list (map list_in f.es) (distinct_right (map list_in h.above) (f.e.list ∷ map list_in f.es) inner) k there) (rest_rows a bands rows gap left v h first rest f)

    spans_stay : Each (IsSpan b) (placed_band f.e ∷ map placed_band f.es)
    spans_stay = each_right (IsSpan b) (map placed_band h.above) (placed_band f.e ∷ map placed_band f.es) bands_stay.spans

    pub taken_over : IfSome gap (IsOverList b)
    taken_over = over_list b gap (record f.e { row = front ++ back } ∷ f.es) f.gap_is spans_stay (row_has, rest_has)

    left_is : (left' : Option ℕ) → left' ≡ first_under b gap → left' ≡ slice_get (ids_in (front ++ back)) 0
    left_is left' leads =
        leads ∙ ap (first_under b) f.gap_is
        ∙ ap (λ (l : List ℕ). slice_get l 0) (below_ids b (record f.e { row = front ++ back }) spans_stay.0 row_has)

    pub taken_row : b.spare ≡ a.spare + 1 → (left' : Option ℕ) → left' ≡ first_under b gap → (row : List Interval) → row ≡ intervals_in (front ++ back) → Holds b bands rows gap left' (record v { left = row; below = record first { row = row } ∷ rest; spare = v.spare + 1 })
    taken_row spare left' leads row row_is =
        let room : v.spare + 1 ≡ b.spare = omega (arith, spare, h.spare_is) in
        let below_are : record first { row = row } ∷ rest ≡ map band_of (record f.e { row = front ++ back } ∷ f.es) =
        ap (λ (x : Band). record x { row = row } ∷ rest) f.first_is
        ∙ ap (λ (l : List Band). record (band_of f.e) { row = row } ∷ l) f.rest_is
        ∙ ap (λ (l : List Interval). record (band_of f.e) { row = l } ∷ map band_of f.es) row_is in
        record {
          sound = sound;
          above = h.above;
          below = record f.e { row = front ++ back } ∷ f.es;
          row = h.row;
          has_bands = bands_stay;
          has_row = keeps rows (map placed_interval h.row) (λ same. apart_from_first rows (map list_in h.above ++ f.e.list ∷ map list_in f.es) tail f.e.list first_in (sym same)) h.has_row;
          rows_above = rows_kept a b f.e.list keeps h.above (λ k there same. distinct_between (map list_in h.above) (f.e.list ∷ map list_in f.es) inner k f.e.list there (here f.e.list (map list_in f.es)) (sym same)) h.rows_above;
          rows_below = (row_has, rest_has);
          apart = lists_at a bands rows gap left v h first rest f;
          gap_is = f.gap_is;
          is_left = record { passed = []; rest = front ++ back; row_is = refl; left_is = left_is left' leads; intervals_are = row_is };
          above_is = h.above_is;
          below_is = below_are;
          row_is = h.row_is;
          spare_is = room;
        }

-- the same by the fields and what a call finds
module _ (a : Arena) (lists : Option Lists) (gap left : Option ℕ) (v : Bands) (held : IsHeld a lists gap left) (is : view_of a lists gap left ≡ v) (at : ℕ) (at_is : gap ≡ Some at) (s : Span) (found : span_of a at ≡ Some s) (list : ℕ) (sub : s.sub ≡ Some list) (first : Band) (rest : List Band) (below : v.below ≡ first ∷ rest) where
  abbrev some : (l : Lists) × (lists ≡ Some l)
  some = lists_there a lists gap left v held is at at_is

  abbrev h : Holds a some.0.bands some.0.row gap left v
  h = holds_for a lists gap left v held is some.0 some.1

  abbrev there : FirstBelow a some.0.bands some.0.row gap left v h first rest
  there = first_below a some.0.bands some.0.row gap left v h first rest below

  list_is : list ≡ there.e.list
  list_is = list_below a some.0.bands some.0.row gap left v h first rest below at at_is s found list sub

  pub list_live : is_some (list_of a list) ≡ true
  list_live = ap (λ (k : ℕ). is_some (list_of a k)) list_is ∙ below_there a some.0.bands some.0.row gap left v h first rest below

  pub lacks_first : (first_row v.below ≡ [] → ⊥) → (r : Option ℕ) → r ≡ slice_get (ids_of a list) 0 → r ≡ None → ⊥
  lacks_first intervals r r_is none = no_first a some.0.bands some.0.row gap left v h first rest below intervals (sym none ∙ r_is ∙ ap (λ (k : ℕ). slice_get (ids_of a k) 0) list_is)

  pub lacks_last : (first_row v.below ≡ [] → ⊥) → (r : Option ℕ) → r ≡ last_in (ids_of a list) → r ≡ None → ⊥
  lacks_last intervals r r_is none = no_last a some.0.bands some.0.row gap left v h first rest below intervals (sym none ∙ r_is ∙ ap (λ (k : ℕ). last_in (ids_of a k)) list_is)

  abbrev pub Pick : ℕ → List PlacedInterval → List PlacedInterval → Type 0
  Pick k front back = Picked a some.0.bands some.0.row gap left v h first rest below k front back

  pub pick_first : (r : Option ℕ) → r ≡ slice_get (ids_of a list) 0 → (k : ℕ) → r ≡ Some k → (back : List PlacedInterval) × Pick k [] back
  pick_first r r_is k k_is = picked_first a some.0.bands some.0.row gap left v h first rest below k (sym k_is ∙ r_is ∙ ap (λ (k : ℕ). slice_get (ids_of a k) 0) list_is)

  pub pick_last : (r : Option ℕ) → r ≡ last_in (ids_of a list) → (k : ℕ) → r ≡ Some k → (front : List PlacedInterval) × Pick k front []
  pick_last r r_is k k_is = picked_last a some.0.bands some.0.row gap left v h first rest below k (sym k_is ∙ r_is ∙ ap (λ (k : ℕ). last_in (ids_of a k)) list_is)

  module _ (k : ℕ) (front back : List PlacedInterval) (pick : Pick k front back) where
    list_has : Has a list (map placed_interval front ++ placed_interval pick.p ∷ map placed_interval back)
    list_has = subst (λ (l : ℕ). Has a l (map placed_interval front ++ placed_interval pick.p ∷ map placed_interval back)) (sym list_is) (row_there a some.0.bands some.0.row gap left v h first rest below k front back pick)

    pub pick_place : (xs : List Placed) × (p : Placed) × (ys : List Placed) × Has a list (xs ++ p ∷ ys) × (p.0 ≡ k)
    pick_place = (map placed_interval front, placed_interval pick.p, map placed_interval back, list_has, pick.id_is)

    pub pick_row : first.row ≡ intervals_in front ++ pick.p.1 ∷ intervals_in back
    pick_row = ap (λ (b : Band). b.row) there.first_is ∙ ap intervals_in pick.row_is ∙ map-append (λ (p : PlacedInterval). p.1) front (pick.p ∷ back)

    pub pick_result : (t : Span) → span_of a k ≡ Some t → record { from = t.start; to = t.stop } ≡ pick.p.1
    pick_result t t_found = ap (λ (x : Span). let i : Interval = record { from = x.start; to = x.stop } in i) (picked_span a some.0.bands some.0.row gap left v h first rest below k front back pick t t_found)

    module _ (m : Arena) (taken : (xs : List Placed) (p : Placed) (ys : List Placed) → Has a list (xs ++ p ∷ ys) → p.0 ≡ k → Has m list (xs ++ ys)) (keeps : Keeps a m list) (sound : IsSound m) where
      after : Has m there.e.list (map placed_interval front ++ map placed_interval back)
      after = subst (λ (l : ℕ). Has m l (map placed_interval front ++ map placed_interval back)) list_is (taken (map placed_interval front) (placed_interval pick.p) (map placed_interval back) list_has pick.id_is)

      pub pick_over : IfSome gap (IsOverList m)
      pick_over = taken_over a some.0.bands some.0.row gap left v h first rest below m front back after (subst (Keeps a m) list_is keeps) sound

      pub pick_shows : m.spare ≡ a.spare + 1 → (left' : Option ℕ) → left' ≡ first_under m gap → (row : List Interval) → row ≡ intervals_in (front ++ back) → Shows m lists gap left' (record v { left = row; below = record first { row = row } ∷ rest; spare = v.spare + 1 })
      pick_shows spare left' leads row row_is =
          shows_for m lists gap left' (record v { left = row; below = record first { row = row } ∷ rest; spare = v.spare + 1 }) some.0 some.1
          (taken_row a some.0.bands some.0.row gap left v h first rest below m front back after (subst (Keeps a m) list_is keeps) sound spare left' leads row row_is)

-- what is left of a row but for its end
pub front_is : (front : List PlacedInterval) (p : PlacedInterval) (row : List Interval) (interval : Interval) → intervals_in front ++ p.1 ∷ [] ≡ row ++ interval ∷ [] → (row ≡ intervals_in (front ++ [])) × (p.1 ≡ interval)
front_is front p row interval is =
    let same = last_same (intervals_in front) p.1 row interval is in
    (sym same.0 ∙ ap intervals_in (sym (append-nil front)), same.1)

pub back_is : (back : List PlacedInterval) (p : PlacedInterval) (row : List Interval) (interval : Interval) → p.1 ∷ intervals_in back ≡ interval ∷ row → (row ≡ intervals_in back) × (p.1 ≡ interval)
back_is back p row interval is = (let e : row ≡ intervals_in back = cc in e, let e : p.1 ≡ interval = cc in e)

-- the last band above the gap has the row's intervals
module _ (a : Arena) (lists : Option Lists) (gap left : Option ℕ) (v : Bands) (held : IsHeld a lists gap left) (is : view_of a lists gap left ≡ v) (some : Lists) (some_is : lists ≡ Some some) (last : Option ℕ) (leads : (front back : List ℕ) → list_of a some.bands ≡ Some (front ++ back) → gap ≡ slice_get back 0 → last ≡ last_in front) where
  abbrev holds : Holds a some.bands some.row gap left v
  holds = holds_for a lists gap left v held is some some_is

  pub row_live : is_some (list_of a some.row) ≡ true
  row_live = list_there a some.row (map placed_interval holds.row) holds.has_row

  pub not_last : last ≡ None → option_map row_of (last_or None v.above) ≡ Some v.row → ⊥
  not_last none same = let gone : option_map row_of (last_or None v.above) ≡ None = ap (λ (l : List Band). option_map row_of (last_or None l)) (none_above a some.bands some.row gap left v holds last leads none) in absurd (cc)

  module _ (at : ℕ) (at_is : last ≡ Some at) (s : Span) (found : span_of a at ≡ Some s) where
    abbrev l : LastAbove a some.bands some.row gap left v holds at
    l = last_above a some.bands some.row gap left v holds last leads at at_is

    s_is : s ≡ (placed_band l.e).1
    s_is = same_Some s (placed_band l.e).1 (sym found ∙ ap (span_of a) l.at_is ∙ l.span)

    pub last_sub : s.sub ≡ Some l.e.list
    last_sub = ap (λ (x : Span). x.sub) s_is

    module _ (list : ℕ) (sub : s.sub ≡ Some list) where
      list_same : list ≡ l.e.list
      list_same = same_Some list l.e.list (sym sub ∙ last_sub)

      pub last_list : is_some (list_of a list) ≡ true
      last_list = ap (λ (k : ℕ). is_some (list_of a k)) list_same ∙ list_there a l.e.list (map placed_interval l.e.row) l.row

      one_seen : map (interval_at a) (ids_of a list) ≡ intervals_in l.e.row
      one_seen =
          ap (λ (k : ℕ). map (interval_at a) (ids_of a k)) list_same
          ∙ ap (map (interval_at a)) (ids_are a l.e.list (ids_in l.e.row) (row_list a l.e.list l.e.row l.row))
          ∙ row_read a l.e.row l.row.spans

      other_seen : map (interval_at a) (ids_of a some.row) ≡ v.row
      other_seen =
          ap (map (interval_at a)) (ids_are a some.row (ids_in holds.row) (row_list a some.row holds.row holds.has_row))
          ∙ row_read a holds.row holds.has_row.spans
          ∙ sym holds.row_is

      last_row : option_map row_of (last_or None v.above) ≡ Some (intervals_in l.e.row)
      last_row = ap (option_map row_of) (ap (last_or None) l.last_is ∙ last_or_last None (map band_of l.es) (band_of l.e))

      pub as_last : (b : Bool) → (b ≡ true) ↔ (map (interval_at a) (ids_of a list) ≡ map (interval_at a) (ids_of a some.row)) → (b ≡ true) ↔ (option_map row_of (last_or None v.above) ≡ Some v.row)
      as_last b test = (
        λ yes. last_row ∙ ap Some (sym one_seen ∙ test.0 yes ∙ other_seen),
        λ same. test.1 (one_seen ∙ same_Some (intervals_in l.e.row) v.row (sym last_row ∙ same) ∙ sym other_seen),
      )
