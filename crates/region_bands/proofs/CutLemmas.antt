-- What a call leaves of the bands where the list of bands changes.
use Rattle.std.proofs.Common.{◌≡◌, ◌≢◌, ℕ, ℤ, ◌+◌, List, [], ◌∷◌, ◌++◌, length, map, Option, Some, None, is_some, true, refl, subst, sym, ap, ◌∙◌, Contains, eqb, arith}
use Rattle.std.specs.Prelude.{slice_get, IfSome}
use Rattle.std.specs.List.{IsDistinct}
use Rattle.std.proofs.lemmas.List.{append_assoc, length-map, map-append}
use Rattle.std.proofs.lemmas.List.Elements.{Contains-append_left, Contains-append_right}
use Rattle.std.proofs.lemmas.Map.Keys.{IsDistinct-tail}
use Rattle.std.proofs.lemmas.Option.{same_Some}
use Rattle.span_arena.specs.Arena.{Arena, list_of, span_of, last_in, IsSound}
use Rattle.span_arena.specs.declared.Span.{Span}
use Rattle.span_arena.specs.DistinctLemmas.{here, apart_from_first, distinct_between, distinct_right, distinct_without}
use Rattle.region_bands.specs.declared.Interval.{Interval}
use Rattle.region_bands.specs.Bands.{Band, Bands, first_row}
use Rattle.region_bands.specs.Held.{Each, Placed, PlacedInterval, Has, Keeps, HasRow, Entry, at_of, list_in, band_of, placed_band, placed_interval, ids_in, intervals_in, first_under, IsRest, IsLeft, IsOverList, Holds}
use Rattle.region_bands.specs.EachLemmas.{each_right, each_weaker, each_join, contains_mapped, later, map_moved, last_same}
use Rattle.region_bands.proofs.HasLemmas.{IsSpan, ids_split, list_there}
use Rattle.region_bands.proofs.SeenLemmas.{row_list, spans_below}
use Rattle.region_bands.proofs.StepLemmas.{HasEntry, FirstBelow, first_below, LastAbove, last_above, none_above, regap_first, over_cut, left_first, over_list, rows_kept, row_apart}

-- equal parts in place of the bands
revalue : (a : Arena) (bands rows : ℕ) (gap left : Option ℕ) (v : Bands) (xs : List Interval) (n : ℕ) (above above' below below' : List Band) → above ≡ above' → below ≡ below' → Holds a bands rows gap left (record v { above = above; left = xs; below = below; spare = n }) → Holds a bands rows gap left (record v { above = above'; left = xs; below = below'; spare = n })
revalue a bands rows gap left v xs n above above' below below' above_is below_is h =
    subst (λ (l : List Band). Holds a bands rows gap left (record v { above = l; left = xs; below = below'; spare = n })) above_is
    (subst (λ (l : List Band). Holds a bands rows gap left (record v { above = above; left = xs; below = l; spare = n })) below_is h)

module _ (a : Arena) (bands rows : ℕ) (gap left : Option ℕ) (v : Bands) (h : Holds a bands rows gap left v) where
  -- other spans of the bands
  module _ (b : Arena) (keeps : Keeps a b bands) (sound : IsSound b) (n : ℕ) (room : n ≡ b.spare) where
    rebanded : (gap' left' : Option ℕ) (above below : List Entry) (xs : List Interval) → Has b bands (map placed_band above ++ map placed_band below) → Each (HasEntry a) above → Each (HasEntry a) below → IsDistinct eqb (bands ∷ rows ∷ (map list_in above ++ map list_in below)) → gap' ≡ slice_get (map at_of below) 0 → IsLeft left' below xs → Holds b bands rows gap' left' (record v { above = map band_of above; left = xs; below = map band_of below; spare = n })
    rebanded gap' left' above below xs has above_has below_has apart gap_is left_is =
        let away = apart_from_first bands (rows ∷ (map list_in above ++ map list_in below)) apart in
        record {
          sound = sound;
          above = above;
          below = below;
          row = h.row;
          has_bands = has;
          has_row = keeps rows (map placed_interval h.row) (away rows (here rows (map list_in above ++ map list_in below))) h.has_row;
          rows_above = rows_kept a b bands keeps above (λ k there. away k (later rows k (map list_in above ++ map list_in below) (Contains-append_left (map list_in above) (map list_in below) k there))) above_has;
          rows_below = rows_kept a b bands keeps below (λ k there. away k (later rows k (map list_in above ++ map list_in below) (Contains-append_right (map list_in above) (map list_in below) k there))) below_has;
          apart = apart;
          gap_is = gap_is;
          is_left = left_is;
          above_is = refl;
          below_is = refl;
          row_is = h.row_is;
          spare_is = room;
        }

  pub bands_at : (first : Band) (rest : List Band) (f : FirstBelow a bands rows gap left v h first rest) → Has a bands (map placed_band h.above ++ placed_band f.e ∷ map placed_band f.es)
  bands_at first rest f = subst (λ (l : List Entry). Has a bands (map placed_band h.above ++ map placed_band l)) f.below_is h.has_bands

  pub lists_at : (first : Band) (rest : List Band) (f : FirstBelow a bands rows gap left v h first rest) → IsDistinct eqb (bands ∷ rows ∷ (map list_in h.above ++ f.e.list ∷ map list_in f.es))
  lists_at first rest f = subst (λ (l : List Entry). IsDistinct eqb (bands ∷ rows ∷ (map list_in h.above ++ map list_in l))) f.below_is h.apart

  pub rest_rows : (first : Band) (rest : List Band) (f : FirstBelow a bands rows gap left v h first rest) → Each (HasEntry a) f.es
  rest_rows first rest f = (subst (Each (HasEntry a)) f.below_is h.rows_below).1

  -- a span that is changed
  module _ (b : Arena) (sound : IsSound b) (spare : b.spare ≡ a.spare) (at : ℕ) (s t : Span) (found : span_of a at ≡ Some s) (set : (list : ℕ) (front : List Placed) (p : Placed) (back : List Placed) → Has a list (front ++ p ∷ back) → p.0 ≡ at → Has b list (front ++ (p.0, t) ∷ back)) (others : (list : ℕ) (front : List Placed) (p : Placed) (back : List Placed) → Has a list (front ++ p ∷ back) → p.0 ≡ at → Keeps a b list) where
    same_room : v.spare ≡ b.spare
    same_room = h.spare_is ∙ sym spare

    -- the last band above it has another bottom
    pub stretched : (bottom : ℤ) → t ≡ record s { stop = bottom } → (last : Option ℕ) (leads : (front back : List ℕ) → list_of a bands ≡ Some (front ++ back) → gap ≡ slice_get back 0 → last ≡ last_in front) → last ≡ Some at → (front : List Band) (band : Band) → v.above ≡ front ++ band ∷ [] → Holds b bands rows gap left (record v { above = front ++ record band { bottom = bottom } ∷ [] })
    stretched bottom t_is last leads at_is front band is =
        let l = last_above a bands rows gap left v h last leads at at_is in
        let same = last_same front band (map band_of l.es) (band_of l.e) (sym is ∙ l.last_is) in
        let s_is : s ≡ (placed_band l.e).1 = same_Some s (placed_band l.e).1 (sym found ∙ ap (span_of a) l.at_is ∙ l.span) in
        let e : Entry = record l.e { bottom = bottom } in
        let t_e : t ≡ (placed_band e).1 = t_is ∙ ap (λ (x : Span). record x { stop = bottom }) s_is in
        let there : Has a bands (map placed_band l.es ++ placed_band l.e ∷ map placed_band h.below) =
        subst (Has a bands) (map_moved placed_band l.es l.e h.below) (subst (λ (x : List Entry). Has a bands (map placed_band x ++ map placed_band h.below)) l.above_is h.has_bands) in
        let has : Has b bands (map placed_band l.es ++ placed_band e ∷ map placed_band h.below) =
        subst (λ (x : Span). Has b bands (map placed_band l.es ++ (l.e.at, x) ∷ map placed_band h.below)) t_e (set bands (map placed_band l.es) (placed_band l.e) (map placed_band h.below) there (sym l.at_is)) in
        let lists : IsDistinct eqb (bands ∷ rows ∷ (map list_in l.es ++ e.list ∷ map list_in h.below)) =
        subst (λ (x : List ℕ). IsDistinct eqb (bands ∷ rows ∷ x)) (map_moved list_in l.es l.e h.below) (subst (λ (x : List Entry). IsDistinct eqb (bands ∷ rows ∷ (map list_in x ++ map list_in h.below))) l.above_is h.apart) in
        revalue b bands rows gap left v v.left v.spare (map band_of (l.es ++ e ∷ [])) (front ++ record band { bottom = bottom } ∷ []) (map band_of h.below) v.below
        (map-append band_of l.es (e ∷ []) ∙ ap (λ (x : List Band). x ++ band_of e ∷ []) (sym same.0) ∙ ap (λ (x : Band). front ++ record x { bottom = bottom } ∷ []) (sym same.1))
        (sym h.below_is)
        (rebanded b (others bands (map placed_band l.es) (placed_band l.e) (map placed_band h.below) there (sym l.at_is)) sound v.spare same_room gap left (l.es ++ e ∷ []) h.below v.left
        (subst (Has b bands) (sym (map_moved placed_band l.es e h.below)) has)
        (each_join (HasEntry a) l.es (e ∷ []) (rows_before l.es l.e (subst (Each (HasEntry a)) l.above_is h.rows_above)) (l.row, tt))
        h.rows_below
        (subst (λ (x : List ℕ). IsDistinct eqb (bands ∷ rows ∷ x)) (sym (map_moved list_in l.es e h.below)) lists)
        h.gap_is h.is_left)
      where
        rows_before : (es : List Entry) (e : Entry) → Each (HasEntry a) (es ++ e ∷ []) → Each (HasEntry a) es
        rows_before [] e all = tt
        rows_before (x ∷ es) e all = (all.0, rows_before es e all.1)

  -- the gap above the last band
  module _ (last : Option ℕ) (leads : (front back : List ℕ) → list_of a bands ≡ Some (front ++ back) → gap ≡ slice_get back 0 → last ≡ last_in front) where
    pub last_some : (v.above ≡ [] → ⊥) → (at : ℕ) × (last ≡ Some at)
    last_some some = by last refl
      where
        by : (o : Option ℕ) → last ≡ o → (at : ℕ) × (last ≡ Some at)
        by None none = absurd (some (none_above a bands rows gap left v h last leads none))
        by (Some at) is = (at, is)

    module _ (some : v.above ≡ [] → ⊥) where
      abbrev l : LastAbove a bands rows gap left v h (last_some some).0
      l = last_above a bands rows gap left v h last leads (last_some some).0 (last_some some).1

      retreated_gap : last ≡ Some l.e.at
      retreated_gap = (last_some some).1 ∙ ap Some l.at_is

      retreated_cut : l.es ++ l.e ∷ h.below ≡ h.above ++ h.below
      retreated_cut = sym (append_assoc l.es (l.e ∷ []) h.below) ∙ ap (λ (x : List Entry). x ++ h.below) (sym l.above_is)

      pub retreated_over : IfSome last (IsOverList a)
      retreated_over = over_cut a bands rows gap left v h last l.es (l.e ∷ h.below) retreated_cut retreated_gap

      pub retreated : (left' : Option ℕ) → left' ≡ first_under a last → (front : List Band) (band : Band) → v.above ≡ front ++ band ∷ [] → Holds a bands rows last left' (record v { above = front; left = band.row; below = band ∷ v.below })
      retreated left' leads_left front band is =
          let same = last_same front band (map band_of l.es) (band_of l.e) (sym is ∙ l.last_is) in
          subst (λ (x : Band). Holds a bands rows last left' (record v { above = front; left = x.row; below = x ∷ v.below })) (sym same.1)
          (revalue a bands rows last left' v (intervals_in l.e.row) v.spare (map band_of l.es) front (band_of l.e ∷ map band_of h.below) (band_of l.e ∷ v.below)
          (sym same.0) (ap (λ (x : List Band). band_of l.e ∷ x) (sym h.below_is))
          (regap_first a bands rows gap left v h last left' l.es (l.e ∷ h.below) retreated_cut retreated_gap leads_left))

  -- the first band below the gap goes
  module _ (at : ℕ) (at_is : gap ≡ Some at) (first : Band) (rest : List Band) (is : v.below ≡ first ∷ rest) where
    abbrev f : FirstBelow a bands rows gap left v h first rest
    f = first_below a bands rows gap left v h first rest is

    at_e : f.e.at ≡ at
    at_e = same_Some f.e.at at (sym f.gap_is ∙ at_is)

    pub first_place : (front : List Placed) × (p : Placed) × (back : List Placed) × Has a bands (front ++ p ∷ back) × (p.0 ≡ at)
    first_place = (map placed_band h.above, placed_band f.e, map placed_band f.es, bands_at first rest f, at_e)

    module _ (m : Arena) (s : Span) (found : span_of a at ≡ Some s) (taken : (front : List Placed) (p : Placed) (back : List Placed) → Has a bands (front ++ p ∷ back) → p.0 ≡ at → Has m bands (front ++ back)) (keeps_bands : Keeps a m bands) (list : ℕ) (sub : s.sub ≡ Some list) where
      list_is : list ≡ f.e.list
      list_is = same_Some list f.e.list (sym sub ∙ ap (λ (x : Span). x.sub) (same_Some s (placed_band f.e).1 (sym found ∙ ap (span_of a) (sym at_e) ∙ f.span)))

      away : (k : ℕ) → Contains (rows ∷ (map list_in h.above ++ f.e.list ∷ map list_in f.es)) k → k ≢ bands
      away k there = apart_from_first bands (rows ∷ (map list_in h.above ++ f.e.list ∷ map list_in f.es)) (lists_at first rest f) k there

      first_in : Contains (map list_in h.above ++ f.e.list ∷ map list_in f.es) f.e.list
      first_in = Contains-append_right (map list_in h.above) (f.e.list ∷ map list_in f.es) f.e.list (here f.e.list (map list_in f.es))

      list_kept : HasRow m f.e.list f.e.row
      list_kept = keeps_bands f.e.list (map placed_interval f.e.row) (away f.e.list (later rows f.e.list (map list_in h.above ++ f.e.list ∷ map list_in f.es) first_in)) f.row

      pub freed_there : is_some (list_of m list) ≡ true
      freed_there = ap (λ (k : ℕ). is_some (list_of m k)) list_is ∙ list_there m f.e.list (map placed_interval f.e.row) list_kept

      module _ (b : Arena) (keeps_list : Keeps m b list) (sound : IsSound b) (gap' : Option ℕ) (next : (list : ℕ) (f b : List ℕ) → list_of a list ≡ Some (f ++ at ∷ b) → gap' ≡ slice_get b 0) where
        keeps_two : (k : ℕ) (placed : List Placed) → k ≢ bands → k ≢ f.e.list → Has a k placed → Has b k placed
        keeps_two k placed not_bands not_list has = keeps_list k placed (λ same. not_list (same ∙ list_is)) (keeps_bands k placed not_bands has)

        tail : IsDistinct eqb (rows ∷ (map list_in h.above ++ f.e.list ∷ map list_in f.es))
        tail = IsDistinct-tail eqb bands (rows ∷ (map list_in h.above ++ f.e.list ∷ map list_in f.es)) (lists_at first rest f)

        inner : IsDistinct eqb (map list_in h.above ++ f.e.list ∷ map list_in f.es)
        inner = IsDistinct-tail eqb rows (map list_in h.above ++ f.e.list ∷ map list_in f.es) tail

        bands_left : Has b bands (map placed_band h.above ++ map placed_band f.es)
        bands_left = keeps_list bands (map placed_band h.above ++ map placed_band f.es)
            (λ same. away f.e.list (later rows f.e.list (map list_in h.above ++ f.e.list ∷ map list_in f.es) first_in) (sym (same ∙ list_is)))
            (taken (map placed_band h.above) (placed_band f.e) (map placed_band f.es) (bands_at first rest f) at_e)

        rows_left : (es : List Entry) → ((k : ℕ) → Contains (map list_in es) k → (k ≢ bands) × (k ≢ f.e.list)) → Each (HasEntry a) es → Each (HasEntry b) es
        rows_left es apart all = each_weaker (HasEntry a) (HasEntry b) es (λ front e back e_is has. let not = apart e.list (contains_mapped list_in es front e back e_is) in keeps_two e.list (map placed_interval e.row) not.0 not.1 has) all

        above_left : Each (HasEntry b) h.above
        above_left = rows_left h.above
            (λ k there. (
              away k (later rows k (map list_in h.above ++ f.e.list ∷ map list_in f.es) (Contains-append_left (map list_in h.above) (f.e.list ∷ map list_in f.es) k there)),
              (λ same. distinct_between (map list_in h.above) (f.e.list ∷ map list_in f.es) inner k f.e.list there (here f.e.list (map list_in f.es)) (sym same)),
            ))
            h.rows_above

        below_left : Each (HasEntry b) f.es
        below_left = rows_left f.es
            (λ k there. (
              away k (later rows k (map list_in h.above ++ f.e.list ∷ map list_in f.es) (Contains-append_right (map list_in h.above) (f.e.list ∷ map list_in f.es) k (later f.e.list k (map list_in f.es) there))),
              apart_from_first f.e.list (map list_in f.es) (distinct_right (map list_in h.above) (f.e.list ∷ map list_in f.es) inner) k there,
            ))
            (rest_rows first rest f)

        gap_left : gap' ≡ slice_get (map at_of f.es) 0
        gap_left = next bands (map at_of h.above) (map at_of f.es) (f.list ∙ ap (λ (k : ℕ). Some (map at_of h.above ++ k ∷ map at_of f.es)) at_e)

        spans_left : Each (IsSpan b) (map placed_band f.es)
        spans_left = each_right (IsSpan b) (map placed_band h.above) (map placed_band f.es) bands_left.spans

        pub removed_over : IfSome gap' (IsOverList b)
        removed_over = over_list b gap' f.es gap_left spans_left below_left

        pub removed_first : m.spare ≡ a.spare + 1 → ((placed : List Placed) → Has m list placed → b.spare ≡ m.spare + length placed + 1) → (left' : Option ℕ) → left' ≡ first_under b gap' → Holds b bands rows gap' left' (record v { left = first_row rest; below = rest; spare = v.spare + 2 + length first.row })
        removed_first spare_m spare_b left' leads =
            let row_rows : rows ≢ f.e.list = (λ same. apart_from_first rows (map list_in h.above ++ f.e.list ∷ map list_in f.es) tail f.e.list first_in (sym same)) in
            let freed : b.spare ≡ m.spare + length (map placed_interval f.e.row) + 1 = spare_b (map placed_interval f.e.row) (subst (λ (k : ℕ). HasRow m k f.e.row) (sym list_is) list_kept) in
            let long : length (map placed_interval f.e.row) ≡ length f.e.row = length-map f.e.row placed_interval in
            let row_long : length first.row ≡ length f.e.row = ap (λ (x : Band). length x.row) f.first_is ∙ length-map f.e.row (λ p. p.1) in
            let room : v.spare + 2 + length first.row ≡ b.spare = omega (arith, spare_m, freed, long, row_long, h.spare_is) in
            subst (λ (x : List Band). Holds b bands rows gap' left' (record v { above = x; left = first_row rest; below = rest; spare = v.spare + 2 + length first.row })) (sym h.above_is)
            (subst (λ (x : List Band). Holds b bands rows gap' left' (record v { above = map band_of h.above; left = first_row x; below = x; spare = v.spare + 2 + length first.row })) (sym f.rest_is)
            (record {
              sound = sound;
              above = h.above;
              below = f.es;
              row = h.row;
              has_bands = bands_left;
              has_row = keeps_two rows (map placed_interval h.row) (row_apart a bands rows gap left v h) row_rows h.has_row;
              rows_above = above_left;
              rows_below = below_left;
              apart = distinct_without (bands ∷ rows ∷ map list_in h.above) f.e.list (map list_in f.es) (lists_at first rest f);
              gap_is = gap_left;
              is_left = left_first b gap' left' f.es gap_left spans_left below_left leads;
              above_is = refl;
              below_is = refl;
              row_is = h.row_is;
              spare_is = room;
            }))

-- the first of what is left of a row
pub record RestAt (row : List PlacedInterval) (xs : List Interval) (at : ℕ) : Type 0 where
  pub front : List PlacedInterval
  pub p : PlacedInterval
  pub back : List PlacedInterval
  pub row_is : row ≡ front ++ p ∷ back
  pub at_is : at ≡ p.0
  pub xs_is : xs ≡ p.1 ∷ intervals_in back

pub rest_at : (left : Option ℕ) (row : List PlacedInterval) (xs : List Interval) → IsRest left row xs → (at : ℕ) → left ≡ Some at → RestAt row xs at
rest_at left row xs there at is = by there.rest there.row_is there.left_is there.intervals_are
  where
    by : (rest : List PlacedInterval) → row ≡ there.passed ++ rest → left ≡ slice_get (ids_in rest) 0 → xs ≡ intervals_in rest → RestAt row xs at
    by [] row_is left_is xs_is = absurd (cc)
    by (p ∷ rest) row_is left_is xs_is = record { front = there.passed; p = p; back = rest; row_is = row_is; at_is = same_Some at p.0 (sym is ∙ left_is); xs_is = xs_is }

module _ (a : Arena) (bands rows : ℕ) (gap left : Option ℕ) (v : Bands) (h : Holds a bands rows gap left v) where
  -- another rest of the first band's row
  pub releft : (left' : Option ℕ) (xs : List Interval) → IsLeft left' h.below xs → Holds a bands rows gap left' (record v { left = xs })
  releft left' xs is = record {
    sound = h.sound;
    above = h.above;
    below = h.below;
    row = h.row;
    has_bands = h.has_bands;
    has_row = h.has_row;
    rows_above = h.rows_above;
    rows_below = h.rows_below;
    apart = h.apart;
    gap_is = h.gap_is;
    is_left = is;
    above_is = h.above_is;
    below_is = h.below_is;
    row_is = h.row_is;
    spare_is = h.spare_is;
  }

  pub reread : (left' : Option ℕ) → left' ≡ first_under a gap → Holds a bands rows gap left' (record v { left = first_row v.below })
  reread left' leads =
      subst (λ (x : List Band). Holds a bands rows gap left' (record v { left = first_row x })) (sym h.below_is)
      (releft left' (first_row (map band_of h.below)) (left_first a gap left' h.below h.gap_is (spans_below a bands rows gap left v h) h.rows_below leads))

  pub gap_over : IfSome gap (IsOverList a)
  gap_over = over_list a gap h.below h.gap_is (spans_below a bands rows gap left v h) h.rows_below

  -- the first interval that is left
  pub record LeftAt (at : ℕ) : Type 0 where
    pub e : Entry
    pub es : List Entry
    pub below_is : h.below ≡ e ∷ es
    pub rest : RestAt e.row v.left at
    pub span : span_of a at ≡ Some (placed_interval rest.p).1
    pub list : list_of a e.list ≡ Some (ids_in rest.front ++ at ∷ ids_in rest.back)

  pub left_at : (at : ℕ) → left ≡ Some at → LeftAt at
  left_at at is = by h.below refl h.is_left h.rows_below
    where
      by : (es : List Entry) → h.below ≡ es → IsLeft left es v.left → Each (HasEntry a) es → LeftAt at
      by [] below_is there has = absurd (let none = there.0 in cc)
      by (e ∷ es) below_is there has =
          let r = rest_at left e.row v.left there at is in
          let spans = subst (Each (IsSpan a)) (ap (map placed_interval) r.row_is ∙ map-append placed_interval r.front (r.p ∷ r.back)) has.0.spans in
          record {
            e = e;
            es = es;
            below_is = below_is;
            rest = r;
            span = ap (span_of a) r.at_is ∙ (each_right (IsSpan a) (map placed_interval r.front) (map placed_interval (r.p ∷ r.back)) spans).0;
            list = row_list a e.list e.row has.0 ∙ ap (λ (l : List PlacedInterval). Some (ids_in l)) r.row_is ∙ ap Some (ids_split r.front (r.p ∷ r.back)) ∙ ap (λ (k : ℕ). Some (ids_in r.front ++ k ∷ ids_in r.back)) (sym r.at_is);
          }

  -- past the first interval that is left
  pub skipped : (at : ℕ) → left ≡ Some at → (left' : Option ℕ) → ((list : ℕ) (f b : List ℕ) → list_of a list ≡ Some (f ++ at ∷ b) → left' ≡ slice_get b 0) → (first : Interval) (rest : List Interval) → v.left ≡ first ∷ rest → Holds a bands rows gap left' (record v { left = rest })
  skipped at is left' next first rest left_is =
      let l = left_at at is in
      let rest_is : rest ≡ intervals_in l.rest.back = tails rest (intervals_in l.rest.back) first l.rest.p.1 (sym left_is ∙ l.rest.xs_is) in
      releft left' rest
      (subst (λ (x : List Entry). IsLeft left' x rest) (sym l.below_is) (record {
        passed = l.rest.front ++ l.rest.p ∷ [];
        rest = l.rest.back;
        row_is = l.rest.row_is ∙ sym (append_assoc l.rest.front (l.rest.p ∷ []) l.rest.back);
        left_is = next l.e.list (ids_in l.rest.front) (ids_in l.rest.back) l.list;
        intervals_are = rest_is;
      }))
    where
      tails : (xs ys : List Interval) (x y : Interval) → x ∷ xs ≡ y ∷ ys → xs ≡ ys
      tails xs ys x y same = cc
