-- What a call leaves of the bands that the arena has.
use Rattle.std.proofs.Common.{◌≡◌, ◌≢◌, ℕ, ℤ, List, [], ◌∷◌, ◌++◌, map, Option, Some, None, is_some, true, refl, subst, sym, ap, ◌∙◌, Contains, eqb, inl, inr}
use Rattle.std.specs.Prelude.{slice_get, IfSome}
use Rattle.std.specs.List.{IsDistinct}
use Rattle.std.proofs.lemmas.List.{append-nil, map-append}
use Rattle.std.proofs.lemmas.List.Elements.{Contains-append_left, Contains-append_right, Contains-append_cases}
use Rattle.std.proofs.lemmas.Map.Keys.{IsDistinct-tail}
use Rattle.std.proofs.lemmas.Option.{same_Some}
use Rattle.span_arena.specs.Arena.{Arena, list_of, ids_of, span_of, last_from, last_in, IsSound}
use Rattle.span_arena.specs.DistinctLemmas.{here, not_in_none, apart_from_first, distinct_cons, distinct_none, distinct_with}
use Rattle.span_arena.specs.ViewLemmas.{ids_are}
use Rattle.region_bands.specs.declared.Interval.{Interval}
use Rattle.region_bands.specs.Bands.{Band, Bands, nothing, first_row}
use Rattle.region_bands.specs.Held.{Each, Placed, PlacedInterval, Has, Keeps, HasRow, Entry, at_of, list_in, band_of, placed_band, placed_interval, ids_in, first_under, IsLeft, IsOverList, Holds}
use Rattle.region_bands.specs.EachLemmas.{each_left, each_right, each_join, each_weaker, contains_mapped, map_moved, later, cons_cases, last_cases}
use Rattle.region_bands.proofs.HasLemmas.{IsSpan}
use Rattle.region_bands.proofs.SeenLemmas.{bands_list, band_ids, spans_above, spans_below, below_ids}

-- the last of a list
last_from_last : (y : ℕ) (front : List ℕ) (x : ℕ) → last_from y (front ++ x ∷ []) ≡ x
last_from_last y [] x = refl
last_from_last y (z ∷ front) x = last_from_last z front x

pub last_in_last : (front : List ℕ) (x : ℕ) → last_in (front ++ x ∷ []) ≡ Some x
last_in_last [] x = refl
last_in_last (y ∷ front) x = ap Some (last_from_last y front x)

abbrev pub HasEntry : Arena → Entry → Type 0
HasEntry a e = HasRow a e.list e.row

-- a list that is cut elsewhere
pub join_mapped : {X Y : Type 0} (f : X → Y) (xs ys zs ws : List X) → xs ++ ys ≡ zs ++ ws → map f xs ++ map f ys ≡ map f zs ++ map f ws
join_mapped f xs ys zs ws is = sym (map-append f xs ys) ∙ ap (map f) is ∙ map-append f zs ws

-- what a function gives for a list whose values begin with one
pub uncons_map : {X Y : Type 0} (f : X → Y) (xs : List X) (y : Y) (ys : List Y) → y ∷ ys ≡ map f xs → (x : X) × (rest : List X) × (xs ≡ x ∷ rest) × (y ≡ f x) × (ys ≡ map f rest)
uncons_map f [] y ys is = absurd (cc)
uncons_map f (x ∷ rest) y ys is = (x, rest, refl, let e : y ≡ f x = cc in e, let e : ys ≡ map f rest = cc in e)

-- a list that isn't empty
pub first_there : {X : Type 0} (xs : List X) → (xs ≡ [] → ⊥) → (first : X) × (rest : List X) × (xs ≡ first ∷ rest)
first_there [] some = absurd (some refl)
first_there (x ∷ xs) some = (x, xs, refl)

module _ (a : Arena) where
  pub over_list : (gap : Option ℕ) (es : List Entry) → gap ≡ slice_get (map at_of es) 0 → Each (IsSpan a) (map placed_band es) → Each (HasEntry a) es → IfSome gap (IsOverList a)
  over_list gap [] is spans rows = let P : Option ℕ → Type 0 = λ o. IfSome o (IsOverList a) in subst P (sym is) tt
  over_list gap (e ∷ es) is spans rows =
      let P : Option ℕ → Type 0 = λ o. IfSome o (IsOverList a) in
      subst P (sym is) ((placed_band e).1, e.list, ids_in (map placed_interval e.row), spans.0, refl, rows.0.ids)

  -- a link to the first interval of the first band
  pub left_first : (gap left : Option ℕ) (es : List Entry) → gap ≡ slice_get (map at_of es) 0 → Each (IsSpan a) (map placed_band es) → Each (HasEntry a) es → left ≡ first_under a gap → IsLeft left es (first_row (map band_of es))
  left_first gap left [] is spans rows leads = (leads ∙ ap (first_under a) is, refl)
  left_first gap left (e ∷ es) is spans rows leads = record {
    passed = [];
    rest = e.row;
    row_is = refl;
    left_is = leads ∙ ap (first_under a) is ∙ ap (λ (l : List ℕ). slice_get l 0) (below_ids a e spans.0 rows.0);
    intervals_are = refl;
  }

-- the gap elsewhere, and another rest of the first band below it
module _ (a : Arena) (bands rows : ℕ) (gap left : Option ℕ) (v : Bands) (h : Holds a bands rows gap left v) where
  pub regap : (gap' left' : Option ℕ) (above below : List Entry) (xs : List Interval) → above ++ below ≡ h.above ++ h.below → gap' ≡ slice_get (map at_of below) 0 → IsLeft left' below xs → Holds a bands rows gap' left' (record v { above = map band_of above; left = xs; below = map band_of below })
  regap gap' left' above below xs is gap_is left_is =
      let all : Each (HasEntry a) (above ++ below) = subst (Each (HasEntry a)) (sym is) (each_join (HasEntry a) h.above h.below h.rows_above h.rows_below) in
      record {
        sound = h.sound;
        above = above;
        below = below;
        row = h.row;
        has_bands = subst (Has a bands) (sym (join_mapped placed_band above below h.above h.below is)) h.has_bands;
        has_row = h.has_row;
        rows_above = each_left (HasEntry a) above below all;
        rows_below = each_right (HasEntry a) above below all;
        apart = subst (λ (l : List ℕ). IsDistinct eqb (bands ∷ rows ∷ l)) (sym (join_mapped list_in above below h.above h.below is)) h.apart;
        gap_is = gap_is;
        is_left = left_is;
        above_is = refl;
        below_is = refl;
        row_is = h.row_is;
        spare_is = h.spare_is;
      }

  -- all spans of the bands, however they are cut
  pub spans_cut : (above below : List Entry) → above ++ below ≡ h.above ++ h.below → Each (IsSpan a) (map placed_band below)
  spans_cut above below is = each_right (IsSpan a) (map placed_band above) (map placed_band below) (subst (Each (IsSpan a)) (sym (join_mapped placed_band above below h.above h.below is)) h.has_bands.spans)

  pub rows_cut : (above below : List Entry) → above ++ below ≡ h.above ++ h.below → Each (HasEntry a) below
  rows_cut above below is = each_right (HasEntry a) above below (subst (Each (HasEntry a)) (sym is) (each_join (HasEntry a) h.above h.below h.rows_above h.rows_below))

  -- the gap elsewhere, and all of the first band below it
  pub regap_first : (gap' left' : Option ℕ) (above below : List Entry) → above ++ below ≡ h.above ++ h.below → gap' ≡ slice_get (map at_of below) 0 → left' ≡ first_under a gap' → Holds a bands rows gap' left' (record v { above = map band_of above; left = first_row (map band_of below); below = map band_of below })
  regap_first gap' left' above below is gap_is leads =
      regap gap' left' above below (first_row (map band_of below)) is gap_is (left_first a gap' left' below gap_is (spans_cut above below is) (rows_cut above below is) leads)

  pub over_cut : (gap' : Option ℕ) (above below : List Entry) → above ++ below ≡ h.above ++ h.below → gap' ≡ slice_get (map at_of below) 0 → IfSome gap' (IsOverList a)
  over_cut gap' above below is gap_is = over_list a gap' below gap_is (spans_cut above below is) (rows_cut above below is)

  all_bands : v.above ++ v.below ≡ map band_of (h.above ++ h.below)
  all_bands = ap (λ (l : List Band). l ++ v.below) h.above_is ∙ ap (λ (l : List Band). map band_of h.above ++ l) h.below_is ∙ sym (map-append band_of h.above h.below)

  -- the gap before all bands
  module _ (gap' : Option ℕ) (is : gap' ≡ slice_get (ids_of a bands) 0) where
    rewound_gap : gap' ≡ slice_get (map at_of (h.above ++ h.below)) 0
    rewound_gap =
        is
        ∙ ap (λ (l : List ℕ). slice_get l 0) (ids_are a bands (map at_of h.above ++ map at_of h.below) (bands_list a bands rows gap left v h) ∙ sym (map-append at_of h.above h.below))

    pub rewound_over : IfSome gap' (IsOverList a)
    rewound_over = over_cut gap' [] (h.above ++ h.below) refl rewound_gap

    pub rewound : (left' : Option ℕ) → left' ≡ first_under a gap' → Holds a bands rows gap' left' (record v { above = []; left = first_row (v.above ++ v.below); below = v.above ++ v.below })
    rewound left' leads =
        subst (λ (l : List Band). Holds a bands rows gap' left' (record v { above = []; left = first_row l; below = l })) (sym all_bands)
        (regap_first gap' left' [] (h.above ++ h.below) refl rewound_gap leads)

  -- the gap behind all bands
  pub wound : Holds a bands rows None None (record v { above = v.above ++ v.below; left = []; below = [] })
  wound =
      subst (λ (l : List Band). Holds a bands rows None None (record v { above = l; left = []; below = [] })) (sym all_bands)
      (regap None None (h.above ++ h.below) [] [] (append-nil (h.above ++ h.below)) refl (refl, refl))

  -- the first band below the gap
  pub record FirstBelow (first : Band) (rest : List Band) : Type 0 where
    pub e : Entry
    pub es : List Entry
    pub below_is : h.below ≡ e ∷ es
    pub first_is : first ≡ band_of e
    pub rest_is : rest ≡ map band_of es
    pub gap_is : gap ≡ Some e.at
    pub span : span_of a e.at ≡ Some (placed_band e).1
    pub row : HasEntry a e
    pub list : list_of a bands ≡ Some (map at_of h.above ++ e.at ∷ map at_of es)

  pub first_below : (first : Band) (rest : List Band) → v.below ≡ first ∷ rest → FirstBelow first rest
  first_below first rest is =
      let cut = uncons_map band_of h.below first rest (sym is ∙ h.below_is) in
      let spans = subst (λ (l : List Entry). Each (IsSpan a) (map placed_band l)) cut.2 (spans_below a bands rows gap left v h) in
      let there = subst (Each (HasEntry a)) cut.2 h.rows_below in
      record {
        e = cut.0;
        es = cut.1;
        below_is = cut.2;
        first_is = cut.3;
        rest_is = cut.4;
        gap_is = h.gap_is ∙ ap (λ (l : List Entry). slice_get (map at_of l) 0) cut.2;
        span = spans.0;
        row = there.0;
        list = bands_list a bands rows gap left v h ∙ ap (λ (l : List Entry). Some (map at_of h.above ++ map at_of l)) cut.2;
      }

  pub span_there : (some : v.below ≡ [] → ⊥) (at : ℕ) → gap ≡ Some at → is_some (span_of a at) ≡ true
  span_there some at is =
      let there = first_there v.below some in
      let first = first_below there.0 there.1 there.2 in
      ap (λ (k : ℕ). is_some (span_of a k)) (same_Some at first.e.at (sym is ∙ first.gap_is)) ∙ ap is_some first.span

  -- the gap below the first band
  module _ (first : Band) (rest : List Band) (is : v.below ≡ first ∷ rest) (at : ℕ) (at_is : gap ≡ Some at) (gap' : Option ℕ) (next : (list : ℕ) (f b : List ℕ) → list_of a list ≡ Some (f ++ at ∷ b) → gap' ≡ slice_get b 0) where
    abbrev there : FirstBelow first rest
    there = first_below first rest is

    advanced_gap : gap' ≡ slice_get (map at_of there.es) 0
    advanced_gap = next bands (map at_of h.above) (map at_of there.es) (there.list ∙ ap (λ (k : ℕ). Some (map at_of h.above ++ k ∷ map at_of there.es)) (same_Some there.e.at at (sym there.gap_is ∙ at_is)))

    cut_is : (h.above ++ there.e ∷ []) ++ there.es ≡ h.above ++ h.below
    cut_is = sym_moved h.above ∙ ap (λ (l : List Entry). h.above ++ l) (sym there.below_is)
      where
        sym_moved : (xs : List Entry) → (xs ++ there.e ∷ []) ++ there.es ≡ xs ++ there.e ∷ there.es
        sym_moved [] = refl
        sym_moved (x ∷ xs) = ap (λ (l : List Entry). x ∷ l) (sym_moved xs)

    pub advanced_over : IfSome gap' (IsOverList a)
    advanced_over = over_cut gap' (h.above ++ there.e ∷ []) there.es cut_is advanced_gap

    pub advanced : (left' : Option ℕ) → left' ≡ first_under a gap' → Holds a bands rows gap' left' (record v { above = v.above ++ first ∷ []; left = first_row rest; below = rest })
    advanced left' leads =
        let above_are : v.above ++ first ∷ [] ≡ map band_of (h.above ++ there.e ∷ []) =
        ap (λ (l : List Band). l ++ first ∷ []) h.above_is ∙ ap (λ (b : Band). map band_of h.above ++ b ∷ []) there.first_is ∙ sym (map-append band_of h.above (there.e ∷ [])) in
        subst (λ (l : List Band). Holds a bands rows gap' left' (record v { above = l; left = first_row rest; below = rest })) (sym above_are)
        (subst (λ (l : List Band). Holds a bands rows gap' left' (record v { above = map band_of (h.above ++ there.e ∷ []); left = first_row l; below = l })) (sym there.rest_is)
        (regap_first gap' left' (h.above ++ there.e ∷ []) there.es cut_is advanced_gap leads))

  -- the last band above the gap
  pub record LastAbove (at : ℕ) : Type 0 where
    pub es : List Entry
    pub e : Entry
    pub above_is : h.above ≡ es ++ e ∷ []
    pub at_is : at ≡ e.at
    pub last_is : v.above ≡ map band_of es ++ band_of e ∷ []
    pub span : span_of a e.at ≡ Some (placed_band e).1
    pub row : HasEntry a e
    pub list : list_of a bands ≡ Some (map at_of es ++ e.at ∷ map at_of h.below)

  module _ (last : Option ℕ) (leads : (front back : List ℕ) → list_of a bands ≡ Some (front ++ back) → gap ≡ slice_get back 0 → last ≡ last_in front) where
    last_there : last ≡ last_in (map at_of h.above)
    last_there = leads (map at_of h.above) (map at_of h.below) (bands_list a bands rows gap left v h) h.gap_is

    pub last_above : (at : ℕ) → last ≡ Some at → LastAbove at
    last_above at is =
        elim (last_cases h.above) [
          | inl none ↦ absurd (let gone : last ≡ None = last_there ∙ ap (λ (l : List Entry). last_in (map at_of l)) none in cc)
          | inr some ↦
              let es = some.0 in
              let e = some.1 in
              let spans = subst (Each (IsSpan a)) (ap (map placed_band) some.2 ∙ map-append placed_band es (e ∷ [])) (spans_above a bands rows gap left v h) in
              let has = subst (Each (HasEntry a)) some.2 h.rows_above in
              record {
                es = es;
                e = e;
                above_is = some.2;
                at_is = same_Some at e.at (sym is ∙ last_there ∙ ap (λ (l : List Entry). last_in (map at_of l)) some.2 ∙ ap last_in (map-append at_of es (e ∷ [])) ∙ last_in_last (map at_of es) e.at);
                last_is = h.above_is ∙ ap (map band_of) some.2 ∙ map-append band_of es (e ∷ []);
                span = (each_right (IsSpan a) (map placed_band es) (placed_band e ∷ []) spans).0;
                row = (each_right (HasEntry a) es (e ∷ []) has).0;
                list = bands_list a bands rows gap left v h ∙ ap (λ (l : List Entry). Some (map at_of l ++ map at_of h.below)) some.2 ∙ ap Some (map_moved at_of es e h.below);
              }
        ]

    pub none_above : last ≡ None → v.above ≡ []
    none_above is =
        elim (last_cases h.above) [
          | inl none ↦ h.above_is ∙ ap (map band_of) none
          | inr some ↦ absurd (let there : last ≡ Some some.1.at = last_there ∙ ap (λ (l : List Entry). last_in (map at_of l)) some.2 ∙ ap last_in (map-append at_of some.0 (some.1 ∷ [])) ∙ last_in_last (map at_of some.0) some.1.at in cc)
        ]

  -- the lists differ
  pub row_apart : rows ≢ bands
  row_apart = apart_from_first bands (rows ∷ (map list_in h.above ++ map list_in h.below)) h.apart rows (here rows (map list_in h.above ++ map list_in h.below))

  pub list_apart : (k : ℕ) → Contains (map list_in h.above ++ map list_in h.below) k → (k ≢ bands) × (k ≢ rows)
  list_apart k there = (
    apart_from_first bands (rows ∷ (map list_in h.above ++ map list_in h.below)) h.apart k (later rows k (map list_in h.above ++ map list_in h.below) there),
    apart_from_first rows (map list_in h.above ++ map list_in h.below) (IsDistinct-tail eqb bands (rows ∷ (map list_in h.above ++ map list_in h.below)) h.apart) k there,
  )

-- rows whose lists are not the one that changes
pub rows_kept : (a b : Arena) (list : ℕ) → Keeps a b list → (es : List Entry) → ((k : ℕ) → Contains (map list_in es) k → k ≢ list) → Each (HasEntry a) es → Each (HasEntry b) es
rows_kept a b list keeps es apart all =
    each_weaker (HasEntry a) (HasEntry b) es (λ front e back is has. keeps e.list (map placed_interval e.row) (apart e.list (contains_mapped list_in es front e back is)) has) all

-- a list that is there is none that wasn't
live_apart : (a : Arena) (new k : ℕ) (placed : List Placed) → list_of a new ≡ None → Has a k placed → k ≢ new
live_apart a new k placed none has same = let some : list_of a new ≡ Some (ids_in placed) = sym (ap (list_of a) same) ∙ has.ids in absurd (cc)

live_lists : (a : Arena) (new : ℕ) → list_of a new ≡ None → (es : List Entry) → Each (HasEntry a) es → (k : ℕ) → Contains (map list_in es) k → k ≢ new
live_lists a new none [] all k there = absurd (not_in_none k there)
live_lists a new none (e ∷ es) all k there =
    elim (cons_cases e.list k (map list_in es) there) [
      | inl same ↦ λ is. live_apart a new e.list (map placed_interval e.row) none all.0 (same ∙ is)
      | inr more ↦ live_lists a new none es all.1 k more
    ]

-- the bands with a new list for the row
module _ (m b : Arena) (bands rows : ℕ) (none : list_of m rows ≡ None) (made : Has b rows []) (keeps : Keeps m b rows) (sound : IsSound b) where
  pub with_new_row : (gap left : Option ℕ) (above below : List Entry) (xs : List Interval) → Has m bands (map placed_band above ++ map placed_band below) → Each (HasEntry m) above → Each (HasEntry m) below → IsDistinct eqb (bands ∷ (map list_in above ++ map list_in below)) → gap ≡ slice_get (map at_of below) 0 → IsLeft left below xs → Holds b bands rows gap left (record { above = map band_of above; row = []; left = xs; below = map band_of below; spare = b.spare })
  with_new_row gap left above below xs has above_has below_has apart gap_is left_is =
      let bands_differ : bands ≢ rows = live_apart m rows bands (map placed_band above ++ map placed_band below) none has in
      record {
        sound = sound;
        above = above;
        below = below;
        row = [];
        has_bands = keeps bands (map placed_band above ++ map placed_band below) bands_differ has;
        has_row = made;
        rows_above = rows_kept m b rows keeps above (live_lists m rows none above above_has) above_has;
        rows_below = rows_kept m b rows keeps below (live_lists m rows none below below_has) below_has;
        apart =
            distinct_cons bands (rows ∷ (map list_in above ++ map list_in below))
            (λ k there. elim (cons_cases rows k (map list_in above ++ map list_in below) there) [
              | inl same ↦ λ is. bands_differ (sym (same ∙ is))
              | inr more ↦ apart_from_first bands (map list_in above ++ map list_in below) apart k more
            ])
            (distinct_cons rows (map list_in above ++ map list_in below)
            (λ k there. elim (Contains-append_cases (map list_in above) (map list_in below) k there) [
              | inl left ↦ live_lists m rows none above above_has k left
              | inr right ↦ live_lists m rows none below below_has k right
            ])
            (IsDistinct-tail eqb bands (map list_in above ++ map list_in below) apart));
        gap_is = gap_is;
        is_left = left_is;
        above_is = refl;
        below_is = refl;
        row_is = refl;
        spare_is = refl;
      }

  -- the first lists of all
  pub made_first : Has m bands [] → Holds b bands rows None None (record nothing { spare = b.spare })
  made_first has = with_new_row None None [] [] [] has tt tt (distinct_cons bands [] (λ k there. absurd (not_in_none k there)) distinct_none) refl (refl, refl)

module _ (a m b : Arena) (bands rows : ℕ) (gap left' : Option ℕ) (v : Bands) (h : Holds a bands rows gap left' v) where
  -- a row with one more interval
  module _ (id : ℕ) (interval : Interval) (put : (front back : List Placed) → Has a rows (front ++ back) → None ≡ slice_get (ids_in back) 0 → Has b rows (front ++ placed_interval (id, interval) ∷ back)) (keeps : Keeps a b rows) (sound : IsSound b) where
    pub pushed : Holds b bands rows gap left' (record v { row = v.row ++ interval ∷ []; spare = b.spare })
    pushed =
        let row_there : Has a rows (map placed_interval h.row ++ []) = subst (Has a rows) (sym (append-nil (map placed_interval h.row))) h.has_row in
        record {
          sound = sound;
          above = h.above;
          below = h.below;
          row = h.row ++ (id, interval) ∷ [];
          has_bands = keeps bands (map placed_band h.above ++ map placed_band h.below) (λ same. row_apart a bands rows gap left' v h (sym same)) h.has_bands;
          has_row = subst (Has b rows) (sym (map-append placed_interval h.row ((id, interval) ∷ []))) (put (map placed_interval h.row) [] row_there refl);
          rows_above = rows_kept a b rows keeps h.above (λ k there. (list_apart a bands rows gap left' v h k (Contains-append_left (map list_in h.above) (map list_in h.below) k there)).1) h.rows_above;
          rows_below = rows_kept a b rows keeps h.below (λ k there. (list_apart a bands rows gap left' v h k (Contains-append_right (map list_in h.above) (map list_in h.below) k there)).1) h.rows_below;
          apart = h.apart;
          gap_is = h.gap_is;
          is_left = h.is_left;
          above_is = h.above_is;
          below_is = h.below_is;
          row_is = ap (λ (l : List Interval). l ++ interval ∷ []) h.row_is ∙ sym (map-append (λ (p : PlacedInterval). p.1) h.row ((id, interval) ∷ []));
          spare_is = refl;
        }

  -- a new row in place of one that was freed
  module _ (keeps_row : Keeps a m rows) (new : ℕ) (none : list_of m new ≡ None) (made : Has b new []) (keeps : Keeps m b new) (sound : IsSound b) where
    pub dropped : Holds b bands new gap left' (record v { row = []; spare = b.spare })
    dropped =
        subst (λ (l : List Band). Holds b bands new gap left' (record v { above = l; row = []; spare = b.spare })) (sym h.above_is)
        (subst (λ (l : List Band). Holds b bands new gap left' (record v { above = map band_of h.above; row = []; below = l; spare = b.spare })) (sym h.below_is)
        (with_new_row m b bands new none made keeps sound gap left' h.above h.below v.left
        (keeps_row bands (map placed_band h.above ++ map placed_band h.below) (λ same. row_apart a bands rows gap left' v h (sym same)) h.has_bands)
        (rows_kept a m rows keeps_row h.above (λ k there. (list_apart a bands rows gap left' v h k (Contains-append_left (map list_in h.above) (map list_in h.below) k there)).1) h.rows_above)
        (rows_kept a m rows keeps_row h.below (λ k there. (list_apart a bands rows gap left' v h k (Contains-append_right (map list_in h.above) (map list_in h.below) k there)).1) h.rows_below)
        (distinct_cons bands (map list_in h.above ++ map list_in h.below) (λ k there. (list_apart a bands rows gap left' v h k there).0) (IsDistinct-tail eqb rows (map list_in h.above ++ map list_in h.below) (IsDistinct-tail eqb bands (rows ∷ (map list_in h.above ++ map list_in h.below)) h.apart)))
        h.gap_is h.is_left))

  -- the row as a band above the gap, and a new row
  module _ (id : ℕ) (top bottom : ℤ) (put : (front back : List Placed) → Has a bands (front ++ back) → gap ≡ slice_get (ids_in back) 0 → Has m bands (front ++ (id, record { start = top; stop = bottom; sub = Some rows }) ∷ back)) (keeps_bands : Keeps a m bands) (new : ℕ) (none : list_of m new ≡ None) (made : Has b new []) (keeps : Keeps m b new) (sound : IsSound b) where
    abbrev entry : Entry
    entry = record { at = id; list = rows; top = top; bottom = bottom; row = h.row }

    with_lists : IsDistinct eqb (bands ∷ (map list_in (h.above ++ entry ∷ []) ++ map list_in h.below))
    with_lists =
        let tail = IsDistinct-tail eqb bands (rows ∷ (map list_in h.above ++ map list_in h.below)) h.apart in
        subst (λ (l : List ℕ). IsDistinct eqb (bands ∷ l)) (sym (map_moved list_in h.above entry h.below))
        (distinct_cons bands (map list_in h.above ++ rows ∷ map list_in h.below)
        (λ k there. elim (Contains-append_cases (map list_in h.above) (rows ∷ map list_in h.below) k there) [
          | inl left ↦ (list_apart a bands rows gap left' v h k (Contains-append_left (map list_in h.above) (map list_in h.below) k left)).0
          | inr right ↦ elim (cons_cases rows k (map list_in h.below) right) [
            | inl same ↦ λ is. row_apart a bands rows gap left' v h (same ∙ is)
            | inr more ↦ (list_apart a bands rows gap left' v h k (Contains-append_right (map list_in h.above) (map list_in h.below) k more)).0
          ]
        ])
        (distinct_with (map list_in h.above) rows (map list_in h.below)
        (λ there. (list_apart a bands rows gap left' v h rows there).1 refl)
        (IsDistinct-tail eqb rows (map list_in h.above ++ map list_in h.below) tail)))

    put_gap : gap ≡ slice_get (ids_in (map placed_band h.below)) 0
    put_gap = h.gap_is ∙ ap (λ (l : List ℕ). slice_get l 0) (sym (band_ids h.below))

    pub banded : Holds b bands new gap left' (record v { above = v.above ++ record { top = top; bottom = bottom; row = v.row } ∷ []; row = []; spare = b.spare })
    banded =
        let above_are : v.above ++ record { top = top; bottom = bottom; row = v.row } ∷ [] ≡ map band_of (h.above ++ entry ∷ []) =
        ap (λ (l : List Band). l ++ record { top = top; bottom = bottom; row = v.row } ∷ []) h.above_is
        ∙ ap (λ (l : List Interval). map band_of h.above ++ record { top = top; bottom = bottom; row = l } ∷ []) h.row_is
        ∙ sym (map-append band_of h.above (entry ∷ [])) in
        subst (λ (l : List Band). Holds b bands new gap left' (record v { above = l; row = []; spare = b.spare })) (sym above_are)
        (subst (λ (l : List Band). Holds b bands new gap left' (record v { above = map band_of (h.above ++ entry ∷ []); row = []; below = l; spare = b.spare })) (sym h.below_is)
        (with_new_row m b bands new none made keeps sound gap left' (h.above ++ entry ∷ []) h.below v.left
        (subst (Has m bands) (sym (map_moved placed_band h.above entry h.below)) (put (map placed_band h.above) (map placed_band h.below) h.has_bands put_gap))
        (each_join (HasEntry m) h.above (entry ∷ [])
        (rows_kept a m bands keeps_bands h.above (λ k there. (list_apart a bands rows gap left' v h k (Contains-append_left (map list_in h.above) (map list_in h.below) k there)).0) h.rows_above)
        (keeps_bands rows (map placed_interval h.row) (row_apart a bands rows gap left' v h) h.has_row, tt))
        (rows_kept a m bands keeps_bands h.below (λ k there. (list_apart a bands rows gap left' v h k (Contains-append_right (map list_in h.above) (map list_in h.below) k there)).0) h.rows_below)
        with_lists h.gap_is h.is_left))

-- the same arena with other room
module _ (a : Arena) (n : ℕ) where
  has_at : (list : ℕ) (placed : List Placed) → Has a list placed → Has (record a { spare = n }) list placed
  has_at list placed has = record { ids = has.ids; spans = has.spans }

  rows_at : (es : List Entry) → Each (HasEntry a) es → Each (HasEntry (record a { spare = n })) es
  rows_at [] all = tt
  rows_at (e ∷ es) all = (has_at e.list (map placed_interval e.row) all.0, rows_at es all.1)

  holds_at : (bands rows : ℕ) (gap left : Option ℕ) (v : Bands) → Holds a bands rows gap left v → Holds (record a { spare = n }) bands rows gap left (record v { spare = n })
  holds_at bands rows gap left v h = record {
    sound = record { live = h.sound.live; once = h.sound.once; alone = h.sound.alone; listed = h.sound.listed };
    above = h.above;
    below = h.below;
    row = h.row;
    has_bands = has_at bands (map placed_band h.above ++ map placed_band h.below) h.has_bands;
    has_row = has_at rows (map placed_interval h.row) h.has_row;
    rows_above = rows_at h.above h.rows_above;
    rows_below = rows_at h.below h.rows_below;
    apart = h.apart;
    gap_is = h.gap_is;
    is_left = h.is_left;
    above_is = h.above_is;
    below_is = h.below_is;
    row_is = h.row_is;
    spare_is = refl;
  }

pub roomier : (a b : Arena) → b ≡ record a { spare = b.spare } → (bands rows : ℕ) (gap left : Option ℕ) (v : Bands) → Holds a bands rows gap left v → Holds b bands rows gap left (record v { spare = b.spare })
roomier a b more bands rows gap left v h = subst (λ (x : Arena). Holds x bands rows gap left (record v { spare = x.spare })) (sym more) (holds_at a b.spare bands rows gap left v h)
