-- Whether bands have one rectangle, as a reader finds it.
use Rattle.std.proofs.Common.{◌≡◌, ◌≢◌, List, [], ◌∷◌, ◌++◌, map, refl, sym, ◌∙◌, ap, subst, Option, Some, None, true, false}
use Rattle.std.specs.Prelude.{slice_get, is_some}
use Rattle.std.specs.Option.{option_map}
use Rattle.std.proofs.lemmas.Option.{same_Some}
use Rattle.region.specs.RegionView.{only}
use Rattle.region.specs.Rects.{rect_of, rects_in, band_of}
use Rattle.region.specs.Forms.{HasPlaces}
use Rattle.region.specs.declared.Rect.{Rect}
use Rattle.region_rows.specs.Rows.{IsRow}
use Rattle.region.proofs.ListLemmas.{first_there, none_there}
use Rattle.region_bands.specs.declared.Interval.{Interval}
use Rattle.region_bands.specs.declared.Rows.{Rows}
use Rattle.region_bands.specs.Bands.{Band, Reading, reading, rows_of, first_row}
use Rattle.region_sets.specs.Sets.{AreBands}

columns : (b : Band) (rest : List Band) → AreBands (b ∷ rest) → b.row ≢ []
columns b [] h = h.columns
columns b (c ∷ rest) h = h.0.columns

two_columns : (b : Band) (rest : List Band) (i j : Interval) (row : List Interval) → b.row ≡ i ∷ j ∷ row → only (rects_in (b ∷ rest)) ≡ None
two_columns b rest i j row e = ap (λ r. only (map (rect_of (rows_of b)) r ++ rects_in rest)) e

two_bands : (b c : Band) (rest : List Band) → b.row ≢ [] → c.row ≢ [] → only (rects_in (b ∷ c ∷ rest)) ≡ None
two_bands b c rest some others = go b.row c.row refl refl
  where
    go : (row below : List Interval) → b.row ≡ row → c.row ≡ below → only (rects_in (b ∷ c ∷ rest)) ≡ None
    go [] below e f = absurd (some e)
    go (i ∷ row) [] e f = absurd (others f)
    go (i ∷ j ∷ row) below e f = two_columns b (c ∷ rest) i j row e
    go (i ∷ []) (k ∷ below) e f =
        ap (λ r. only (map (rect_of (rows_of b)) r ++ rects_in (c ∷ rest))) e
        ∙ ap (λ r. only (rect_of (rows_of b) i ∷ map (rect_of (rows_of c)) r ++ rects_in rest)) f

-- a list with an element that isn't taken has two
second : {X : Type 0} (l : List X) (x : X) (rest : List X) → l ≡ x ∷ rest → is_some (slice_get rest 0) ≡ true → (y : X) × ((left : List X) × (l ≡ x ∷ y ∷ left))
second l x [] e some = absurd (cc)
second l x (y ∷ left) e some = (y, (left, e))

pub none_is : {X : Type 0} (o : Option X) → is_some o ≡ false → o ≡ None
none_is None e = refl
none_is (Some x) e = absurd (cc)

pub read_of : (r : Reading) → r.left ≡ first_row r.bands → r ≡ reading r.bands
read_of r left = ap (λ l. record { bands = r.bands; left = l }) left

pub no_columns : (r : Reading) → AreBands r.bands → r.left ≡ first_row r.bands → (found : Option Interval) → found ≡ slice_get r.left 0 → found ≡ None → only (rects_in r.bands) ≡ None
no_columns r are left found is none = go r.bands are (ap (λ l. slice_get l 0) (sym left) ∙ sym is ∙ none)
  where
    go : (bands : List Band) → AreBands bands → slice_get (first_row bands) 0 ≡ None → only (rects_in bands) ≡ None
    go [] h e = refl
    go (b ∷ rest) h e = absurd (columns b rest h (none_there b.row e))

-- the reader's first interval was read
pub record Begun (r next : Reading) (rows : Rows) (i : Interval) : Type 0 where
  pub begun : r ≡ reading r.bands
  pub first_rows : option_map rows_of (slice_get r.bands 0) ≡ Some rows
  pub column : slice_get r.left 0 ≡ Some i
  pub skip : (f : Interval) (rest : List Interval) → r.left ≡ f ∷ rest → next ≡ record r { left = rest }

pub some_bands : (r next : Reading) (rows : Rows) (i : Interval) → Begun r next rows i → next.bands ≢ []
some_bands r next rows i h none = never (ap (λ l. option_map rows_of (slice_get l 0)) (sym (ap (λ q. q.bands) (h.skip i there.0 there.1)) ∙ none) ∙ refl)
  where
    there : (rest : List Interval) × (r.left ≡ i ∷ rest)
    there = first_there r.left i h.column

    never : option_map rows_of (slice_get r.bands 0) ≡ None → ⊥
    never e = let no : None ≡ Some rows = sym e ∙ h.first_rows in cc

pub more_columns : (r next : Reading) (rows : Rows) (i : Interval) → Begun r next rows i → is_some (slice_get next.left 0) ≡ true → only (rects_in r.bands) ≡ None
more_columns r next rows i h some = go r.bands refl
  where
    there : (rest : List Interval) × (r.left ≡ i ∷ rest)
    there = first_there r.left i h.column

    past : next ≡ record r { left = there.0 }
    past = h.skip i there.0 there.1

    go : (bands : List Band) → r.bands ≡ bands → only (rects_in r.bands) ≡ None
    go [] e = ap (λ l. only (rects_in l)) e
    go (b ∷ rest) e =
        let row : b.row ≡ i ∷ there.0 = ap first_row (sym e) ∙ sym (ap (λ q. q.left) h.begun) ∙ there.1 in
        let two = second b.row i there.0 row (ap (λ q. is_some (slice_get q.left 0)) (sym past) ∙ some) in
        ap (λ l. only (rects_in l)) e ∙ two_columns b rest i two.0 two.1.0 two.1.1

pub more_bands : (r next after : Reading) (rows : Rows) (i : Interval) → AreBands r.bands → Begun r next rows i → ((f : Band) (rest : List Band) → next.bands ≡ f ∷ rest → after ≡ reading rest)
    → is_some (option_map rows_of (slice_get after.bands 0)) ≡ true → only (rects_in r.bands) ≡ None
more_bands r next after rows i are h advance some = go r.bands refl are
  where
    there : (rest : List Interval) × (r.left ≡ i ∷ rest)
    there = first_there r.left i h.column

    past : next ≡ record r { left = there.0 }
    past = h.skip i there.0 there.1

    go : (bands : List Band) → r.bands ≡ bands → AreBands bands → only (rects_in r.bands) ≡ None
    go [] e g = ap (λ l. only (rects_in l)) e
    go (b ∷ []) e g = absurd (let some : is_some (option_map rows_of (slice_get [] 0)) ≡ true = ap (λ q. is_some (option_map rows_of (slice_get q.bands 0))) (sym (advance b [] (ap (λ q. q.bands) past ∙ e))) ∙ some in cc)
    go (b ∷ c ∷ rest) e g = ap (λ l. only (rects_in l)) e ∙ two_bands b c rest g.0.columns (columns c rest g.2)

pub one_read : (r next after : Reading) (rows : Rows) (i : Interval) → Begun r next rows i → ((f : Band) (rest : List Band) → next.bands ≡ f ∷ rest → after ≡ reading rest)
    → slice_get next.left 0 ≡ None → option_map rows_of (slice_get after.bands 0) ≡ None → only (rects_in r.bands) ≡ Some (rect_of rows i)
one_read r next after rows i h advance last ended = go r.bands refl
  where
    there : (rest : List Interval) × (r.left ≡ i ∷ rest)
    there = first_there r.left i h.column

    past : next ≡ record r { left = there.0 }
    past = h.skip i there.0 there.1

    alone : there.0 ≡ []
    alone = none_there there.0 (ap (λ q. slice_get q.left 0) (sym past) ∙ last)

    go : (bands : List Band) → r.bands ≡ bands → only (rects_in r.bands) ≡ Some (rect_of rows i)
    go [] e = absurd (let no : None ≡ Some rows = ap (λ l. option_map rows_of (slice_get l 0)) (sym e) ∙ h.first_rows in cc)
    go (b ∷ c ∷ rest) e = absurd (let no : option_map rows_of (slice_get (c ∷ rest) 0) ≡ None = ap (λ q. option_map rows_of (slice_get q.bands 0)) (sym (advance b (c ∷ rest) (ap (λ q. q.bands) past ∙ e))) ∙ ended in cc)
    go (b ∷ []) e =
        let row : b.row ≡ i ∷ [] = ap first_row (sym e) ∙ sym (ap (λ q. q.left) h.begun) ∙ there.1 ∙ ap (λ l. i ∷ l) alone in
        let same : rows_of b ≡ rows = same_Some (rows_of b) rows (ap (λ l. option_map rows_of (slice_get l 0)) (sym e) ∙ h.first_rows) in
        ap (λ l. only (rects_in l)) e ∙ ap (λ r. only (map (rect_of (rows_of b)) r ++ [])) row ∙ ap (λ q. Some (rect_of q i)) same

-- the only rectangle of bands, which are its band
pub record IsOnly (r : Rect) (bands : List Band) : Type 0 where
  pub is : band_of r ∷ [] ≡ bands
  pub has_places : HasPlaces r

pub only_is : (bands : List Band) (r : Rect) → AreBands bands → only (rects_in bands) ≡ Some r → IsOnly r bands
only_is [] r h e = absurd (let no : None ≡ Some r = e in cc)
only_is (b ∷ c ∷ rest) r h e = absurd (let no : None ≡ Some r = sym (two_bands b c rest h.0.columns (columns c rest h.2)) ∙ e in cc)
only_is (b ∷ []) r h e = go b.row refl
  where
    go : (row : List Interval) → b.row ≡ row → IsOnly r (b ∷ [])
    go [] none = absurd (h.columns none)
    go (i ∷ j ∷ row) more = absurd (let no : None ≡ Some r = sym (two_columns b [] i j row more) ∙ e in cc)
    go (i ∷ []) one = record {
      is = ap (λ q. band_of q ∷ []) (sym same) ∙ ap (λ l. let c : Band = record { top = b.top; bottom = b.bottom; row = l } in c ∷ []) (sym one);
      has_places = subst HasPlaces same (record { columns = subst IsRow one h.row; rows = h.some });
    }
      where
        same : rect_of (rows_of b) i ≡ r
        same = same_Some (rect_of (rows_of b) i) r (ap (λ l. only (map (rect_of (rows_of b)) l ++ [])) (sym one) ∙ e)
