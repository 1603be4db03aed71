-- The rectangles of bands have the places of the bands, and are a canonical list.
use Rattle.std.proofs.Common.{◌≡◌, ◌≢◌, Bool, true, false, ◌&&◌, List, [], ◌∷◌, ◌++◌, map, refl, sym, ◌∙◌, ap, arith}
use Rattle.std.specs.Prelude.{ℤ, int_lt, int_le, ◌||◌}
use Rattle.std.specs.List.{list_any, AllByRecursion}
use Rattle.std.proofs.lemmas.List.Folds.{list_any-append}
use Rattle.std.proofs.lemmas.Int.{ints}
use Rattle.region_bands.specs.declared.Interval.{Interval}
use Rattle.region_bands.specs.Bands.{Band, rows_of}
use Rattle.region_rows.specs.Rows.{IsRow, row_has}
use Rattle.region_sets.specs.Sets.{in_rows, has, AreBands}
use Rattle.region.specs.declared.Rect.{Rect}
use Rattle.region.specs.Runs.{Run, AreRuns}
use Rattle.region.specs.Region.{in_rect, covers, rects_of_bands, IsCanonical, IsBand}
use Rattle.region.specs.Rects.{rects_of_band, rects_in}

-- ---- places

in_one : (b : Band) (x y : ℤ) → covers (rects_of_band b) x y ≡ (in_rows (rows_of b) y && row_has b.row x)
in_one b x y = go b.row
  where
    one : (a c d e s : Bool) → (((a && c) && d) && e || ((d && e) && s)) ≡ ((d && e) && ((a && c) || s))
    one true true true true s = refl
    one true true true false s = refl
    one true true false e s = refl
    one true false true true s = refl
    one true false true false s = refl
    one true false false e s = refl
    one false c true true s = refl
    one false c true false s = refl
    one false c false e s = refl

    none : (a c : Bool) → false ≡ ((a && c) && false)
    none true true = refl
    none true false = refl
    none false c = refl

    go : (row : List Interval) → list_any (λ r. in_rect r x y) (map (λ i. record { x1 = i.from; y1 = b.top; x2 = i.to; y2 = b.bottom }) row) ≡ (in_rows (rows_of b) y && row_has row x)
    go [] = none (int_le b.top y) (int_lt y b.bottom)
    go (i ∷ row) =
        ap (λ s. in_rect (record { x1 = i.from; y1 = b.top; x2 = i.to; y2 = b.bottom }) x y || s) (go row)
        ∙ one (int_le i.from x) (int_lt x i.to) (int_le b.top y) (int_lt y b.bottom) (row_has row x)

pub covers_has : (bands : List Band) (x y : ℤ) → covers (rects_in bands) x y ≡ has bands x y
covers_has [] x y = refl
covers_has (b ∷ bands) x y =
    list_any-append (λ r. in_rect r x y) (rects_of_band b) (rects_in bands)
    ∙ ap (λ s. s || covers (rects_in bands) x y) (in_one b x y)
    ∙ ap (λ s. (in_rows (rows_of b) y && row_has b.row x) || s) (covers_has bands x y)

-- ---- canonical lists

abbrev pub Whole : Type 0
Whole = Run (Unit {0})

abbrev pub run_of : Interval → Whole
run_of i = record { from = i.from; to = i.to; value = tt }

abbrev pub interval_in : Whole → Interval
interval_in r = record { from = r.from; to = r.to }

abbrev pub band_run : Band → Run (List Whole)
band_run b = record { from = b.top; to = b.bottom; value = map run_of b.row }

there_and_back : (row : List Interval) → map interval_in (map run_of row) ≡ row
there_and_back [] = refl
there_and_back (i ∷ row) = ap (λ l. i ∷ l) (there_and_back row)

same_rows : (row other : List Interval) → map run_of row ≡ map run_of other → row ≡ other
same_rows row other same = sym (there_and_back row) ∙ ap (map interval_in) same ∙ there_and_back other

some_runs : (row : List Interval) → row ≢ [] → map run_of row ≢ []
some_runs [] some e = some refl
some_runs (i ∷ row) some e = cc

row_runs : (row : List Interval) → IsRow row → AreRuns (map run_of row)
row_runs [] h = tt
row_runs (i ∷ []) h = h
row_runs (i ∷ j ∷ rest) h = (h.0, omega (arith, ints, h.1), (λ touch same. omega (arith, ints, h.1, touch)), row_runs (j ∷ rest) h.2)

band_runs : (bands : List Band) → AreBands bands → AreRuns (map band_run bands)
band_runs [] h = tt
band_runs (b ∷ []) h = h.some
band_runs (b ∷ c ∷ rest) h = (h.0.some, h.1.order, (λ touch same. h.1.apart touch (same_rows b.row c.row same)), band_runs (c ∷ rest) h.2)

each_band : (bands : List Band) → AreBands bands → AllByRecursion IsBand (map band_run bands)
each_band [] h = tt
each_band (b ∷ []) h = (record { some = some_runs b.row h.columns; intervals = row_runs b.row h.row }, tt)
each_band (b ∷ c ∷ rest) h = (record { some = some_runs b.row h.0.columns; intervals = row_runs b.row h.0.row }, each_band (c ∷ rest) h.2)

same_rects : (bands : List Band) → rects_in bands ≡ rects_of_bands (map band_run bands)
same_rects [] = refl
same_rects (b ∷ bands) = ap (λ l. l ++ rects_in bands) (go b.row) ∙ ap (λ l. map rect_of (map run_of b.row) ++ l) (same_rects bands)
  where
    rect_of : Whole → Rect
    rect_of r = record { x1 = r.from; y1 = b.top; x2 = r.to; y2 = b.bottom }

    go : (row : List Interval) → rects_of_band (record b { row = row }) ≡ map rect_of (map run_of row)
    go [] = refl
    go (i ∷ row) = ap (λ l. rect_of (run_of i) ∷ l) (go row)

pub rects_canonical : (bands : List Band) → AreBands bands → IsCanonical (rects_in bands)
rects_canonical bands h = (map band_run bands, (band_runs bands h, each_band bands h), same_rects bands)
