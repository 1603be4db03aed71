-- The bands of one rectangle, and when there are no rectangles.
use Rattle.std.proofs.Common.{◌≡◌, ◌≢◌, ◌+◌, length, Bool, true, false, ◌&&◌, List, [], ◌∷◌, refl, sym, ◌∙◌, ap, subst, arith, Option, Some, None}
use Rattle.std.specs.Prelude.{ℤ, ◌<ℤ◌, int_lt, int_le, ◌||◌, IsTrue, ◌↔◌, IfSome, not, slice_get}
use Rattle.std.specs.Option.{option_map, is_some}
use Rattle.region_bands.specs.declared.Rows.{Rows}
use Rattle.std.proofs.lemmas.Int.{ints}
use Rattle.std.proofs.lemmas.List.{length-append, length-map}
use Rattle.region.specs.declared.Rect.{Rect}
use Rattle.region.specs.Region.{in_rect, covers}
use Rattle.region.specs.RegionView.{SharePlace, IsBox}
use Rattle.region_sets.specs.declared.queries.Rectangle.{Rectangle}
use Rattle.region_sets.specs.Queries.{intervals_in_all, in_rectangle, IsBounds, SharePlace as BandsShare}
use Rattle.region_bands.specs.declared.Interval.{Interval}
use Rattle.region_bands.specs.Bands.{Band, Bands, rows_of, nothing}
use Rattle.region_rows.specs.declared.Keep.{Keep}
use Rattle.region_rows.specs.Rows.{keeps_place}
use Rattle.region_sets.specs.Sets.{has, AreBands, IsKept}
use Rattle.region.specs.Rects.{rect_of, rect_in, rects_of_band, rects_in, band_of, AreRectBands}
use Rattle.region.proofs.BandRectLemmas.{covers_has}

pub no_rects : (bands : List Band) → AreBands bands → rects_in bands ≡ [] → bands ≡ []
no_rects [] h e = refl
no_rects (b ∷ []) h e = go b.row h.columns e
  where
    go : (row : List Interval) → row ≢ [] → rects_in (record b { row = row } ∷ []) ≡ [] → (b ∷ []) ≡ []
    go [] some e = absurd (some refl)
    go (i ∷ row) some e = cc
no_rects (b ∷ c ∷ rest) h e = go b.row h.0.columns e
  where
    go : (row : List Interval) → row ≢ [] → rects_in (record b { row = row } ∷ c ∷ rest) ≡ [] → (b ∷ c ∷ rest) ≡ []
    go [] some e = absurd (some refl)
    go (i ∷ row) some e = cc

pub no_place : (r : Rect) (x y : ℤ) → (int_lt r.x1 r.x2 && int_lt r.y1 r.y2) ≡ false → false ≡ in_rect r x y
no_place r x y e = grind (arith, ints)

pub one_place : (r : Rect) (x y : ℤ) → has (band_of r ∷ []) x y ≡ in_rect r x y
one_place r x y = go (int_le r.x1 x) (int_lt x r.x2) (int_le r.y1 y) (int_lt y r.y2)
  where
    go : (a c d e : Bool) → (((d && e) && ((a && c) || false)) || false) ≡ (((a && c) && d) && e)
    go true true true true = refl
    go true true true false = refl
    go true true false e = refl
    go true false true true = refl
    go true false true false = refl
    go true false false e = refl
    go false c true true = refl
    go false c true false = refl
    go false c false e = refl

pub no_bands : (r : Rect) (b : Bands) → b ≡ nothing → (int_lt r.x1 r.x2 && int_lt r.y1 r.y2) ≡ false → AreRectBands r b
no_bands r b is none = subst (AreRectBands r) (sym is) (record { bands = tt; no_row = refl; places = λ x y. no_place r x y none })

pub only_band : (r : Rect) (b : Bands) → b ≡ record nothing { above = band_of r ∷ []; spare = b.spare } → r.x1 <ℤ r.x2 → r.y1 <ℤ r.y2 → AreRectBands r b
only_band r b is columns rows = subst (AreRectBands r) (sym is) (record { bands = record { some = rows; row = columns; columns = λ e. cc }; no_row = refl; places = one_place r })

pub whether_empty : (bands : List Band) (first : Option Rows) (none : Bool) → AreBands bands → first ≡ option_map rows_of (slice_get bands 0) → is_some first ≡ not none → IsTrue none ↔ (rects_in bands ≡ [])
whether_empty [] first none h e f = go none (ap is_some (sym e) ∙ f)
  where
    go : (b : Bool) → false ≡ not b → IsTrue b ↔ (rects_in [] ≡ [])
    go true e = ((λ _. refl), (λ _. refl))
    go false e = absurd (cc)
whether_empty (b ∷ bands) first none h e f = go none (ap is_some (sym e) ∙ f)
  where
    go : (t : Bool) → true ≡ not t → IsTrue t ↔ (rects_in (b ∷ bands) ≡ [])
    go true e = absurd (cc)
    go false e = ((λ i. absurd (cc)), (λ none. absurd (let e : b ∷ bands ≡ [] = no_rects (b ∷ bands) h none in cc)))

-- ---- what is asked of bands is what is asked of their rectangles

pub shares : (a b : List Band) (rs qs : List Rect) (t : Bool) → rs ≡ rects_in a → qs ≡ rects_in b → IsTrue t ↔ BandsShare a b → IsTrue t ↔ SharePlace rs qs
shares a b rs qs t e f h = (λ yes. let s = h.0 yes in (s.0, (s.1.0, same s.0 s.1.0 ∙ s.1.1)), λ s. h.1 (s.0, (s.1.0, sym (same s.0 s.1.0) ∙ s.1.1)))
  where
    same : (x y : ℤ) → (covers rs x y && covers qs x y) ≡ (has a x y && has b x y)
    same x y = ap (λ r. covers r x y && covers qs x y) e ∙ ap (λ r. covers (rects_in a) x y && covers r x y) f
        ∙ ap (λ p. p && covers (rects_in b) x y) (covers_has a x y) ∙ ap (λ p. has a x y && p) (covers_has b x y)

pub counted : (bands : List Band) → intervals_in_all bands ≡ length (rects_in bands)
counted [] = refl
counted (b ∷ bands) = ap (λ n. length b.row + n) (counted bands) ∙ ap (λ n. n + length (rects_in bands)) (sym (length-map b.row (rect_of (rows_of b)))) ∙ sym (length-append (rects_of_band b) (rects_in bands))

abbrev pub rectangle_of : Rect → Rectangle
rectangle_of r = record { rows = record { top = r.y1; bottom = r.y2 }; columns = record { from = r.x1; to = r.x2 } }

pub in_same : (r : Rect) (x y : ℤ) → in_rectangle (rectangle_of r) x y ≡ in_rect r x y
in_same r x y = go (int_le r.x1 x) (int_lt x r.x2) (int_le r.y1 y) (int_lt y r.y2)
  where
    go : (a c d e : Bool) → ((d && e) && (a && c)) ≡ (((a && c) && d) && e)
    go true true true true = refl
    go true true true false = refl
    go true true false e = refl
    go true false true true = refl
    go true false true false = refl
    go true false false e = refl
    go false c true true = refl
    go false c true false = refl
    go false c false e = refl

pub boxed : (bands : List Band) (b : Rectangle) → IsBounds b bands → IsBox (rect_in b) (rects_in bands)
boxed bands b h = record {
  holds = λ x y within. sym (in_same (rect_in b) x y) ∙ h.holds x y (sym (covers_has bands x y) ∙ within);
  least = λ q all. let l = h.least (rectangle_of q) (λ x y within. in_same q x y ∙ all x y (covers_has bands x y ∙ within)) in
      record { left = l.from; top = l.top; right = l.to; bottom = l.bottom };
}

pub boxed_none : (bands : List Band) (found : Option Rectangle) (result : Option Rect) (list : List Rect) → AreBands bands → rects_in bands ≡ list → (found ≡ None) ↔ (bands ≡ []) → result ≡ option_map rect_in found → (result ≡ None) ↔ (list ≡ [])
boxed_none bands found result list h e none is = (
  λ r. sym e ∙ ap rects_in (none.0 (nothing_found found (sym is ∙ r))),
  λ l. is ∙ ap (option_map rect_in) (none.1 (no_rects bands h (e ∙ l))),
)
  where
    nothing_found : (o : Option Rectangle) → option_map rect_in o ≡ None → o ≡ None
    nothing_found None e = refl
    nothing_found (Some r) e = absurd (cc)

pub boxed_some : (bands : List Band) (found : Option Rectangle) (result : Option Rect) (list : List Rect) → rects_in bands ≡ list → IfSome found (λ b. IsBounds b bands) → result ≡ option_map rect_in found → IfSome result (λ r. IsBox r list)
boxed_some bands found result list e some is = subst (λ o. IfSome o (λ r. IsBox r list)) (sym is) (subst (λ l. IfSome (option_map rect_in found) (λ r. IsBox r l)) e (go found some))
  where
    go : (o : Option Rectangle) → IfSome o (λ b. IsBounds b bands) → IfSome (option_map rect_in o) (λ r. IsBox r (rects_in bands))
    go None h = tt
    go (Some b) h = boxed bands b h

-- ---- what is kept of bands is what is kept of their rectangles

pub kept_covers : (keep : Keep) (a b c : List Band) (old other new : List Rect) → IsKept keep a b c → old ≡ rects_in a → other ≡ rects_in b → new ≡ rects_in c → (x y : ℤ) → covers new x y ≡ keeps_place keep (covers old x y) (covers other x y)
kept_covers keep a b c old other new h e f g x y =
    ap (λ r. covers r x y) g ∙ covers_has c x y ∙ h.has x y
    ∙ ap (λ p. keeps_place keep p (has b x y)) (sym (covers_has a x y) ∙ ap (λ r. covers r x y) (sym e))
    ∙ ap (λ p. keeps_place keep (covers old x y) p) (sym (covers_has b x y) ∙ ap (λ r. covers r x y) (sym f))
