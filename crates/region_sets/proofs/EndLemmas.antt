-- Bands of which an end is taken out.
use Rattle.std.proofs.Common.{◌≡◌, ◌≢◌, ◌+◌, ◌≤◌, Bool, true, false, ◌&&◌, List, [], ◌∷◌, ◌++◌, length, refl, sym, ◌∙◌, ap, subst, arith, Option, Some, None, ◌⊎◌, inl, inr}
use Rattle.std.specs.Prelude.{ℤ, ◌<ℤ◌, ◌≤ℤ◌, int_lt, int_le, ◌||◌, not, slice_get}
use Rattle.std.specs.List.{last_or}
use Rattle.std.specs.Option.{option_map}
use Rattle.std.proofs.lemmas.Int.{ints}
use Rattle.std.proofs.lemmas.Option.{same_Some}
use Rattle.std.proofs.lemmas.List.{append-nil}
use Rattle.region_bands.specs.declared.Interval.{Interval}
use Rattle.region_bands.specs.declared.Rows.{Rows}
use Rattle.region_bands.specs.Bands.{Band, Bands, rows_of, first_row}
use Rattle.region_rows.specs.Rows.{IsRow, row_has}
use Rattle.region_sets.specs.Sets.{in_rows, has, IsBand, AreBands}
use Rattle.region_sets.specs.declared.queries.Rectangle.{Rectangle}
use Rattle.region_sets.specs.Queries.{in_rectangle}
use Rattle.region_sets.specs.Walks.{rest_of}
use Rattle.region_sets.specs.Ends.{end_of, end_in_band, without_last, without_end, end_rectangle, IsChanged}
use Rattle.region_sets.specs.Seams.{StandAbove}
use Rattle.region_sets.proofs.CopyLemmas.{first_there as rows_there}
use Rattle.region_sets.proofs.SeamLemmas.{first_band, band_tail, has_append, last_or_last, last_is_band}

-- ---- a row without its end

true_false : true ≡ false → ⊥
true_false e = cc

abbrev in_interval : Interval → ℤ → Bool
in_interval i x = int_le i.from x && int_lt x i.to

row_tail : (r : Interval) (rs : List Interval) → IsRow (r ∷ rs) → IsRow rs
row_tail r [] h = tt
row_tail r (s ∷ rs) h = h.2

some_first : (r : Interval) (rs : List Interval) → IsRow (r ∷ rs) → r.from <ℤ r.to
some_first r [] h = h
some_first r (s ∷ rs) h = h.0

none_later : (r : Interval) (rs : List Interval) (z : ℤ) → IsRow (r ∷ rs) → z ≤ℤ r.to → row_has rs z ≡ false
none_later r [] z h low = refl
none_later r (s ∷ rs) z h low =
    let some : s.from <ℤ s.to = some_first s rs h.2 in
    let apart : r.to <ℤ s.from = h.1 in
    ap (λ t. t || row_has rs z) (out s z (omega (arith, ints, apart, low))) ∙ none_later s rs z h.2 (omega (arith, ints, apart, low, some))
  where
    out : (s : Interval) (z : ℤ) → z <ℤ s.from → (int_le s.from z && int_lt z s.to) ≡ false
    out s z less = grind (arith, ints)

in_before : (r : Interval) (z : ℤ) → in_interval r z ≡ true → z ≤ℤ r.to
in_before r z e = grind (arith, ints)

-- no column of the first interval is in a later one
one_of : (r : Interval) (rs : List Interval) (z : ℤ) → IsRow (r ∷ rs) → (in_interval r z && row_has rs z) ≡ false
one_of r rs z h = go (in_interval r z) refl
  where
    go : (b : Bool) → in_interval r z ≡ b → (in_interval r z && row_has rs z) ≡ false
    go true e = ap (λ t. in_interval r z && t) (none_later r rs z h (in_before r z e)) ∙ and_false (in_interval r z)
      where
        and_false : (b : Bool) → (b && false) ≡ false
        and_false true = refl
        and_false false = refl
    go false e = ap (λ t. t && row_has rs z) e

first_gone : (a t : Bool) → (a && t) ≡ false → t ≡ ((a || t) && not a)
first_gone true true e = absurd (true_false e)
first_gone true false e = refl
first_gone false true e = refl
first_gone false false e = refl

later_gone : (a t c : Bool) → (a && t) ≡ false → (c ≡ true → t ≡ true) → (a || (t && not c)) ≡ ((a || t) && not c)
later_gone true true c e f = absurd (true_false e)
later_gone true false true e f = absurd (true_false (sym (f refl)))
later_gone true false false e f = refl
later_gone false t c e f = refl

last_in : (row : List Interval) (i : Interval) (z : ℤ) → last_or None row ≡ Some i → in_interval i z ≡ true → row_has row z ≡ true
last_in [] i z e f = absurd (no e)
  where
    no : None ≡ Some i → ⊥
    no e = cc
last_in (j ∷ []) i z e f = ap (λ (u : Interval). in_interval u z || false) (same_Some j i e) ∙ ap (λ t. t || false) f
last_in (j ∷ k ∷ ks) i z e f = ap (λ t. in_interval j z || t) (last_in (k ∷ ks) i z e f) ∙ or_true (in_interval j z)
  where
    or_true : (b : Bool) → (b || true) ≡ true
    or_true true = refl
    or_true false = refl

last_row : (row : List Interval) → IsRow row → IsRow (without_last row)
last_row [] h = tt
last_row (i ∷ []) h = tt
last_row (i ∷ j ∷ []) h = h.0
last_row (i ∷ j ∷ k ∷ ks) h = (h.0, h.1, last_row (j ∷ k ∷ ks) h.2)

last_has : (row : List Interval) (i : Interval) (z : ℤ) → IsRow row → last_or None row ≡ Some i → row_has (without_last row) z ≡ (row_has row z && not (in_interval i z))
last_has [] i z h e = refl
last_has (j ∷ []) i z h e = none_of (in_interval j z) ∙ ap (λ (u : Interval). (in_interval j z || false) && not (in_interval u z)) (same_Some j i e)
  where
    none_of : (b : Bool) → false ≡ ((b || false) && not b)
    none_of true = refl
    none_of false = refl
last_has (j ∷ k ∷ ks) i z h e = ap (λ t. in_interval j z || t) (last_has (k ∷ ks) i z h.2 e) ∙ later_gone (in_interval j z) (row_has (k ∷ ks) z) (in_interval i z) (one_of j (k ∷ ks) z h) (last_in (k ∷ ks) i z e)

pub end_row : (reverse_x : Bool) (row : List Interval) → IsRow row → IsRow (without_end reverse_x row)
end_row false [] h = tt
end_row false (i ∷ rest) h = row_tail i rest h
end_row true row h = last_row row h

pub end_has : (reverse_x : Bool) (row : List Interval) (i : Interval) (z : ℤ) → IsRow row → end_of reverse_x row ≡ Some i → row_has (without_end reverse_x row) z ≡ (row_has row z && not (in_interval i z))
end_has false [] i z h e = refl
end_has false (j ∷ rest) i z h e = first_gone (in_interval j z) (row_has rest z) (one_of j rest z h) ∙ ap (λ (u : Interval). (in_interval j z || row_has rest z) && not (in_interval u z)) (same_Some j i e)
end_has true row i z h e = last_has row i z h e

-- ---- what the calls take

pub last_cases : (A : Type 0) (xs : List A) → (xs ≡ []) ⊎ ((front : List A) × (x : A) × (xs ≡ front ++ x ∷ []))
last_cases A [] = inl refl
last_cases A (x ∷ xs) = elim (last_cases A xs) [
  | inl none ↦ inr ([], x, ap (λ (l : List A). x ∷ l) none)
  | inr some ↦ inr (x ∷ some.0, some.1, ap (λ (l : List A). x ∷ l) some.2)
]

without_last_is : (front : List Interval) (i : Interval) → without_last (front ++ i ∷ []) ≡ front
without_last_is [] i = refl
without_last_is (j ∷ []) i = refl
without_last_is (j ∷ k ∷ front) i = ap (λ l. j ∷ l) (without_last_is (k ∷ front) i)

pub took_last : (old new : Bands) (r : Interval) → first_row old.below ≢ []
    → ((row : List Interval) (interval : Interval) → first_row old.below ≡ row ++ interval ∷ [] → r ≡ interval)
    → ((first : Band) (rest : List Band) (row : List Interval) (interval : Interval) → old.below ≡ first ∷ rest → first.row ≡ row ++ interval ∷ [] → new ≡ record old { left = row; below = record first { row = row } ∷ rest; spare = old.spare + 1 })
    → (last_or None (first_row old.below) ≡ Some r) × ((first : Band) (rest : List Band) → old.below ≡ first ∷ rest → new ≡ record old { left = without_last first.row; below = record first { row = without_last first.row } ∷ rest; spare = old.spare + 1 })
took_last old new r some gives takes = elim (last_cases Interval (first_row old.below)) [
  | inl none ↦ absurd (some none)
  | inr there ↦ (
    ap (last_or None) there.2 ∙ last_or_last Interval None there.0 there.1 ∙ ap Some (sym (gives there.0 there.1 there.2)),
    λ first rest is.
        let row_is : first.row ≡ there.0 ++ there.1 ∷ [] = sym (ap first_row is) ∙ there.2 in
        let left : there.0 ≡ without_last first.row = sym (without_last_is there.0 there.1) ∙ ap without_last (sym row_is) in
        takes first rest there.0 there.1 is row_is ∙ ap (λ l. record old { left = l; below = record first { row = l } ∷ rest; spare = old.spare + 1 }) left,
  )
]

pub took_first : (old new : Bands) (r : Interval) → first_row old.below ≢ []
    → ((row : List Interval) (interval : Interval) → first_row old.below ≡ interval ∷ row → r ≡ interval)
    → ((first : Band) (rest : List Band) (row : List Interval) (interval : Interval) → old.below ≡ first ∷ rest → first.row ≡ interval ∷ row → new ≡ record old { left = row; below = record first { row = row } ∷ rest; spare = old.spare + 1 })
    → (slice_get (first_row old.below) 0 ≡ Some r) × ((first : Band) (rest : List Band) → old.below ≡ first ∷ rest → new ≡ record old { left = without_end false first.row; below = record first { row = without_end false first.row } ∷ rest; spare = old.spare + 1 })
took_first old new r some gives takes = go (first_row old.below) refl
  where
    go : (row : List Interval) → first_row old.below ≡ row → (slice_get (first_row old.below) 0 ≡ Some r) × ((first : Band) (rest : List Band) → old.below ≡ first ∷ rest → new ≡ record old { left = without_end false first.row; below = record first { row = without_end false first.row } ∷ rest; spare = old.spare + 1 })
    go [] is = absurd (some is)
    go (i ∷ row) is = (
      ap (λ l. slice_get l 0) is ∙ ap Some (sym (gives row i is)),
      λ first rest below.
          let row_is : first.row ≡ i ∷ row = sym (ap first_row below) ∙ is in
          takes first rest row i below row_is ∙ ap (λ l. record old { left = l; below = record first { row = l } ∷ rest; spare = old.spare + 1 }) (sym (ap (without_end false) row_is)),
    )

-- ---- bands of which one is changed

and_false : (b : Bool) → (b && false) ≡ false
and_false true = refl
and_false false = refl

bands_later : (b : Band) (bs : List Band) (x z : ℤ) → AreBands (b ∷ bs) → z <ℤ b.bottom → has bs x z ≡ false
bands_later b [] x z h high = refl
bands_later b (c ∷ bs) x z h high =
    let some : c.top <ℤ c.bottom = (first_band c bs h.2).some in
    let order : b.bottom ≤ℤ c.top = h.1.order in
    ap (λ t. (t && row_has c.row x) || has bs x z) (out c z (omega (arith, ints, order, high))) ∙ bands_later c bs x z h.2 (omega (arith, ints, order, high, some))
  where
    out : (c : Band) (z : ℤ) → z <ℤ c.top → in_rows (rows_of c) z ≡ false
    out c z less = grind (arith, ints)

ends_above : (a : Band) (front : List Band) (b : Band) → AreBands (a ∷ (front ++ b ∷ [])) → a.bottom ≤ℤ b.top
ends_above a [] b h = h.1.order
ends_above a (c ∷ front) b h =
    let order : a.bottom ≤ℤ c.top = h.1.order in
    let some : c.top <ℤ c.bottom = (first_band c (front ++ b ∷ []) h.2).some in
    let later : c.bottom ≤ℤ b.top = ends_above c front b h.2 in omega (arith, ints, order, some, later)

bands_before : (front : List Band) (b : Band) (x z : ℤ) → AreBands (front ++ b ∷ []) → b.top ≤ℤ z → has front x z ≡ false
bands_before [] b x z h low = refl
bands_before (a ∷ front) b x z h low =
    let ends : a.bottom ≤ℤ b.top = ends_above a front b h in
    ap (λ t. (t && row_has a.row x) || has front x z) (out a z (omega (arith, ints, ends, low))) ∙ bands_before front b x z (band_tail a (front ++ b ∷ []) h) low
  where
    out : (a : Band) (z : ℤ) → a.bottom ≤ℤ z → in_rows (rows_of a) z ≡ false
    out a z low = grind (arith, ints)

rows_high : (b : Band) (z : ℤ) → in_rows (rows_of b) z ≡ true → z <ℤ b.bottom
rows_high b z e = grind (arith, ints)

rows_low : (b : Band) (z : ℤ) → in_rows (rows_of b) z ≡ true → b.top ≤ℤ z
rows_low b z e = grind (arith, ints)

not_both : (p t : Bool) → (p ≡ true → t ≡ false) → (p && t) ≡ false
not_both true t f = f refl
not_both false t f = refl

top_bool : (p q t c : Bool) → (p && t) ≡ false → ((p && (q && not c)) || t) ≡ (((p && q) || t) && not (p && c))
top_bool true q true c e = absurd (true_false e)
top_bool true true false true e = refl
top_bool true true false false e = refl
top_bool true false false true e = refl
top_bool true false false false e = refl
top_bool false q true c e = refl
top_bool false q false c e = refl

bottom_bool : (f p q c : Bool) → (p && f) ≡ false → (f || ((p && (q && not c)) || false)) ≡ ((f || ((p && q) || false)) && not (p && c))
bottom_bool true true q c e = absurd (true_false e)
bottom_bool true false q c e = refl
bottom_bool false true true true e = refl
bottom_bool false true true false e = refl
bottom_bool false true false true e = refl
bottom_bool false true false false e = refl
bottom_bool false false q c e = refl

abbrev pub changed : Bool → Band → Band
changed reverse_x b = record b { row = without_end reverse_x b.row }

abbrev pub cell_rectangle : Band → Interval → Rectangle
cell_rectangle b i = record { rows = rows_of b; columns = i }

is_changed : (reverse_x : Bool) (b : Band) → IsBand b → IsChanged (changed reverse_x b)
is_changed reverse_x b h = record { some = h.some; row = end_row reverse_x b.row h.row }

last_one : (b last : Band) (front : List Band) → b ∷ [] ≡ front ++ last ∷ [] → b ≡ last
last_one b last front e = same_Some b last (ap (last_or None) e ∙ last_or_last Band None front last)

first_order : (b : Band) (rest : List Band) (c : Band) (cs : List Band) → AreBands (b ∷ rest) → rest ≡ c ∷ cs → b.bottom ≤ℤ c.top
first_order b [] c cs h e = absurd (cc)
first_order b (d ∷ ds) c cs h e = let top : d.top ≡ c.top = ap (λ (u : Band). u.top) (same_Some d c (ap (λ (l : List Band). slice_get l 0) e)) in let order : b.bottom ≤ℤ d.top = h.1.order in omega (arith, ints, top, order)

pub top_changed : (b : Band) (rest : List Band) (reverse_x : Bool) (i : Interval) → AreBands (b ∷ rest) → end_of reverse_x b.row ≡ Some i
    → IsChanged (changed reverse_x b) × AreBands rest × StandAbove (changed reverse_x b ∷ []) rest × ((x y : ℤ) → has (changed reverse_x b ∷ rest) x y ≡ (has (b ∷ rest) x y && not (in_rectangle (cell_rectangle b i) x y)))
top_changed b rest reverse_x i h e =
    let own = first_band b rest h in (
      is_changed reverse_x b own,
      band_tail b rest h,
      λ front last first cs is below. let bottom : b.bottom ≡ last.bottom = ap (λ (u : Band). u.bottom) (last_one (changed reverse_x b) last front is) in omega (arith, ints, bottom, first_order b rest first cs h below),
      λ x y. ap (λ t. (in_rows (rows_of b) y && t) || has rest x y) (end_has reverse_x b.row i x own.row e)
          ∙ top_bool (in_rows (rows_of b) y) (row_has b.row x) (has rest x y) (in_interval i x) (not_both (in_rows (rows_of b) y) (has rest x y) (λ f. bands_later b rest x y h (rows_high b y f))),
    )

front_bands : (front : List Band) (b : Band) → AreBands (front ++ b ∷ []) → AreBands front
front_bands [] b h = tt
front_bands (a ∷ []) b h = h.0
front_bands (a ∷ c ∷ front) b h = (h.0, h.1, front_bands (c ∷ front) b h.2)

front_order : (front : List Band) (last b : Band) → AreBands ((front ++ last ∷ []) ++ b ∷ []) → last.bottom ≤ℤ b.top
front_order [] last b h = h.1.order
front_order (a ∷ front) last b h = front_order front last b (band_tail a ((front ++ last ∷ []) ++ b ∷ []) h)

pub bottom_changed : (front : List Band) (b : Band) (reverse_x : Bool) (i : Interval) → AreBands (front ++ b ∷ []) → end_of reverse_x b.row ≡ Some i
    → AreBands front × StandAbove front (changed reverse_x b ∷ []) × IsChanged (changed reverse_x b) × ((x y : ℤ) → has (front ++ changed reverse_x b ∷ []) x y ≡ (has (front ++ b ∷ []) x y && not (in_rectangle (cell_rectangle b i) x y)))
bottom_changed front b reverse_x i h e =
    let own = last_is_band front b h in (
      front_bands front b h,
      λ before last first cs is below.
          let top : b.top ≡ first.top = ap (λ (u : Band). u.top) (same_Some (changed reverse_x b) first (ap (λ (l : List Band). slice_get l 0) below)) in
          omega (arith, ints, top, front_order before last b (subst (λ l. AreBands (l ++ b ∷ [])) is h)),
      is_changed reverse_x b own,
      λ x y. has_append front (changed reverse_x b ∷ []) x y ∙ ap (λ t. has front x y || ((in_rows (rows_of b) y && t) || false)) (end_has reverse_x b.row i x own.row e)
          ∙ bottom_bool (has front x y) (in_rows (rows_of b) y) (row_has b.row x) (in_interval i x) (not_both (in_rows (rows_of b) y) (has front x y) (λ f. bands_before front b x y h (rows_low b y f)))
          ∙ ap (λ t. t && not (in_rectangle (cell_rectangle b i) x y)) (sym (has_append front (b ∷ []) x y)),
    )

-- ---- the band is taken out or stands

pub none_there : (A : Type 0) (l : List A) → slice_get l 0 ≡ None → l ≡ []
none_there A [] e = refl
none_there A (x ∷ l) e = absurd (no x e)
  where
    no : (x : A) → Some x ≡ None → ⊥
    no x e = cc

pub first_there : (l : List Band) → l ≢ [] → (b : Band) × (rest : List Band) × (l ≡ b ∷ rest)
first_there [] some = absurd (some refl)
first_there (b ∷ rest) some = (b, rest, refl)

empty_gone : (b : Band) (rest : List Band) (x y : ℤ) → b.row ≡ [] → has rest x y ≡ has (b ∷ rest) x y
empty_gone b rest x y none = sym (ap (λ l. (in_rows (rows_of b) y && row_has l x) || has rest x y) none ∙ ap (λ t. t || has rest x y) (and_false (in_rows (rows_of b) y)))

pub top_gone : (old new : Bands) (b : Band) (rest : List Band) → old.above ≡ [] → old.below ≡ b ∷ rest → b.row ≡ [] → AreBands rest → new ≡ record old { left = first_row rest; below = rest; spare = old.spare + 2 + length b.row }
    → AreBands (new.above ++ new.below) × ((x y : ℤ) → has (new.above ++ new.below) x y ≡ has old.below x y) × (new.row ≡ old.row) × (old.spare ≤ new.spare)
top_gone old new b rest above below none h new_is =
    let all : new.above ++ new.below ≡ rest = ap (λ (u : Bands). u.above ++ u.below) new_is ∙ ap (λ l. l ++ rest) above in (
      subst AreBands (sym all) h,
      λ x y. ap (λ l. has l x y) all ∙ empty_gone b rest x y none ∙ ap (λ l. has l x y) (sym below),
      ap (λ (u : Bands). u.row) new_is,
      omega (arith, ap (λ (u : Bands). u.spare) new_is),
    )

pub bottom_gone : (old new : Bands) (b : Band) → old.below ≡ b ∷ [] → b.row ≡ [] → AreBands old.above → new ≡ record old { left = []; below = []; spare = old.spare + 2 + length b.row }
    → AreBands (new.above ++ new.below) × ((x y : ℤ) → has (new.above ++ new.below) x y ≡ has (old.above ++ old.below) x y) × (new.row ≡ old.row) × (old.spare ≤ new.spare)
bottom_gone old new b below none h new_is =
    let all : new.above ++ new.below ≡ old.above ++ [] = ap (λ (u : Bands). u.above ++ u.below) new_is in (
      subst AreBands (sym (all ∙ append-nil old.above)) h,
      λ x y. ap (λ l. has l x y) all ∙ has_append old.above [] x y ∙ ap (λ t. has old.above x y || t) (empty_gone b [] x y none) ∙ sym (ap (λ l. has (old.above ++ l) x y) below ∙ has_append old.above (b ∷ []) x y),
      ap (λ (u : Bands). u.row) new_is,
      omega (arith, ap (λ (u : Bands). u.spare) new_is),
    )

still_band : (b : Band) → IsChanged b → b.row ≢ [] → IsBand b
still_band b h some = record { some = h.some; row = h.row; columns = some }

row_at : (old : Bands) (b : Band) (rest : List Band) → old.left ≡ first_row old.below → old.below ≡ b ∷ rest → b.row ≡ old.left
row_at old b rest left below = sym (left ∙ ap first_row below)

pub top_mended : (old new : Bands) → old.above ≡ [] → old.below ≢ [] → old.left ≡ first_row old.below → ((first : Band) (rest : List Band) → old.below ≡ first ∷ rest → IsChanged first × AreBands rest × StandAbove (first ∷ []) rest) → old.left ≡ []
    → ((first : Band) (rest : List Band) → old.below ≡ first ∷ rest → new ≡ record old { left = first_row rest; below = rest; spare = old.spare + 2 + length first.row })
    → AreBands (new.above ++ new.below) × ((x y : ℤ) → has (new.above ++ new.below) x y ≡ has old.below x y) × (new.row ≡ old.row) × (old.spare ≤ new.spare)
top_mended old new above some left changed none removes =
    let there = first_there old.below some in
    let own = changed there.0 there.1 there.2 in
    top_gone old new there.0 there.1 above there.2 (row_at old there.0 there.1 left there.2 ∙ none) own.1 (removes there.0 there.1 there.2)

pub top_stays : (old new : Bands) → old.above ≡ [] → old.below ≢ [] → old.left ≡ first_row old.below → ((first : Band) (rest : List Band) → old.below ≡ first ∷ rest → IsChanged first × AreBands rest × StandAbove (first ∷ []) rest) → old.left ≢ []
    → ((first : Band) (rest : List Band) → old.below ≡ first ∷ rest → new ≡ record old { above = old.above ++ first ∷ []; left = first_row rest; below = rest })
    → AreBands new.above × AreBands new.below × StandAbove new.above new.below × ((x y : ℤ) → has (new.above ++ new.below) x y ≡ has old.below x y) × (new.row ≡ old.row) × (new.spare ≡ old.spare)
top_stays old new above some left changed filled advances =
    let there = first_there old.below some in
    let b = there.0 in
    let rest = there.1 in
    let own = changed b rest there.2 in
    let new_is : new ≡ record old { above = old.above ++ b ∷ []; left = first_row rest; below = rest } = advances b rest there.2 in
    let above_is : new.above ≡ b ∷ [] = ap (λ (u : Bands). u.above) new_is ∙ ap (λ l. l ++ b ∷ []) above in
    let below_is : new.below ≡ rest = ap (λ (u : Bands). u.below) new_is in (
      subst AreBands (sym above_is) (still_band b own.0 (λ none. filled (sym (row_at old b rest left there.2) ∙ none))),
      subst AreBands (sym below_is) own.1,
      λ front last first cs e f. own.2 front last first cs (sym above_is ∙ e) (sym below_is ∙ f),
      λ x y. ap (λ l. has (l ++ new.below) x y) above_is ∙ ap (λ l. has (b ∷ l) x y) below_is ∙ ap (λ l. has l x y) (sym there.2),
      ap (λ (u : Bands). u.row) new_is,
      ap (λ (u : Bands). u.spare) new_is,
    )

pub bottom_mended : (old new : Bands) → AreBands old.above → old.below ≢ [] → old.left ≡ first_row old.below → ((first : Band) (rest : List Band) → old.below ≡ first ∷ rest → IsChanged first × (rest ≡ [])) → old.left ≡ []
    → ((first : Band) (rest : List Band) → old.below ≡ first ∷ rest → new ≡ record old { left = first_row rest; below = rest; spare = old.spare + 2 + length first.row })
    → AreBands (new.above ++ new.below) × ((x y : ℤ) → has (new.above ++ new.below) x y ≡ has (old.above ++ old.below) x y) × (new.row ≡ old.row) × (old.spare ≤ new.spare)
bottom_mended old new above some left changed none removes =
    let there = first_there old.below some in
    let b = there.0 in
    let own = changed b there.1 there.2 in
    let below_is : old.below ≡ b ∷ [] = there.2 ∙ ap (λ l. b ∷ l) own.1 in
    bottom_gone old new b below_is (row_at old b [] left below_is ∙ none) above (removes b [] below_is)

pub bottom_stays : (old : Bands) → old.below ≢ [] → old.left ≡ first_row old.below → ((first : Band) (rest : List Band) → old.below ≡ first ∷ rest → IsChanged first × (rest ≡ [])) → old.left ≢ [] → AreBands old.below
bottom_stays old some left changed filled =
    let there = first_there old.below some in
    let b = there.0 in
    let own = changed b there.1 there.2 in
    let below_is : old.below ≡ b ∷ [] = there.2 ∙ ap (λ l. b ∷ l) own.1 in
    subst AreBands (sym below_is) (still_band b own.0 (λ none. filled (sym (row_at old b [] left below_is) ∙ none)))

-- ---- an interval was taken at an end

cons_some : (A : Type 0) (x : A) (l : List A) → x ∷ l ≢ []
cons_some A x l = λ e. cc

same_head : (b c : Band) (l m : List Band) → b ∷ l ≡ c ∷ m → b ≡ c
same_head b c l m e = same_Some b c (ap (λ (u : List Band). slice_get u 0) e)

same_tail : (b c : Band) (l m : List Band) → b ∷ l ≡ c ∷ m → l ≡ m
same_tail b c l m e = ap rest_of e

some_end : (reverse_x : Bool) (row : List Interval) (i : Interval) → end_of reverse_x row ≡ Some i → row ≢ []
some_end false [] i e = λ f. absurd (no e)
  where
    no : None ≡ Some i → ⊥
    no e = cc
some_end true [] i e = λ f. absurd (no e)
  where
    no : None ≡ Some i → ⊥
    no e = cc
some_end reverse_x (j ∷ row) i e = cons_some Interval j row

-- what is to be mended at the top
pub record TopTaken (old took : Bands) (r : Rectangle) : Type 0 where
  pub above : took.above ≡ []
  pub band : took.below ≢ []
  pub left : took.left ≡ first_row took.below
  pub changed : (first : Band) (rest : List Band) → took.below ≡ first ∷ rest → IsChanged first × AreBands rest × StandAbove (first ∷ []) rest
  pub has : (x y : ℤ) → has took.below x y ≡ (has (old.above ++ old.below) x y && not (in_rectangle r x y))
  pub row : took.row ≡ old.row
  pub spare : old.spare ≤ took.spare

pub top_taken : (reverse_x : Bool) (old wound took : Bands) (found : Option Rows) (rows : Rows) (columns : Interval) → AreBands (old.above ++ old.below)
    → wound ≡ record old { above = []; left = first_row (old.above ++ old.below); below = old.above ++ old.below } → found ≡ option_map rows_of (slice_get wound.below 0) → found ≡ Some rows → end_of reverse_x (first_row wound.below) ≡ Some columns
    → ((first : Band) (rest : List Band) → wound.below ≡ first ∷ rest → took ≡ record wound { left = without_end reverse_x first.row; below = record first { row = without_end reverse_x first.row } ∷ rest; spare = wound.spare + 1 })
    → TopTaken old took (record { rows = rows; columns = columns })
top_taken reverse_x old wound took found rows columns h wound_is found_is some end takes =
    let there = rows_there wound.below found rows found_is some in
    let b = there.0 in
    let rest = there.1 in
    let all_is : old.above ++ old.below ≡ b ∷ rest = sym (ap (λ (u : Bands). u.below) wound_is) ∙ there.2 in
    let took_is : took ≡ record wound { left = without_end reverse_x b.row; below = changed reverse_x b ∷ rest; spare = wound.spare + 1 } = takes b rest there.2 in
    let below_is : took.below ≡ changed reverse_x b ∷ rest = ap (λ (u : Bands). u.below) took_is in
    let made = top_changed b rest reverse_x columns (subst AreBands all_is h) (ap (λ l. end_of reverse_x (first_row l)) (sym there.2) ∙ end) in
    record {
      above = ap (λ (u : Bands). u.above) took_is ∙ ap (λ (u : Bands). u.above) wound_is;
      band = λ none. cons_some Band (changed reverse_x b) rest (sym below_is ∙ none);
      left = ap (λ (u : Bands). u.left) took_is ∙ sym (ap first_row below_is);
      changed = λ first cs e.
          let same = sym below_is ∙ e in
          subst (λ l. IsChanged first × AreBands l × StandAbove (first ∷ []) l) (same_tail (changed reverse_x b) first rest cs same) (subst (λ u. IsChanged u × AreBands rest × StandAbove (u ∷ []) rest) (same_head (changed reverse_x b) first rest cs same) (made.0, made.1, made.2));
      has = λ x y. ap (λ l. has l x y) below_is ∙ made.3 x y ∙ ap (λ l. has l x y && not (in_rectangle (cell_rectangle b columns) x y)) (sym all_is) ∙ ap (λ r. has (old.above ++ old.below) x y && not (in_rectangle (record { rows = r; columns = columns }) x y)) there.3;
      row = ap (λ (u : Bands). u.row) took_is ∙ ap (λ (u : Bands). u.row) wound_is;
      spare = omega (arith, ap (λ (u : Bands). u.spare) took_is, ap (λ (u : Bands). u.spare) wound_is);
    }

last_there : (l : List Band) (found : Option Rows) (rows : Rows) → found ≡ option_map rows_of (last_or None l) → found ≡ Some rows → (front : List Band) × (last : Band) × (l ≡ front ++ last ∷ []) × (rows_of last ≡ rows)
last_there l found rows is some = elim (last_cases Band l) [
  | inl none ↦ absurd (no (sym (is ∙ ap (λ u. option_map rows_of (last_or None u)) none) ∙ some))
  | inr there ↦ (
    there.0,
    there.1,
    there.2,
    same_Some (rows_of there.1) rows (sym (is ∙ ap (λ u. option_map rows_of (last_or None u)) there.2 ∙ ap (option_map rows_of) (last_or_last Band None there.0 there.1)) ∙ some),
  )
]
  where
    no : None ≡ Some rows → ⊥
    no e = cc

pub no_last : (old wound : Bands) (found : Option Rows) → wound ≡ record old { above = old.above ++ old.below; left = []; below = [] } → found ≡ option_map rows_of (last_or None wound.above) → found ≡ None → (old.above ++ old.below ≡ []) × (wound.above ++ wound.below ≡ [])
no_last old wound found wound_is is none = elim (last_cases Band wound.above) [
  | inl gone ↦ (
    sym (ap (λ (u : Bands). u.above) wound_is) ∙ gone,
    ap (λ (u : Bands). wound.above ++ u.below) wound_is ∙ append-nil wound.above ∙ gone,
  )
  | inr there ↦ absurd (no (rows_of there.1) (sym (is ∙ ap (λ u. option_map rows_of (last_or None u)) there.2 ∙ ap (option_map rows_of) (last_or_last Band None there.0 there.1)) ∙ none))
]
  where
    no : (r : Rows) → Some r ≡ None → ⊥
    no r e = cc

-- the gap stands above the last band
pub record AtLast (old back : Bands) (rows : Rows) : Type 0 where
  pub front : List Band
  pub last : Band
  pub all : old.above ++ old.below ≡ front ++ last ∷ []
  pub rows_are : rows_of last ≡ rows
  pub back_is : back ≡ record old { above = front; left = last.row; below = last ∷ [] }

pub at_last : (old wound back : Bands) (found : Option Rows) (rows : Rows) → wound ≡ record old { above = old.above ++ old.below; left = []; below = [] } → found ≡ option_map rows_of (last_or None wound.above) → found ≡ Some rows
    → ((front : List Band) (last : Band) → wound.above ≡ front ++ last ∷ [] → back ≡ record wound { above = front; left = last.row; below = last ∷ wound.below }) → AtLast old back rows
at_last old wound back found rows wound_is is some retreats =
    let there = last_there wound.above found rows is some in
    record {
      front = there.0;
      last = there.1;
      all = sym (ap (λ (u : Bands). u.above) wound_is) ∙ there.2;
      rows_are = there.3;
      back_is = retreats there.0 there.1 there.2 ∙ ap (λ (u : Bands). record u { above = there.0; left = there.1.row; below = there.1 ∷ u.below }) wound_is;
    }

module _ (old back : Bands) (rows : Rows) (h : AreBands (old.above ++ old.below)) (at : AtLast old back rows) where
  back_below : back.below ≡ at.last ∷ []
  back_below = ap (λ (u : Bands). u.below) at.back_is

  pub some_below : back.below ≢ []
  some_below = λ none. cons_some Band at.last [] (sym back_below ∙ none)

  pub some_interval : first_row back.below ≢ []
  some_interval = λ none. (last_is_band at.front at.last (subst AreBands at.all h)).columns (sym (ap first_row back_below) ∙ none)

-- what is to be mended at the bottom
pub record BottomTaken (reverse_x : Bool) (old took : Bands) (r : Rectangle) : Type 0 where
  pub above : AreBands took.above
  pub order : StandAbove took.above took.below
  pub band : took.below ≢ []
  pub left : took.left ≡ first_row took.below
  pub changed : (first : Band) (rest : List Band) → took.below ≡ first ∷ rest → IsChanged first × (rest ≡ [])
  pub popped : Some r ≡ end_rectangle reverse_x true (old.above ++ old.below)
  pub has : (x y : ℤ) → has (took.above ++ took.below) x y ≡ (has (old.above ++ old.below) x y && not (in_rectangle r x y))
  pub row : took.row ≡ old.row
  pub spare : old.spare ≤ took.spare

pub bottom_taken : (reverse_x : Bool) (old back took : Bands) (rows : Rows) (columns : Interval) → AreBands (old.above ++ old.below) → AtLast old back rows → end_of reverse_x (first_row back.below) ≡ Some columns
    → ((first : Band) (rest : List Band) → back.below ≡ first ∷ rest → took ≡ record back { left = without_end reverse_x first.row; below = record first { row = without_end reverse_x first.row } ∷ rest; spare = back.spare + 1 })
    → BottomTaken reverse_x old took (record { rows = rows; columns = columns })
bottom_taken reverse_x old back took rows columns h at end takes =
    let b = at.last in
    let front = at.front in
    let below_was : back.below ≡ b ∷ [] = ap (λ (u : Bands). u.below) at.back_is in
    let took_is : took ≡ record back { left = without_end reverse_x b.row; below = changed reverse_x b ∷ []; spare = back.spare + 1 } = takes b [] below_was in
    let above_is : took.above ≡ front = ap (λ (u : Bands). u.above) took_is ∙ ap (λ (u : Bands). u.above) at.back_is in
    let below_is : took.below ≡ changed reverse_x b ∷ [] = ap (λ (u : Bands). u.below) took_is in
    let end_is : end_of reverse_x b.row ≡ Some columns = ap (λ l. end_of reverse_x (first_row l)) (sym below_was) ∙ end in
    let made = bottom_changed front b reverse_x columns (subst AreBands at.all h) end_is in
    record {
      above = subst AreBands (sym above_is) made.0;
      order = λ before last first cs e f. made.1 before last first cs (sym above_is ∙ e) (sym below_is ∙ f);
      band = λ none. cons_some Band (changed reverse_x b) [] (sym below_is ∙ none);
      left = ap (λ (u : Bands). u.left) took_is ∙ sym (ap first_row below_is);
      changed = λ first cs e.
          let same = sym below_is ∙ e in (subst IsChanged (same_head (changed reverse_x b) first [] cs same) made.2, sym (same_tail (changed reverse_x b) first [] cs same));
      popped = ap (λ r. Some (record { rows = r; columns = columns })) (sym at.rows_are) ∙ ap (λ o. option_map (λ (columns : Interval). record { rows = rows_of b; columns = columns }) o) (sym end_is) ∙ sym (ap (end_in_band reverse_x) (ap (last_or None) at.all ∙ last_or_last Band None front b));
      has = λ x y. ap (λ l. has (l ++ took.below) x y) above_is ∙ ap (λ l. has (front ++ l) x y) below_is ∙ made.3 x y ∙ ap (λ l. has l x y && not (in_rectangle (cell_rectangle b columns) x y)) (sym at.all) ∙ ap (λ r. has (old.above ++ old.below) x y && not (in_rectangle (record { rows = r; columns = columns }) x y)) at.rows_are;
      row = ap (λ (u : Bands). u.row) took_is ∙ ap (λ (u : Bands). u.row) at.back_is;
      spare = omega (arith, ap (λ (u : Bands). u.spare) took_is, ap (λ (u : Bands). u.spare) at.back_is);
    }
