-- Two lists of bands, one above the other.
use Rattle.std.proofs.Common.{◌≡◌, ◌≢◌, ◌+◌, ◌≤◌, Bool, true, false, ◌&&◌, List, [], ◌∷◌, ◌++◌, length, refl, sym, ◌∙◌, ap, subst, arith, Option, Some, None}
use Rattle.std.specs.Prelude.{ℤ, ◌<ℤ◌, ◌≤ℤ◌, int_lt, int_le, ◌||◌, slice_get}
use Rattle.std.specs.List.{last_or}
use Rattle.std.specs.Option.{option_map}
use Rattle.std.specs.Ordering.{int_eq}
use Rattle.std.proofs.lemmas.Int.{ints}
use Rattle.region_bands.specs.declared.Rows.{Rows}
use Rattle.region_bands.specs.Bands.{Band, Bands, rows_of, first_row}
use Rattle.region_rows.specs.Rows.{row_has}
use Rattle.region_sets.specs.Sets.{in_rows, has, IsBand, Follows, AreBands}
use Rattle.region_sets.specs.Seams.{StandAbove, touch}

pub first_band : (b : Band) (bs : List Band) → AreBands (b ∷ bs) → IsBand b
first_band b [] h = h
first_band b (c ∷ bs) h = h.0

pub band_tail : (b : Band) (bs : List Band) → AreBands (b ∷ bs) → AreBands bs
band_tail b [] h = tt
band_tail b (c ∷ bs) h = h.2

-- the last above and the first below may stand together
abbrev pub Meets : List Band → List Band → Type 0
Meets [] r = Unit {0}
Meets (a ∷ []) [] = Unit {0}
Meets (a ∷ []) (c ∷ cs) = Follows a c
Meets (a ∷ b ∷ l) r = Meets (b ∷ l) r

pub are_append : (l r : List Band) → AreBands l → AreBands r → Meets l r → AreBands (l ++ r)
are_append [] r h k m = k
are_append (a ∷ []) [] h k m = h
are_append (a ∷ []) (c ∷ cs) h k m = (h, m, k)
are_append (a ∷ b ∷ l) r h k m = (h.0, h.1, are_append (b ∷ l) r h.2 k m)

pub meets_none : (l : List Band) → Meets l []
meets_none [] = tt
meets_none (a ∷ []) = tt
meets_none (a ∷ b ∷ l) = meets_none (b ∷ l)

pub meets_last : (front : List Band) (last first : Band) (rest : List Band) → Follows last first → Meets (front ++ last ∷ []) (first ∷ rest)
meets_last [] last first rest f = f
meets_last (a ∷ []) last first rest f = f
meets_last (a ∷ b ∷ front) last first rest f = meets_last (b ∷ front) last first rest f

pub meets_by : (l r : List Band) → ((front : List Band) (last first : Band) (rest : List Band) → l ≡ front ++ last ∷ [] → r ≡ first ∷ rest → Follows last first) → Meets l r
meets_by [] r h = tt
meets_by (a ∷ []) [] h = tt
meets_by (a ∷ []) (c ∷ cs) h = h [] a c cs refl refl
meets_by (a ∷ b ∷ l) r h = meets_by (b ∷ l) r (λ front last first rest e f. h (a ∷ front) last first rest (ap (λ u. a ∷ u) e) f)

or_assoc : (a b c : Bool) → (a || (b || c)) ≡ ((a || b) || c)
or_assoc true b c = refl
or_assoc false b c = refl

pub has_append : (l r : List Band) (x y : ℤ) → has (l ++ r) x y ≡ (has l x y || has r x y)
has_append [] r x y = refl
has_append (b ∷ l) r x y = ap (λ t. (in_rows (rows_of b) y && row_has b.row x) || t) (has_append l r x y) ∙ or_assoc (in_rows (rows_of b) y && row_has b.row x) (has l x y) (has r x y)

pub last_or_last : (A : Type 0) (o : Option A) (front : List A) (x : A) → last_or o (front ++ x ∷ []) ≡ Some x
last_or_last A o [] x = refl
last_or_last A o (y ∷ front) x = last_or_last A (Some y) front x

-- ---- the last band above is lengthened

abbrev pub longer : Band → ℤ → Band
longer b bottom = record b { bottom = bottom }

longer_is : (b : Band) (bottom : ℤ) → IsBand b → b.bottom ≤ℤ bottom → IsBand (longer b bottom)
longer_is b bottom h low = record { some = let s : b.top <ℤ b.bottom = h.some in omega (arith, ints, s, low); row = h.row; columns = h.columns }

bands_stretched : (front : List Band) (b : Band) (bottom : ℤ) → AreBands (front ++ b ∷ []) → b.bottom ≤ℤ bottom → AreBands (front ++ longer b bottom ∷ [])
bands_stretched [] b bottom h low = longer_is b bottom h low
bands_stretched (a ∷ []) b bottom h low = (h.0, record { order = h.1.order; apart = h.1.apart }, longer_is b bottom h.2 low)
bands_stretched (a ∷ c ∷ front) b bottom h low = (h.0, h.1, bands_stretched (c ∷ front) b bottom h.2 low)

pub last_is_band : (front : List Band) (b : Band) → AreBands (front ++ b ∷ []) → IsBand b
last_is_band [] b h = h
last_is_band (a ∷ []) b h = h.2
last_is_band (a ∷ c ∷ front) b h = last_is_band (c ∷ front) b h.2

meets_joined : (front : List Band) (last first : Band) (rest : List Band) → AreBands (first ∷ rest) → last.row ≡ first.row → Meets (front ++ longer last first.bottom ∷ []) rest
meets_joined front last first [] h same = meets_none (front ++ longer last first.bottom ∷ [])
meets_joined front last first (c ∷ cs) h same = meets_last front (longer last first.bottom) c cs (record { order = h.1.order; apart = λ e f. h.1.apart e (sym same ∙ f) })

rows_joined : (top middle bottom y : ℤ) → top ≤ℤ middle → middle ≤ℤ bottom → (int_le top y && int_lt y bottom) ≡ ((int_le top y && int_lt y middle) || (int_le middle y && int_lt y bottom))
rows_joined top middle bottom y low high = grind (arith, ints)

parts : (f p q r t : Bool) → ((f || (((p || q) && r) || false)) || t) ≡ ((f || ((p && r) || false)) || ((q && r) || t))
parts true p q r t = refl
parts false true true true t = refl
parts false true true false t = refl
parts false true false true t = refl
parts false true false false t = refl
parts false false true true t = refl
parts false false true false t = refl
parts false false false true t = refl
parts false false false false t = refl

joined_bands : (front : List Band) (last first : Band) (rest : List Band) → AreBands (front ++ last ∷ []) → AreBands (first ∷ rest) → last.bottom ≡ first.top → last.row ≡ first.row
    → AreBands ((front ++ longer last first.bottom ∷ []) ++ rest) × ((x y : ℤ) → has ((front ++ longer last first.bottom ∷ []) ++ rest) x y ≡ has ((front ++ last ∷ []) ++ first ∷ rest) x y)
joined_bands front last first rest h k touch_is same =
    let some : first.top <ℤ first.bottom = (first_band first rest k).some in
    let own : last.top <ℤ last.bottom = (last_is_band front last h).some in (
      are_append (front ++ longer last first.bottom ∷ []) rest (bands_stretched front last first.bottom h (omega (arith, ints, touch_is, some))) (band_tail first rest k) (meets_joined front last first rest k same),
      λ x y.
          let rows : in_rows (rows_of (longer last first.bottom)) y ≡ (in_rows (rows_of last) y || in_rows (rows_of first) y) =
          rows_joined last.top last.bottom first.bottom y (omega (arith, ints, own)) (omega (arith, ints, touch_is, some)) ∙ ap (λ n. in_rows (rows_of last) y || (int_le n y && int_lt y first.bottom)) touch_is in
          has_append (front ++ longer last first.bottom ∷ []) rest x y
          ∙ ap (λ t. t || has rest x y) (has_append front (longer last first.bottom ∷ []) x y)
          ∙ ap (λ t. (has front x y || ((t && row_has last.row x) || false)) || has rest x y) rows
          ∙ parts (has front x y) (in_rows (rows_of last) y) (in_rows (rows_of first) y) (row_has last.row x) (has rest x y)
          ∙ ap (λ l. (has front x y || ((in_rows (rows_of last) y && row_has last.row x) || false)) || ((in_rows (rows_of first) y && row_has l x) || has rest x y)) same
          ∙ sym (has_append (front ++ last ∷ []) (first ∷ rest) x y ∙ ap (λ t. t || has (first ∷ rest) x y) (has_append front (last ∷ []) x y)),
    )

-- ---- the seam

int_same : (a b : ℤ) → int_eq a b ≡ true → a ≡ b
int_same a b e = grind (arith, ints)

int_other : (a b : ℤ) → int_eq a b ≡ false → a ≡ b → ⊥
int_other a b e f = grind (arith, ints)

module _ (above below front : List Band) (last first : Band) (rest : List Band) (above_is : above ≡ front ++ last ∷ []) (below_is : below ≡ first ∷ rest) (i j : Option Rows) (test : Bool) (i_is : i ≡ option_map rows_of (last_or None above)) (j_is : j ≡ option_map rows_of (slice_get below 0)) (test_is : test ≡ touch i j) where
  test_at : test ≡ int_eq last.bottom first.top
  test_at = test_is ∙ ap (λ u. touch u j) (i_is ∙ ap (λ u. option_map rows_of (last_or None u)) above_is ∙ ap (option_map rows_of) (last_or_last Band None front last)) ∙ ap (touch (Some (rows_of last))) (j_is ∙ ap (λ u. option_map rows_of (slice_get u 0)) below_is)

  pub touch_there : test ≡ true → last.bottom ≡ first.top
  touch_there e = int_same last.bottom first.top (sym test_at ∙ e)

  pub touch_none : test ≡ false → last.bottom ≡ first.top → ⊥
  touch_none e f = int_other last.bottom first.top (sym test_at ∙ e) f

pub whole : (above below : List Band) → AreBands above → AreBands below → StandAbove above below
    → ((front : List Band) (last first : Band) (rest : List Band) → above ≡ front ++ last ∷ [] → below ≡ first ∷ rest → last.bottom ≡ first.top → last.row ≢ first.row) → AreBands (above ++ below)
whole above below h k order apart = are_append above below h k (meets_by above below (λ front last first rest e f. record { order = order front last first rest e f; apart = apart front last first rest e f }))

pub seam_joined : (old mid new : Bands) (front : List Band) (last first : Band) (rest : List Band) (n : ℤ) → AreBands old.above → AreBands old.below → old.above ≡ front ++ last ∷ [] → old.below ≡ first ∷ rest → last.row ≡ first.row → last.bottom ≡ first.top → n ≡ first.bottom
    → mid ≡ record old { above = front ++ record last { bottom = n } ∷ [] } → ((b : Band) (bs : List Band) → mid.below ≡ b ∷ bs → new ≡ record mid { left = first_row bs; below = bs; spare = mid.spare + 2 + length b.row })
    → AreBands (new.above ++ new.below) × ((x y : ℤ) → has (new.above ++ new.below) x y ≡ has (old.above ++ old.below) x y) × (new.row ≡ old.row) × (old.spare ≤ new.spare)
seam_joined old mid new front last first rest n h k above_is below_is same touch_is n_is mid_is makes =
    let new_is : new ≡ record mid { left = first_row rest; below = rest; spare = mid.spare + 2 + length first.row } = makes first rest (ap (λ (u : Bands). u.below) mid_is ∙ below_is) in
    let above : new.above ≡ front ++ longer last first.bottom ∷ [] = ap (λ (u : Bands). u.above) new_is ∙ ap (λ (u : Bands). u.above) mid_is ∙ ap (λ m. front ++ longer last m ∷ []) n_is in
    let below : new.below ≡ rest = ap (λ (u : Bands). u.below) new_is in
    let all : new.above ++ new.below ≡ (front ++ longer last first.bottom ∷ []) ++ rest = ap (λ l. l ++ new.below) above ∙ ap (λ l. (front ++ longer last first.bottom ∷ []) ++ l) below in
    let was : old.above ++ old.below ≡ (front ++ last ∷ []) ++ first ∷ rest = ap (λ l. l ++ old.below) above_is ∙ ap (λ l. (front ++ last ∷ []) ++ l) below_is in
    let made = joined_bands front last first rest (subst AreBands above_is h) (subst AreBands below_is k) touch_is same in (
      subst AreBands (sym all) made.0,
      λ x y. ap (λ l. has l x y) all ∙ made.1 x y ∙ ap (λ l. has l x y) (sym was),
      ap (λ (u : Bands). u.row) new_is ∙ ap (λ (u : Bands). u.row) mid_is,
      omega (arith, ap (λ (u : Bands). u.spare) new_is, ap (λ (u : Bands). u.spare) mid_is),
    )
