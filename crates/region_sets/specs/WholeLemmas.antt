-- That there are bands of the places that are kept of any two lists of bands.
use Rattle.std.proofs.Common.{◌≡◌, ◌≢◌, ℕ, zero, suc, ◌+◌, ◌≤◌, ◌<◌, Bool, true, false, cond, ◌&&◌, List, [], ◌∷◌, ◌++◌, length, refl, sym, ◌∙◌, ap, arith, Option, Some, None, ◌⊎◌, inl, inr}
use Rattle.std.specs.Prelude.{ℤ, ◌<ℤ◌, ◌≤ℤ◌, ◌||◌, slice_get}
use Rattle.std.proofs.lemmas.Int.{ints, by_lt_z}
use Rattle.region_bands.specs.declared.Interval.{Interval}
use Rattle.region_bands.specs.declared.Rows.{Rows}
use Rattle.region_bands.specs.Bands.{Band, band_with, first_row, nodes_in}
use Rattle.region_bands.specs.EachLemmas.{last_cases, last_same}
use Rattle.region_rows.specs.declared.Keep.{Keep}
use Rattle.region_rows.specs.Rows.{IsRow, row_has, keeps_place, IsKept as IsRowKept}
use Rattle.region_rows.specs.Steps.{start_of as row_start}
use Rattle.region_rows.specs.StepLemmas.{starts as row_starts}
use Rattle.region_rows.specs.WalkLemmas.{row_begins, whole as whole_row}
use Rattle.region_sets.specs.declared.strips.Strip.{Strip}
use Rattle.region_sets.specs.Sets.{in_rows, has, AreBands, EndBy, IsKept}
use Rattle.region_sets.specs.Strips.{next_strip, start_of, later, first_rows_of, IsStripRow}
use Rattle.region_sets.specs.SetLemmas.{Parts, nodes_join, end_later, row_put, row_stretched, has_nothing, longer, has-append}
use Rattle.region_sets.specs.StripLemmas.{IsStrip, strip_is, no_strip, edges_left, edges_less, starts}
use Rattle.region_sets.specs.KeepLemmas.{BandState, state_begins, state_more, state_done, row_of_first}

-- ---- whether rows are the same

pub same_number : (a b : ℤ) → (a ≡ b) ⊎ (a ≢ b)
same_number a b = by_lt_z a b
    (λ less. inr (λ e. less_other a b less e))
    (λ more. by_lt_z b a (λ less. inr (λ e. less_other b a less (sym e))) (λ more'. inl (between a b more more')))
  where
    less_other : (a b : ℤ) → a <ℤ b → a ≡ b → ⊥
    less_other a b less e = omega (arith, ints, less, e)

    between : (a b : ℤ) → b ≤ℤ a → a ≤ℤ b → a ≡ b
    between a b h k = omega (arith, ints, h, k)

same_interval : (i j : Interval) → (i ≡ j) ⊎ (i ≢ j)
same_interval i j = elim (same_number i.from j.from) [
  | inl e ↦ elim (same_number i.to j.to) [
    | inl f ↦ inl (ap (λ n. record { from = n; to = i.to }) e ∙ ap (λ n. record { from = j.from; to = n }) f)
    | inr other ↦ inr (λ s. other (ap (λ (k : Interval). k.to) s))
  ]
  | inr other ↦ inr (λ s. other (ap (λ (k : Interval). k.from) s))
]

pub same_row : (a b : List Interval) → (a ≡ b) ⊎ (a ≢ b)
same_row [] [] = inl refl
same_row [] (j ∷ b) = inr (λ e. let none : [] ≡ j ∷ b = e in cc)
same_row (i ∷ a) [] = inr (λ e. let none : i ∷ a ≡ [] = e in cc)
same_row (i ∷ a) (j ∷ b) = elim (same_interval i j) [
  | inl e ↦ elim (same_row a b) [
    | inl f ↦ inl (ap (λ k. k ∷ a) e ∙ ap (λ l. j ∷ l) f)
    | inr other ↦ inr (λ s. other (let same : i ∷ a ≡ j ∷ b = s in cc))
  ]
  | inr other ↦ inr (λ s. other (let same : i ∷ a ≡ j ∷ b = s in cc))
]

-- ---- the row of a strip

pub row_of_both : (k : Keep) (a b : List Interval) → IsRow a → IsRow b → (row : List Interval) × IsRowKept k a b row
row_of_both k a b h h' =
    let start = row_starts a b h h' in
    let x : ℤ = row_start (slice_get a 0) (slice_get b 0) in
    let w = whole_row k a b [] false x x a b (row_begins k a b x h h' start.0 start.1) in
    (w.final, w.is_kept)

-- what a strip has of a band's row
abbrev pub part : Bool → List Interval → List Interval
part t a = cond t a []

pub part_row : (t : Bool) (a : List Interval) → IsRow a → IsRow (part t a)
part_row true a h = h
part_row false a h = tt

pub part_has : (t : Bool) (a : List Interval) (x : ℤ) → row_has (part t a) x ≡ (t && row_has a x)
part_has true a x = refl
part_has false a x = refl

pub strip_row : (k : Keep) (in_a in_b : Bool) (a b row : List Interval) → IsRowKept k (part in_a a) (part in_b b) row → IsStripRow k in_a in_b a b row
strip_row k in_a in_b a b row h = record { is_row = h.is_row; has = λ x. h.has x ∙ ap (λ t. keeps_place k t (row_has (part in_b b) x)) (part_has in_a a x) ∙ ap (keeps_place k (in_a && row_has a x)) (part_has in_b b x) }

pub row_is_kept : (k : Keep) (in_a in_b : Bool) (a b : List Interval) → IsRow a → IsRow b → (row : List Interval) × IsStripRow k in_a in_b a b row
row_is_kept k in_a in_b a b h h' =
    let both = row_of_both k (part in_a a) (part in_b b) (part_row in_a a h) (part_row in_b b h') in
    (both.0, strip_row k in_a in_b a b both.0 both.1)

module _ (k : Keep) (a b row : List Interval) where
  pub strip_both : {in_a in_b : Bool} → in_a ≡ true → in_b ≡ true → IsRowKept k a b row → IsStripRow k in_a in_b a b row
  strip_both e f h = record { is_row = h.is_row; has = λ x. rw (e, f) (h.has x) }

-- ---- the bands with one more row

pub record Added (bs : List Band) (rows : Rows) (row : List Interval) : Type 0 where
  pub new : List Band
  pub are_bands : AreBands new
  pub ends : EndBy rows.bottom new
  pub places : (x y : ℤ) → has new x y ≡ (has bs x y || (in_rows rows y && row_has row x))
  pub few : nodes_in new ≤ nodes_in bs + (2 + length row)
  pub none : row ≡ [] → nodes_in new ≤ nodes_in bs

pub none_behind : (front : List Band) (last : Band) → [] ≡ front ++ last ∷ [] → ⊥
none_behind [] last e = cc
none_behind (b ∷ front) last e = cc

add_put : (bs : List Band) (rows : Rows) (row : List Interval) → AreBands bs → EndBy rows.top bs → rows.top <ℤ rows.bottom → IsRow row → row ≢ [] → Parts bs (band_with rows row) → Added bs rows row
add_put bs rows row h e some is_row columns parts =
    let made = row_put bs rows row h e some is_row columns parts in
    record {
      new = bs ++ band_with rows row ∷ [];
      are_bands = made.0;
      ends = made.1;
      places = λ x y. has-append bs (band_with rows row) x y;
      few = omega (arith, nodes_join bs (band_with rows row ∷ []));
      none = λ none. absurd (columns none);
    }

pub add : (bs : List Band) (rows : Rows) (row : List Interval) → AreBands bs → EndBy rows.top bs → rows.top <ℤ rows.bottom → IsRow row → Added bs rows row
add bs rows row h e some is_row = elim (same_row row []) [
  | inl none ↦ record { new = bs; are_bands = h; ends = end_later rows.top rows.bottom bs (omega (arith, ints, some)) e; places = λ x y. has_nothing bs rows row x y none; few = omega arith; none = λ none. omega arith }
  | inr columns ↦ elim (last_cases bs) [
    | inl none ↦ add_put bs rows row h e some is_row columns (λ front last is touch same. none_behind front last (sym none ∙ is))
    | inr there ↦ elim (same_number there.1.bottom rows.top) [
      | inl touch ↦ elim (same_row there.1.row row) [
        | inl same ↦
            let new = there.0 ++ longer there.1 rows.bottom ∷ [] in
            let made = row_stretched bs new rows row there.0 there.1 h e some there.2 touch same refl in
            let as_many : nodes_in new ≡ nodes_in bs = omega (arith, ap nodes_in there.2, nodes_join there.0 (there.1 ∷ []), nodes_join there.0 (longer there.1 rows.bottom ∷ [])) in
            record { new = new; are_bands = made.0; ends = made.1; places = made.2; few = omega (arith, as_many); none = λ none. omega (arith, as_many) }
        | inr other ↦ add_put bs rows row h e some is_row columns (λ front last is touch' same. other (ap (λ (b : Band). b.row) (last_same there.0 there.1 front last (sym there.2 ∙ is)).1 ∙ same))
      ]
      | inr apart ↦ add_put bs rows row h e some is_row columns (λ front last is touch same. apart (ap (λ (b : Band). b.bottom) (last_same there.0 there.1 front last (sym there.2 ∙ is)).1 ∙ touch))
    ]
  ]
]

-- ---- strip after strip

by_option : {P : Type 0} (o : Option Strip) → (o ≡ None → P) → ((s : Strip) → o ≡ Some s → P) → P
by_option None none some = none refl
by_option (Some s) none some = some s refl

module _ (k : Keep) (whole_a whole_b : List Band) where
  finished : (above : List Band) (y : ℤ) (a b : List Band) → BandState k whole_a whole_b above y a b → next_strip y (first_rows_of a) (first_rows_of b) ≡ None → (bands : List Band) × IsKept k whole_a whole_b bands
  finished above y a b state is =
      let ends = no_strip y a b is in
      (above, record { are_bands = state.are_bands; has = state_done k whole_a whole_b above y a b state ends.0 ends.1 })

  strip_at : (above : List Band) (y : ℤ) (a b : List Band) (s : Strip) → BandState k whole_a whole_b above y a b → next_strip y (first_rows_of a) (first_rows_of b) ≡ Some s → IsStrip y a b s
  strip_at above y a b s state is = strip_is y a b s state.bands_a state.bands_b state.ahead_a state.ahead_b is

  record Next (y : ℤ) (a b : List Band) : Type 0 where
    made : List Band
    state : BandState k whole_a whole_b made y a b

  next : (above : List Band) (y : ℤ) (a b : List Band) (s : Strip) → BandState k whole_a whole_b above y a b → IsStrip y a b s → Next s.bottom (later s.bottom a) (later s.bottom b)
  next above y a b s state strip =
      let rows : Rows = record { top = y; bottom = s.bottom } in
      let after : y <ℤ s.bottom = strip.edge_a.after in
      let row = row_is_kept k s.in_first s.in_second (first_row a) (first_row b) (row_of_first a state.bands_a) (row_of_first b state.bands_b) in
      let added = add above rows row.0 state.are_bands state.ends after row.1.is_row in
      record {
        made = added.new;
        state = state_more k whole_a whole_b above y a b s added.new rows state strip refl added.are_bands added.ends
            (λ x z. added.places x z ∙ ap (λ t. has above x z || (in_rows rows z && t)) (row.1.has x));
      }

  completed : (n : ℕ) (above : List Band) (y : ℤ) (a b : List Band) → edges_left y a + edges_left y b ≤ n → BandState k whole_a whole_b above y a b → (bands : List Band) × IsKept k whole_a whole_b bands
  completed zero above y a b fits state = by_option (next_strip y (first_rows_of a) (first_rows_of b))
      (λ is. finished above y a b state is)
      (λ s is. absurd (none (edges_left s.bottom (later s.bottom a) + edges_left s.bottom (later s.bottom b)) (edges_left y a + edges_left y b) (edges_less y a b s state.bands_a state.bands_b (strip_at above y a b s state is)) fits))
    where
      none : (m n : ℕ) → m < n → n ≤ 0 → ⊥
      none m n h fits = omega (arith, h, fits)
  completed (suc n) above y a b fits state = by_option (next_strip y (first_rows_of a) (first_rows_of b))
      (λ is. finished above y a b state is)
      (λ s is.
      let strip = strip_at above y a b s state is in
      let more = next above y a b s state strip in
      completed n more.made s.bottom (later s.bottom a) (later s.bottom b)
      (fewer (edges_left s.bottom (later s.bottom a) + edges_left s.bottom (later s.bottom b)) (edges_left y a + edges_left y b) n (edges_less y a b s state.bands_a state.bands_b strip) fits)
      more.state)
    where
      fewer : (m n p : ℕ) → m < n → n ≤ suc p → m ≤ p
      fewer m n p h fits = omega (arith, h, fits)

-- bands of the places that are kept
pub whole_bands : (k : Keep) (a b : List Band) → AreBands a → AreBands b → (bands : List Band) × IsKept k a b bands
whole_bands k a b h h' =
    let start = starts a b h h' in
    let y : ℤ = start_of (first_rows_of a) (first_rows_of b) in
    completed k a b (edges_left y a + edges_left y b) [] y a b (omega arith) (state_begins k a b y h h' start.0 start.1)
