-- The room that a walk over two lists of bands takes, strip by strip.
use Rattle.std.proofs.Common.{◌≡◌, ℕ, ◌+◌, ◌*◌, ◌≤◌, ◌<◌, Bool, true, false, cond, ◌&&◌, List, [], ◌∷◌, length, refl, sym, ◌∙◌, ap, subst, arith, Option, Some, None, ◌⊎◌, inl, inr}
use Rattle.std.specs.Prelude.{ℤ, pos, ◌<ℤ◌, ◌≤ℤ◌, ◌+ℤ◌, int_le, ◌||◌, not}
use Rattle.std.proofs.lemmas.Int.{ints, by_lt_z}
use Rattle.std.proofs.lemmas.Option.{same_Some}
use Rattle.region_bands.specs.declared.Interval.{Interval}
use Rattle.region_bands.specs.declared.Rows.{Rows}
use Rattle.region_bands.specs.Bands.{Band, Bands, Reading, rows_of, first_row, nodes_in, reading}
use Rattle.region_rows.specs.declared.Keep.{Keep}
use Rattle.region_rows.specs.Rows.{IsRow, row_has, keeps_place}
use Rattle.region_rows.specs.RowLemmas.{true_false, only_row}
use Rattle.region_rows.specs.WalkLemmas.{keeps_place-none}
use Rattle.region_sets.specs.declared.strips.Strip.{Strip}
use Rattle.region_sets.specs.Sets.{in_rows, has, AreBands, EndBy}
use Rattle.region_sets.specs.Strips.{next_strip, start_of, later, first_rows_of, FirstIs, IsStripRow, edge_of}
use Rattle.region_sets.specs.Room.{IsWhole, HoldsStrip, is_over, keeps_nothing, strip_to_count, Enough, start}
use Rattle.region_sets.specs.Room.Enough.{over, strip}
use Rattle.region_sets.specs.StripLemmas.{first_band, tail_from, From, not_yet, has_begun, IsStrip, strip_is, no_strip, IsStart, starts, Ahead, later_is, edges_left, edges_less}
use Rattle.region_sets.specs.KeepLemmas.{row_of_first}
use Rattle.region_sets.specs.CutLemmas.{column, same_few}
use Rattle.region_sets.specs.WholeLemmas.{same_row, same_number, part, row_is_kept, add}
use Rattle.region_sets.specs.GapLemmas.{kept_alone, kept_out}

pub later_few : (edge : ℤ) (bs : List Band) → nodes_in (later edge bs) ≤ nodes_in bs
later_few edge [] = omega arith
later_few edge (b ∷ bs) = by (int_le b.bottom edge)
  where
    by : (t : Bool) → nodes_in (cond t bs (b ∷ bs)) ≤ nodes_in (b ∷ bs)
    by true = omega arith
    by false = omega arith

-- ---- whole bands

whole_or_not : (in_a in_b : Bool) (rows : Rows) (bs : List Band) → IsWhole in_a in_b rows bs ⊎ (IsWhole in_a in_b rows bs → ⊥)
whole_or_not false in_b rows bs = inr (λ h. true_false (sym h.0))
whole_or_not true true rows bs = inr (λ h. true_false h.1)
whole_or_not true false rows [] = inr (λ h. absurd (let none : None ≡ Some rows = h.2 in cc))
whole_or_not true false rows (b ∷ bs) = elim (same_number b.top rows.top) [
  | inl e ↦ elim (same_number b.bottom rows.bottom) [
    | inl f ↦ inl (refl, refl, ap (λ n. Some (record { top = n; bottom = b.bottom })) e ∙ ap (λ n. Some (record { top = rows.top; bottom = n })) f)
    | inr other ↦ inr (λ h. other (ap (λ (r : Rows). r.bottom) (same_Some (rows_of b) rows h.2)))
  ]
  | inr other ↦ inr (λ h. other (ap (λ (r : Rows). r.top) (same_Some (rows_of b) rows h.2)))
]

whole_gone : (rows : Rows) (bs : List Band) → FirstIs rows bs → nodes_in bs ≡ 2 + length (first_row bs) + nodes_in (later rows.bottom bs)
whole_gone rows [] is = absurd (let none : None ≡ Some rows = is in cc)
whole_gone rows (b ∷ bs) is =
    let bottom : b.bottom ≡ rows.bottom = ap (λ (r : Rows). r.bottom) (same_Some (rows_of b) rows is) in
    let test : int_le b.bottom rows.bottom ≡ true = ended b.bottom rows.bottom bottom in
    omega (arith, ap (λ t. nodes_in (cond t bs (b ∷ bs))) test)
  where
    ended : (a b : ℤ) → a ≡ b → int_le a b ≡ true
    ended a b e = grind (arith, ints)

empty_row : (row : List Interval) → IsRow row → ((x : ℤ) → row_has row x ≡ false) → row ≡ []
empty_row [] r none = refl
empty_row (i ∷ row) r none = let c = column (i ∷ row) r (λ e. cc) in absurd (true_false (sym c.1 ∙ none c.0))

-- what is kept of one row alone is no longer
no_longer : (k : Keep) (row f : List Interval) → IsRow row → IsRow f → ((x : ℤ) → row_has row x ≡ keeps_place k (row_has f x) false) → length row ≤ length f
no_longer k row f r r' h = by (keeps_place k true false) refl
  where
    by : (t : Bool) → keeps_place k true false ≡ t → length row ≤ length f
    by true e = omega (arith, ap length (only_row row f r r' (λ x. h x ∙ kept_alone k (row_has f x) e)))
    by false e = omega (arith, ap length (empty_row row r (λ x. h x ∙ kept_out k (row_has f x) e)))

-- ---- the room that is left behind a strip

module _ (k : Keep) (now w : Bands) (others : List Band) (in_a in_b : Bool) (rows : Rows) (h : AreBands now.above) (e : EndBy rows.top now.above) (some : rows.top <ℤ rows.bottom) (below : AreBands now.below) (bands : AreBands others) (are_bands : AreBands w.above) (has_is : (x z : ℤ) → has w.above x z ≡ (has now.above x z || (in_rows rows z && keeps_place k (in_a && row_has (first_row now.below) x) (in_b && row_has (first_row others) x)))) (spare : now.spare + nodes_in now.above + nodes_in now.below ≤ w.spare + nodes_in w.above + nodes_in w.below) (below_is : w.below ≡ later rows.bottom now.below) where
  pub spare_left : (n : ℕ) → HoldsStrip k in_a in_b rows now.below (first_row now.below) (first_row others) n → now.spare ≤ w.spare + n
  spare_left n holds =
      let row = row_is_kept k in_a in_b (first_row now.below) (first_row others) (row_of_first now.below below) (row_of_first others bands) in
      let added = add now.above rows row.0 h e some row.1.is_row in
      let few = same_few w.above added.new are_bands added.are_bands (λ x z. has_is x z ∙ ap (λ t. has now.above x z || (in_rows rows z && t)) (sym (row.1.has x)) ∙ sym (added.places x z)) in
      let fewer = later_few rows.bottom now.below in
      let nodes : nodes_in w.below ≡ nodes_in (later rows.bottom now.below) = ap nodes_in below_is in
      elim (whole_or_not in_a in_b rows now.below) [
        | inl whole ↦
            let short = no_longer k row.0 (first_row now.below) row.1.is_row (row_of_first now.below below)
            (λ x. row.1.has x ∙ ap (λ t. keeps_place k (t && row_has (first_row now.below) x) (in_b && row_has (first_row others) x)) whole.0 ∙ ap (λ t. keeps_place k (row_has (first_row now.below) x) (t && row_has (first_row others) x)) whole.1) in
            omega (arith, whole_gone rows now.below whole.2, short, added.few, few, nodes, spare)
        | inr part ↦ elim (same_row row.0 []) [
          | inl none ↦ omega (arith, added.none none, few, fewer, nodes, spare)
          | inr columns ↦ omega (arith, holds part row.0 row.1 columns, added.few, few, fewer, nodes, spare)
        ]
      ]

-- ---- strip after strip

pub record Step (k : Keep) (y : ℤ) (a b : List Band) (room : ℕ) (s : Strip) : Type 0 where
  pub taken : ℕ
  pub rest : ℕ
  pub holds : HoldsStrip k s.in_first s.in_second (record { top = y; bottom = s.bottom }) a (first_row a) (first_row b) taken
  pub enough : Enough k s.bottom (later s.bottom a) (later s.bottom b) rest
  pub fits : taken + rest ≤ room

le_true : (a b : ℤ) → a ≤ℤ b → int_le a b ≡ true
le_true a b h = grind (arith, ints)

le_false : (a b : ℤ) → b <ℤ a → int_le a b ≡ false
le_false a b h = grind (arith, ints)

true_le : (a b : ℤ) → int_le a b ≡ true → a ≤ℤ b
true_le a b e = grind (arith, ints)

over_from : (k : Keep) (n : ℤ) (bs : List Band) → From n bs → is_over k n (first_rows_of bs) None ≡ true
over_from k n [] from = refl
over_from k n (b ∷ bs) from = le_true n b.top from

over_after : (k : Keep) (n : ℤ) (bs : List Band) → not (keeps_place k false true) ≡ true → is_over k n None (first_rows_of bs) ≡ true
over_after k n [] out = refl
over_after k n (b ∷ bs) out = out

not_true : (b : Bool) → not b ≡ true → b ≡ false
not_true true e = absurd (true_false (sym e))
not_true false e = refl

pub kept_behind : (k : Keep) (t : Bool) → keeps_place k false true ≡ false → keeps_place k false t ≡ false
kept_behind k true is = is
kept_behind k false is = keeps_place-none k

nothing_kept : (k : Keep) (in_a in_b : Bool) (a b row : List Interval) → keeps_nothing k in_a in_b ≡ true → IsStripRow k in_a in_b a b row → row ≡ []
nothing_kept k true true a b row e r = absurd (true_false (sym e))
nothing_kept k true false a b row e r = empty_row row r.is_row (λ x. r.has x ∙ kept_out k (row_has a x) (not_true (keeps_place k true false) e))
nothing_kept k false true a b row e r = empty_row row r.is_row (λ x. r.has x ∙ kept_behind k (row_has b x) (not_true (keeps_place k false true) e))
nothing_kept k false false a b row e r = empty_row row r.is_row (λ x. r.has x ∙ keeps_place-none k)

pub holds_nothing : (k : Keep) (in_a in_b : Bool) (rows : Rows) (below : List Band) (a b : List Interval) → keeps_nothing k in_a in_b ≡ true → HoldsStrip k in_a in_b rows below a b 0
holds_nothing k in_a in_b rows below a b e = λ part row r some. absurd (some (nothing_kept k in_a in_b a b row e r))

between : (a b : ℤ) → b ≤ℤ a → a ≤ℤ b → b ≡ a
between a b h k = omega (arith, ints, h, k)

over_step : (k : Keep) (y : ℤ) (a b : List Band) (room : ℕ) (s : Strip) → AreBands a → is_over k y (first_rows_of a) (first_rows_of b) ≡ true → next_strip y (first_rows_of a) (first_rows_of b) ≡ Some s → Step k y a b room s
over_step k y [] [] room s h o is = absurd (let none : None ≡ Some s = is in cc)
over_step k y [] (j ∷ js) room s h o is =
    subst (Step k y [] (j ∷ js) room) (same_Some _ s is) (record {
      taken = 0;
      rest = room;
      holds = λ part row r columns. absurd (columns (empty_row row r.is_row (λ x. r.has x ∙ kept_behind k (int_le j.top y && row_has j.row x) (not_true (keeps_place k false true) o))));
      enough = over (edge_of y (rows_of j)) [] (later (edge_of y (rows_of j)) (j ∷ js)) room (over_after k (edge_of y (rows_of j)) (later (edge_of y (rows_of j)) (j ∷ js)) o);
      fits = omega arith;
    })
over_step k y (i ∷ rest) (j ∷ js) room s h o is = absurd (true_false (sym o))
over_step k y (i ∷ rest) [] room s h o is =
    let some : i.top <ℤ i.bottom = (first_band i rest h).some in
    let low : y ≤ℤ i.top = true_le y i.top o in
    let P : Bool → Type 0 = λ t. Step k y (i ∷ rest) [] room (record { bottom = cond t i.bottom i.top; in_first = t; in_second = false }) in
    subst (Step k y (i ∷ rest) [] room) (same_Some _ s is) (by_lt_z y i.top
    (λ less.
    let L : Bool → Type 0 = λ t. Enough k i.top (cond t rest (i ∷ rest)) [] room in
    subst P (sym (not_yet i y less)) (record {
      taken = 0;
      rest = room;
      holds = λ part row r columns. absurd (columns (empty_row row r.is_row (λ x. r.has x ∙ keeps_place-none k)));
      enough = subst L (sym (le_false i.bottom i.top some)) (over i.top (i ∷ rest) [] room (le_true i.top i.top (omega (arith, ints))));
      fits = omega arith;
    }))
    (λ more.
    let L : Bool → Type 0 = λ t. Enough k i.bottom (cond t rest (i ∷ rest)) [] room in
    subst P (sym (has_begun i y more)) (record {
      taken = 0;
      rest = room;
      holds = λ part row r columns. absurd (part (refl, refl, ap (λ n. Some (record { top = n; bottom = i.bottom })) (between y i.top more low)));
      enough = subst L (sym (le_true i.bottom i.bottom (omega (arith, ints)))) (over i.bottom rest [] room (over_from k i.bottom rest (tail_from i rest h)));
      fits = omega arith;
    })))

pub enough_step : (k : Keep) (y : ℤ) (a b : List Band) (room : ℕ) (s : Strip) → AreBands a → Enough k y a b room → next_strip y (first_rows_of a) (first_rows_of b) ≡ Some s → Step k y a b room s
enough_step k y a b room s h (over y' a' b' room' o) is = over_step k y a b room s h o is
enough_step k y a b room s h (strip y' a' b' room' s' taken rest is' holds enough fits) is =
    subst (Step k y a b room) (same_Some s' s (sym is' ∙ is)) (record { taken = taken; rest = rest; holds = holds; enough = enough; fits = fits })

-- more room is enough too
pub enough_more : (k : Keep) (y : ℤ) (a b : List Band) (room more : ℕ) → Enough k y a b room → room ≤ more → Enough k y a b more
enough_more k y a b room more (over y' a' b' room' o) h = over y a b more o
enough_more k y a b room more (strip y' a' b' room' s taken rest is holds enough fits) h = strip y a b more s taken rest is holds enough (omega (arith, fits, h))

-- ---- the room is counted

-- what is counted above y, and what is left to read
pub record Counted (k : Keep) (whole_a whole_b a b : Reading) (y : ℤ) (count : ℕ) : Type 0 where
  pub steps : ℕ
  pub bands_a : AreBands a.bands
  pub bands_b : AreBands b.bands
  pub ahead_a : Ahead y a.bands
  pub ahead_b : Ahead y b.bands
  pub read_a : a ≡ reading a.bands
  pub read_b : b ≡ reading b.bands
  pub enough : (n : ℕ) → Enough k y a.bands b.bands n → Enough k (start whole_a.bands whole_b.bands) whole_a.bands whole_b.bands (count + n)
  pub passed : pos steps ≤ℤ (y +ℤ pos 2147483648)
  pub most : count ≤ steps * 2147483650

pub count_begins : (k : Keep) (a b : Reading) (y : ℤ) (first second : Option Rows) → AreBands a.bands → AreBands b.bands → a.left ≡ first_row a.bands → b.left ≡ first_row b.bands
    → first ≡ first_rows_of a.bands → second ≡ first_rows_of b.bands → y ≡ start_of first second → pos 0 ≤ℤ (y +ℤ pos 2147483648) → Counted k a b a b y 0
count_begins k a b y first second h h' e e' f f' is low =
    let at : y ≡ start a.bands b.bands = is ∙ ap (λ u. start_of u second) f ∙ ap (start_of (first_rows_of a.bands)) f' in
    let begin = starts a.bands b.bands h h' in
    let start_a = subst (λ n. IsStart n a.bands) (sym at) begin.0 in
    let start_b = subst (λ n. IsStart n b.bands) (sym at) begin.1 in
    record {
      steps = 0;
      bands_a = h;
      bands_b = h';
      ahead_a = start_a.ahead;
      ahead_b = start_b.ahead;
      read_a = ap (λ l. record a { left = l }) e;
      read_b = ap (λ l. record b { left = l }) e';
      enough = λ n enough. subst (Enough k (start a.bands b.bands) a.bands b.bands) (none_before n) (subst (λ m. Enough k m a.bands b.bands n) at enough);
      passed = low;
      most = omega arith;
    }
  where
    none_before : (n : ℕ) → n ≡ 0 + n
    none_before n = omega arith

to_next : (k : Keep) (y : ℤ) (first second : Option Rows) (s : Strip) → strip_to_count k y first second ≡ Some s → next_strip y first second ≡ Some s
to_next k y first second s is = by (is_over k y first second) is
  where
    by : (t : Bool) → cond t None (next_strip y first second) ≡ Some s → next_strip y first second ≡ Some s
    by true e = absurd (cc)
    by false e = e

to_over : (k : Keep) (y : ℤ) (a b : List Band) → strip_to_count k y (first_rows_of a) (first_rows_of b) ≡ None → is_over k y (first_rows_of a) (first_rows_of b) ≡ true
to_over k y a b is = by (is_over k y (first_rows_of a) (first_rows_of b)) refl is
  where
    by : (t : Bool) → is_over k y (first_rows_of a) (first_rows_of b) ≡ t → cond t None (next_strip y (first_rows_of a) (first_rows_of b)) ≡ None → is_over k y (first_rows_of a) (first_rows_of b) ≡ true
    by true e none = e
    by false e none = let ends = no_strip y a b none in ap (λ l. is_over k y (first_rows_of l) (first_rows_of b)) ends.0 ∙ ap (λ l. is_over k y None (first_rows_of l)) ends.1

module _ (k : Keep) (whole_a whole_b a b : Reading) (y : ℤ) (count : ℕ) (h : Counted k whole_a whole_b a b y count) (first second : Option Rows) (found : Option Strip) (f : first ≡ first_rows_of a.bands) (f' : second ≡ first_rows_of b.bands) (g : found ≡ strip_to_count k y first second) where
  found_is : found ≡ strip_to_count k y (first_rows_of a.bands) (first_rows_of b.bands)
  found_is = g ∙ ap (λ u. strip_to_count k y u second) f ∙ ap (strip_to_count k y (first_rows_of a.bands)) f'

  pub count_done : found ≡ None → Enough k (start whole_a.bands whole_b.bands) whole_a.bands whole_b.bands count
  count_done is = subst (Enough k (start whole_a.bands whole_b.bands) whole_a.bands whole_b.bands) (all count) (h.enough 0 (over y a.bands b.bands 0 (to_over k y a.bands b.bands (sym found_is ∙ is))))
    where
      all : (n : ℕ) → n + 0 ≡ n
      all n = omega arith

  pub count_row_a : IsRow a.left
  count_row_a = subst IsRow (sym (ap (λ (u : Reading). u.left) h.read_a)) (row_of_first a.bands h.bands_a)

  pub count_row_b : IsRow b.left
  count_row_b = subst IsRow (sym (ap (λ (u : Reading). u.left) h.read_b)) (row_of_first b.bands h.bands_b)

  module _ (s : Strip) (is : found ≡ Some s) (bottom : ℤ) (bottom_is : bottom ≡ s.bottom) (a' b' : Reading) (a'_is : a' ≡ reading (later bottom a.bands)) (b'_is : b' ≡ reading (later bottom b.bands)) where
    next_is : next_strip y (first_rows_of a.bands) (first_rows_of b.bands) ≡ Some s
    next_is = to_next k y (first_rows_of a.bands) (first_rows_of b.bands) s (sym found_is ∙ is)

    strip_there : IsStrip y a.bands b.bands s
    strip_there = strip_is y a.bands b.bands s h.bands_a h.bands_b h.ahead_a h.ahead_b next_is

    rest_a : a' ≡ reading (later s.bottom a.bands)
    rest_a = a'_is ∙ ap (λ n. reading (later n a.bands)) bottom_is

    rest_b : b' ≡ reading (later s.bottom b.bands)
    rest_b = b'_is ∙ ap (λ n. reading (later n b.bands)) bottom_is

    bands_a : a'.bands ≡ later s.bottom a.bands
    bands_a = ap (λ (u : Reading). u.bands) rest_a

    bands_b : b'.bands ≡ later s.bottom b.bands
    bands_b = ap (λ (u : Reading). u.bands) rest_b

    pub count_fewer : edges_left bottom a'.bands + edges_left bottom b'.bands < edges_left y a.bands + edges_left y b.bands
    count_fewer =
        let one : edges_left bottom a'.bands ≡ edges_left s.bottom (later s.bottom a.bands) = ap (edges_left bottom) bands_a ∙ ap (λ n. edges_left n (later s.bottom a.bands)) bottom_is in
        let other : edges_left bottom b'.bands ≡ edges_left s.bottom (later s.bottom b.bands) = ap (edges_left bottom) bands_b ∙ ap (λ n. edges_left n (later s.bottom b.bands)) bottom_is in
        omega (arith, one, other, edges_less y a.bands b.bands s h.bands_a h.bands_b strip_there)

    pub count_more : (rows : Rows) → rows ≡ record { top = y; bottom = s.bottom } → (n : ℕ) → HoldsStrip k s.in_first s.in_second rows a.bands a.left b.left n → n ≤ 2147483650 → Counted k whole_a whole_b a' b' bottom (count + n)
    count_more rows rows_is n holds few =
        let after : y <ℤ s.bottom = strip_there.edge_a.after in
        let left_a : a.left ≡ first_row a.bands = ap (λ (u : Reading). u.left) h.read_a in
        let left_b : b.left ≡ first_row b.bands = ap (λ (u : Reading). u.left) h.read_b in
        let H : Rows → List Interval → List Interval → Type 0 = λ r l m. HoldsStrip k s.in_first s.in_second r a.bands l m n in
        let held : H (record { top = y; bottom = s.bottom }) (first_row a.bands) (first_row b.bands) =
        subst (H (record { top = y; bottom = s.bottom }) (first_row a.bands)) left_b (subst (λ l. H (record { top = y; bottom = s.bottom }) l b.left) left_a (subst (λ r. H r a.left b.left) rows_is holds)) in
        let one = later_is s.bottom a.bands h.bands_a strip_there.edge_a.reaches in
        let other = later_is s.bottom b.bands h.bands_b strip_there.edge_b.reaches in
        let E : ℤ → List Band → List Band → ℕ → Type 0 = λ z l m i. Enough k z l m i in
        record {
          steps = h.steps + 1;
          bands_a = subst AreBands (sym bands_a) one.are_bands;
          bands_b = subst AreBands (sym bands_b) other.are_bands;
          ahead_a = subst (λ z. Ahead z a'.bands) (sym bottom_is) (subst (Ahead s.bottom) (sym bands_a) one.ahead);
          ahead_b = subst (λ z. Ahead z b'.bands) (sym bottom_is) (subst (Ahead s.bottom) (sym bands_b) other.ahead);
          read_a = rest_a ∙ ap reading (sym bands_a);
          read_b = rest_b ∙ ap reading (sym bands_b);
          enough = λ m enough.
              let here : Enough k s.bottom (later s.bottom a.bands) (later s.bottom b.bands) m =
              subst (λ l. Enough k s.bottom (later s.bottom a.bands) l m) bands_b (subst (λ l. Enough k s.bottom l b'.bands m) bands_a (subst (λ z. Enough k z a'.bands b'.bands m) bottom_is enough)) in
              subst (Enough k (start whole_a.bands whole_b.bands) whole_a.bands whole_b.bands) (joined count n m) (h.enough (n + m) (strip y a.bands b.bands (n + m) s n m next_is held here (omega arith)));
          passed = omega (arith, ints, h.passed, after, bottom_is);
          most = omega (arith, h.most, few);
        }
      where
        joined : (a b c : ℕ) → a + (b + c) ≡ (a + b) + c
        joined a b c = omega arith
