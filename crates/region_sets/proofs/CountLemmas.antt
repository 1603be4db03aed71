-- What a walk over two lists of bands counts.
use Rattle.std.proofs.Common.{◌≡◌, ◌≢◌, ℕ, ◌+◌, ◌*◌, ◌≤◌, ◌<◌, Bool, false, ◌&&◌, List, [], ◌∷◌, ◌++◌, refl, sym, ◌∙◌, ap, subst, arith, Option, Some, None, inl, inr}
use Rattle.std.specs.Prelude.{ℤ, pos, ◌<ℤ◌, ◌≤ℤ◌, ◌+ℤ◌, ◌||◌}
use Rattle.std.proofs.lemmas.Int.{ints}
use Rattle.region_bands.specs.declared.Interval.{Interval}
use Rattle.region_bands.specs.declared.Rows.{Rows}
use Rattle.region_bands.specs.Bands.{Band, Reading, band_with, first_row, nodes_in, reading}
use Rattle.region_bands.specs.EachLemmas.{last_same}
use Rattle.region_rows.specs.declared.Keep.{Keep}
use Rattle.region_rows.specs.Rows.{IsRow, row_has, keeps_place, IsKept as IsRowKept}
use Rattle.region_rows.specs.RowLemmas.{only_row}
use Rattle.region_rows.specs.WalkLemmas.{keeps_place-none}
use Rattle.region_sets.specs.declared.strips.Strip.{Strip}
use Rattle.region_sets.specs.Sets.{in_rows, has, AreBands, EndBy, IsKept, Counts}
use Rattle.region_sets.specs.Strips.{next_strip, start_of, later, first_rows_of}
use Rattle.region_sets.specs.SetLemmas.{Parts, longer, nodes_join, end_later, row_put, row_stretched, has_nothing, has-append}
use Rattle.region_sets.specs.StripLemmas.{IsStrip, strip_is, no_strip, IsStart, starts, edges_left, edges_less}
use Rattle.region_sets.specs.KeepLemmas.{BandState, state_begins, state_more, state_done, row_of_first}
use Rattle.region_sets.proofs.StayLemmas.{end_last}
use Rattle.region_sets.specs.CutLemmas.{same_few}
use Rattle.region_sets.specs.WholeLemmas.{same_row, none_behind, row_of_both, part, part_row, strip_row}

-- ---- the nodes of one strip's row

module _ (k : Keep) (p q a b c d : Reading) (above row : List Interval) (is_c : c ≡ a) (is_d : d ≡ b) (h : IsRowKept k p.left q.left above) (h' : IsRowKept k a.left b.left row) where
  has_now : (x : ℤ) → keeps_place k (row_has c.left x) (row_has d.left x) ≡ row_has row x
  has_now x = ap (λ (u : Reading). keeps_place k (row_has u.left x) (row_has d.left x)) is_c ∙ ap (λ (u : Reading). keeps_place k (row_has a.left x) (row_has u.left x)) is_d ∙ sym (h'.has x)

  pub counts_on : ((x : ℤ) → keeps_place k (row_has p.left x) (row_has q.left x) ≡ keeps_place k (row_has c.left x) (row_has d.left x)) → Counts above row 0
  counts_on same =
      let rows : above ≡ row = only_row above row h.is_row h'.is_row (λ x. h.has x ∙ same x ∙ has_now x) in
      record { none = λ is. refl; goes_on = λ is. refl; new = λ some other. absurd (other (sym rows)) }

-- ---- the bands with one more row

-- the last band is of this row where it ends at y; and where the row has columns, there is such a band
pub record LastIs (y : ℤ) (bs : List Band) (row : List Interval) : Type 0 where
  pub there : row ≢ [] → (front : List Band) × (last : Band) × (bs ≡ front ++ last ∷ []) × (last.bottom ≡ y) × (last.row ≡ row)
  pub of : (front : List Band) (last : Band) → bs ≡ front ++ last ∷ [] → last.bottom ≡ y → last.row ≡ row

record More (bs : List Band) (rows : Rows) (row : List Interval) (nodes : ℕ) : Type 0 where
  new : List Band
  are_bands : AreBands new
  ends : EndBy rows.bottom new
  places : (x y : ℤ) → has new x y ≡ (has bs x y || (in_rows rows y && row_has row x))
  last : LastIs rows.bottom new row
  count : nodes_in new ≡ nodes_in bs + nodes

last_of : (front : List Band) (last : Band) (y : ℤ) (row : List Interval) → last.bottom ≡ y → last.row ≡ row → LastIs y (front ++ last ∷ []) row
last_of front last y row bottom is = record {
  there = λ some. (front, last, refl, bottom, is);
  of = λ front' last' same at. ap (λ (b : Band). b.row) (sym (last_same front last front' last' same).1) ∙ is;
}

module _ (bs : List Band) (rows : Rows) (above row : List Interval) (nodes : ℕ) (h : AreBands bs) (e : EndBy rows.top bs) (some : rows.top <ℤ rows.bottom) (is_row : IsRow row) (last : LastIs rows.top bs above) (counts : Counts above row nodes) where
  more_none : row ≡ [] → More bs rows row nodes
  more_none none = record {
    new = bs;
    are_bands = h;
    ends = end_later rows.top rows.bottom bs (omega (arith, ints, some)) e;
    places = λ x y. has_nothing bs rows row x y none;
    last = record {
      there = λ columns. absurd (columns none);
      of = λ front band is at. absurd (above_it band (end_last rows.top front band (subst (EndBy rows.top) is e)) at);
    };
    count = omega (arith, counts.none none);
  }
    where
      above_it : (band : Band) → band.bottom ≤ℤ rows.top → band.bottom ≡ rows.bottom → ⊥
      above_it band high at = omega (arith, ints, some, high, at)

  more_on : row ≢ [] → row ≡ above → More bs rows row nodes
  more_on columns same =
      let there = last.there (λ none. columns (same ∙ none)) in
      let new : List Band = there.0 ++ longer there.1 rows.bottom ∷ [] in
      let is : there.1.row ≡ row = there.4 ∙ sym same in
      let made = row_stretched bs new rows row there.0 there.1 h e some there.2 there.3 is refl in
      record {
        new = new;
        are_bands = made.0;
        ends = made.1;
        places = made.2;
        last = last_of there.0 (longer there.1 rows.bottom) rows.bottom row refl is;
        count = omega (arith, counts.goes_on same, ap nodes_in there.2, nodes_join there.0 (there.1 ∷ []), nodes_join there.0 (longer there.1 rows.bottom ∷ []));
      }

  more_new : row ≢ [] → row ≢ above → More bs rows row nodes
  more_new columns other =
      let parts : Parts bs (band_with rows row) = λ front band is touch same. other (sym same ∙ last.of front band is touch) in
      let made = row_put bs rows row h e some is_row columns parts in
      record {
        new = bs ++ band_with rows row ∷ [];
        are_bands = made.0;
        ends = made.1;
        places = λ x y. has-append bs (band_with rows row) x y;
        last = last_of bs (band_with rows row) rows.bottom row refl refl;
        count = omega (arith, counts.new columns other, nodes_join bs (band_with rows row ∷ []));
      }

  more : More bs rows row nodes
  more = elim (same_row row []) [
    | inl none ↦ more_none none
    | inr columns ↦ elim (same_row row above) [
      | inl same ↦ more_on columns same
      | inr other ↦ more_new columns other
    ]
  ]

-- ---- strip after strip

-- the bands that are counted above y, the row of the strip that ends there, and what is left to read
pub record Counting (k : Keep) (whole_a whole_b p q a b : Reading) (y : ℤ) (count : ℕ) : Type 0 where
  pub above : List Band
  pub row : List Interval
  pub steps : ℕ
  pub state : BandState k whole_a.bands whole_b.bands above y a.bands b.bands
  pub row_p : IsRow p.left
  pub row_q : IsRow q.left
  pub row_is : IsRowKept k p.left q.left row
  pub last : LastIs y above row
  pub counted : count ≡ nodes_in above
  pub read_a : a ≡ reading a.bands
  pub read_b : b ≡ reading b.bands
  pub passed : pos steps ≤ℤ (y +ℤ pos 2147483648)
  pub most : count ≤ steps * 2147483650

pub counting_begins : (k : Keep) (p q a b : Reading) (y : ℤ) (first second : Option Rows) → AreBands a.bands → AreBands b.bands → a.left ≡ first_row a.bands → b.left ≡ first_row b.bands → p.left ≡ [] → q.left ≡ []
    → first ≡ first_rows_of a.bands → second ≡ first_rows_of b.bands → y ≡ start_of first second → pos 0 ≤ℤ (y +ℤ pos 2147483648) → Counting k a b p q a b y 0
counting_begins k p q a b y first second h h' e e' none none' f f' is low =
    let at : y ≡ start_of (first_rows_of a.bands) (first_rows_of b.bands) = is ∙ ap (λ u. start_of u second) f ∙ ap (start_of (first_rows_of a.bands)) f' in
    let start = starts a.bands b.bands h h' in
    record {
      above = [];
      row = [];
      steps = 0;
      state = state_begins k a.bands b.bands y h h' (subst (λ n. IsStart n a.bands) (sym at) start.0) (subst (λ n. IsStart n b.bands) (sym at) start.1);
      row_p = subst IsRow (sym none) tt;
      row_q = subst IsRow (sym none') tt;
      row_is = record { is_row = tt; has = λ x. sym (ap (λ l. keeps_place k (row_has l x) (row_has q.left x)) none ∙ ap (λ l. keeps_place k false (row_has l x)) none' ∙ keeps_place-none k) };
      last = record { there = λ some. absurd (some refl); of = λ front last is at. absurd (none_behind front last is) };
      counted = refl;
      read_a = ap (λ l. record a { left = l }) e;
      read_b = ap (λ l. record b { left = l }) e';
      passed = low;
      most = omega arith;
    }

module _ (k : Keep) (whole_a whole_b p q a b : Reading) (y : ℤ) (count : ℕ) (h : Counting k whole_a whole_b p q a b y count) where
  left_a : a.left ≡ first_row a.bands
  left_a = ap (λ (u : Reading). u.left) h.read_a

  left_b : b.left ≡ first_row b.bands
  left_b = ap (λ (u : Reading). u.left) h.read_b

  counted_at : (s : Strip) → next_strip y (first_rows_of a.bands) (first_rows_of b.bands) ≡ Some s → IsStrip y a.bands b.bands s
  counted_at s is = strip_is y a.bands b.bands s h.state.bands_a h.state.bands_b h.state.ahead_a h.state.ahead_b is

  row_a : (is_in : Bool) (r : Reading) → r ≡ record a { left = part is_in a.left } → IsRow r.left
  row_a is_in r is = subst IsRow (sym (ap (λ (u : Reading). u.left) is)) (part_row is_in a.left (subst IsRow (sym left_a) (row_of_first a.bands h.state.bands_a)))

  row_b : (is_in : Bool) (r : Reading) → r ≡ record b { left = part is_in b.left } → IsRow r.left
  row_b is_in r is = subst IsRow (sym (ap (λ (u : Reading). u.left) is)) (part_row is_in b.left (subst IsRow (sym left_b) (row_of_first b.bands h.state.bands_b)))

  pub counting_done : next_strip y (first_rows_of a.bands) (first_rows_of b.bands) ≡ None → (bands : List Band) → IsKept k whole_a.bands whole_b.bands bands → count ≡ nodes_in bands
  counting_done is bands made =
      let ends = no_strip y a.bands b.bands is in
      let has_all = state_done k whole_a.bands whole_b.bands h.above y a.bands b.bands h.state ends.0 ends.1 in
      let few = same_few h.above bands h.state.are_bands made.are_bands (λ x z. has_all x z ∙ sym (made.has x z)) in
      let many = same_few bands h.above made.are_bands h.state.are_bands (λ x z. made.has x z ∙ sym (has_all x z)) in
      omega (arith, h.counted, few, many)

  module _ (s : Strip) (found : next_strip y (first_rows_of a.bands) (first_rows_of b.bands) ≡ Some s) (in_a in_b : Reading) (a_is : in_a ≡ record a { left = part s.in_first a.left }) (b_is : in_b ≡ record b { left = part s.in_second b.left }) (bottom : ℤ) (bottom_is : bottom ≡ s.bottom) (a' b' : Reading) (a'_is : a' ≡ reading (later bottom in_a.bands)) (b'_is : b' ≡ reading (later bottom in_b.bands)) where
    rest_a : a' ≡ reading (later s.bottom a.bands)
    rest_a = a'_is ∙ ap (λ (u : Reading). reading (later bottom u.bands)) a_is ∙ ap (λ n. reading (later n a.bands)) bottom_is

    rest_b : b' ≡ reading (later s.bottom b.bands)
    rest_b = b'_is ∙ ap (λ (u : Reading). reading (later bottom u.bands)) b_is ∙ ap (λ n. reading (later n b.bands)) bottom_is

    bands_a : a'.bands ≡ later s.bottom a.bands
    bands_a = ap (λ (u : Reading). u.bands) rest_a

    bands_b : b'.bands ≡ later s.bottom b.bands
    bands_b = ap (λ (u : Reading). u.bands) rest_b

    pub counting_fewer : edges_left bottom a'.bands + edges_left bottom b'.bands < edges_left y a.bands + edges_left y b.bands
    counting_fewer =
        let first : edges_left bottom a'.bands ≡ edges_left s.bottom (later s.bottom a.bands) = ap (edges_left bottom) bands_a ∙ ap (λ n. edges_left n (later s.bottom a.bands)) bottom_is in
        let second : edges_left bottom b'.bands ≡ edges_left s.bottom (later s.bottom b.bands) = ap (edges_left bottom) bands_b ∙ ap (λ n. edges_left n (later s.bottom b.bands)) bottom_is in
        omega (arith, first, second, edges_less y a.bands b.bands s h.state.bands_a h.state.bands_b (counted_at s found))

    pub counting_more : (p' q' : Reading) → p' ≡ in_a → q' ≡ in_b → (n : ℕ) → ((above row : List Interval) → IsRowKept k p.left q.left above → IsRowKept k in_a.left in_b.left row → Counts above row n) → n ≤ 2147483650 → Counting k whole_a whole_b p' q' a' b' bottom (count + n)
    counting_more p' q' p_is q_is n counts few =
        let strip = counted_at s found in
        let after : y <ℤ s.bottom = strip.edge_a.after in
        let rows : Rows = record { top = y; bottom = s.bottom } in
        let row_in_a = row_a s.in_first in_a a_is in
        let row_in_b = row_b s.in_second in_b b_is in
        let row = row_of_both k in_a.left in_b.left row_in_a row_in_b in
        let parts_a : in_a.left ≡ part s.in_first (first_row a.bands) = ap (λ (u : Reading). u.left) a_is ∙ ap (part s.in_first) left_a in
        let parts_b : in_b.left ≡ part s.in_second (first_row b.bands) = ap (λ (u : Reading). u.left) b_is ∙ ap (part s.in_second) left_b in
        let of_strip = strip_row k s.in_first s.in_second (first_row a.bands) (first_row b.bands) row.0
        (subst (λ l. IsRowKept k (part s.in_first (first_row a.bands)) l row.0) parts_b (subst (λ l. IsRowKept k l in_b.left row.0) parts_a row.1)) in
        let one = more h.above rows h.row row.0 n h.state.are_bands h.state.ends after row.1.is_row h.last (counts h.row row.0 h.row_is row.1) in
        let state = state_more k whole_a.bands whole_b.bands h.above y a.bands b.bands s one.new rows h.state strip refl one.are_bands one.ends
        (λ x z. one.places x z ∙ ap (λ t. has h.above x z || (in_rows rows z && t)) (of_strip.has x)) in
        let S : List Band → Type 0 = λ l. BandState k whole_a.bands whole_b.bands one.new s.bottom l (later s.bottom b.bands) in
        let T : List Band → Type 0 = λ l. BandState k whole_a.bands whole_b.bands one.new s.bottom a'.bands l in
        let U : ℤ → Type 0 = λ m. BandState k whole_a.bands whole_b.bands one.new m a'.bands b'.bands in
        record {
          above = one.new;
          row = row.0;
          steps = h.steps + 1;
          state = subst U (sym bottom_is) (subst T (sym bands_b) (subst S (sym bands_a) state));
          row_p = subst (λ (u : Reading). IsRow u.left) (sym p_is) row_in_a;
          row_q = subst (λ (u : Reading). IsRow u.left) (sym q_is) row_in_b;
          row_is = subst (λ (u : Reading). IsRowKept k p'.left u.left row.0) (sym q_is) (subst (λ (u : Reading). IsRowKept k u.left in_b.left row.0) (sym p_is) row.1);
          last = subst (λ m. LastIs m one.new row.0) (sym bottom_is) one.last;
          counted = omega (arith, h.counted, one.count);
          read_a = rest_a ∙ ap reading (sym bands_a);
          read_b = rest_b ∙ ap reading (sym bands_b);
          passed = omega (arith, ints, h.passed, after, bottom_is);
          most = omega (arith, h.most, few);
        }
