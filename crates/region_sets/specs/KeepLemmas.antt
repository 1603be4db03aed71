-- What a walk over two lists of bands has kept so far.
use Rattle.std.proofs.Common.{◌≡◌, ◌+◌, ◌≤◌, Bool, true, false, cond, ◌&&◌, List, [], ◌∷◌, length, refl, sym, ◌∙◌, ap, arith, Option, Some}
use Rattle.std.specs.Prelude.{ℤ, ◌<ℤ◌, ◌≤ℤ◌, int_lt, int_le, ◌||◌, slice_get}
use Rattle.std.specs.Option.{option_map}
use Rattle.std.proofs.lemmas.Int.{ints, by_lt_z}
use Rattle.std.proofs.lemmas.Option.{same_Some}
use Rattle.region_bands.specs.declared.Rows.{Rows}
use Rattle.region_bands.specs.Bands.{Band, Bands, rows_of, first_row, nodes_in}
use Rattle.region_rows.specs.declared.Keep.{Keep}
use Rattle.region_rows.specs.Rows.{IsRow, row_has, keeps_place}
use Rattle.region_rows.specs.WalkLemmas.{keeps_place-none}
use Rattle.region_sets.specs.declared.strips.Strip.{Strip}
use Rattle.region_sets.specs.Sets.{in_rows, has, AreBands, EndBy}
use Rattle.region_sets.specs.Strips.{later}
use Rattle.region_sets.specs.StripLemmas.{first_band, Ahead, IsStrip, IsStart, later_is}

pub dropped : (old new : Bands) (found : Option Rows) (rows : Rows) (edge : ℤ) → found ≡ option_map rows_of (slice_get old.below 0) → found ≡ Some rows → rows.bottom ≤ℤ edge
    → ((first : Band) (rest : List Band) → old.below ≡ first ∷ rest → new ≡ record old { left = first_row rest; below = rest; spare = old.spare + 2 + length first.row })
    → (old.spare + nodes_in old.below ≤ new.spare + nodes_in new.below) × (new ≡ record old { left = first_row (later edge old.below); below = later edge old.below; spare = new.spare })
dropped old new found rows edge e f low makes = go old.below refl (sym e ∙ f)
  where
    ended : (n : ℤ) → n ≤ℤ edge → int_le n edge ≡ true
    ended n h = grind (arith, ints)

    go : (bs : List Band) → old.below ≡ bs → option_map rows_of (slice_get bs 0) ≡ Some rows → (old.spare + nodes_in old.below ≤ new.spare + nodes_in new.below) × (new ≡ record old { left = first_row (later edge old.below); below = later edge old.below; spare = new.spare })
    go [] is g = absurd (cc)
    go (b ∷ bs) is g =
        let made = makes b bs is in
        let bottom : b.bottom ≡ rows.bottom = ap (λ (r : Rows). r.bottom) (same_Some (rows_of b) rows g) in
        let test : int_le b.bottom edge ≡ true = ap (λ n. int_le n edge) bottom ∙ ended rows.bottom low in
        let rest : later edge old.below ≡ bs = ap (later edge) is ∙ ap (λ t. cond t bs (b ∷ bs)) test in
        let spare : new.spare ≡ old.spare + 2 + length b.row = ap (λ (u : Bands). u.spare) made in (
          omega (arith, spare, ap nodes_in is, ap (λ (u : Bands). nodes_in u.below) made),
          made ∙ ap (λ n. record old { left = first_row bs; below = bs; spare = n }) (sym spare) ∙ ap (λ l. record old { left = first_row l; below = l; spare = new.spare }) (sym rest),
        )

pub row_of_first : (bs : List Band) → AreBands bs → IsRow (first_row bs)
row_of_first [] h = tt
row_of_first (b ∷ bs) h = (first_band b bs h).row

pub none_under : (x z y : ℤ) (bs : List Band) → EndBy y bs → y ≤ℤ z → has bs x z ≡ false
none_under x z y [] e low = refl
none_under x z y (b ∷ bs) e low = ap (λ t. (t && row_has b.row x) || has bs x z) (out b (omega (arith, ints, e.0, low))) ∙ none_under x z y bs e.1 low
  where
    out : (b : Band) → b.bottom ≤ℤ z → in_rows (rows_of b) z ≡ false
    out b low = grind (arith, ints)

-- the bands that are kept above y, and what is left of the two lists
pub record BandState (k : Keep) (whole_a whole_b above : List Band) (y : ℤ) (a b : List Band) : Type 0 where
  pub bands_a : AreBands a
  pub bands_b : AreBands b
  pub ahead_a : Ahead y a
  pub ahead_b : Ahead y b
  pub same_a : (x z : ℤ) → y ≤ℤ z → has a x z ≡ has whole_a x z
  pub same_b : (x z : ℤ) → y ≤ℤ z → has b x z ≡ has whole_b x z
  pub are_bands : AreBands above
  pub ends : EndBy y above
  pub so_far : (x z : ℤ) → z <ℤ y → has above x z ≡ keeps_place k (has whole_a x z) (has whole_b x z)

pub state_begins : (k : Keep) (a b : List Band) (y : ℤ) → AreBands a → AreBands b → IsStart y a → IsStart y b → BandState k a b [] y a b
state_begins k a b y h h' start start' = record {
  bands_a = h;
  bands_b = h';
  ahead_a = start.ahead;
  ahead_b = start'.ahead;
  same_a = λ x z low. refl;
  same_b = λ x z low. refl;
  are_bands = tt;
  ends = tt;
  so_far = λ x z less. sym (ap (λ t. keeps_place k t (has b x z)) (start.before x z less) ∙ ap (keeps_place k false) (start'.before x z less) ∙ keeps_place-none k);
}

pub state_done : (k : Keep) (whole_a whole_b above : List Band) (y : ℤ) (a b : List Band) → BandState k whole_a whole_b above y a b → a ≡ [] → b ≡ [] → (x z : ℤ) → has above x z ≡ keeps_place k (has whole_a x z) (has whole_b x z)
state_done k whole_a whole_b above y a b s none none' x z = by_lt_z z y
    (λ less. s.so_far x z less)
    (λ more. none_under x z y above s.ends more ∙ sym (
    ap (λ t. keeps_place k t (has whole_b x z)) (sym (s.same_a x z more) ∙ ap (λ l. has l x z) none)
    ∙ ap (keeps_place k false) (sym (s.same_b x z more) ∙ ap (λ l. has l x z) none') ∙ keeps_place-none k))

pub state_more : (k : Keep) (whole_a whole_b above : List Band) (y : ℤ) (a b : List Band) (s : Strip) (made : List Band) (rows : Rows) → BandState k whole_a whole_b above y a b → IsStrip y a b s → rows ≡ record { top = y; bottom = s.bottom } → AreBands made → EndBy s.bottom made
    → ((x z : ℤ) → has made x z ≡ (has above x z || (in_rows rows z && keeps_place k (s.in_first && row_has (first_row a) x) (s.in_second && row_has (first_row b) x))))
    → BandState k whole_a whole_b made s.bottom (later s.bottom a) (later s.bottom b)
state_more k whole_a whole_b above y a b s made rows state strip rows_is are_bands ends has_is =
    let f = later_is s.bottom a state.bands_a strip.edge_a.reaches in
    let g = later_is s.bottom b state.bands_b strip.edge_b.reaches in
    let after : y <ℤ s.bottom = strip.edge_a.after in
    record {
      bands_a = f.are_bands;
      bands_b = g.are_bands;
      ahead_a = f.ahead;
      ahead_b = g.ahead;
      same_a = λ x z low. f.same x z low ∙ state.same_a x z (omega (arith, ints));
      same_b = λ x z low. g.same x z low ∙ state.same_b x z (omega (arith, ints));
      are_bands = are_bands;
      ends = ends;
      so_far = λ x z high.
          let now = keeps_place k (s.in_first && row_has (first_row a) x) (s.in_second && row_has (first_row b) x) in
          has_is x z ∙ ap (λ (r : Rows). has above x z || (in_rows r z && now)) rows_is ∙ by_lt_z z y
          (λ less. ap (λ t. has above x z || (t && now)) (not_in y s.bottom z less) ∙ or_false (has above x z) ∙ state.so_far x z less)
          (λ more. ap (λ t. t || ((int_le y z && int_lt z s.bottom) && now)) (none_under x z y above state.ends more) ∙ ap (λ t. false || (t && now)) (is_in y s.bottom z more high)
          ∙ ap (λ t. keeps_place k t (s.in_second && row_has (first_row b) x)) (sym (strip.edge_a.flat x z more high) ∙ state.same_a x z more)
          ∙ ap (keeps_place k (has whole_a x z)) (sym (strip.edge_b.flat x z more high) ∙ state.same_b x z more));
    }
  where
    or_false : (b : Bool) → (b || false) ≡ b
    or_false true = refl
    or_false false = refl

    not_in : (y e z : ℤ) → z <ℤ y → (int_le y z && int_lt z e) ≡ false
    not_in y e z less = grind (arith, ints)

    is_in : (y e z : ℤ) → y ≤ℤ z → z <ℤ e → (int_le y z && int_lt z e) ≡ true
    is_in y e z low high = grind (arith, ints)
