-- What bands have below a row, and the places that two lists of bands share.
use Rattle.std.proofs.Common.{◌≡◌, ◌≢◌, ℕ, ◌+◌, ◌≤◌, ◌<◌, Bool, true, false, cond, ◌&&◌, List, [], ◌∷◌, length, refl, sym, ◌∙◌, ap, subst, arith, Option, Some, None, inl, inr}
use Rattle.std.specs.Prelude.{ℤ, pos, negsuc, ◌+ℤ◌, ◌*◌, ◌<ℤ◌, ◌≤ℤ◌, int_lt, int_le, ◌||◌, slice_get}
use Rattle.std.specs.Option.{option_map}
use Rattle.std.proofs.lemmas.Int.{ints, by_lt_z}
use Rattle.std.proofs.lemmas.Option.{same_Some}
use Rattle.region_bands.specs.declared.Interval.{Interval}
use Rattle.region_bands.specs.declared.Rows.{Rows}
use Rattle.region_bands.specs.Bands.{Band, Reading, rows_of, first_row, nodes_in, reading}
use Rattle.region_rows.specs.Rows.{IsRow, row_has}
use Rattle.region_sets.specs.Sets.{in_rows, has, IsBand, AreBands}
use Rattle.region_sets.specs.Strips.{nearer}
use Rattle.region_sets.specs.Queries.{ShareColumn, SharePlace, intervals_in_all}
use Rattle.region_sets.specs.Walks.{below, rows_end_by, first_bottom, rows_overlap, FirstsApart, rest_of, counted}
use Rattle.region_sets.proofs.RowLemmas.{true_false, or_none, and_none, and_comm, not_true, not_empty, nearer_is}

pub first_band : (b : Band) (bs : List Band) → AreBands (b ∷ bs) → IsBand b
first_band b [] h = h
first_band b (c ∷ bs) h = h.0

pub band_tail : (b : Band) (bs : List Band) → AreBands (b ∷ bs) → AreBands bs
band_tail b [] h = tt
band_tail b (c ∷ bs) h = h.2

pub row_of_first : (bs : List Band) → AreBands bs → IsRow (first_row bs)
row_of_first [] h = tt
row_of_first (b ∷ bs) h = (first_band b bs h).row

-- each row above the first band's bottom is in no later band
pub none_later : (b : Band) (bs : List Band) (x z : ℤ) → AreBands (b ∷ bs) → z <ℤ b.bottom → has bs x z ≡ false
none_later b [] x z h high = refl
none_later b (c ∷ bs) x z h high =
    let some : c.top <ℤ c.bottom = (first_band c bs h.2).some in
    let order : b.bottom ≤ℤ c.top = h.1.order in
    ap (λ t. (t && row_has c.row x) || has bs x z) (out c z (omega (arith, ints, order, high))) ∙ none_later c bs x z h.2 (omega (arith, ints, order, high, some))
  where
    out : (c : Band) (z : ℤ) → z <ℤ c.top → in_rows (rows_of c) z ≡ false
    out c z less = grind (arith, ints)

pub has_below : (b : Band) (bs : List Band) (x z : ℤ) → b.bottom ≤ℤ z → has (b ∷ bs) x z ≡ has bs x z
has_below b bs x z low = ap (λ t. (t && row_has b.row x) || has bs x z) (out b z low)
  where
    out : (b : Band) (z : ℤ) → b.bottom ≤ℤ z → in_rows (rows_of b) z ≡ false
    out b z low = grind (arith, ints)

-- down to its bottom the first band alone counts
pub first_alone : (b : Band) (bs : List Band) (x z : ℤ) → AreBands (b ∷ bs) → z <ℤ b.bottom → has (b ∷ bs) x z ≡ has (b ∷ []) x z
first_alone b bs x z h high = ap (λ t. (in_rows (rows_of b) z && row_has b.row x) || t) (none_later b bs x z h high)

pub begun : (b : Band) (bs : List Band) (x z : ℤ) → AreBands (b ∷ bs) → z <ℤ b.bottom → has (b ∷ bs) x z ≡ (int_le b.top z && row_has b.row x)
begun b bs x z h high = first_alone b bs x z h high ∙ or_false (in_rows (rows_of b) z && row_has b.row x) ∙ ap (λ t. t && row_has b.row x) (first b z high)
  where
    or_false : (t : Bool) → (t || false) ≡ t
    or_false true = refl
    or_false false = refl

    first : (b : Band) (z : ℤ) → z <ℤ b.bottom → in_rows (rows_of b) z ≡ int_le b.top z
    first b z high = grind (arith, ints)

not_by : (n x : ℤ) → x <ℤ n → int_le n x ≡ false
not_by n x less = grind (arith, ints)

is_by : (n x : ℤ) → n ≤ℤ x → int_le n x ≡ true
is_by n x more = grind (arith, ints)

-- ---- what is below a row

pub below_kept : (y : ℤ) (b : Band) (rest : List Band) → y <ℤ b.bottom → below y (b ∷ rest) ≡ b ∷ rest
below_kept y b rest less = ap (λ t. cond t (below y rest) (b ∷ rest)) (not_by b.bottom y less)

pub below_gone : (y : ℤ) (b : Band) (rest : List Band) → b.bottom ≤ℤ y → below y (b ∷ rest) ≡ below y rest
below_gone y b rest more = ap (λ t. cond t (below y rest) (b ∷ rest)) (is_by b.bottom y more)

pub below_has : (y x z : ℤ) (l : List Band) → y ≤ℤ z → has (below y l) x z ≡ has l x z
below_has y x z [] h = refl
below_has y x z (b ∷ rest) h = by_lt_z y b.bottom
    (λ less. ap (λ u. has u x z) (below_kept y b rest less))
    (λ more. ap (λ u. has u x z) (below_gone y b rest more) ∙ below_has y x z rest h ∙ sym (has_below b rest x z (omega (arith, ints, more, h))))

pub below_none : (y x z : ℤ) (l : List Band) → has l x z ≡ false → has (below y l) x z ≡ false
below_none y x z [] e = refl
below_none y x z (b ∷ rest) e = by_lt_z y b.bottom
    (λ less. ap (λ u. has u x z) (below_kept y b rest less) ∙ e)
    (λ more. ap (λ u. has u x z) (below_gone y b rest more) ∙ below_none y x z rest (or_none (in_rows (rows_of b) z && row_has b.row x) (has rest x z) e))

pub below_bands : (y : ℤ) (l : List Band) → AreBands l → AreBands (below y l)
below_bands y [] h = tt
below_bands y (b ∷ rest) h = by_lt_z y b.bottom
    (λ less. subst AreBands (sym (below_kept y b rest less)) h)
    (λ more. subst AreBands (sym (below_gone y b rest more)) (below_bands y rest (band_tail b rest h)))

pub below_most : (y : ℤ) (l : List Band) → length (below y l) ≤ length l
below_most y [] = omega arith
below_most y (b ∷ rest) = by_lt_z y b.bottom
    (λ less. omega (arith, ap length (below_kept y b rest less)))
    (λ more. omega (arith, ap length (below_gone y b rest more), below_most y rest))

-- whether rows have begun by y
abbrev pub rows_begin_by : ℤ → Option Rows → Bool
rows_begin_by y None = false
rows_begin_by y (Some r) = int_le r.top y

abbrev first_rows_of : List Band → Option Rows
first_rows_of l = option_map rows_of (slice_get l 0)

contains_at : (x y : ℤ) (l : List Band) → AreBands l → (rows_begin_by y (first_rows_of (below y l)) && row_has (first_row (below y l)) x) ≡ has l x y
contains_at x y [] h = refl
contains_at x y (b ∷ rest) h = by_lt_z y b.bottom
    (λ less. ap (λ u. rows_begin_by y (first_rows_of u) && row_has (first_row u) x) (below_kept y b rest less) ∙ sym (begun b rest x y h less))
    (λ more. ap (λ u. rows_begin_by y (first_rows_of u) && row_has (first_row u) x) (below_gone y b rest more) ∙ contains_at x y rest (band_tail b rest h) ∙ sym (has_below b rest x y more))

pub contains_found : (x y : ℤ) (l : List Band) (now : Reading) (found : Option Rows) → AreBands l → now ≡ reading (below y l) → found ≡ option_map rows_of (slice_get now.bands 0) → (rows_begin_by y found && row_has now.left x) ≡ has l x y
contains_found x y l now found h is found_is =
    ap (λ f. rows_begin_by y f && row_has now.left x) found_is ∙ ap (λ (u : Reading). rows_begin_by y (first_rows_of u.bands) && row_has u.left x) is ∙ contains_at x y l h

-- ---- the loop that passes

pub record Passed (y : ℤ) (old now : Reading) : Type 0 where
  pub rest : below y now.bands ≡ below y old.bands
  pub same : now ≡ reading now.bands

pub passed_begins : (y : ℤ) (old : Reading) → old.left ≡ first_row old.bands → Passed y old old
passed_begins y old left = record { rest = refl; same = ap (λ l. record old { left = l }) left }

ended_first : (y : ℤ) (l : List Band) → rows_end_by y (first_rows_of l) ≡ true → (b : Band) × (rest : List Band) × (l ≡ b ∷ rest) × (int_le b.bottom y ≡ true)
ended_first y [] e = absurd (true_false (sym e))
ended_first y (b ∷ rest) e = (b, rest, refl, e)

ended_none : (y : ℤ) (l : List Band) → rows_end_by y (first_rows_of l) ≡ false → below y l ≡ l
ended_none y [] e = refl
ended_none y (b ∷ rest) e = ap (λ t. cond t (below y rest) (b ∷ rest)) e

module _ (y : ℤ) (old now : Reading) (passed : Passed y old now) (found : Option Rows) (test : Bool) (n : ℤ) (found_is : found ≡ option_map rows_of (slice_get now.bands 0)) (test_is : test ≡ rows_end_by n found) (n_is : n ≡ y) where
  test_at : test ≡ rows_end_by y (first_rows_of now.bands)
  test_at = test_is ∙ ap (λ u. rows_end_by u found) n_is ∙ ap (rows_end_by y) found_is

  pub passes_some : test ≡ true → now.bands ≢ []
  passes_some is_so = let there = ended_first y now.bands (sym test_at ∙ is_so) in not_empty Band there.0 now.bands there.1 there.2

  pub passes_more : (new : Reading) → test ≡ true → ((b : Band) (rest : List Band) → now.bands ≡ b ∷ rest → new ≡ reading rest) → Passed y old new × (length new.bands < length now.bands)
  passes_more new is_so makes =
      let there = ended_first y now.bands (sym test_at ∙ is_so) in
      let new_is : new ≡ reading there.1 = makes there.0 there.1 there.2 in
      let bands_are : new.bands ≡ there.1 = ap (λ (u : Reading). u.bands) new_is in (
        record {
          rest = ap (below y) bands_are ∙ sym (ap (λ t. cond t (below y there.1) (there.0 ∷ there.1)) there.3) ∙ ap (below y) (sym there.2) ∙ passed.rest;
          same = new_is ∙ ap reading (sym bands_are);
        },
        omega (arith, ap length bands_are, ap length there.2),
      )

  pub passes_done : test ≡ false → now ≡ reading (below y old.bands)
  passes_done not_so = passed.same ∙ ap reading (sym (ended_none y now.bands (sym test_at ∙ not_so)) ∙ passed.rest)

-- ---- two lists of bands

-- the band that ends first is passed where it shares no place with the other
first_passed : (b c : Band) (bs cs : List Band) (e x z : ℤ) → AreBands (b ∷ bs) → AreBands (c ∷ cs) → e ≡ b.bottom → e ≤ℤ c.bottom → (has (b ∷ []) x z && has (c ∷ []) x z) ≡ false
    → (has (below e (b ∷ bs)) x z && has (below e (c ∷ cs)) x z) ≡ (has (b ∷ bs) x z && has (c ∷ cs) x z)
first_passed b c bs cs e x z h k at first apart = by_lt_z z e
    (λ less.
    let high : z <ℤ b.bottom = omega (arith, ints, at, less) in
    ap (λ t. t && has (below e (c ∷ cs)) x z) (ap (λ u. has u x z) (below_gone e b bs (omega (arith, ints, at))) ∙ below_none e x z bs (none_later b bs x z h high))
    ∙ sym (ap (λ t. t && has (c ∷ cs) x z) (first_alone b bs x z h high) ∙ ap (λ t. has (b ∷ []) x z && t) (first_alone c cs x z k (omega (arith, ints, first, less))) ∙ apart))
    (λ more. ap (λ t. t && has (below e (c ∷ cs)) x z) (below_has e x z (b ∷ bs) more) ∙ ap (λ t. has (b ∷ bs) x z && t) (below_has e x z (c ∷ cs) more))

-- what both share is what is shared of what is left
pub record Unshared (old_a old_b a b : List Band) : Type 0 where
  pub bands_a : AreBands a
  pub bands_b : AreBands b
  pub same : (x z : ℤ) → (has a x z && has b x z) ≡ (has old_a x z && has old_b x z)

unshared_more : (old_a old_b a b : List Band) (edge : ℤ) → Unshared old_a old_b a b → first_bottom (first_rows_of a) (first_rows_of b) ≡ Some edge → FirstsApart a b
    → Unshared old_a old_b (below edge a) (below edge b) × (length (below edge a) + length (below edge b) < length a + length b)
unshared_more old_a old_b [] b edge s e apart = absurd (cc)
unshared_more old_a old_b (b ∷ bs) [] edge s e apart = absurd (cc)
unshared_more old_a old_b (b ∷ bs) (c ∷ cs) edge s e apart =
    let at : edge ≡ nearer b.bottom c.bottom = sym (same_Some (nearer b.bottom c.bottom) edge e) in (
      record {
        bands_a = below_bands edge (b ∷ bs) s.bands_a;
        bands_b = below_bands edge (c ∷ cs) s.bands_b;
        same = λ x z. elim (nearer_is b.bottom c.bottom) [
          | inl m ↦ first_passed b c bs cs edge x z s.bands_a s.bands_b (at ∙ m.0) (omega (arith, ints, at ∙ m.0, m.1)) (apart x z) ∙ s.same x z
          | inr m ↦ and_comm (has (below edge (b ∷ bs)) x z) (has (below edge (c ∷ cs)) x z)
              ∙ first_passed c b cs bs edge x z s.bands_b s.bands_a (at ∙ m.0) (omega (arith, ints, at ∙ m.0, m.1)) (and_comm (has (c ∷ []) x z) (has (b ∷ []) x z) ∙ apart x z)
              ∙ and_comm (has (c ∷ cs) x z) (has (b ∷ bs) x z) ∙ s.same x z
        ];
      },
      elim (nearer_is b.bottom c.bottom) [
        | inl m ↦ omega (arith, ap length (below_gone edge b bs (omega (arith, ints, at ∙ m.0))), below_most edge bs, below_most edge (c ∷ cs))
        | inr m ↦ omega (arith, ap length (below_gone edge c cs (omega (arith, ints, at ∙ m.0))), below_most edge cs, below_most edge (b ∷ bs))
      ],
    )

unshared_done : (a b : List Band) (x z : ℤ) → first_bottom (first_rows_of a) (first_rows_of b) ≡ None → (has a x z && has b x z) ≡ false
unshared_done [] b x z e = refl
unshared_done (b ∷ bs) [] x z e = and_none (has (b ∷ bs) x z)
unshared_done (b ∷ bs) (c ∷ cs) x z e = absurd (no e)
  where
    no : Some (nearer b.bottom c.bottom) ≡ None → ⊥
    no e = cc

-- ---- the first bands of two

both_have : (p q r s t u : Bool) → p ≡ true → r ≡ true → (q && s) ≡ true → (((p && q) || t) && ((r && s) || u)) ≡ true
both_have p true r true t u e f g = rw (e, f) refl
both_have p true r false t u e f g = absurd (true_false (sym g))
both_have p false r s t u e f g = absurd (true_false (sym g))

neither_by_rows : (p q r s : Bool) → (p && r) ≡ false → (((p && q) || false) && ((r && s) || false)) ≡ false
neither_by_rows true q true s e = absurd (true_false e)
neither_by_rows true true false s e = refl
neither_by_rows true false false s e = refl
neither_by_rows false q r s e = refl

neither_by_columns : (p q r s : Bool) → (q && s) ≡ false → (((p && q) || false) && ((r && s) || false)) ≡ false
neither_by_columns p true r true e = absurd (true_false e)
neither_by_columns true true true false e = refl
neither_by_columns true true false false e = refl
neither_by_columns false true r false e = refl
neither_by_columns true false r s e = refl
neither_by_columns false false r s e = refl

shared_rows : (b c : Band) → b.top <ℤ b.bottom → c.top <ℤ c.bottom → (int_lt b.top c.bottom && int_lt c.top b.bottom) ≡ true → (y : ℤ) × (in_rows (rows_of b) y ≡ true) × (in_rows (rows_of c) y ≡ true)
shared_rows b c some some' e = by_lt_z b.top c.top
    (λ less. (c.top, in_first b c less e, own c some'))
    (λ more. (b.top, own b some, in_second b c more e))
  where
    own : (b : Band) → b.top <ℤ b.bottom → in_rows (rows_of b) b.top ≡ true
    own b some = grind (arith, ints)

    in_first : (b c : Band) → b.top <ℤ c.top → (int_lt b.top c.bottom && int_lt c.top b.bottom) ≡ true → in_rows (rows_of b) c.top ≡ true
    in_first b c less e = grind (arith, ints)

    in_second : (b c : Band) → c.top ≤ℤ b.top → (int_lt b.top c.bottom && int_lt c.top b.bottom) ≡ true → in_rows (rows_of c) b.top ≡ true
    in_second b c more e = grind (arith, ints)

apart_rows : (b c : Band) (z : ℤ) → (int_lt b.top c.bottom && int_lt c.top b.bottom) ≡ false → (in_rows (rows_of b) z && in_rows (rows_of c) z) ≡ false
apart_rows b c z e = grind (arith, ints)

pub firsts_share : (a b : List Band) → AreBands a → AreBands b → rows_overlap (first_rows_of a) (first_rows_of b) ≡ true → ShareColumn (first_row a) (first_row b) → SharePlace a b
firsts_share [] b h k e there = absurd (true_false (sym e))
firsts_share (b ∷ bs) [] h k e there = absurd (true_false (sym e))
firsts_share (b ∷ bs) (c ∷ cs) h k e there =
    let row = shared_rows b c (first_band b bs h).some (first_band c cs k).some e in
    (there.0, (row.0, both_have (in_rows (rows_of b) row.0) (row_has b.row there.0) (in_rows (rows_of c) row.0) (row_has c.row there.0) (has bs there.0 row.0) (has cs there.0 row.0) row.1 row.2 there.1))

pub firsts_rows_apart : (a b : List Band) → rows_overlap (first_rows_of a) (first_rows_of b) ≡ false → FirstsApart a b
firsts_rows_apart [] b e = λ x z. refl
firsts_rows_apart (b ∷ bs) [] e = λ x z. and_none (has (b ∷ []) x z)
firsts_rows_apart (b ∷ bs) (c ∷ cs) e = λ x z. neither_by_rows (in_rows (rows_of b) z) (row_has b.row x) (in_rows (rows_of c) z) (row_has c.row x) (apart_rows b c z e)

pub firsts_columns_apart : (a b : List Band) → (ShareColumn (first_row a) (first_row b) → ⊥) → FirstsApart a b
firsts_columns_apart [] b none = λ x z. refl
firsts_columns_apart (b ∷ bs) [] none = λ x z. and_none (has (b ∷ []) x z)
firsts_columns_apart (b ∷ bs) (c ∷ cs) none = λ x z. neither_by_columns (in_rows (rows_of b) z) (row_has b.row x) (in_rows (rows_of c) z) (row_has c.row x) (not_true (row_has b.row x && row_has c.row x) (λ e. none (x, e)))

pub overlap_at : (a b : List Band) (i j : Option Rows) (test v : Bool) → i ≡ option_map rows_of (slice_get a 0) → j ≡ option_map rows_of (slice_get b 0) → test ≡ rows_overlap i j → test ≡ v → rows_overlap (option_map rows_of (slice_get a 0)) (option_map rows_of (slice_get b 0)) ≡ v
overlap_at a b i j test v i_is j_is test_is v_is = sym (test_is ∙ ap (λ u. rows_overlap u j) i_is ∙ ap (rows_overlap (first_rows_of a)) j_is) ∙ v_is

pub of_firsts : (a b : List Band) (la lb : List Interval) → la ≡ first_row a → lb ≡ first_row b → ShareColumn la lb → ShareColumn (first_row a) (first_row b)
of_firsts a b la lb e f there = subst (λ l. ShareColumn (first_row a) l) f (subst (λ l. ShareColumn l lb) e there)

pub to_firsts : (a b : List Band) (la lb : List Interval) → la ≡ first_row a → lb ≡ first_row b → ShareColumn (first_row a) (first_row b) → ShareColumn la lb
to_firsts a b la lb e f there = subst (λ l. ShareColumn la l) (sym f) (subst (λ l. ShareColumn l (first_row b)) (sym e) there)

-- ---- the readers of bands that are compared

pub record Comparing (old_a old_b now_a now_b : Reading) : Type 0 where
  pub state : Unshared old_a.bands old_b.bands now_a.bands now_b.bands
  pub left_a : now_a.left ≡ first_row now_a.bands
  pub left_b : now_b.left ≡ first_row now_b.bands

pub comparing_begins : (a b : Reading) → AreBands a.bands → AreBands b.bands → a.left ≡ first_row a.bands → b.left ≡ first_row b.bands → Comparing a b a b
comparing_begins a b h k left left' = record { state = record { bands_a = h; bands_b = k; same = λ x z. refl }; left_a = left; left_b = left' }

module _ (old_a old_b now_a now_b : Reading) (c : Comparing old_a old_b now_a now_b) (found : Option ℤ) (i j : Option Rows) (i_is : i ≡ option_map rows_of (slice_get now_a.bands 0)) (j_is : j ≡ option_map rows_of (slice_get now_b.bands 0)) (found_is : found ≡ first_bottom i j) where
  found_at : found ≡ first_bottom (first_rows_of now_a.bands) (first_rows_of now_b.bands)
  found_at = found_is ∙ ap (λ u. first_bottom u j) i_is ∙ ap (first_bottom (first_rows_of now_a.bands)) j_is

  pub comparing_more : (mid_a mid_b new_a new_b : Reading) (edge n : ℤ) → found ≡ Some edge → n ≡ edge → FirstsApart now_a.bands now_b.bands → mid_a ≡ now_a → mid_b ≡ now_b
      → new_a ≡ reading (below n mid_a.bands) → new_b ≡ reading (below n mid_b.bands)
      → Comparing old_a old_b new_a new_b × (length new_a.bands + length new_b.bands < length now_a.bands + length now_b.bands)
  comparing_more mid_a mid_b new_a new_b edge n some n_is apart mid_a_is mid_b_is a_is b_is =
      let next = unshared_more old_a.bands old_b.bands now_a.bands now_b.bands n c.state (sym found_at ∙ some ∙ ap Some (sym n_is)) apart in
      let new_a_is : new_a ≡ reading (below n now_a.bands) = a_is ∙ ap (λ (u : Reading). reading (below n u.bands)) mid_a_is in
      let new_b_is : new_b ≡ reading (below n now_b.bands) = b_is ∙ ap (λ (u : Reading). reading (below n u.bands)) mid_b_is in
      let bands_a : new_a.bands ≡ below n now_a.bands = ap (λ (u : Reading). u.bands) new_a_is in
      let bands_b : new_b.bands ≡ below n now_b.bands = ap (λ (u : Reading). u.bands) new_b_is in (
        record {
          state = subst (λ l. Unshared old_a.bands old_b.bands new_a.bands l) (sym bands_b) (subst (λ l. Unshared old_a.bands old_b.bands l (below n now_b.bands)) (sym bands_a) next.0);
          left_a = ap (λ (u : Reading). u.left) new_a_is ∙ ap first_row (sym bands_a);
          left_b = ap (λ (u : Reading). u.left) new_b_is ∙ ap first_row (sym bands_b);
        },
        omega (arith, next.1, ap length bands_a, ap length bands_b),
      )

  pub comparing_found : SharePlace now_a.bands now_b.bands → SharePlace old_a.bands old_b.bands
  comparing_found there = (there.0, (there.1.0, sym (c.state.same there.0 there.1.0) ∙ there.1.1))

  pub comparing_done : found ≡ None → SharePlace old_a.bands old_b.bands → ⊥
  comparing_done none there = true_false (sym there.1.1 ∙ sym (c.state.same there.0 there.1.0) ∙ unshared_done now_a.bands now_b.bands there.0 there.1.0 (sym found_at ∙ none))

-- ---- a band that is read past

pub first_read : (old mid new : Reading) (found : Option Rows) (rows : Rows) → found ≡ option_map rows_of (slice_get old.bands 0) → found ≡ Some rows → mid ≡ record old { left = [] } → ((b : Band) (rest : List Band) → mid.bands ≡ b ∷ rest → new ≡ reading rest) → new ≡ reading (rest_of old.bands)
first_read old mid new found rows found_is some mid_is makes = go old.bands refl (sym found_is ∙ some)
  where
    no : None ≡ Some rows → ⊥
    no e = cc

    go : (l : List Band) → old.bands ≡ l → option_map rows_of (slice_get l 0) ≡ Some rows → new ≡ reading (rest_of old.bands)
    go [] is e = absurd (no e)
    go (b ∷ rest) is e = makes b rest (ap (λ (u : Reading). u.bands) mid_is ∙ is) ∙ ap (λ l. reading (rest_of l)) (sym is)

-- ---- counting

-- so many rows lie above the bands, if they begin within 32 bits
abbrev pub BandsAfter : ℕ → List Band → Type 0
BandsAfter n [] = Unit {0}
BandsAfter n (b ∷ rest) = negsuc 2147483647 ≤ℤ b.top → pos n ≤ℤ (b.top +ℤ pos 2147483648)

pub record Counting (each : ℕ) (old now : Reading) (count : ℕ) : Type 0 where
  pub bands : AreBands now.bands
  pub left : now.left ≡ first_row now.bands
  pub passed : ℕ
  pub all : count + counted each now.bands ≡ counted each old.bands
  pub after : BandsAfter passed now.bands
  pub few : passed ≤ 4294967296
  pub most : count ≤ 2147483650 * passed

pub counting_begins : (each : ℕ) (old : Reading) → AreBands old.bands → old.left ≡ first_row old.bands → Counting each old old 0
counting_begins each old h left = record { bands = h; left = left; passed = 0; all = omega arith; after = go old.bands; few = omega arith; most = omega arith }
  where
    go : (l : List Band) → BandsAfter 0 l
    go [] = tt
    go (b ∷ rest) = λ low. omega (arith, ints, low)

next_after : (n : ℕ) (b : Band) (rest : List Band) → AreBands (b ∷ rest) → pos n ≤ℤ (b.top +ℤ pos 2147483648) → BandsAfter (1 + n) rest
next_after n b [] h low = tt
next_after n b (c ∷ rest) h low = λ _. let some : b.top <ℤ b.bottom = h.0.some in let order : b.bottom ≤ℤ c.top = h.1.order in omega (arith, ints, some, order, low)

module _ (each : ℕ) (old now : Reading) (count : ℕ) (counting : Counting each old now count) (found : Option Rows) (found_is : found ≡ option_map rows_of (slice_get now.bands 0)) where
  pub counting_room : (rows : Rows) → found ≡ Some rows → negsuc 2147483647 ≤ℤ rows.top → rows.top ≤ℤ pos 2147483647 → (counting.passed < 4294967296) × (count ≤ 9223372045444710400)
  counting_room rows some low high = go now.bands refl (sym found_is ∙ some)
    where
      no : None ≡ Some rows → ⊥
      no e = cc

      go : (l : List Band) → now.bands ≡ l → option_map rows_of (slice_get l 0) ≡ Some rows → (counting.passed < 4294967296) × (count ≤ 9223372045444710400)
      go [] is e = absurd (no e)
      go (b ∷ rest) is e =
          let top : b.top ≡ rows.top = ap (λ (r : Rows). r.top) (same_Some (rows_of b) rows e) in
          let after : pos counting.passed ≤ℤ (b.top +ℤ pos 2147483648) = subst (BandsAfter counting.passed) is counting.after (omega (arith, ints, top, low)) in
          let few : counting.passed < 4294967296 = omega (arith, ints, after, high, top) in
          (few, omega (arith, few, counting.most))

  pub counting_more : (rows : Rows) (mid new : Reading) (n row : ℕ) → found ≡ Some rows → negsuc 2147483647 ≤ℤ rows.top → rows.top ≤ℤ pos 2147483647 → each ≤ 2 → row ≡ length now.left → row ≤ 2147483648 → n ≡ count + (each + row) → mid ≡ record now { left = [] }
      → ((b : Band) (rest : List Band) → mid.bands ≡ b ∷ rest → new ≡ reading rest) → Counting each old new n × (length new.bands < length now.bands)
  counting_more rows mid new n row some low high small row_is row_few n_is mid_is makes = go now.bands refl (sym found_is ∙ some)
    where
      no : None ≡ Some rows → ⊥
      no e = cc

      go : (l : List Band) → now.bands ≡ l → option_map rows_of (slice_get l 0) ≡ Some rows → Counting each old new n × (length new.bands < length now.bands)
      go [] is e = absurd (no e)
      go (b ∷ rest) is e =
          let new_is : new ≡ reading rest = makes b rest (ap (λ (u : Reading). u.bands) mid_is ∙ is) in
          let bands_are : new.bands ≡ rest = ap (λ (u : Reading). u.bands) new_is in
          let top : b.top ≡ rows.top = ap (λ (r : Rows). r.top) (same_Some (rows_of b) rows e) in
          let after : pos counting.passed ≤ℤ (b.top +ℤ pos 2147483648) = subst (BandsAfter counting.passed) is counting.after (omega (arith, ints, top, low)) in
          let room = counting_room rows some low high in
          let bands : AreBands (b ∷ rest) = subst AreBands is counting.bands in
          let row_length : length now.left ≡ length b.row = ap length (counting.left ∙ ap first_row is) in (
            record {
              bands = subst AreBands (sym bands_are) (band_tail b rest bands);
              left = ap (λ (u : Reading). u.left) new_is ∙ ap first_row (sym bands_are);
              passed = 1 + counting.passed;
              all = omega (arith, ap (counted each) bands_are, ap (counted each) is, counting.all, row_length, row_is, n_is);
              after = subst (BandsAfter (1 + counting.passed)) (sym bands_are) (next_after counting.passed b rest bands after);
              few = omega (arith, room.0);
              most = omega (arith, counting.most, small, row_few, n_is);
            },
            omega (arith, ap length bands_are, ap length is),
          )

  pub counting_done : found ≡ None → count ≡ counted each old.bands
  counting_done none = go now.bands refl (sym found_is ∙ none)
    where
      go : (l : List Band) → now.bands ≡ l → option_map rows_of (slice_get l 0) ≡ None → count ≡ counted each old.bands
      go [] is e = omega (arith, ap (counted each) is, counting.all)
      go (b ∷ rest) is e = absurd (no (rows_of b) e)
        where
          no : (r : Rows) → Some r ≡ None → ⊥
          no r e = cc

pub all_intervals : (l : List Band) → counted 0 l ≡ intervals_in_all l
all_intervals [] = refl
all_intervals (b ∷ rest) = omega (arith, all_intervals rest)

pub all_nodes : (l : List Band) → counted 2 l ≡ nodes_in l
all_nodes [] = refl
all_nodes (b ∷ rest) = omega (arith, all_nodes rest)
