-- Counts of the places in which two rows differ.
use Rattle.std.proofs.Common.{◌≡◌, ◌≢◌, ℕ, ◌+◌, ◌-◌, ◌<◌, ◌≤◌, ◌^◌, zero, suc, Bool, not, cond, bit_or, bit_xor, List, length, map, take, drop, slice_index, Option, None, Some, MatchOption, IfSome, refl, sym, ◌∙◌, ap, subst, ⊎_elim, add-one, arith}
use Rattle.std.specs.List.{range_with_len}
use Rattle.std.proofs.lemmas.Bool.{cases_lt, cases_eq, ne_eqb, eq-eqb}
use Rattle.std.specs.Int.Bits.{xor_self, xor_zero_l, xor_zero_r, xor_assoc}
use Rattle.std.proofs.lemmas.Nat.{le_or_l, le_or_r}
use Rattle.std.proofs.lemmas.List.{take-map, drop-map, length-take-le, length-drop, get_or-take, get_or-drop}
use Rattle.std.proofs.lemmas.List.FromFn.{sum_by-map-range_with_len_more, length-map-range_with_len}
use Rattle.std.proofs.lemmas.List.Sums.{count_by-le-length}
use Rattle.source_pixels.specs.declared.rows.RowDifference.{RowDifference}
use Rattle.source_pixels.specs.Rows.{differs, difference_count, AreSame, IsDifference}

count_step : (colours row : List ℕ) (i : ℕ) → difference_count colours row (i + 1) ≡ difference_count colours row i + cond (differs colours row i) 1 0
count_step colours row i = sum_by-map-range_with_len_more (λ b. cond b 1 0) (differs colours row) 0 i i (omega arith)

pub count_at_most : (colours row : List ℕ) (n : ℕ) → difference_count colours row n ≤ n
count_at_most colours row n =
    let most = count_by-le-length (λ (b : Bool). b) (map (differs colours row) (range_with_len 0 n)) in
    let long = length-map-range_with_len (differs colours row) 0 n in
    omega arith

pub count_differing : (colours row : List ℕ) (i : ℕ) → slice_index colours i ≢ slice_index row i → difference_count colours row (i + 1) ≡ difference_count colours row i + 1
count_differing colours row i other =
    count_step colours row i ∙ ap (λ b. difference_count colours row i + cond (not b) 1 0) (ne_eqb (slice_index colours i) (slice_index row i) other)

pub count_same : (colours row : List ℕ) (i : ℕ) → slice_index colours i ≡ slice_index row i → difference_count colours row (i + 1) ≡ difference_count colours row i
count_same colours row i same =
    count_step colours row i ∙ ap (λ b. difference_count colours row i + cond (not b) 1 0) (eq-eqb (slice_index colours i) (slice_index row i) same) ∙ omega arith

-- where none is counted, none differs
pub none_counted : (colours row : List ℕ) (n : ℕ) → difference_count colours row n ≡ 0 → AreSame colours row 0 n
none_counted colours row zero none x from below = absurd (omega arith)
none_counted colours row (suc n) none x from below =
    ⊎_elim
    (λ same.
    let before : difference_count colours row n ≡ 0 = sym (count_same colours row n same) ∙ rw add-one none in
    ⊎_elim (λ earlier. none_counted colours row n before x from earlier) (λ here. let e : x ≡ n = omega arith in rw e same) (cases_lt x n))
    (λ other. absurd (let e = count_differing colours row n other in let e' : difference_count colours row (suc n) ≡ difference_count colours row n + 1 = rw add-one at e in omega arith))
    (cases_eq (slice_index colours n) (slice_index row n))

-- where none differs, none is counted
pub none_differs : (colours row : List ℕ) (n : ℕ) → AreSame colours row 0 n → difference_count colours row n ≡ 0
none_differs colours row zero same = refl
none_differs colours row (suc n) same =
    let step = count_same colours row n (same n (omega arith) (omega arith)) in
    let step' : difference_count colours row (suc n) ≡ difference_count colours row n = rw add-one at step in
    step' ∙ none_differs colours row n (λ x from below. same x from (omega arith))

xor_zero : (a b : ℕ) → bit_xor a b ≡ 0 → a ≡ b
xor_zero a b none =
    sym (xor_zero_r a) ∙ ap (bit_xor a) (sym (xor_self b)) ∙ sym (xor_assoc a b b) ∙ ap (λ n. bit_xor n b) none ∙ xor_zero_l b

-- what is gathered of the places below one is 0 just where none of them differs
pub record Gathers (colours row : List ℕ) (other i : ℕ) : Type 0 where
  pub none : other ≡ 0 → AreSame colours row 0 i
  pub same : AreSame colours row 0 i → other ≡ 0

pub gathers_none : (colours row : List ℕ) → Gathers colours row 0 0
gathers_none colours row = record { none = λ e x from below. absurd (omega arith); same = λ h. refl }

pub gathers_more : (colours row : List ℕ) (other i : ℕ) → Gathers colours row other i → Gathers colours row (bit_or other (bit_xor (slice_index colours i) (slice_index row i))) (i + 1)
gathers_more colours row other i so_far = record {
  none = λ e x from below.
      let a = le_or_l other (bit_xor (slice_index colours i) (slice_index row i)) in
      let b = le_or_r other (bit_xor (slice_index colours i) (slice_index row i)) in
      ⊎_elim (λ earlier. so_far.none (omega arith) x from earlier) (λ here. let is : x ≡ i = omega arith in rw is (xor_zero (slice_index colours i) (slice_index row i) (omega arith))) (cases_lt x i);
  same = λ h.
      ap (λ n. bit_or n (bit_xor (slice_index colours i) (slice_index row i))) (so_far.same (λ x from below. h x from (omega arith)))
      ∙ ap (λ n. bit_or 0 (bit_xor n (slice_index row i))) (h i (omega arith) (omega arith))
      ∙ ap (bit_or 0) (xor_self (slice_index row i));
}

-- where none differs, as many are counted before as behind
count_run : (colours row : List ℕ) (i k : ℕ) → AreSame colours row i (i + k) → difference_count colours row (i + k) ≡ difference_count colours row i
count_run colours row i zero same = let e : i + 0 ≡ i = omega arith in rw e refl
count_run colours row i (suc k) same =
    let e : i + suc k ≡ (i + k) + 1 = omega arith in
    rw e (count_same colours row (i + k) (same (i + k) (omega arith) (omega arith)) ∙ count_run colours row i k (λ x from below. same x from (omega arith)))

-- where two rows differ, if they do, in the columns to below one
pub record IsDifferenceTo (colours row : List ℕ) (columns : ℕ) (d : RowDifference) : Type 0 where
  pub some : d.from < d.to
  pub inside : d.to ≤ columns
  pub first : slice_index colours d.from ≢ slice_index row d.from
  pub last : slice_index colours (d.to - 1) ≢ slice_index row (d.to - 1)
  pub before : AreSame colours row 0 d.from
  pub behind : AreSame colours row d.to columns
  pub places : d.places ≡ difference_count colours row columns
  pub some_places : 0 < d.places

abbrev pub DifferTo : List ℕ → List ℕ → ℕ → Option RowDifference → Type 0
DifferTo colours row columns difference = MatchOption difference (AreSame colours row 0 columns) (IsDifferenceTo colours row columns)

joined : (colours row : List ℕ) (a b c : ℕ) → AreSame colours row a b → AreSame colours row b c → AreSame colours row a c
joined colours row a b c left right x from below = ⊎_elim (λ earlier. left x from earlier) (λ later. right x later below) (cases_lt x b)

-- columns in which none differs
pub differ_same : (colours row : List ℕ) (from to : ℕ) (difference : Option RowDifference) → from ≤ to → AreSame colours row from to
    → DifferTo colours row from difference → DifferTo colours row to difference
differ_same colours row from to None order same h = joined colours row 0 from to h same
differ_same colours row from to (Some d) order same h = record {
  some = h.some;
  inside = omega (arith, order, h.inside);
  first = h.first;
  last = h.last;
  before = h.before;
  behind = joined colours row d.to from to h.behind same;
  places = let e : from + (to - from) ≡ to = omega (arith, order) in
      h.places ∙ sym (rw e at (count_run colours row from (to - from) (rw e same)));
  some_places = h.some_places;
}

-- where a row differs, with a block from a column on
abbrev pub with_block : Option RowDifference → ℕ → Option RowDifference → Option RowDifference
with_block so_far from None = so_far
with_block None from (Some d) = Some (record { from = from + d.from; to = from + d.to; places = d.places })
with_block (Some before) from (Some d) = Some (record { from = before.from; to = from + d.to; places = before.places + d.places })

-- the places of two lists from one on are those of two others
pub record IsPart (colours row : List ℕ) (from : ℕ) (block_colours block : List ℕ) : Type 0 where
  pub colours_at : (x : ℕ) → x < length block → slice_index block_colours x ≡ slice_index colours (from + x)
  pub row_at : (x : ℕ) → x < length block → slice_index block x ≡ slice_index row (from + x)

module _ (colours row : List ℕ) (from : ℕ) (block_colours block : List ℕ) (part : IsPart colours row from block_colours block) where
  count_part : (n : ℕ) → n ≤ length block → difference_count colours row (from + n) ≡ difference_count colours row from + difference_count block_colours block n
  count_part zero inside = let e : from + 0 ≡ from = omega arith in rw e (omega arith)
  count_part (suc n) inside =
      let before = count_part n (omega arith) in
      let e : from + (n + 1) ≡ (from + n) + 1 = omega arith in
      let e' : n + 1 ≡ suc n = omega arith in
      subst (λ k. difference_count colours row (from + k) ≡ difference_count colours row from + difference_count block_colours block k) e'
      (⊎_elim
      (λ same.
      let there = count_same colours row (from + n) (sym (part.colours_at n inside) ∙ same ∙ part.row_at n inside) in
      rw e (omega (there, before, count_same block_colours block n same, arith)))
      (λ other.
      let there = count_differing colours row (from + n) (λ h. other (part.colours_at n inside ∙ h ∙ sym (part.row_at n inside))) in
      rw e (omega (there, before, count_differing block_colours block n other, arith)))
      (cases_eq (slice_index block_colours n) (slice_index block n)))

  same_part : (a b : ℕ) → b ≤ length block → AreSame block_colours block a b → AreSame colours row (from + a) (from + b)
  same_part a b inside same x left below =
      let e : from + (x - from) ≡ x = omega (arith, left) in
      let here : x - from < length block = omega (arith, left, below, inside) in
      ap (slice_index colours) (sym e) ∙ sym (part.colours_at (x - from) here) ∙ same (x - from) (omega (arith, left)) (omega (arith, left, below)) ∙ part.row_at (x - from) here ∙ ap (slice_index row) e

  other_part : (x : ℕ) → x < length block → slice_index block_colours x ≢ slice_index block x → slice_index colours (from + x) ≢ slice_index row (from + x)
  other_part x inside other = λ h. other (part.colours_at x inside ∙ h ∙ sym (part.row_at x inside))

  -- a block behind the columns to below its first
  pub differ_block : (so_far found : Option RowDifference) → DifferTo colours row from so_far
      → MatchOption found (AreSame block_colours block 0 (length block)) (λ d. IsDifference block_colours block d) → DifferTo colours row (from + length block) (with_block so_far from found)
  differ_block so_far None h same =
      let e : from + 0 ≡ from = omega arith in
      differ_same colours row from (from + length block) so_far (omega arith) (rw e at (same_part 0 (length block) (omega arith) same)) h
  differ_block None (Some d) h is = record {
    some = omega (arith, is.some);
    inside = omega (arith, is.inside);
    first = other_part d.from (omega (arith, is.some, is.inside)) is.first;
    last = let e : (from + d.to) - 1 ≡ from + (d.to - 1) = omega (arith, is.some) in rw e (other_part (d.to - 1) (omega (arith, is.some, is.inside)) is.last);
    before = let e : from + 0 ≡ from = omega arith in joined colours row 0 from (from + d.from) h (rw e at (same_part 0 d.from (omega (arith, is.some, is.inside)) is.before));
    behind = same_part d.to (length block) (omega arith) is.behind;
    places = is.places ∙ omega (count_part (length block) (omega arith), none_differs colours row from h, arith);
    some_places = is.some_places;
  }
  differ_block (Some before) (Some d) h is = record {
    some = omega (arith, h.some, h.inside, is.some);
    inside = omega (arith, is.inside);
    first = h.first;
    last = let e : (from + d.to) - 1 ≡ from + (d.to - 1) = omega (arith, is.some) in rw e (other_part (d.to - 1) (omega (arith, is.some, is.inside)) is.last);
    before = h.before;
    behind = same_part d.to (length block) (omega arith) is.behind;
    places = omega (count_part (length block) (omega arith), h.places, is.places, arith);
    some_places = omega (arith, h.some_places);
  }

-- all columns
pub differ_all : (colours row : List ℕ) (difference : Option RowDifference) → DifferTo colours row (length row) difference
    → MatchOption difference (AreSame colours row 0 (length row)) (λ d. IsDifference colours row d)
differ_all colours row None h = h
differ_all colours row (Some d) h = record { some = h.some; inside = h.inside; first = h.first; last = h.last; before = h.before; behind = h.behind; places = h.places; some_places = h.some_places }

part_at : (l : List ℕ) (from count i : ℕ) → i < count → slice_index (take count (drop from l)) i ≡ slice_index l (from + i)
part_at l from count i inside = get_or-take count (drop from l) i 0 inside ∙ get_or-drop from l i 0

-- pixels and places of a row from one on
pub is_part : {A : Type 0} (f : A → ℕ) (pixels : List A) (row : List ℕ) (from to : ℕ) → from ≤ to → to ≤ length row
    → IsPart (map f pixels) row from (map f (take (to - from) (drop from pixels))) (take (to - from) (drop from row))
is_part f pixels row from to order inside =
    let long : length (take (to - from) (drop from row)) ≡ to - from = length-take-le (to - from) (drop from row) (omega (arith, length-drop from row, inside)) in
    let mapped : map f (take (to - from) (drop from pixels)) ≡ take (to - from) (drop from (map f pixels)) =
    sym (take-map f (to - from) (drop from pixels)) ∙ ap (take (to - from)) (sym (drop-map f from pixels)) in
    record {
      colours_at = λ x below. ap (λ l. slice_index l x) mapped ∙ part_at (map f pixels) from (to - from) x (omega (arith, long, below));
      row_at = λ x below. part_at row from (to - from) x (omega (arith, long, below));
    }

block_fits : (colours row : List ℕ) (from to : ℕ) (so_far found : Option RowDifference) (block_colours block : List ℕ) → DifferTo colours row from so_far → from + length block ≤ to → to < 2 ^ 64
    → MatchOption found (AreSame block_colours block 0 (length block)) (λ d. IsDifference block_colours block d)
    → IfSome found (λ d. (d.from < d.to) × (from + d.to < 2 ^ 64)) × IfSome so_far (λ before. IfSome found (λ d. before.places + d.places < 2 ^ 64))
block_fits colours row from to None None block_colours block h within small is = (tt, tt)
block_fits colours row from to (Some before) None block_colours block h within small is = (tt, tt)
block_fits colours row from to None (Some d) block_colours block h within small is = ((is.some, omega (arith, is.inside)), tt)
block_fits colours row from to (Some before) (Some d) block_colours block h within small is =
    ((is.some, omega (arith, is.inside)), omega (arith, h.places, is.places, count_at_most colours row from, count_at_most block_colours block (length block)))

module _ {A : Type 0} (f : A → ℕ) (pixels : List A) (row : List ℕ) (from to : ℕ) (order : from ≤ to) (inside : to ≤ length row) where
  long : from + length (take (to - from) (drop from row)) ≡ to
  long = omega (arith, order, length-take-le (to - from) (drop from row) (omega (arith, length-drop from row, inside)))

  abbrev pub DiffersThere : Option RowDifference → Type 0
  DiffersThere found = MatchOption found (AreSame (map f (take (to - from) (drop from pixels))) (take (to - from) (drop from row)) 0 (length (take (to - from) (drop from row))))
      (λ d. IsDifference (map f (take (to - from) (drop from pixels))) (take (to - from) (drop from row)) d)

  -- what with_block wants, and what it makes
  pub slice_fits : (so_far found : Option RowDifference) → length row < 2 ^ 64 → DifferTo (map f pixels) row from so_far → DiffersThere found
      → IfSome found (λ d. (d.from < d.to) × (from + d.to < 2 ^ 64)) × IfSome so_far (λ before. IfSome found (λ d. before.places + d.places < 2 ^ 64))
  slice_fits so_far found small h there = block_fits (map f pixels) row from to so_far found _ _ h (omega (arith, long)) (omega (arith, inside, small)) there

  pub differ_slice : (so_far found : Option RowDifference) → DifferTo (map f pixels) row from so_far → DiffersThere found → DifferTo (map f pixels) row to (with_block so_far from found)
  differ_slice so_far found h there =
      subst (λ n. DifferTo (map f pixels) row n (with_block so_far from found)) long (differ_block (map f pixels) row from _ _ (is_part f pixels row from to order inside) so_far found h there)

pub difference_is : (colours row : List ℕ) (d : RowDifference) → d.from ≤ length row → AreSame colours row 0 d.from
    → (d.from < length row → slice_index colours d.from ≢ slice_index row d.from) → d.to ≤ length row → AreSame colours row d.to (length row)
    → (0 < d.to → slice_index colours (d.to - 1) ≢ slice_index row (d.to - 1)) → d.places ≡ difference_count colours row (length row) → (AreSame colours row 0 (length row) → ⊥) → IsDifference colours row d
difference_is colours row d left before first right behind last counted some =
    let inside : d.from < length row = ⊎_elim (λ h. h) (λ whole. absurd (some (λ x from below. before x from (omega arith)))) (cases_lt d.from (length row)) in
    let counts : 0 < d.places = ⊎_elim (λ h. h) (λ none. absurd (some (none_counted colours row (length row) (omega arith)))) (cases_lt 0 d.places) in
    let ordered : d.from < d.to = ⊎_elim (λ h. h) (λ crossed. absurd (first inside (behind d.from crossed inside))) (cases_lt d.from d.to) in
    record { some = ordered; inside = right; first = first inside; last = last (omega arith); before = before; behind = behind; places = counted; some_places = counts }
