-- What is gathered, as rows come.
use Rattle.std.proofs.Common.{◌≡◌, ℕ, suc, ◌+◌, ◌-◌, ◌*◌, ◌<◌, ◌≤◌, List, length, map, take, get_or, set, slice_index, false, refl, sym, ◌∙◌, ap, subst, ⊎_elim, arith}
use Rattle.std.specs.Prelude.{sum, All}
use Rattle.std.specs.List.{range_with_len}
use Rattle.std.proofs.lemmas.Bool.{cases_lt, cases_eq, both_ways}
use Rattle.std.proofs.lemmas.List.{length-take, length_push, length-set, get_or-set_same, get_or-set_other}
use Rattle.std.proofs.lemmas.List.FromFn.{sum_by-map-range_with_len_more, get_or-map-range_with_len}
use Rattle.source_pixels.specs.declared.bands.Band.{Band}
use Rattle.source_pixels.specs.declared.rows.RowDifference.{RowDifference}
use Rattle.source_pixels.specs.Source.{Source, colour_at, colours_at}
use Rattle.source_pixels.specs.Rows.{AreSame, IsDifference}
use Rattle.source_pixels.specs.RowLemmas.{count_at_most, none_differs}
use Rattle.source_pixels.specs.Parts.{Part}
use Rattle.source_pixels.specs.Bands.{is_in_band, IsBand, IsJoint, IsThrifty, AreBands, Adds}
use Rattle.source_pixels.specs.Differences.{columns_beside, row_beside, row_count, HaveSpans}
use Rattle.source_pixels.specs.Gathering.{IsSameAt, IsNearBand, AreGathered}
use Rattle.source_pixels.proofs.BandLemmas.{is_in, pushed_at, row_same, row_pushed, row_joined}

-- the colours of a row by place
colour_is : (s : Source) (y n x : ℕ) → x < n → slice_index (colours_at s 0 y n) x ≡ colour_at s x y
colour_is s y n x below = get_or-map-range_with_len (λ k. colour_at s (0 + k) y) 0 n x x 0 below (omega arith) ∙ ap (λ m. colour_at s m y) (let e : 0 + x ≡ x = omega arith in e)

total_more : (s : Source) (p : Part) (start y : ℕ) → start ≤ y
    → sum (map (row_count s p) (range_with_len start (y + 1 - start))) ≡ sum (map (row_count s p) (range_with_len start (y - start))) + row_count s p y
total_more s p start y low =
    ap (λ n. sum (map (row_count s p) (range_with_len start n))) (let e : y + 1 - start ≡ (y - start) + 1 = omega arith in e)
    ∙ sum_by-map-range_with_len_more (λ (n : ℕ). n) (row_count s p) start (y - start) y (omega arith)

area_more : (width start y : ℕ) → start ≤ y → width * (y + 1 - start) ≡ width * (y - start) + width
area_more width start y low = ap (λ n. width * n) (let e : y + 1 - start ≡ (y - start) + 1 = omega arith in e) ∙ omega arith

beside_fits : (s : Source) (p : Part) (y : ℕ) → length (row_beside s p y) ≤ s.width
beside_fits s p y = let long = length-take (columns_beside s p) (p.row y) in omega arith

beside_narrow : (s : Source) (p : Part) (y : ℕ) → length (row_beside s p y) ≤ columns_beside s p
beside_narrow s p y = let long = length-take (columns_beside s p) (p.row y) in omega arith

-- where a row differs from the picture's
abbrev IsRowDifference : Source → Part → ℕ → RowDifference → Type 0
IsRowDifference s p y d = IsDifference (colours_at s 0 y (length (row_beside s p y))) (row_beside s p y) d

-- a row that differs, alone
near_one : (s : Source) (p : Part) (y : ℕ) (d : RowDifference) (b : Band) → IsRowDifference s p y d → b.top ≡ y → b.bottom ≡ y + 1 → b.from ≡ d.from → b.to ≡ d.to → b.spans ≡ d.to - d.from → IsNearBand s p b
near_one s p y d b other top bottom from to spans =
    let one : b.bottom - b.top ≡ 1 = omega arith in
    let here : y ≡ b.top + 0 = omega arith in
    let product = ap (λ n. (b.to - b.from) * n) one in (
      record {
        spans = d.to - d.from;
        have_spans = subst (λ n. HaveSpans s p b.top n (d.to - d.from)) (sym one) (d, subst (λ n. IsRowDifference s p n d) here other, 0, refl, omega arith);
        near = omega arith;
        small = λ more. absurd (omega arith);
      },
      omega arith,
    )

-- a row that differs, joined with the band above it
near_joint : (s : Source) (p : Part) (y : ℕ) (d : RowDifference) (above b joint : Band) → IsRowDifference s p y d → b.top ≡ y → b.bottom ≡ y + 1 → b.spans ≡ d.to - d.from
    → above.top < above.bottom → IsNearBand s p above → IsJoint above b joint → IsThrifty joint → IsNearBand s p joint
near_joint s p y d above b joint other top bottom spans some h joins thrifty =
    let all : ℕ = h.0.spans + (d.to - d.from) in
    let t = joins.top in let u = joins.bottom in let v = joins.below in let w = joins.spans in let k = h.1 in
    let rows : joint.bottom - joint.top ≡ suc (above.bottom - above.top) = omega arith in
    let here : y ≡ above.top + (above.bottom - above.top) = omega arith in
    let near = thrifty.near in (
      record {
        spans = all;
        have_spans = subst (λ n. HaveSpans s p joint.top n all) (sym rows) (subst (λ n. HaveSpans s p n (suc (above.bottom - above.top)) all) (sym t)
            (d, subst (λ n. IsRowDifference s p n d) here other, h.0.spans, h.0.have_spans, refl));
        near = omega arith;
        small = λ more. thrifty.small;
      },
      omega arith,
    )

-- a row that is the same
pub gathered_same : (s : Source) (p : Part) (start y : ℕ) (bands : List Band) (places : ℕ) → start ≤ y → AreGathered s p start y bands places
    → AreSame (colours_at s 0 y (length (row_beside s p y))) (row_beside s p y) 0 (length (row_beside s p y)) → AreGathered s p start (y + 1) bands places
gathered_same s p start y bands places low h same = record {
  are_bands = row_same (columns_beside s p) (IsSameAt s p) start y bands h.are_bands
      (λ x inside. sym (colour_is s y (length (row_beside s p y)) x inside) ∙ same x (omega arith) inside);
  counted =
      let none : row_count s p y ≡ 0 = none_differs (colours_at s 0 y (length (row_beside s p y))) (row_beside s p y) (length (row_beside s p y)) same in
      let more = total_more s p start y low in let so_far = h.counted in omega arith;
  near = h.near;
  few = h.few;
  small = let so_far = h.small in let more = area_more s.width start y low in omega arith;
}

-- a row that differs
pub gathered_more : (s : Source) (p : Part) (start y : ℕ) (bands now : List Band) (places : ℕ) (d : RowDifference) (b : Band) → start ≤ y → AreGathered s p start y bands places
    → IsDifference (colours_at s 0 y (length (row_beside s p y))) (row_beside s p y) d → b.top ≡ y → b.bottom ≡ y + 1 → b.from ≡ d.from → b.to ≡ d.to → b.spans ≡ d.to - d.from → Adds bands b now
    → AreGathered s p start (y + 1) now (places + d.places)
gathered_more s p start y bands now places d b low h other top bottom from to spans adds = record {
  are_bands = ⊎_elim
      (λ pushed. subst (λ (l : List Band). AreBands (columns_beside s p) (IsSameAt s p) start (y + 1) l) (sym pushed)
      (row_pushed (columns_beside s p) (IsSameAt s p) start y bands b h.are_bands fits top outside))
      (λ joined. subst (λ (l : List Band). AreBands (columns_beside s p) (IsSameAt s p) start (y + 1) l) (sym joined.2.1.1)
      (row_joined (columns_beside s p) (IsSameAt s p) start y bands b joined.1 h.are_bands fits top outside joined.0 joined.2.0))
      adds;
  counted = let more = total_more s p start y low in let so_far = h.counted in let here = other.places in omega arith;
  near = ⊎_elim
      (λ pushed. subst (λ (l : List Band). All (IsNearBand s p) l) (sym pushed) (λ k e below.
      ⊎_elim (λ first. subst (IsNearBand s p) (sym first.1) (h.near k e first.0)) (λ last. subst (IsNearBand s p) (sym last.1) (near_one s p y d b other top bottom from to spans)) (pushed_at bands b k e below)))
      (λ joined. subst (λ (l : List Band). All (IsNearBand s p) l) (sym joined.2.1.1) (near_set joined.1 joined.0 joined.2.0 joined.2.1.0))
      adds;
  few = let so_far = h.few in let here = other.some_places in
      ⊎_elim (λ pushed. let e = ap length pushed ∙ length_push bands b in omega arith) (λ joined. let e = ap length joined.2.1.1 ∙ length-set bands (length bands - 1) joined.1 in omega arith) adds;
  small =
      let so_far = h.small in let here = other.places in
      let most = count_at_most (colours_at s 0 y (length (row_beside s p y))) (row_beside s p y) (length (row_beside s p y)) in
      let narrow = beside_fits s p y in
      let more = area_more s.width start y low in omega arith;
}
  where
    fits : IsBand (columns_beside s p) start (y + 1) b
    fits = let a = other.some in let c = other.inside in let narrow = beside_narrow s p y in record { some_columns = omega arith; wide = omega arith; some_rows = omega arith; low = omega arith; high = omega arith }

    at : ℕ
    at = length bands - 1

    near_set : (joint : Band) → 0 < length bands → IsJoint (get_or bands at b) b joint → IsThrifty joint → All (IsNearBand s p) (set bands at joint)
    near_set joint some joins thrifty k e below =
        let long = length-set bands at joint in
        let inside : at < length bands = omega arith in
        ⊎_elim
        (λ last. subst (IsNearBand s p) (sym (ap (λ n. get_or (set bands at joint) n e) last ∙ get_or-set_same bands at joint e inside))
        (near_joint s p y d (get_or bands at b) b joint other top bottom spans (h.are_bands.each at b inside).some_rows (h.near at b inside) joins thrifty))
        (λ another. subst (IsNearBand s p) (sym (get_or-set_other bands at k joint e another)) (h.near k e (omega arith)))
        (cases_eq k at)

    outside : (x : ℕ) → is_in_band b x y ≡ false → IsSameAt s p x y
    outside x out inside =
        sym (colour_is s y (length (row_beside s p y)) x inside)
        ∙ ⊎_elim (λ before. other.before x (omega arith) before)
        (λ after. ⊎_elim
        (λ within. absurd (both_ways _ out (is_in b x y (record { left = omega arith; right = omega arith; top = omega arith; bottom = omega arith }))))
        (λ behind. other.behind x behind inside)
        (cases_lt x d.to))
        (cases_lt x d.from)

-- as a row's difference is told, where so many columns are looked at
pub gathered_told : (s : Source) (p : Part) (start y columns : ℕ) (bands now : List Band) (places : ℕ) (d : RowDifference) (b : Band) → columns ≡ columns_beside s p → start ≤ y → AreGathered s p start y bands places
    → IsDifference (colours_at s 0 y (length (take columns (p.row y)))) (take columns (p.row y)) d → b.top ≡ y → b.bottom ≡ y + 1 → b.from ≡ d.from → b.to ≡ d.to → b.spans ≡ d.to - d.from → Adds bands b now
    → AreGathered s p start (y + 1) now (places + d.places)
gathered_told s p start y columns bands now places d b same low h other =
    gathered_more s p start y bands now places d b low h (subst (λ n. IsDifference (colours_at s 0 y (length (take n (p.row y)))) (take n (p.row y)) d) same other)

pub gathered_silent : (s : Source) (p : Part) (start y columns : ℕ) (bands : List Band) (places : ℕ) → columns ≡ columns_beside s p → start ≤ y → AreGathered s p start y bands places
    → AreSame (colours_at s 0 y (length (take columns (p.row y)))) (take columns (p.row y)) 0 (length (take columns (p.row y))) → AreGathered s p start (y + 1) bands places
gathered_silent s p start y columns bands places same low h none =
    gathered_same s p start y bands places low h (subst (λ n. AreSame (colours_at s 0 y (length (take n (p.row y)))) (take n (p.row y)) 0 (length (take n (p.row y)))) same none)
