-- Bands that have the same places down to a row of pixels: those that end by it take no more nodes.
use Rattle.std.proofs.Common.{◌≡◌, ◌≢◌, ◌+◌, ◌≤◌, true, ◌&&◌, List, [], ◌∷◌, length, refl, sym, ◌∙◌, ap, arith}
use Rattle.std.specs.Prelude.{ℤ, pos, ◌<ℤ◌, ◌≤ℤ◌}
use Rattle.std.proofs.lemmas.Int.{ints, by_lt_z}
use Rattle.region_bands.specs.declared.Interval.{Interval}
use Rattle.region_bands.specs.Bands.{Band, nodes_in}
use Rattle.region_rows.specs.Rows.{IsRow, row_has}
use Rattle.region_rows.specs.RowLemmas.{true_false, some_first, has_inside, only_row}
use Rattle.region_sets.specs.Sets.{has, AreBands, EndBy}
use Rattle.region_sets.specs.StripLemmas.{first_band, band_tail, tail_from, none_above, has_below, in_the_first, has_begun}

-- a row that isn't empty has a column
pub column : (row : List Interval) → IsRow row → row ≢ [] → (x : ℤ) × (row_has row x ≡ true)
column [] h some = absurd (some refl)
column (r ∷ rs) h some = (r.from, has_inside r rs r.from (omega (arith, ints)) (some_first r rs h))

first_column : (b : Band) (bs : List Band) → AreBands (b ∷ bs) → (x : ℤ) × (row_has b.row x ≡ true)
first_column b bs h = column b.row (first_band b bs h).row (first_band b bs h).columns

-- in its rows the first band counts alone
pub at_first : (b : Band) (bs : List Band) → AreBands (b ∷ bs) → (x z : ℤ) → b.top ≤ℤ z → z <ℤ b.bottom → has (b ∷ bs) x z ≡ row_has b.row x
at_first b bs h x z low high = in_the_first b bs x z h high ∙ ap (λ t. t && row_has b.row x) (has_begun b z low)

-- a place is not above the first band
pub begins : (b : Band) (bs : List Band) (x z : ℤ) → AreBands (b ∷ bs) → has (b ∷ bs) x z ≡ true → b.top ≤ℤ z
begins b bs x z h there = by_lt_z z b.top
    (λ less. absurd (true_false (sym there ∙ none_above x z b.top (b ∷ bs) h (omega (arith, ints)) less)))
    (λ more. more)

-- below its end a band's row doesn't go on
goes_not_on : (p : Band) (ps : List Band) → AreBands (p ∷ ps) → ((x : ℤ) → has (p ∷ ps) x p.bottom ≡ row_has p.row x) → ⊥
goes_not_on p [] h same =
    let c = first_column p [] h in
    true_false (sym c.1 ∙ sym (same c.0) ∙ has_below p [] c.0 p.bottom (omega (arith, ints)))
goes_not_on p (q ∷ qs) h same =
    let c = first_column p (q ∷ qs) h in
    let there : has (q ∷ qs) c.0 p.bottom ≡ true = sym (has_below p (q ∷ qs) c.0 p.bottom (omega (arith, ints))) ∙ same c.0 ∙ c.1 in
    let low : q.top ≤ℤ p.bottom = begins q qs c.0 p.bottom h.2 there in
    let some : q.top <ℤ q.bottom = (first_band q qs h.2).some in
    let order : p.bottom ≤ℤ q.top = h.1.order in
    h.1.apart (omega (arith, ints, low, order))
    (only_row p.row q.row h.0.row (first_band q qs h.2).row
    (λ x. sym (same x) ∙ has_below p (q ∷ qs) x p.bottom (omega (arith, ints)) ∙ at_first q qs h.2 x p.bottom low (omega (arith, ints, order, some))))

none_left : (y : ℤ) (p : Band) (ps : List Band) → AreBands (p ∷ ps) → EndBy y ps → y ≤ℤ p.bottom → ps ≡ []
none_left y p [] h e more = refl
none_left y p (r ∷ rs) h e more =
    let some : r.top <ℤ r.bottom = (first_band r rs h.2).some in
    let order : p.bottom ≤ℤ r.top = h.1.order in
    let high : r.bottom ≤ℤ y = e.0 in
    absurd (omega (arith, ints, some, order, high, more))

pub cut_few : (y : ℤ) (made whole : List Band) → AreBands made → AreBands whole → EndBy y made → ((x z : ℤ) → z <ℤ y → has made x z ≡ has whole x z) → nodes_in made ≤ nodes_in whole
cut_few y [] whole h k e same = omega arith
cut_few y (p ∷ ps) [] h k e same =
    let some : p.top <ℤ p.bottom = (first_band p ps h).some in
    let high : p.bottom ≤ℤ y = e.0 in
    let c = first_column p ps h in
    absurd (true_false (sym c.1 ∙ sym (at_first p ps h c.0 p.top (omega (arith, ints)) some) ∙ same c.0 p.top (omega (arith, ints, some, high))))
cut_few y (p ∷ ps) (q ∷ qs) h k e same =
    let some : p.top <ℤ p.bottom = (first_band p ps h).some in
    let some' : q.top <ℤ q.bottom = (first_band q qs k).some in
    let high : p.bottom ≤ℤ y = e.0 in
    let c = first_column p ps h in
    let d = first_column q qs k in
    let inside : p.top <ℤ y = omega (arith, ints, some, high) in
    let above : q.top ≤ℤ p.top = begins q qs c.0 p.top k (sym (same c.0 p.top inside) ∙ at_first p ps h c.0 p.top (omega (arith, ints)) some ∙ c.1) in
    let below : p.top ≤ℤ q.top = begins p ps d.0 q.top h (same d.0 q.top (omega (arith, ints, inside, above)) ∙ at_first q qs k d.0 q.top (omega (arith, ints)) some' ∙ d.1) in
    let rows : p.row ≡ q.row = only_row p.row q.row (first_band p ps h).row (first_band q qs k).row
    (λ x. sym (at_first p ps h x p.top (omega (arith, ints)) some) ∙ same x p.top inside ∙ at_first q qs k x p.top above (omega (arith, ints, below, some'))) in
    by_lt_z q.bottom p.bottom
    (λ less. absurd (goes_not_on q qs k (λ x. sym (same x q.bottom (omega (arith, ints, less, high))) ∙ at_first p ps h x q.bottom (omega (arith, ints, below, some')) less ∙ ap (λ l. row_has l x) rows)))
    (λ more. by_lt_z p.bottom q.bottom
    (λ shorter. by_lt_z p.bottom y
    (λ before. absurd (goes_not_on p ps h (λ x. same x p.bottom before ∙ at_first q qs k x p.bottom (omega (arith, ints, above, some)) shorter ∙ ap (λ l. row_has l x) (sym rows))))
    (λ last. omega (arith, ap length rows, ap nodes_in (none_left y p ps h e.1 last))))
    (λ longer. omega (
      arith,
      ap length rows,
      cut_few y ps qs (band_tail p ps h) (band_tail q qs k) e.1 (λ x z before. by_lt_z z p.bottom
          (λ l. none_above x z p.bottom ps (band_tail p ps h) (tail_from p ps h) l ∙ sym (none_above x z q.bottom qs (band_tail q qs k) (tail_from q qs k) (omega (arith, ints, l, more))))
          (λ m. sym (has_below p ps x z m) ∙ same x z before ∙ has_below q qs x z (omega (arith, ints, m, longer)))),
    )))

-- a row of places of the bands is that of one of them
pub row_few : (z : ℤ) (row : List Interval) (whole : List Band) → AreBands whole → IsRow row → row ≢ [] → ((x : ℤ) → has whole x z ≡ row_has row x) → 2 + length row ≤ nodes_in whole
row_few z row [] k r some same = let c = column row r some in absurd (true_false (sym c.1 ∙ sym (same c.0)))
row_few z row (q ∷ qs) k r some same = by_lt_z z q.bottom
    (λ less.
    let c = column row r some in
    let low : q.top ≤ℤ z = begins q qs c.0 z k (same c.0 ∙ c.1) in
    let rows : q.row ≡ row = only_row q.row row (first_band q qs k).row r (λ x. sym (at_first q qs k x z low less) ∙ same x) in
    omega (arith, ap length rows))
    (λ more. omega (arith, row_few z row qs (band_tail q qs k) r some (λ x. sym (has_below q qs x z more) ∙ same x)))

-- somewhere all bands have ended
end_of : (bs : List Band) → AreBands bs → (y : ℤ) × EndBy y bs
end_of [] h = (pos 0, tt)
end_of (b ∷ []) h = (b.bottom, (omega (arith, ints), tt))
end_of (b ∷ c ∷ rest) h =
    let end = end_of (c ∷ rest) h.2 in
    let order : b.bottom ≤ℤ c.top = h.1.order in
    let some : c.top <ℤ c.bottom = (first_band c rest h.2).some in
    let low : c.bottom ≤ℤ end.0 = end.1.0 in
    (end.0, (omega (arith, ints, order, some, low), end.1))

-- bands with the same places take as many nodes
pub same_few : (a b : List Band) → AreBands a → AreBands b → ((x z : ℤ) → has a x z ≡ has b x z) → nodes_in a ≤ nodes_in b
same_few a b h k same = let end = end_of a h in cut_few end.0 a b h k end.1 (λ x z less. same x z)
