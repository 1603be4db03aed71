-- Bands that were moved are bands, and have the moved places.
use Rattle.std.proofs.Common.{◌≡◌, ◌&&◌, List, [], ◌∷◌, map, refl, sym, ◌∙◌, ap, subst, arith}
use Rattle.std.specs.Prelude.{ℤ, ◌+ℤ◌, ◌<ℤ◌, ◌≤ℤ◌, int_lt, int_le, ◌||◌}
use Rattle.std.proofs.lemmas.Int.{ints}
use Rattle.region_bands.specs.declared.Interval.{Interval}
use Rattle.region_bands.specs.Bands.{Band, rows_of}
use Rattle.region_rows.specs.Rows.{IsRow, row_has}
use Rattle.region_sets.specs.Sets.{in_rows, has, IsBand, Follows, AreBands}
use Rattle.region_sets.specs.Moves.{moved_interval, moved_band}

same_le : (a x d : ℤ) → int_le (a +ℤ d) (x +ℤ d) ≡ int_le a x
same_le a x d = grind (arith, ints)

same_lt : (a x d : ℤ) → int_lt (a +ℤ d) (x +ℤ d) ≡ int_lt a x
same_lt a x d = grind (arith, ints)

within : (a b x d : ℤ) → (int_le (a +ℤ d) (x +ℤ d) && int_lt (x +ℤ d) (b +ℤ d)) ≡ (int_le a x && int_lt x b)
within a b x d = ap (λ t. t && int_lt (x +ℤ d) (b +ℤ d)) (same_le a x d) ∙ ap (λ t. int_le a x && t) (same_lt x b d)

row_moved : (dx : ℤ) (row : List Interval) (x : ℤ) → row_has (map (moved_interval dx) row) (x +ℤ dx) ≡ row_has row x
row_moved dx [] x = refl
row_moved dx (i ∷ row) x = ap (λ t. t || row_has (map (moved_interval dx) row) (x +ℤ dx)) (within i.from i.to x dx) ∙ ap (λ t. (int_le i.from x && int_lt x i.to) || t) (row_moved dx row x)

pub has_moved : (dx dy : ℤ) (bands : List Band) (x y : ℤ) → has (map (moved_band dx dy) bands) (x +ℤ dx) (y +ℤ dy) ≡ has bands x y
has_moved dx dy [] x y = refl
has_moved dx dy (b ∷ bands) x y =
    ap (λ t. (t && row_has (map (moved_interval dx) b.row) (x +ℤ dx)) || has (map (moved_band dx dy) bands) (x +ℤ dx) (y +ℤ dy)) (within b.top b.bottom y dy)
    ∙ ap (λ t. (in_rows (rows_of b) y && t) || has (map (moved_band dx dy) bands) (x +ℤ dx) (y +ℤ dy)) (row_moved dx b.row x)
    ∙ ap (λ t. (in_rows (rows_of b) y && row_has b.row x) || t) (has_moved dx dy bands x y)

less : (a b d : ℤ) → a <ℤ b → (a +ℤ d) <ℤ (b +ℤ d)
less a b d h = omega (arith, ints, h)

most : (a b d : ℤ) → a ≤ℤ b → (a +ℤ d) ≤ℤ (b +ℤ d)
most a b d h = omega (arith, ints, h)

back : (a b d : ℤ) → (a +ℤ d) ≡ (b +ℤ d) → a ≡ b
back a b d h = omega (arith, ints, h)

row_is_moved : (dx : ℤ) (row : List Interval) → IsRow row → IsRow (map (moved_interval dx) row)
row_is_moved dx [] h = tt
row_is_moved dx (i ∷ []) h = less i.from i.to dx h
row_is_moved dx (i ∷ j ∷ row) h = (less i.from i.to dx h.0, less i.to j.from dx h.1, row_is_moved dx (j ∷ row) h.2)

same_interval : (i j : Interval) → i.from ≡ j.from → i.to ≡ j.to → i ≡ j
same_interval i j e f = ap (λ n. record i { from = n }) e ∙ ap (λ n. record i { from = j.from; to = n }) f

abbrev first_from : Interval → List Interval → ℤ
first_from i [] = i.from
first_from i (j ∷ row) = j.from

abbrev first_to : Interval → List Interval → ℤ
first_to i [] = i.to
first_to i (j ∷ row) = j.to

abbrev others : List Interval → List Interval
others [] = []
others (i ∷ row) = row

-- rows that are the same once they were moved were the same
row_back : (dx : ℤ) (a b : List Interval) → map (moved_interval dx) a ≡ map (moved_interval dx) b → a ≡ b
row_back dx [] [] e = refl
row_back dx [] (j ∷ b) e = absurd (cc)
row_back dx (i ∷ a) [] e = absurd (cc)
row_back dx (i ∷ a) (j ∷ b) e =
    ap (λ k. k ∷ a) (same_interval i j (back i.from j.from dx (ap (first_from i) e)) (back i.to j.to dx (ap (first_to i) e))) ∙ ap (λ l. j ∷ l) (row_back dx a b (ap others e))

band_moved : (dx dy : ℤ) (b : Band) → IsBand b → IsBand (moved_band dx dy b)
band_moved dx dy b h = record { some = less b.top b.bottom dy h.some; row = row_is_moved dx b.row h.row; columns = λ none. h.columns (row_back dx b.row [] none) }

follows_moved : (dx dy : ℤ) (b c : Band) → Follows b c → Follows (moved_band dx dy b) (moved_band dx dy c)
follows_moved dx dy b c h = record { order = most b.bottom c.top dy h.order; apart = λ touch same. h.apart (back b.bottom c.top dy touch) (row_back dx b.row c.row same) }

pub bands_moved : (dx dy : ℤ) (bands : List Band) → AreBands bands → AreBands (map (moved_band dx dy) bands)
bands_moved dx dy [] h = tt
bands_moved dx dy (b ∷ []) h = band_moved dx dy b h
bands_moved dx dy (b ∷ c ∷ bands) h = (band_moved dx dy b h.0, follows_moved dx dy b c h.1, bands_moved dx dy (c ∷ bands) h.2)

pub offset_means : (dx dy : ℤ) (bands above : List Band) → above ≡ map (moved_band dx dy) bands → (AreBands bands → AreBands above) × ((x y : ℤ) → has above (x +ℤ dx) (y +ℤ dy) ≡ has bands x y)
offset_means dx dy bands above is = (λ h. subst AreBands (sym is) (bands_moved dx dy bands h), λ x y. ap (λ l. has l (x +ℤ dx) (y +ℤ dy)) is ∙ has_moved dx dy bands x y)
