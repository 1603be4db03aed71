-- What is gathered of rows, and of the rows below them.
use Rattle.std.proofs.Common.{◌≡◌, ℕ, zero, suc, false, ◌&&◌, ◌+◌, ◌-◌, ◌*◌, ◌<◌, ◌≤◌, List, [], ◌∷◌, ◌++◌, length, map, take, get_or, slice_index, refl, sym, ◌∙◌, ap, subst, ⊎_elim, arith}
use Rattle.std.specs.Prelude.{nat_le, nat_lt, min, sum, All, AllPairs}
use Rattle.std.specs.List.{range_with_len}
use Rattle.std.proofs.lemmas.Bool.{cases_lt}
use Rattle.std.proofs.lemmas.List.{length-append, get_or_append_left, get_or-append_right, get_or-map, get_or_default, length-map}
use Rattle.std.proofs.lemmas.List.Elements.{All-append}
use Rattle.std.proofs.lemmas.List.FromFn.{sum_by-map-range_with_len_more}
use Rattle.source_pixels.specs.declared.bands.Band.{Band}
use Rattle.source_pixels.specs.declared.pieces.Piece.{Piece}
use Rattle.source_pixels.specs.Source.{Source, colour_at, colours_at}
use Rattle.source_pixels.specs.Parts.{Part}
use Rattle.source_pixels.specs.Rows.{difference_count, IsDifference}
use Rattle.source_pixels.specs.Bands.{is_in_band, IsBand, IsOutside, AreBands}
use Rattle.source_pixels.specs.Differences.{columns_beside, rows_beside, row_beside, row_count, is_in_piece, IsPiece, HaveSpans, IsNear, AreDifferences}
use Rattle.source_pixels.specs.Gathering.{IsSameAt, IsNearBand, AreGathered, piece_of}

no_bands : (columns start : ℕ) (same : ℕ → ℕ → Type 0) → AreBands columns same start start []
no_bands columns start same = record { each = λ k d below. absurd (omega arith); ordered = λ i j d before below. absurd (omega arith); whole = λ x r low below out. absurd (omega arith) }

pub gathered_none : (s : Source) (p : Part) (start : ℕ) → AreGathered s p start start [] 0
gathered_none s p start = record {
  are_bands = no_bands (columns_beside s p) start (IsSameAt s p);
  counted = ap (λ n. sum (map (row_count s p) (range_with_len start n))) (let e : 0 ≡ start - start = omega arith in e);
  near = λ k d below. absurd (omega arith);
  few = omega arith;
  small = omega arith;
}

-- ---- rows below others

all_pairs_append : {X : Type 0} (R : X → X → Type 0) (xs ys : List X) → AllPairs R xs → AllPairs R ys → ((i j : ℕ) (d : X) → i < length xs → j < length ys → R (get_or xs i d) (get_or ys j d)) → AllPairs R (xs ++ ys)
all_pairs_append R xs ys first second across i j d before below =
    let long = length-append xs ys in
    ⊎_elim
    (λ early.
    let front = get_or_append_left xs ys d i (let e : i < length xs = omega arith in e) in
    subst (λ a. R a (get_or (xs ++ ys) j d)) (sym front) (subst (R (get_or xs i d)) (sym (get_or_append_left xs ys d j early)) (first i j d before early)))
    (λ late. subst (R (get_or (xs ++ ys) i d)) (sym (get_or-append_right xs ys (length xs) j d refl late))
    (⊎_elim
    (λ early. subst (λ a. R a (get_or ys (j - length xs) d)) (sym (get_or_append_left xs ys d i early)) (across i (j - length xs) d early (omega arith)))
    (λ both. subst (λ a. R a (get_or ys (j - length xs) d)) (sym (get_or-append_right xs ys (length xs) i d refl both)) (second (i - length xs) (j - length xs) d (omega arith) (omega arith)))
    (cases_lt i (length xs))))
    (cases_lt j (length xs))

all_front : {X : Type 0} (P : X → Type 0) (xs ys : List X) → All P (xs ++ ys) → All P xs
all_front P xs ys h k d below = subst P (get_or_append_left xs ys d k below) (h k d (let long = length-append xs ys in omega arith))

all_back : {X : Type 0} (P : X → Type 0) (xs ys : List X) → All P (xs ++ ys) → All P ys
all_back P xs ys h k d below =
    subst P (get_or-append_right xs ys (length xs) (length xs + k) d refl (omega arith) ∙ ap (λ n. get_or ys n d) (let e : length xs + k - length xs ≡ k = omega arith in e))
    (h (length xs + k) d (let long = length-append xs ys in omega arith))

sum_parts : (f : ℕ → ℕ) (a m n : ℕ) → sum (map f (range_with_len a (m + n))) ≡ sum (map f (range_with_len a m)) + sum (map f (range_with_len (a + m) n))
sum_parts f a m zero = ap (λ k. sum (map f (range_with_len a k))) (let e : m + 0 ≡ m = omega arith in e) ∙ omega arith
sum_parts f a m (suc n) =
    let whole : sum (map f (range_with_len a (m + suc n))) ≡ sum (map f (range_with_len a (m + n))) + f (a + m + n) =
    ap (λ k. sum (map f (range_with_len a k))) (let e : m + suc n ≡ (m + n) + 1 = omega arith in e) ∙ sum_by-map-range_with_len_more (λ (k : ℕ). k) f a (m + n) (a + m + n) (omega arith) in
    let rest : sum (map f (range_with_len (a + m) (suc n))) ≡ sum (map f (range_with_len (a + m) n)) + f (a + m + n) =
    ap (λ k. sum (map f (range_with_len (a + m) k))) (let e : suc n ≡ n + 1 = omega arith in e) ∙ sum_by-map-range_with_len_more (λ (k : ℕ). k) f (a + m) n (a + m + n) (omega arith) in
    let before = sum_parts f a m n in
    omega arith

lower : {columns start from y : ℕ} → start ≤ from → (b : Band) → IsBand columns from y b → IsBand columns start y b
lower before b h = let low = h.low in record { some_columns = h.some_columns; wide = h.wide; some_rows = h.some_rows; low = omega arith; high = h.high }

higher : {columns start y to : ℕ} → y ≤ to → (b : Band) → IsBand columns start y b → IsBand columns start to b
higher behind b h = let high = h.high in record { some_columns = h.some_columns; wide = h.wide; some_rows = h.some_rows; low = h.low; high = omega arith }

pub bands_append : (columns start y to : ℕ) (xs ys : List Band) → start ≤ y → y ≤ to → All (IsBand columns start y) xs → All (IsBand columns y to) ys → All (IsBand columns start to) (xs ++ ys)
bands_append columns start y to xs ys before behind first second =
    All-append (IsBand columns start to) xs ys (λ k d below. higher behind (get_or xs k d) (first k d below)) (λ k d below. lower before (get_or ys k d) (second k d below))

pub gathered_append : (s : Source) (p : Part) (start y to : ℕ) (xs ys : List Band) (m n : ℕ) → start ≤ y → y ≤ to → AreGathered s p start y xs m → AreGathered s p y to ys n → AreGathered s p start to (xs ++ ys) (m + n)
gathered_append s p start y to xs ys m n before behind g h = record {
  are_bands = record {
    each = bands_append (columns_beside s p) start y to xs ys before behind g.are_bands.each h.are_bands.each;
    ordered = all_pairs_append (λ (a b : Band). a.bottom ≤ b.top) xs ys g.are_bands.ordered h.are_bands.ordered
        (λ i j d early late. let high = (g.are_bands.each i d early).high in let low = (h.are_bands.each j d late).low in omega arith);
    whole = λ x r low below out.
        let front : IsOutside xs x r = all_front (λ b. is_in_band b x r ≡ false) xs ys out in
        let back : IsOutside ys x r = all_back (λ b. is_in_band b x r ≡ false) xs ys out in
        ⊎_elim (λ above. g.are_bands.whole x r low above front) (λ here. h.are_bands.whole x r here below back) (cases_lt r y);
  };
  counted =
      let parts = sum_parts (row_count s p) start (y - start) (to - y) in
      let all : sum (map (row_count s p) (range_with_len start ((y - start) + (to - y)))) ≡ sum (map (row_count s p) (range_with_len start (to - start))) =
      ap (λ k. sum (map (row_count s p) (range_with_len start k))) (let e : (y - start) + (to - y) ≡ to - start = omega arith in e) in
      let rest : sum (map (row_count s p) (range_with_len (start + (y - start)) (to - y))) ≡ sum (map (row_count s p) (range_with_len y (to - y))) =
      ap (λ k. sum (map (row_count s p) (range_with_len k (to - y)))) (let e : start + (y - start) ≡ y = omega arith in e) in
      let first = g.counted in let second = h.counted in
      omega arith;
  near = All-append (IsNearBand s p) xs ys g.near h.near;
  few = let long = length-append xs ys in let first = g.few in let second = h.few in omega arith;
  small =
      let whole : s.width * (to - start) ≡ s.width * (y - start) + s.width * (to - y) =
      ap (λ k. s.width * k) (let e : to - start ≡ (y - start) + (to - y) = omega arith in e) ∙ omega arith in
      let first = g.small in let second = h.small in
      omega arith;
}

-- ---- a picture with the same rows

map_same : {X : Type 0} (f g : ℕ → X) (a n : ℕ) → ((r : ℕ) → a ≤ r → r < a + n → f r ≡ g r) → map f (range_with_len a n) ≡ map g (range_with_len a n)
map_same f g a zero same = refl
map_same f g a (suc n) same =
    ap (λ x. x ∷ map f (range_with_len (a + 1) n)) (same a (omega arith) (omega arith)) ∙ ap (λ l. g a ∷ l) (map_same f g (a + 1) n (λ r low below. same r (omega arith) (omega arith)))

have_spans_beside : (s : Source) (p q : Part) (start y : ℕ) → ((r : ℕ) → start ≤ r → r < y → row_beside s p r ≡ row_beside s q r)
    → (top rows spans : ℕ) → start ≤ top → top + rows ≤ y → HaveSpans s p top rows spans → HaveSpans s q top rows spans
have_spans_beside s p q start y same top zero spans low high h = h
have_spans_beside s p q start y same top (suc rows) spans low high h = (
  h.0,
  subst (λ (l : List ℕ). IsDifference (colours_at s 0 (top + rows) (length l)) l h.0) (same (top + rows) (omega arith) (omega arith)) h.1,
  h.2,
  have_spans_beside s p q start y same top rows h.2 low (omega arith) h.3,
  h.4,
)

near_beside : (s : Source) (p q : Part) (start y columns : ℕ) → ((r : ℕ) → start ≤ r → r < y → row_beside s p r ≡ row_beside s q r)
    → (b : Band) → IsBand columns start y b → IsNearBand s p b → IsNearBand s q b
near_beside s p q start y columns same b fits h =
    let some = fits.some_rows in let low = fits.low in let high = fits.high in (
      record {
        spans = h.0.spans;
        have_spans = have_spans_beside s p q start y same b.top (b.bottom - b.top) h.0.spans low (omega arith) h.0.have_spans;
        near = h.0.near;
        small = h.0.small;
      },
      h.1,
    )

pub gathered_beside : (s : Source) (p q : Part) (start y : ℕ) (bands : List Band) (places : ℕ) → start ≤ y → p.columns ≡ q.columns → ((r : ℕ) → start ≤ r → r < y → p.row r ≡ q.row r)
    → AreGathered s p start y bands places → AreGathered s q start y bands places
gathered_beside s p q start y bands places ordered wide rows h = record {
  are_bands = record {
    each = λ k d below. subst (λ n. IsBand n start y (get_or bands k d)) columns (h.are_bands.each k d below);
    ordered = h.are_bands.ordered;
    whole = λ x r low below out. subst (λ (l : List ℕ). x < length l → colour_at s x r ≡ slice_index l x) (beside r low below) (h.are_bands.whole x r low below out);
  };
  counted = h.counted ∙ ap sum (map_same (row_count s p) (row_count s q) start (y - start)
      (λ r low below. ap (λ (l : List ℕ). difference_count (colours_at s 0 r (length l)) l (length l)) (beside r low (omega arith))));
  near = λ k d below. near_beside s p q start y (columns_beside s p) beside (get_or bands k d) (h.are_bands.each k d below) (h.near k d below);
  few = h.few;
  small = h.small;
}
  where
    columns : columns_beside s p ≡ columns_beside s q
    columns = ap (min s.width) wide

    beside : (r : ℕ) → start ≤ r → r < y → row_beside s p r ≡ row_beside s q r
    beside r low below = ap (λ n. take n (p.row r)) columns ∙ ap (take (columns_beside s q)) (rows r low below)

-- ---- bands with their colours

no_band : Band
no_band = record { top = 0; bottom = 0; from = 0; to = 0; spans = 0 }

piece_at : (s : Source) (bands : List Band) (k : ℕ) (d : Piece) → k < length bands → get_or (map (piece_of s) bands) k d ≡ piece_of s (get_or bands k no_band)
piece_at s bands k d below = get_or-map (piece_of s) bands k no_band d below

is_piece : (s : Source) (p : Part) (start y : ℕ) (b : Band) → y ≤ rows_beside s p → IsBand (columns_beside s p) start y b → IsPiece s p (piece_of s b)
is_piece s p start y b below h =
    let a = h.some_columns in let c = h.wide in let e = h.some_rows in let f = h.high in
    record { some_columns = omega arith; some_rows = omega arith; wide = omega arith; high = omega arith; colours = refl }

same_places : (s : Source) (b : Band) (columns start y : ℕ) → IsBand columns start y b → (x r : ℕ) → is_in_piece (piece_of s b) x r ≡ is_in_band b x r
same_places s b columns start y h x r =
    let a = h.some_columns in let e = h.some_rows in
    let right : b.from + (b.to - b.from) ≡ b.to = omega arith in
    let bottom : b.top + (b.bottom - b.top) ≡ b.bottom = omega arith in
    ap (λ n. nat_le b.from x && nat_lt x n && (nat_le b.top r && nat_lt r (b.top + (b.bottom - b.top)))) right
    ∙ ap (λ n. nat_le b.from x && nat_lt x b.to && (nat_le b.top r && nat_lt r n)) bottom

pub are_pieces : (s : Source) (p : Part) (start y : ℕ) (bands : List Band) → y ≤ rows_beside s p → All (IsBand (columns_beside s p) start y) bands → All (IsPiece s p) (map (piece_of s) bands)
are_pieces s p start y bands low each k d below =
    let inside : k < length bands = (let long = length-map bands (piece_of s) in omega arith) in
    subst (IsPiece s p) (sym (piece_at s bands k d inside)) (is_piece s p start y (get_or bands k no_band) low (each k no_band inside))

-- where they end
pub pieces_above : (s : Source) (columns start y : ℕ) (bands : List Band) → All (IsBand columns start y) bands → All (λ q. q.top + q.rows ≤ y) (map (piece_of s) bands)
pieces_above s columns start y bands each k d below =
    let inside : k < length bands = (let long = length-map bands (piece_of s) in omega arith) in
    let b = each k no_band inside in
    let some = b.some_rows in let high = b.high in
    subst (λ (q : Piece). q.top + q.rows ≤ y) (sym (piece_at s bands k d inside)) (omega arith)

-- what is gathered of all rows is what differs
pub differences_are : (s : Source) (p : Part) (bands : List Band) (places : ℕ) → AreGathered s p 0 (rows_beside s p) bands places → AreDifferences s p (record { pieces = map (piece_of s) bands; places = places })
differences_are s p bands places h = record {
  pieces = are_pieces s p 0 (rows_beside s p) bands (omega arith) h.are_bands.each;
  ordered = λ i j d before below.
      let long = length-map bands (piece_of s) in
      let first : i < length bands = omega arith in
      let second : j < length bands = omega arith in
      subst (λ (a : Piece). a.top + a.rows ≤ (get_or (map (piece_of s) bands) j d).top) (sym (piece_at s bands i d first))
      (subst (λ (b : Piece). (piece_of s (get_or bands i no_band)).top + (piece_of s (get_or bands i no_band)).rows ≤ b.top) (sym (piece_at s bands j d second))
      (let order = h.are_bands.ordered i j no_band before second in let tall = (h.are_bands.each i no_band first).some_rows in omega arith));
  whole = λ x y below inside out.
      h.are_bands.whole x y (omega arith) below (λ k d within.
      let long = length-map bands (piece_of s) in
      let e : get_or bands k d ≡ get_or bands k no_band = get_or_default bands k d no_band within in
      let q : Piece = piece_of s no_band in
      subst (λ (b : Band). is_in_band b x y ≡ false) (sym e)
      (sym (same_places s (get_or bands k no_band) _ _ _ (h.are_bands.each k no_band within) x y)
      ∙ ap (λ (a : Piece). is_in_piece a x y) (sym (piece_at s bands k q within))
      ∙ out k q (omega arith)))
      inside;
  near = λ k d below.
      let long = length-map bands (piece_of s) in
      let inside : k < length bands = omega arith in
      subst (λ (q : Piece). IsNear s p q.top q.rows q.columns) (sym (piece_at s bands k d inside)) (h.near k no_band inside).0;
  few = let long = length-map bands (piece_of s) in let few = h.few in omega arith;
  places = h.counted ∙ ap (λ n. sum (map (row_count s p) (range_with_len 0 n))) (let e : rows_beside s p - 0 ≡ rows_beside s p = omega arith in e);
}
