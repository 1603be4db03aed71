-- Rows of a picture, and their colours by place.
use Rattle.std.proofs.Common.{◌≡◌, ℕ, zero, suc, ◌+◌, ◌-◌, ◌*◌, ◌/◌, ◌%◌, ◌^◌, ◌<◌, ◌≤◌, List, [], ◌∷◌, ◌++◌, length, get_or, take, drop, map, All, true, false, cond, append-nil, inl, inr, refl, sym, ap, ◌∙◌, subst, arith, rules, append_assoc, length-append}
use Rattle.std.proofs.Math.ListN.{set}
use Rattle.std.proofs.Math.Seq.{take-append-add, drop-append-add, take-add}
use Rattle.std.proofs.lemmas.List.{places, drop_all, take_at, take-append-le, drop-append-le, length-drop, length-set, drop-drop, length-take, length-take-le, get_or-map, length-map, get_or-set_other, get_or-drop, take_more, flat_map_more, map-append}
use Rattle.std.specs.List.{flat_map, range_with_len}
use Rattle.std.specs.Prelude.{nat_le, nat_lt, ◌&&◌}
use Rattle.std.proofs.lemmas.List.Elements.{All-append}
use Rattle.std.proofs.Math.Nat.{mul-le-mul_right}
use Rattle.std.proofs.lemmas.Grind.{get_or-set_at}
use borrow.Rule.Slice.PartMut.{put_mid, same_len_mid}
use Rattle.std.proofs.lemmas.Bool.Decides.{leb_tells, nat_tests}
use Rattle.framebuffer.specs.declared.rows.Row.{Row}
use Rattle.framebuffer.specs.declared.blocks.Block.{Block}
use Rattle.framebuffer.specs.Rows.{row_colours, colours_of_rows, is_own, AreOwn, StayOwn, IsOfWidth, row_written, parts_of_rows, row_part}
use Rattle.framebuffer.specs.Blocks.{is_in_block, colour_written, block_colours}
use Rattle.framebuffer.specs.BlockLemmas.{IsWritten, one_row, one_row_read, put-below, put-in, put-above}

-- a part of the first of two lists is replaced, or of the second
put_front : (xs rest part : List ℕ) (a k : ℕ) → a + k ≤ length xs → put_mid a k (xs ++ rest) part ≡ put_mid a k xs part ++ rest
put_front xs rest part a k room =
    let more : k ≤ length (drop a xs) = omega (arith, length-drop a xs) in
    ap (λ l. l ++ (part ++ drop k (drop a (xs ++ rest)))) (take-append-le a xs rest (omega arith))
    ∙ ap (λ l. take a xs ++ (part ++ drop k l)) (drop-append-le a xs rest (omega arith))
    ∙ ap (λ l. take a xs ++ (part ++ l)) (drop-append-le k (drop a xs) rest more)
    ∙ simp append_assoc

put_behind : (xs rest part : List ℕ) (a k : ℕ) → put_mid (length xs + a) k (xs ++ rest) part ≡ xs ++ put_mid a k rest part
put_behind xs rest part a k =
    ap (λ l. l ++ (part ++ drop k (drop (length xs + a) (xs ++ rest)))) (take-append-add xs rest a)
    ∙ ap (λ l. (xs ++ take a rest) ++ (part ++ drop k l)) (drop-append-add xs rest a)
    ∙ simp append_assoc

module _ {X : Type 0} (f : X → List ℕ) (w : ℕ) where
  abbrev AreLong : List X → Type 0
  AreLong rows = (k : ℕ) (d : X) → k < length rows → length (f (get_or rows k d)) ≡ w

  rest_long : (x : X) (rows : List X) → AreLong (x ∷ rows) → AreLong rows
  rest_long x rows long k d below = long (suc k) d (omega arith)

  -- as many colours as places
  pub flat_long : (rows : List X) → AreLong rows → length (flat_map f rows) ≡ length rows * w
  flat_long [] long = omega arith
  flat_long (x ∷ rows) long = length-append (f x) (flat_map f rows) ∙ omega (arith, long 0 x (omega arith), flat_long rows (rest_long x rows long))

  -- a part of a row is replaced
  pub flat_set : (rows : List X) (y left : ℕ) (r d : X) (part : List ℕ) → AreLong rows → y < length rows → left + length part ≤ w → f r ≡ put_mid left (length part) (f (get_or rows y d)) part
      → flat_map f (set rows y r) ≡ put_mid (y * w + left) (length part) (flat_map f rows) part
  flat_set [] y left r d part long below fits is = absurd (omega arith)
  flat_set (x ∷ rows) zero left r d part long below fits is =
      ap (λ l. l ++ flat_map f rows) is ∙ sym (put_front (f x) (flat_map f rows) part left (length part) (omega (arith, long 0 x (omega arith))))
      ∙ ap (λ n. put_mid n (length part) (f x ++ flat_map f rows) part) (let e : left ≡ 0 * w + left = omega arith in e)
  flat_set (x ∷ rows) (suc y) left r d part long below fits is =
      ap (λ l. f x ++ l) (flat_set rows y left r d part (rest_long x rows long) (omega arith) fits is)
      ∙ sym (put_behind (f x) (flat_map f rows) part (y * w + left) (length part))
      ∙ ap (λ n. put_mid n (length part) (f x ++ flat_map f rows) part) (let e = long 0 x (omega arith) in omega (arith, e))

  -- a row's colours
  pub flat_row : (rows : List X) (y : ℕ) (d : X) → AreLong rows → y < length rows → take w (drop (y * w) (flat_map f rows)) ≡ f (get_or rows y d)
  flat_row [] y d long below = absurd (omega arith)
  flat_row (x ∷ rows) zero d long below =
      let e = long 0 x (omega arith) in
      ap (λ n. take w (drop n (f x ++ flat_map f rows))) (let g : 0 * w ≡ 0 = omega arith in g) ∙ take_at (f x) (flat_map f rows) w e
  flat_row (x ∷ rows) (suc y) d long below =
      let e = long 0 x (omega arith) in
      ap (λ n. take w (drop n (f x ++ flat_map f rows))) (let g : suc y * w ≡ length (f x) + y * w = omega (arith, e) in g)
      ∙ ap (take w) (drop-append-add (f x) (flat_map f rows) (y * w)) ∙ flat_row rows y d (rest_long x rows long) (omega arith)

  -- rows with the same colours each have the same colours by place
  pub flat_same : (rows others : List X) → map f rows ≡ map f others → flat_map f rows ≡ flat_map f others
  flat_same rows others same = flat_is rows ∙ ap (flat_map (λ l. l)) same ∙ sym (flat_is others)
    where
      flat_is : (rows : List X) → flat_map f rows ≡ flat_map (λ l. l) (map f rows)
      flat_is [] = refl
      flat_is (x ∷ rows) = ap (λ l. f x ++ l) (flat_is rows)

by_lt : {P : Type 0} (a b : ℕ) → (a < b → P) → (b ≤ a → P) → P
by_lt a b less not_less = elim (leb_tells b a) [ inl h ↦ not_less h.1 | inr h ↦ less h.1 ]

by_same : {P : Type 0} (a b : ℕ) → (a ≡ b → P) → ((a ≡ b → ⊥) → P) → P
by_same a b same other = by_lt a b (λ less. other (λ e. absurd (omega arith))) (λ not_less. by_lt b a (λ more. other (λ e. absurd (omega arith))) (λ not_more. same (omega arith)))

-- one row more is held alone
pub own_set : (rows : List Row) (from to i : ℕ) (r : Row) → i < length rows → ((k : ℕ) (d : Row) → from ≤ k → k < to → (k ≡ i → ⊥) → is_own (get_or rows k d) ≡ true) → is_own r ≡ true → AreOwn from to (set rows i r)
own_set rows from to i r inside others own k d above below =
    by_same k i
    (λ e. ap is_own (get_or-set_at rows i k r d e inside) ∙ own)
    (λ other. ap is_own (get_or-set_other rows i k r d other) ∙ others k d above below other)

map_is : (now colours : List ℕ) → length now ≡ length colours → ((k : ℕ) → k < length colours → get_or now k 0 ≡ get_or colours k 0 % 2 ^ 24) → now ≡ map (λ c. c % 2 ^ 24) colours
map_is [] [] size each = refl
map_is [] (c ∷ colours) size each = absurd (omega arith)
map_is (n ∷ now) [] size each = absurd (omega arith)
map_is (n ∷ now) (c ∷ colours) size each =
    ap (λ h. h ∷ now) (each 0 (omega arith)) ∙ ap (λ l. (c % 2 ^ 24) ∷ l) (map_is now colours (omega arith) (λ k below. each (suc k) (omega arith)))

-- a part of a row is written in place
pub written_part : (row now colours items : List ℕ) (left len : ℕ) → left + length colours ≤ length row → length now ≡ length colours → len ≡ length row
    → ((k : ℕ) → k < length colours → get_or now k 0 ≡ get_or colours k 0 % 2 ^ 24)
    → take len (put_mid left (left + length colours - left) row now ++ items) ≡ row_written left colours row
written_part row now colours items left len fits size long each =
    let n : left + length colours - left ≡ length colours = omega arith in
    let behind : drop (length colours) (drop left row) ≡ drop (left + length colours) row = drop-drop (length colours) left row in
    take_at (put_mid left (left + length colours - left) row now) items len
    (omega (arith, same_len_mid left (left + length colours - left) row now (size ∙ sym n ∙ sym (length-take-le (left + length colours - left) (drop left row) (omega (arith, length-drop left row))))))
    ∙ ap (λ m. put_mid left m row now) n
    ∙ ap (λ l. take left row ++ (now ++ l)) behind
    ∙ ap (λ l. take left row ++ (l ++ drop (left + length colours) row)) (map_is now colours size each)

written_mid : (left : ℕ) (colours row : List ℕ) → row_written left colours row ≡ put_mid left (length (map (λ c. c % 2 ^ 24) colours)) row (map (λ c. c % 2 ^ 24) colours)
written_mid left colours row =
    ap (λ l. take left row ++ (map (λ c. c % 2 ^ 24) colours ++ l)) (sym (drop-drop (length colours) left row))
    ∙ ap (λ n. put_mid left n row (map (λ c. c % 2 ^ 24) colours)) (sym (length-map colours (λ (c : ℕ). c % 2 ^ 24)))

pub written_long : (left : ℕ) (colours row : List ℕ) → left + length colours ≤ length row → length (row_written left colours row) ≡ length row
written_long left colours row fits =
    length-append (take left row) (map (λ c. c % 2 ^ 24) colours ++ drop (left + length colours) row)
    ∙ omega (arith, length-append (map (λ c. c % 2 ^ 24) colours) (drop (left + length colours) row), length-map colours (λ (c : ℕ). c % 2 ^ 24), length-take-le left row (omega arith), length-drop (left + length colours) row)

-- one row is written
pub wide_set : (w : ℕ) (rows : List Row) (i : ℕ) (r : Row) → i < length rows → All (IsOfWidth w) rows → length (row_colours r) ≡ w → All (IsOfWidth w) (set rows i r)
wide_set w rows i r inside long this k d below =
    by_same k i
    (λ e. ap (λ q. length (row_colours q)) (get_or-set_at rows i k r d e inside) ∙ this)
    (λ other. ap (λ q. length (row_colours q)) (get_or-set_other rows i k r d other) ∙ long k d (omega (arith, length-set rows i r)))

pub one_more_row : (w : ℕ) (b : Block) (colours old : List ℕ) (rows : List Row) (slice : List ℕ) (r d : Row) (i y : ℕ) → y ≡ b.top + i → b.left + b.columns ≤ w → y < length rows → All (IsOfWidth w) rows
    → length slice ≡ b.columns → ((j : ℕ) → j < b.columns → get_or slice j 0 ≡ get_or colours (i * b.columns + j) 0) → row_colours r ≡ row_written b.left slice (row_colours (get_or rows y d))
    → IsWritten w (record b { rows = i }) colours old (colours_of_rows rows) → IsWritten w (record b { rows = i + 1 }) colours old (colours_of_rows (set rows y r))
one_more_row w b colours old rows slice r d i y here wide inside long size each is done =
    let part = map (λ (c : ℕ). c % 2 ^ 24) slice in
    let columns : length part ≡ b.columns = length-map slice (λ (c : ℕ). c % 2 ^ 24) ∙ size in
    let up : (y + 1) * w ≤ length rows * w = mul-le-mul_right w (omega arith) in
    let flat : colours_of_rows (set rows y r) ≡ put_mid (y * w + b.left) (length part) (colours_of_rows rows) part = flat_set row_colours w rows y b.left r d part long inside (omega (arith, columns)) (is ∙ written_mid b.left slice (row_colours (get_or rows y d))) in
    rw (flat, here) (one_row w b colours old (colours_of_rows rows) part i (length part) wide columns refl
    (let e : (b.top + i) * w ≡ y * w = ap (λ n. n * w) (sym here) in omega (arith, up, columns, e, flat_long row_colours w rows long))
    (λ j below. get_or-map (λ (c : ℕ). c % 2 ^ 24) slice j 0 0 (omega arith) ∙ ap (λ n. n % 2 ^ 24) (each j below)) done)

-- rows whose colours are the same are of one width
pub wide_same : (w : ℕ) (rows others : List Row) → map row_colours rows ≡ map row_colours others → All (IsOfWidth w) others → All (IsOfWidth w) rows
wide_same w rows others same long k d below =
    let count : length rows ≡ length others = sym (length-map rows row_colours) ∙ ap length same ∙ length-map others row_colours in
    ap length (sym (get_or-map row_colours rows k d [] below) ∙ ap (λ l. get_or l k []) same ∙ get_or-map row_colours others k d [] (omega arith)) ∙ long k d (omega arith)

-- a part of a row, as it stands among all colours
pub part_read : (w : ℕ) (b : Block) (rows : List Row) (i y : ℕ) (d : Row) (row : List ℕ) → y ≡ b.top + i → b.left + b.columns ≤ w → y < length rows → All (IsOfWidth w) rows
    → row ≡ take b.columns (drop b.left (row_colours (get_or rows y d)))
    → block_colours w (record b { rows = i }) (colours_of_rows rows) ++ row ≡ block_colours w (record b { rows = i + 1 }) (colours_of_rows rows)
part_read w b rows i y d row here wide inside long is =
    let flat = colours_of_rows rows in
    let from_flat : row ≡ take b.columns (drop b.left (take w (drop (y * w) flat))) = is ∙ ap (λ l. take b.columns (drop b.left l)) (sym (flat_row row_colours w rows y d long inside)) in
    let up : (y + 1) * w ≤ length rows * w = mul-le-mul_right w (omega arith) in
    let size : y * w + w ≤ length flat = omega (arith, up, flat_long row_colours w rows long) in
    rw from_flat (one_row_read w b flat (take b.columns (drop b.left (take w (drop (y * w) flat)))) i
    (part_long flat (y * w) size) (λ j below. part_at flat (y * w) j below size ∙ ap (λ n. get_or flat (n * w + b.left + j) 0) here))
  where
    part_long : (flat : List ℕ) (a : ℕ) → a + w ≤ length flat → length (take b.columns (drop b.left (take w (drop a flat)))) ≡ b.columns
    part_long flat a size = simp (length-take, length-drop) (omega (arith, wide, size))

    part_at : (flat : List ℕ) (a j : ℕ) → j < b.columns → a + w ≤ length flat → get_or (take b.columns (drop b.left (take w (drop a flat)))) j 0 ≡ get_or flat (a + b.left + j) 0
    part_at flat a j below size = search (rules, places)

pub all_and_one : {X : Type 0} (P : X → Type 0) (xs now : List X) (x : X) → now ≡ xs ++ x ∷ [] → All P xs → P x → All P now
all_and_one P xs now x is all this = subst (All P) (sym is) (All-append P xs (x ∷ []) all one)
  where
    one : All P (x ∷ [])
    one k d below = let first : k ≡ 0 = omega arith in rw first this

pub part_long : (left columns : ℕ) (row : List ℕ) → left + columns ≤ length row → length (take columns (drop left row)) ≡ columns
part_long left columns row fits = length-take-le columns (drop left row) (omega (arith, length-drop left row))

-- a whole row is replaced
pub flat_row_set : (w : ℕ) (rows : List Row) (y : ℕ) (r d : Row) → All (IsOfWidth w) rows → y < length rows → length (row_colours r) ≡ w → colours_of_rows (set rows y r) ≡ put_mid (y * w) w (colours_of_rows rows) (row_colours r)
flat_row_set w rows y r d long below size =
    flat_set row_colours w rows y 0 r d (row_colours r) long below (omega arith)
    (sym (append-nil (row_colours r)) ∙ ap (λ l. row_colours r ++ l) (sym (drop_all (length (row_colours r)) (row_colours (get_or rows y d)) (omega (arith, long y d below)))))
    ∙ ap (λ n. put_mid n (length (row_colours r)) (colours_of_rows rows) (row_colours r)) (let e : y * w + 0 ≡ y * w = omega arith in e)
    ∙ ap (λ n. put_mid (y * w) n (colours_of_rows rows) (row_colours r)) size

-- a row that was held alone is so still
pub stay_set : (old rows : List Row) (i : ℕ) (r d : Row) → i < length rows → StayOwn old rows → (is_own (get_or rows i d) ≡ true → is_own r ≡ true) → StayOwn old (set rows i r)
stay_set old rows i r d inside before this k e own =
    by_same k i
    (λ same. ap is_own (get_or-set_at rows i k r e same inside) ∙ this (ap is_own (get_or_any rows i d e inside) ∙ ap (λ n. is_own (get_or rows n e)) (sym same) ∙ before k e own))
    (λ other. ap is_own (get_or-set_other rows i k r e other) ∙ before k e own)
  where
    get_or_any : (xs : List Row) (n : ℕ) (a b : Row) → n < length xs → get_or xs n a ≡ get_or xs n b
    get_or_any [] n a b below = absurd (omega arith)
    get_or_any (x ∷ xs) zero a b below = refl
    get_or_any (x ∷ xs) (suc n) a b below = get_or_any xs n a b (omega arith)

-- rows are put in the place of others
module _ {X : Type 0} (f : X → List ℕ) (w : ℕ) where
  flat_append : (xs ys : List X) → flat_map f (xs ++ ys) ≡ flat_map f xs ++ flat_map f ys
  flat_append [] ys = refl
  flat_append (x ∷ xs) ys = ap (λ l. f x ++ l) (flat_append xs ys) ∙ simp append_assoc

  pub flat_drop : (rows : List X) (n : ℕ) → AreLong f w rows → n ≤ length rows → flat_map f (drop n rows) ≡ drop (n * w) (flat_map f rows)
  flat_drop rows zero long below = ap (λ n. drop n (flat_map f rows)) (let e : 0 ≡ 0 * w = omega arith in e)
  flat_drop [] (suc n) long below = absurd (omega arith)
  flat_drop (x ∷ rows) (suc n) long below =
      flat_drop rows n (rest_long f w x rows long) (omega arith)
      ∙ sym (ap (λ k. drop k (f x ++ flat_map f rows)) (let e = long 0 x (omega arith) in let g : suc n * w ≡ length (f x) + n * w = omega (arith, e) in g) ∙ drop-append-add (f x) (flat_map f rows) (n * w))

  pub flat_take : (rows : List X) (n : ℕ) → AreLong f w rows → n ≤ length rows → flat_map f (take n rows) ≡ take (n * w) (flat_map f rows)
  flat_take rows zero long below = ap (λ n. take n (flat_map f rows)) (let e : 0 ≡ 0 * w = omega arith in e)
  flat_take [] (suc n) long below = absurd (omega arith)
  flat_take (x ∷ rows) (suc n) long below =
      ap (λ l. f x ++ l) (flat_take rows n (rest_long f w x rows long) (omega arith))
      ∙ sym (ap (λ k. take k (f x ++ flat_map f rows)) (let e = long 0 x (omega arith) in let g : suc n * w ≡ length (f x) + n * w = omega (arith, e) in g) ∙ take-append-add (f x) (flat_map f rows) (n * w))

  pub flat_put : (rows others : List X) (top : ℕ) → AreLong f w rows → top + length others ≤ length rows
      → flat_map f (take top rows ++ (others ++ drop (top + length others) rows)) ≡ put_mid (top * w) (length others * w) (flat_map f rows) (flat_map f others)
  flat_put rows others top long fits =
      flat_append (take top rows) (others ++ drop (top + length others) rows)
      ∙ ap (λ l. l ++ flat_map f (others ++ drop (top + length others) rows)) (flat_take rows top long (omega arith))
      ∙ ap (λ l. take (top * w) (flat_map f rows) ++ l) (flat_append others (drop (top + length others) rows)
      ∙ ap (λ l. flat_map f others ++ l) (flat_drop rows (top + length others) long fits
      ∙ ap (λ n. drop n (flat_map f rows)) (let e : (top + length others) * w ≡ top * w + length others * w = omega arith in e)
      ∙ sym (drop-drop (length others * w) (top * w) (flat_map f rows))))

-- no part
no_part : (w : ℕ) (b : Block) (rows : List Row) → parts_of_rows b.left b.columns (take 0 (drop b.top rows)) ≡ block_colours w (record b { rows = 0 }) (colours_of_rows rows)
no_part w b rows = none (0 * b.columns) (let e : 0 * b.columns ≡ 0 = omega arith in e)
  where
    none : (m : ℕ) → m ≡ 0 → [] ≡ map (λ k. get_or (colours_of_rows rows) ((b.top + k / b.columns) * w + (b.left + k % b.columns)) 0) (range_with_len 0 m)
    none zero e = refl
    none (suc m) e = absurd (omega arith)

parts_so_far : (w : ℕ) (b : Block) (rows : List Row) (d : Row) (n : ℕ) → b.left + b.columns ≤ w → b.top + n ≤ length rows → All (IsOfWidth w) rows
    → parts_of_rows b.left b.columns (take n (drop b.top rows)) ≡ block_colours w (record b { rows = n }) (colours_of_rows rows)
parts_so_far w b rows d zero wide inside long = no_part w b rows
parts_so_far w b rows d (suc n) wide inside long =
    subst (λ m. parts_of_rows b.left b.columns (take m (drop b.top rows)) ≡ block_colours w (record b { rows = m }) (colours_of_rows rows)) (let e : n + 1 ≡ suc n = omega arith in e)
    (ap (parts_of_rows b.left b.columns) (take_more (drop b.top rows) n d (omega (arith, length-drop b.top rows)))
    ∙ sym (flat_map_more (row_part b.left b.columns) [] (take n (drop b.top rows)) (get_or (drop b.top rows) n d))
    ∙ ap (λ l. l ++ row_part b.left b.columns (get_or (drop b.top rows) n d)) (parts_so_far w b rows d n wide (omega arith) long)
    ∙ part_read w b rows n (b.top + n) d (row_part b.left b.columns (get_or (drop b.top rows) n d)) refl wide (omega arith) long (ap (row_part b.left b.columns) (get_or-drop b.top rows n d)))

-- the parts of the rows from one on, as they stand among all colours
pub parts_read : (w : ℕ) (b : Block) (rows : List Row) (n : ℕ) → b.left + b.columns ≤ w → b.top + n ≤ length rows → All (IsOfWidth w) rows
    → parts_of_rows b.left b.columns (take n (drop b.top rows)) ≡ block_colours w (record b { rows = n }) (colours_of_rows rows)
parts_read w b [] zero wide inside long = no_part w b []
parts_read w b [] (suc n) wide inside long = absurd (omega arith)
parts_read w b (r ∷ rows) n wide inside long = parts_so_far w b (r ∷ rows) r n wide inside long

-- a part of the colours is replaced by another part of them
pub copied : (flat part : List ℕ) (to from n k : ℕ) → length part ≡ n → to + n ≤ length flat → ((j : ℕ) → j < n → get_or part j 0 ≡ get_or flat (from + j) 0)
    → get_or (put_mid to (length part) flat part) k 0 ≡ cond (nat_le to k && nat_lt k (to + n)) (get_or flat (from + (k - to)) 0) (get_or flat k 0)
copied flat part to from n k size fits each =
    by_lt k to
    (λ below. put-below to (length part) k flat part 0 below (omega arith) ∙ sym (ap (λ t. cond t (get_or flat (from + (k - to)) 0) (get_or flat k 0)) (before below)))
    (λ above. by_lt k (to + n)
    (λ within. put-in to (length part) k flat part 0 above (omega arith) (omega arith) ∙ each (k - to) (omega arith) ∙ sym (ap (λ t. cond t (get_or flat (from + (k - to)) 0) (get_or flat k 0)) (inside above within)))
    (λ past. put-above to (length part) k flat part 0 refl (omega arith) (omega arith) ∙ sym (ap (λ t. cond t (get_or flat (from + (k - to)) 0) (get_or flat k 0)) (behind past))))
  where
    before : k < to → (nat_le to k && nat_lt k (to + n)) ≡ false
    before less = grind (arith, nat_tests)

    inside : to ≤ k → k < to + n → (nat_le to k && nat_lt k (to + n)) ≡ true
    inside above within = grind (arith, nat_tests)

    behind : to + n ≤ k → (nat_le to k && nat_lt k (to + n)) ≡ false
    behind past = grind (arith, nat_tests)

-- a part of a row is replaced by as many colours of a row
pub places_copied : (w : ℕ) (rows : List Row) (t s y a n : ℕ) (r d e : Row) (part : List ℕ) → All (IsOfWidth w) rows → t < length rows → s + n ≤ w → y < length rows → a + n ≤ w
    → part ≡ take n (drop s (row_colours (get_or rows t e))) → row_colours r ≡ take a (row_colours (get_or rows y d)) ++ (part ++ drop (a + length part) (row_colours (get_or rows y d)))
    → (k : ℕ) → get_or (colours_of_rows (set rows y r)) k 0 ≡ cond (nat_le (y * w + a) k && nat_lt k (y * w + a + n)) (get_or (colours_of_rows rows) (t * w + s + (k - (y * w + a))) 0) (get_or (colours_of_rows rows) k 0)
places_copied w rows t s y a n r d e part long source wide target fits is row k =
    let flat = colours_of_rows rows in
    let total : length flat ≡ length rows * w = flat_long row_colours w rows long in
    let to : (y + 1) * w ≤ length rows * w = mul-le-mul_right w (omega arith) in
    let from : (t + 1) * w ≤ length rows * w = mul-le-mul_right w (omega arith) in
    let there : take w (drop (t * w) flat) ≡ row_colours (get_or rows t e) = flat_row row_colours w rows t e long source in
    let is_part : part ≡ take n (drop s (take w (drop (t * w) flat))) = is ∙ ap (λ l. take n (drop s l)) (sym there) in
    let size : length part ≡ n = ap length is ∙ part_long s n (row_colours (get_or rows t e)) (omega (arith, long t e source)) in
    ap (λ l. get_or l k 0) (flat_set row_colours w rows y a r d part long target (omega (arith, size)) (row ∙ ap (λ l. take a (row_colours (get_or rows y d)) ++ (part ++ l)) (sym (drop-drop (length part) a (row_colours (get_or rows y d))))))
    ∙ copied flat part (y * w + a) (t * w + s) n k size (omega (arith, to, total))
    (λ j below. ap (λ l. get_or l j 0) is_part ∙ part_at flat (t * w) j below (omega (arith, from, total)))
  where
    part_at : (flat : List ℕ) (b j : ℕ) → j < n → b + w ≤ length flat → get_or (take n (drop s (take w (drop b flat)))) j 0 ≡ get_or flat (b + s + j) 0
    part_at flat b j below size = search (rules, places)

-- a place of a row, as it stands among all colours
pub place_read : (w : ℕ) (rows : List Row) (y x : ℕ) (d : Row) → All (IsOfWidth w) rows → y < length rows → x < w → get_or (row_colours (get_or rows y d)) x 0 ≡ get_or (colours_of_rows rows) (y * w + x) 0
place_read w rows y x d long inside left =
    let flat = colours_of_rows rows in
    let up : (y + 1) * w ≤ length rows * w = mul-le-mul_right w (omega arith) in
    ap (λ l. get_or l x 0) (sym (flat_row row_colours w rows y d long inside)) ∙ at flat (y * w) (omega (arith, up, flat_long row_colours w rows long))
  where
    at : (flat : List ℕ) (a : ℕ) → a + w ≤ length flat → get_or (take w (drop a flat)) x 0 ≡ get_or flat (a + x) 0
    at flat a size = search (rules, places)

-- the colours of so many rows, and of one row more
pub masked_more : (i w : ℕ) (colours : List ℕ) → map (λ (k : ℕ). k % 2 ^ 24) (take (i * w) colours) ++ map (λ (k : ℕ). k % 2 ^ 24) (take (i * w + w - i * w) (drop (i * w) colours)) ≡ map (λ (k : ℕ). k % 2 ^ 24) (take ((i + 1) * w) colours)
masked_more i w colours =
    sym (map-append (λ (k : ℕ). k % 2 ^ 24) (take (i * w) colours) (take (i * w + w - i * w) (drop (i * w) colours)))
    ∙ ap (map (λ (k : ℕ). k % 2 ^ 24)) (sym (take-add (i * w) (i * w + w - i * w) colours) ∙ ap (λ n. take n colours) (let e : i * w + (i * w + w - i * w) ≡ (i + 1) * w = omega arith in e))

-- whole rows are replaced by rows of a block's colours
pub whole_written : (w : ℕ) (b : Block) (colours : List ℕ) (old others : List Row) → b.left ≡ 0 → b.columns ≡ w → length others ≡ b.rows → b.top + b.rows ≤ length old → All (IsOfWidth w) old
    → length colours ≡ b.rows * b.columns → colours_of_rows others ≡ map (λ c. c % 2 ^ 24) colours
    → IsWritten w b colours (colours_of_rows old) (colours_of_rows (take b.top old ++ (others ++ drop (b.top + length others) old)))
whole_written w b colours old others first wide count high long whole are y x left =
    ap (λ l. get_or l (y * w + x) 0) (flat_put row_colours w old others b.top long (omega (arith, count, high)) ∙ ap (put_mid (b.top * w) (length others * w) flat) are)
    ∙ by_lt y b.top
    (λ above. let up : (y + 1) * w ≤ b.top * w = mul-le-mul_right w (omega arith) in
    put-below (b.top * w) (length others * w) (y * w + x) flat part 0 (omega (arith, up, left)) (omega (arith, fits, total)) ∙ sym (in_old (outside_above above)))
    (λ not_above. by_lt y (b.top + b.rows)
    (λ within. let from : b.top * w ≤ y * w = mul-le-mul_right w (omega arith) in
    let to : (y + 1) * w ≤ (b.top + b.rows) * w = mul-le-mul_right w (omega arith) in
    put-in (b.top * w) (length others * w) (y * w + x) flat part 0 (omega (arith, from)) (omega (arith, to, size, left)) (omega (arith, fits, total))
    ∙ get_or-map (λ (c : ℕ). c % 2 ^ 24) colours (y * w + x - b.top * w) 0 0 (omega (arith, to, from, size, left, length-map colours (λ (c : ℕ). c % 2 ^ 24)))
    ∙ ap (λ n. get_or colours n 0 % 2 ^ 24) (place not_above)
    ∙ sym (in_new (inside not_above within)))
    (λ past. let up : (b.top + b.rows) * w ≤ y * w = mul-le-mul_right w (omega arith) in
    put-above (b.top * w) (length others * w) (y * w + x) flat part 0 (size ∙ many) (omega (arith, up, many)) (omega (arith, fits, total, many)) ∙ sym (in_old (outside_below past))))
  where
    flat : List ℕ
    flat = colours_of_rows old

    part : List ℕ
    part = map (λ (c : ℕ). c % 2 ^ 24) colours

    size : length part ≡ b.rows * w
    size = length-map colours (λ (c : ℕ). c % 2 ^ 24) ∙ whole ∙ ap (λ n. b.rows * n) wide

    many : b.rows * w ≡ length others * w
    many = ap (λ n. n * w) (sym count)

    total : length flat ≡ length old * w
    total = flat_long row_colours w old long

    fits : (b.top + b.rows) * w ≤ length old * w
    fits = mul-le-mul_right w high

    in_old : is_in_block b y x ≡ false → colour_written w b colours flat y x ≡ get_or flat (y * w + x) 0
    in_old e = ap (λ t. cond t (get_or colours ((y - b.top) * b.columns + (x - b.left)) 0 % 2 ^ 24) (get_or flat (y * w + x) 0)) e

    in_new : is_in_block b y x ≡ true → colour_written w b colours flat y x ≡ get_or colours ((y - b.top) * b.columns + (x - b.left)) 0 % 2 ^ 24
    in_new e = ap (λ t. cond t (get_or colours ((y - b.top) * b.columns + (x - b.left)) 0 % 2 ^ 24) (get_or flat (y * w + x) 0)) e

    place : b.top ≤ y → y * w + x - b.top * w ≡ (y - b.top) * b.columns + (x - b.left)
    place above =
        let parts : y ≡ b.top + (y - b.top) = omega arith in
        let e : y * w ≡ b.top * w + (y - b.top) * w = ap (λ n. n * w) parts ∙ omega arith in
        let f : (y - b.top) * b.columns ≡ (y - b.top) * w = ap (λ n. (y - b.top) * n) wide in
        omega (arith, e, f, first)

    outside_above : y < b.top → is_in_block b y x ≡ false
    outside_above above = grind (arith, nat_tests)

    outside_below : b.top + b.rows ≤ y → is_in_block b y x ≡ false
    outside_below past = grind (arith, nat_tests)

    inside : b.top ≤ y → y < b.top + b.rows → is_in_block b y x ≡ true
    inside above within = grind (arith, nat_tests, first, wide, left)
