-- Blocks of a picture: where their rows lie, and what a row's writing changes.
use Rattle.std.proofs.Common.{◌≡◌, ℕ, ◌+◌, ◌-◌, ◌*◌, ◌/◌, ◌%◌, ◌^◌, ◌<◌, ◌≤◌, ◌⊎◌, inl, inr, true, false, cond, List, ◌++◌, length, get_or, sym, ap, ◌∙◌, arith, rules, map, length-append}
use Rattle.std.proofs.Math.Nat.{mul-le-mul_right, le-mul_of_pos_right}
use Rattle.std.proofs.lemmas.Bool.Decides.{nat_tests, leb_tells}
use Rattle.std.proofs.lemmas.List.{places, get_or_append_left, get_or-append_right}
use Rattle.std.proofs.lemmas.List.FromFn.{fill_by_all, get_or-map-range_with_len, length-map-range_with_len}
use Rattle.std.proofs.lemmas.Nat.{div-mul-add, mod-mul-add}
use Rattle.std.specs.List.{range_with_len}
use borrow.Rule.Slice.PartMut.{put_mid}
use Rattle.framebuffer.specs.declared.blocks.Block.{Block}
use Rattle.framebuffer.specs.Blocks.{is_in_block, colour_written, block_colours}

pub rows_counted : (w top rows len : ℕ) → 0 < w → (top + rows) * w ≤ len → top + rows ≤ len
rows_counted w top rows len some high = let more : top + rows ≤ (top + rows) * w = le-mul_of_pos_right (top + rows) some in omega (arith, more)

-- a row of a block lies in the picture
pub row_inside : (w top rows left columns i len : ℕ) → left + columns ≤ w → (top + rows) * w ≤ len → i < rows → (top + i) * w + left + columns ≤ len
row_inside w top rows left columns i len wide high below =
    let up : (top + i + 1) * w ≤ (top + rows) * w = mul-le-mul_right w (omega arith) in
    omega (arith, up)

-- and its colours are there
pub row_given : (rows columns i len : ℕ) → len ≡ rows * columns → i < rows → i * columns + columns ≤ len
row_given rows columns i len whole below =
    let up : (i + 1) * columns ≤ rows * columns = mul-le-mul_right columns (omega arith) in
    omega (arith, up)

-- an element of a list of which a part was replaced
pub put-below : {X : Type 0} (a k n : ℕ) (xs ys : List X) (d : X) → n < a → a ≤ length xs → get_or (put_mid a k xs ys) n d ≡ get_or xs n d
put-below a k n xs ys d below inside = search (rules, places)

pub put-in : {X : Type 0} (a k n : ℕ) (xs ys : List X) (d : X) → a ≤ n → n < a + length ys → a ≤ length xs → get_or (put_mid a k xs ys) n d ≡ get_or ys (n - a) d
put-in a k n xs ys d above below inside = search (rules, places)

pub put-above : {X : Type 0} (a k n : ℕ) (xs ys : List X) (d : X) → length ys ≡ k → a + k ≤ n → a + k ≤ length xs → get_or (put_mid a k xs ys) n d ≡ get_or xs n d
put-above a k n xs ys d long above inside = search (rules, places)

same_test : (b : Block) (i y x : ℕ) → ((y ≡ b.top + i) → (x < b.left) ⊎ (b.left + b.columns ≤ x)) → is_in_block (record b { rows = i + 1 }) y x ≡ is_in_block (record b { rows = i }) y x
same_test b i y x other = grind (arith, nat_tests)

hit_test : (b : Block) (i x : ℕ) → b.left ≤ x → x < b.left + b.columns → is_in_block (record b { rows = i + 1 }) (b.top + i) x ≡ true
hit_test b i x left right = grind (arith, nat_tests)

-- the block's colours are written in the places of the picture
abbrev pub IsWritten : ℕ → Block → List ℕ → List ℕ → List ℕ → Type 0
IsWritten w b colours old now = (y x : ℕ) → x < w → get_or now (y * w + x) 0 ≡ colour_written w b colours old y x

by_lt : {P : Type 0} (a b : ℕ) → (a < b → P) → (b ≤ a → P) → P
by_lt a b less not_less = elim (leb_tells b a) [ inl h ↦ not_less h.1 | inr h ↦ less h.1 ]

-- one row more
pub one_row : (w : ℕ) (b : Block) (colours old now row : List ℕ) (i k : ℕ) → b.left + b.columns ≤ w → k ≡ b.columns → length row ≡ k
    → (b.top + i) * w + b.left + k ≤ length now → ((j : ℕ) → j < b.columns → get_or row j 0 ≡ get_or colours (i * b.columns + j) 0 % 2 ^ 24)
    → IsWritten w (record b { rows = i }) colours old now → IsWritten w (record b { rows = i + 1 }) colours old (put_mid ((b.top + i) * w + b.left) k now row)
one_row w b colours old now row i k wide columns long inside each done y x right =
    by_lt y (b.top + i)
    (λ above. let up : (y + 1) * w ≤ (b.top + i) * w = mul-le-mul_right w (omega arith) in
    stays (λ e. absurd (omega arith)) (put-below start k (y * w + x) now row 0 (omega (arith, up)) (omega arith)))
    (λ not_above. by_lt (b.top + i) y
    (λ below. let up : (b.top + i + 1) * w ≤ y * w = mul-le-mul_right w (omega arith) in
    stays (λ e. absurd (omega arith)) (put-above start k (y * w + x) now row 0 long (omega (arith, up)) inside))
    (λ not_below. let e : y ≡ b.top + i = omega arith in
    by_lt x b.left
    (λ before. stays (λ _. inl before) (put-below start k (y * w + x) now row 0 (rw e (omega arith)) (omega arith)))
    (λ from. by_lt x (b.left + b.columns)
    (λ within. rw e (
    put-in start k ((b.top + i) * w + x) now row 0 (omega arith) (omega arith) (omega arith)
    ∙ ap (λ n. get_or row n 0) (let d : (b.top + i) * w + x - start ≡ x - b.left = omega arith in d)
    ∙ each (x - b.left) (omega arith)
    ∙ ap (λ n. get_or colours (n * b.columns + (x - b.left)) 0 % 2 ^ 24) (let d : i ≡ b.top + i - b.top = omega arith in d)
    ∙ sym (ap (λ t. cond t (get_or colours ((b.top + i - b.top) * b.columns + (x - b.left)) 0 % 2 ^ 24) (get_or old ((b.top + i) * w + x) 0)) (hit_test b i x from within))))
    (λ past. stays (λ _. inr past) (put-above start k (y * w + x) now row 0 long (rw e (omega arith)) inside)))))
  where
    start : ℕ
    start = (b.top + i) * w + b.left

    stays : ((y ≡ b.top + i) → (x < b.left) ⊎ (b.left + b.columns ≤ x)) → get_or (put_mid ((b.top + i) * w + b.left) k now row) (y * w + x) 0 ≡ get_or now (y * w + x) 0
        → get_or (put_mid ((b.top + i) * w + b.left) k now row) (y * w + x) 0 ≡ colour_written w (record b { rows = i + 1 }) colours old y x
    stays other same = same ∙ done y x right ∙ ap (λ t. cond t (get_or colours ((y - b.top) * b.columns + (x - b.left)) 0 % 2 ^ 24) (get_or old (y * w + x) 0)) (sym (same_test b i y x other))

empty_test : (b : Block) (y x : ℕ) → is_in_block (record b { rows = 0 }) y x ≡ false
empty_test b y x = grind (arith, nat_tests)

-- no row
pub no_row : (w : ℕ) (b : Block) (colours old : List ℕ) → IsWritten w (record b { rows = 0 }) colours old old
no_row w b colours old y x right = sym (ap (λ t. cond t (get_or colours ((y - b.top) * b.columns + (x - b.left)) 0 % 2 ^ 24) (get_or old (y * w + x) 0)) (empty_test b y x))

-- the colours of a block's first rows, and of one row more
pub one_row_read : (w : ℕ) (b : Block) (picture row : List ℕ) (i : ℕ) → length row ≡ b.columns
    → ((j : ℕ) → j < b.columns → get_or row j 0 ≡ get_or picture ((b.top + i) * w + b.left + j) 0)
    → block_colours w (record b { rows = i }) picture ++ row ≡ block_colours w (record b { rows = i + 1 }) picture
one_row_read w b picture row i long each =
    fill_by_all f (map f (range_with_len 0 (i * b.columns)) ++ row) ((i + 1) * b.columns) 0
    (omega (arith, length-append (map f (range_with_len 0 (i * b.columns))) row, before))
    (λ k below. by_lt k (i * b.columns)
    (λ less. get_or_append_left (map f (range_with_len 0 (i * b.columns))) row 0 k (omega (arith, before)) ∙ get_or-map-range_with_len f 0 (i * b.columns) k k 0 less (omega arith))
    (λ not_less. get_or-append_right (map f (range_with_len 0 (i * b.columns))) row (i * b.columns) k 0 before not_less ∙ last (k - i * b.columns) k (omega arith) (omega arith)))
  where
    f : ℕ → ℕ
    f k = get_or picture ((b.top + k / b.columns) * w + (b.left + k % b.columns)) 0

    before : length (map f (range_with_len 0 (i * b.columns))) ≡ i * b.columns
    before = length-map-range_with_len f 0 (i * b.columns)

    last : (j k : ℕ) → j < b.columns → k ≡ i * b.columns + j → get_or row j 0 ≡ f k
    last j k below e = rw e (each j below
        ∙ ap (λ n. get_or picture n 0) (let d : (b.top + i) * w + b.left + j ≡ (b.top + i) * w + (b.left + j) = omega arith in d)
        ∙ sym (ap (λ q. get_or picture ((b.top + q) * w + (b.left + (i * b.columns + j) % b.columns)) 0) (div-mul-add i b.columns j below)
        ∙ ap (λ r. get_or picture ((b.top + i) * w + (b.left + r)) 0) (mod-mul-add i b.columns j below)))
