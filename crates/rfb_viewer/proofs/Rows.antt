-- What filling a row of a screen changes.
use Rattle.std.proofs.Common.{◌≡◌, ℕ, ◌+◌, ◌-◌, ◌*◌, ◌<◌, ◌≤◌, ◌⊎◌, inl, inr, true, false, cond, List, Option, None, length, get_or, sym, ap, ◌∙◌, arith, rules}
use Rattle.std.proofs.Math.Nat.{mul-le-mul_right}
use Rattle.std.proofs.lemmas.Bool.Decides.{nat_tests, leb_tells}
use Rattle.std.proofs.lemmas.List.{places}
use borrow.Rule.Slice.PartMut.{put_mid}
use Rattle.rfb_viewer.specs.declared.canvas.Dot.{Dot}
use Rattle.rfb_viewer.specs.Canvas.{is_between, row_filled}
use Rattle.std.specs.Prelude.{◌&&◌}

-- a row below an end lies in the picture
pub row_inside : (w end y len : ℕ) → end * w ≤ len → y < end → y * w + w ≤ len
row_inside w end y len high below =
    let up : (y + 1) * w ≤ end * w = mul-le-mul_right w (omega arith) in
    omega (arith, up)

-- an element of a list of which a part was replaced
put-below : {X : Type 0} (a k n : ℕ) (xs ys : List X) (d : X) → n < a → a ≤ length xs → get_or (put_mid a k xs ys) n d ≡ get_or xs n d
put-below a k n xs ys d below inside = search (rules, places)

put-in : {X : Type 0} (a k n : ℕ) (xs ys : List X) (d : X) → a ≤ n → n < a + length ys → a ≤ length xs → get_or (put_mid a k xs ys) n d ≡ get_or ys (n - a) d
put-in a k n xs ys d above below inside = search (rules, places)

put-above : {X : Type 0} (a k n : ℕ) (xs ys : List X) (d : X) → length ys ≡ k → a + k ≤ n → a + k ≤ length xs → get_or (put_mid a k xs ys) n d ≡ get_or xs n d
put-above a k n xs ys d long above inside = search (rules, places)

same_test : (left right top i y x : ℕ) → top ≤ i → ((y ≡ i) → (x < left) ⊎ (right ≤ x)) → (is_between (left, right) x && is_between (top, i + 1) y) ≡ (is_between (left, right) x && is_between (top, i) y)
same_test left right top i y x order other = grind (arith, nat_tests)

hit_test : (left right top i x : ℕ) → top ≤ i → left ≤ x → x < right → (is_between (left, right) x && is_between (top, i + 1) i) ≡ true
hit_test left right top i x order from to = grind (arith, nat_tests)

empty_test : (left right top y x : ℕ) → (is_between (left, right) x && is_between (top, top) y) ≡ false
empty_test left right top y x = grind (arith, nat_tests)

-- the rows from the top up to an end are filled from the left to the right
abbrev pub IsFilled : ℕ → ℕ → ℕ → ℕ → ℕ → Option Dot → List (Option Dot) → List (Option Dot) → Type 0
IsFilled w left right top end dot old now = (y x : ℕ) → x < w → get_or now (y * w + x) None ≡ row_filled w (left, right) (top, end) dot old y x

by_lt : {P : Type 0} (a b : ℕ) → (a < b → P) → (b ≤ a → P) → P
by_lt a b less not_less = elim (leb_tells b a) [ inl h ↦ not_less h.1 | inr h ↦ less h.1 ]

-- one row more
pub one_row : (w left right top i k : ℕ) (dot : Option Dot) (old now row : List (Option Dot)) → right ≤ w → left ≤ right → top ≤ i → k ≡ right - left → length row ≡ k
    → i * w + w ≤ length now → ((j : ℕ) → j < k → get_or row j None ≡ dot)
    → IsFilled w left right top i dot old now → IsFilled w left right top (i + 1) dot old (put_mid (i * w + left) k now row)
one_row w left right top i k dot old now row wide some order columns long inside each done y x right_of =
    by_lt y i
    (λ above. let up : (y + 1) * w ≤ i * w = mul-le-mul_right w (omega arith) in
    stays (λ e. absurd (omega arith)) (put-below start k (y * w + x) now row None (omega (arith, up)) (omega arith)))
    (λ not_above. by_lt i y
    (λ below. let up : (i + 1) * w ≤ y * w = mul-le-mul_right w (omega arith) in
    stays (λ e. absurd (omega arith)) (put-above start k (y * w + x) now row None long (omega (arith, up)) (omega arith)))
    (λ not_below. let e : y ≡ i = omega arith in
    by_lt x left
    (λ before. stays (λ _. inl before) (put-below start k (y * w + x) now row None (rw e (omega arith)) (omega arith)))
    (λ from. by_lt x right
    (λ within. rw e (
    put-in start k (i * w + x) now row None (omega arith) (omega arith) (omega arith)
    ∙ each (i * w + x - start) (omega arith)
    ∙ sym (ap (λ t. cond t dot (get_or old (i * w + x) None)) (hit_test left right top i x order from within))))
    (λ past. stays (λ _. inr past) (put-above start k (y * w + x) now row None long (rw e (omega arith)) (omega arith))))))
  where
    start : ℕ
    start = i * w + left

    stays : ((y ≡ i) → (x < left) ⊎ (right ≤ x)) → get_or (put_mid (i * w + left) k now row) (y * w + x) None ≡ get_or now (y * w + x) None
        → get_or (put_mid (i * w + left) k now row) (y * w + x) None ≡ row_filled w (left, right) (top, i + 1) dot old y x
    stays other same = same ∙ done y x right_of ∙ ap (λ t. cond t dot (get_or old (y * w + x) None)) (sym (same_test left right top i y x order other))

-- no row
pub no_row : (w left right top : ℕ) (dot : Option Dot) (old : List (Option Dot)) → IsFilled w left right top top dot old old
no_row w left right top dot old y x right_of = sym (ap (λ t. cond t dot (get_or old (y * w + x) None)) (empty_test left right top y x))
