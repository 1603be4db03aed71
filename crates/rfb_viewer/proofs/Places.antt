-- What the places of a screen show once a block is filled, or an area copied.
use Rattle.std.proofs.Common.{◌≡◌, ℕ, ◌+◌, ◌*◌, ◌/◌, ◌%◌, ◌<◌, ◌≤◌, inl, inr, true, false, cond, Bool, List, [], ◌∷◌, ◌++◌, Option, None, length, get_or, sym, ap, ◌∙◌, arith, map}
use Rattle.std.proofs.lemmas.Bool.Decides.{nat_tests, leb_tells}
use Rattle.std.proofs.lemmas.List.FromFn.{map-range_with_len_more, length-map-range_with_len}
use Rattle.std.specs.List.{range_with_len}
use Rattle.std.specs.Prelude.{◌&&◌, nat_lt, nat_le, min}
use Rattle.pixel_translate.specs.declared.Area.{Area}
use Rattle.encode_raw.specs.Reading.{is_inside}
use Rattle.rfb_viewer.specs.declared.canvas.Dot.{Dot}
use Rattle.rfb_viewer.specs.declared.stages.Block.{Block}
use Rattle.rfb_viewer.specs.Canvas.{Dots, dot_at, filled, area_of, row_filled, copied_dot}

by_lt : {P : Type 0} (a b : ℕ) → (a < b → P) → (b ≤ a → P) → P
by_lt a b less not_less = elim (leb_tells b a) [ inl h ↦ not_less h.1 | inr h ↦ less h.1 ]

on_test : (x y w h : ℕ) → x < w → y < h → (nat_lt x w && nat_lt y h) ≡ true
on_test x y w h right down = grind (arith, nat_tests)

off_right : (x y w h : ℕ) → w ≤ x → (nat_lt x w && nat_lt y h) ≡ false
off_right x y w h right = grind (arith, nat_tests)

off_down : (x y w h : ℕ) → h ≤ y → (nat_lt x w && nat_lt y h) ≡ false
off_down x y w h down = grind (arith, nat_tests)

off_right_of : (x y w h : ℕ) (t : Bool) → w ≤ x → (nat_lt x w && nat_lt y h && t) ≡ false
off_right_of x y w h t right = grind (arith, nat_tests)

off_down_of : (x y w h : ℕ) (t : Bool) → h ≤ y → (nat_lt x w && nat_lt y h && t) ≡ false
off_down_of x y w h t down = grind (arith, nat_tests)

cut_test : (left columns top rows x y w h a0 a1 d0 d1 : ℕ) → a0 ≡ min left w → a1 ≡ min (left + columns) w → d0 ≡ min top h → d1 ≡ min (top + rows) h → x < w → y < h
    → (nat_le a0 x && nat_lt x a1 && (nat_le d0 y && nat_lt y d1))
    ≡ (nat_lt x w && nat_lt y h && (nat_le left x && nat_lt x (left + columns) && nat_le top y && nat_lt y (top + rows)))
cut_test left columns top rows x y w h a0 a1 d0 d1 e0 e1 e2 e3 right down = grind (arith, nat_tests)

pub block_filled : (d : Dots) (b : Block) (dot : Option Dot) (across down : ℕ × ℕ) (now : List (Option Dot))
    → across.0 ≡ min b.x d.columns → across.1 ≡ min (b.x + b.columns) d.columns → down.0 ≡ min b.y d.rows → down.1 ≡ min (b.y + b.rows) d.rows
    → ((y x : ℕ) → x < d.columns → get_or now (y * d.columns + x) None ≡ row_filled d.columns across down dot d.dots y x)
    → (x y : ℕ) → dot_at (record d { dots = now }) x y ≡ filled d b dot x y
block_filled d b dot across down now e0 e1 e2 e3 each x y =
    by_lt x d.columns
    (λ right. by_lt y d.rows
    (λ below. ap (λ t. cond t (get_or now (y * d.columns + x) None) None) (on_test x y d.columns d.rows right below)
    ∙ each y x right
    ∙ ap (λ t. cond t dot (get_or d.dots (y * d.columns + x) None)) (cut_test b.x b.columns b.y b.rows x y d.columns d.rows across.0 across.1 down.0 down.1 e0 e1 e2 e3 right below)
    ∙ sym (ap (λ o. cond (nat_lt x d.columns && nat_lt y d.rows && is_inside (area_of b) x y) dot o)
    (ap (λ t. cond t (get_or d.dots (y * d.columns + x) None) None) (on_test x y d.columns d.rows right below))))
    (λ under. ap (λ t. cond t (get_or now (y * d.columns + x) None) None) (off_down x y d.columns d.rows under)
    ∙ sym (ap (λ t. cond t dot (dot_at d x y)) (off_down_of x y d.columns d.rows (is_inside (area_of b) x y) under)
    ∙ ap (λ t. cond t (get_or d.dots (y * d.columns + x) None) None) (off_down x y d.columns d.rows under))))
    (λ past. ap (λ t. cond t (get_or now (y * d.columns + x) None) None) (off_right x y d.columns d.rows past)
    ∙ sym (ap (λ t. cond t dot (dot_at d x y)) (off_right_of x y d.columns d.rows (is_inside (area_of b) x y) past)
    ∙ ap (λ t. cond t (get_or d.dots (y * d.columns + x) None) None) (off_right x y d.columns d.rows past)))

-- what one place more shows behind a copy
pub one_more : (d : Dots) (a : Area) (from : ℕ × ℕ) (k : ℕ) (items : List (Option Dot)) (dot : Option Dot)
    → items ≡ map (λ k. copied_dot d a from (k % d.columns) (k / d.columns)) (range_with_len 0 k) → dot ≡ copied_dot d a from (k % d.columns) (k / d.columns)
    → items ++ dot ∷ [] ≡ map (λ k. copied_dot d a from (k % d.columns) (k / d.columns)) (range_with_len 0 (k + 1))
one_more d a from k items dot before here =
    ap (λ l. l ++ dot ∷ []) before ∙ ap (λ o. map f (range_with_len 0 k) ++ o ∷ []) here ∙ sym (map-range_with_len_more f 0 k k (omega arith))
  where
    f : ℕ → Option Dot
    f k = copied_dot d a from (k % d.columns) (k / d.columns)

pub as_many : (d : Dots) (a : Area) (from : ℕ × ℕ) (k : ℕ) (items : List (Option Dot)) → items ≡ map (λ k. copied_dot d a from (k % d.columns) (k / d.columns)) (range_with_len 0 k) → length items ≡ k
as_many d a from k items e = ap length e ∙ length-map-range_with_len (λ k. copied_dot d a from (k % d.columns) (k / d.columns)) 0 k
