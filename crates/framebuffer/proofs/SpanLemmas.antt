-- Spans of columns and rows.
use Rattle.std.proofs.Common.{◌≡◌, ℕ, ℤ, pos, Bool, ◌&&◌, refl, sym, ap, ◌∙◌, arith}
use Rattle.std.specs.Prelude.{◌+ℤ◌, ◌-ℤ◌, int_le, int_lt}
use Rattle.std.proofs.lemmas.Int.{ints}
use Rattle.region.specs.declared.Rect.{Rect}
use Rattle.region.specs.Region.{in_rect, on_screen}
use Rattle.framebuffer.specs.Moves.{between}

less_by : (by x : ℤ) → int_le by x ≡ int_le (pos 0) (x -ℤ by)
less_by by x = grind (arith, ints)

more_by : (by limit x : ℤ) → int_lt x (limit +ℤ by) ≡ int_lt (x -ℤ by) limit
more_by by limit x = grind (arith, ints)

regroup : (a b c d e f : Bool) → ((a && b && c) && (d && e && f)) ≡ ((a && d) && (c && f) && (b && e))
regroup a b c d e f = grind (arith)

-- a span's places are those of its limits
pub kept_is : (from to by limit start end a b x : ℤ) (r : Bool) → r ≡ (int_le start x && int_lt x end) → int_le a x ≡ (int_le from x && int_le by x) → int_le start x ≡ (int_le a x && int_le (pos 0) x)
    → int_lt x b ≡ (int_lt x to && int_lt x (limit +ℤ by)) → int_lt x end ≡ (int_lt x b && int_lt x limit) → r ≡ (between from x to && between (pos 0) x limit && between (pos 0) (x -ℤ by) limit)
kept_is from to by limit start end a b x r is first second third fourth =
    let p = int_le from x in
    let q = int_le by x in
    let z = int_le (pos 0) x in
    let t = int_lt x to in
    let e = int_lt x (limit +ℤ by) in
    let l = int_lt x limit in
    let tests : (int_le start x && int_lt x end) ≡ ((p && q && z) && (t && e && l)) = rw (second, first, fourth, third) refl in
    is ∙ tests ∙ regroup p q z t e l ∙ ap (λ v. (p && t) && (z && l) && (v && e)) (less_by by x) ∙ ap (λ v. (p && t) && (z && l) && (int_le (pos 0) (x -ℤ by) && v)) (more_by by limit x)

-- a rectangle of two spans has just the places that are in it, and on the screen with those before them
pub destination_is : (r : Rect) (x1 x2 y1 y2 : ℤ) (w h : ℕ) (dx dy x y : ℤ)
    → between x1 x x2 ≡ (between r.x1 x r.x2 && between (pos 0) x (pos w) && between (pos 0) (x -ℤ dx) (pos w))
    → between y1 y y2 ≡ (between r.y1 y r.y2 && between (pos 0) y (pos h) && between (pos 0) (y -ℤ dy) (pos h))
    → in_rect (record { x1 = x1; y1 = y1; x2 = x2; y2 = y2 }) x y ≡ (in_rect r x y && on_screen w h x y && on_screen w h (x -ℤ dx) (y -ℤ dy))
destination_is r x1 x2 y1 y2 w h dx dy x y columns rows =
    four (int_le x1 x) (int_lt x x2) (int_le y1 y) (int_lt y y2) ∙ ap (λ b. b && between y1 y y2) columns ∙ ap (λ b. (between r.x1 x r.x2 && between (pos 0) x (pos w) && between (pos 0) (x -ℤ dx) (pos w)) && b) rows
    ∙ apart (between r.x1 x r.x2) (between (pos 0) x (pos w)) (between (pos 0) (x -ℤ dx) (pos w)) (between r.y1 y r.y2) (between (pos 0) y (pos h)) (between (pos 0) (y -ℤ dy) (pos h))
    ∙ ap (λ b. b && (between (pos 0) x (pos w) && between (pos 0) y (pos h)) && (between (pos 0) (x -ℤ dx) (pos w) && between (pos 0) (y -ℤ dy) (pos h))) (sym (four (int_le r.x1 x) (int_lt x r.x2) (int_le r.y1 y) (int_lt y r.y2)))
    ∙ ap (λ b. in_rect r x y && b && (between (pos 0) (x -ℤ dx) (pos w) && between (pos 0) (y -ℤ dy) (pos h))) (sym (four (int_le (pos 0) x) (int_lt x (pos w)) (int_le (pos 0) y) (int_lt y (pos h))))
    ∙ ap (λ b. in_rect r x y && on_screen w h x y && b) (sym (four (int_le (pos 0) (x -ℤ dx)) (int_lt (x -ℤ dx) (pos w)) (int_le (pos 0) (y -ℤ dy)) (int_lt (y -ℤ dy) (pos h))))
  where
    four : (a b c d : Bool) → (a && b && c && d) ≡ ((a && b) && (c && d))
    four a b c d = grind (arith)

    apart : (a b c d e f : Bool) → ((a && b && c) && (d && e && f)) ≡ ((a && d) && (b && e) && (c && f))
    apart a b c d e f = grind (arith)
