use Rattle.std.proofs.Common.{◌≡◌, ℕ, ◌+◌, ◌<◌, arith, ap, ◌∙◌}
use Rattle.std.specs.Prelude.{ℤ, pos, ◌+ℤ◌, ◌-ℤ◌}
use Rattle.std.specs.Int.{w32}
use mir.Val.{to_z, of_z}
use Rattle.region.specs.declared.Rect.{Rect}
use Rattle.source_picture.proofs.DoneLemmas.{copy_done, as_pos, as_apart}
use Rattle.source_picture.proofs.painter.copy.Goals as goal

abbrev back : ℤ → ℤ
back v = to_z w32 (of_z w32 v)

abbrev rect : (left top right bottom : ℤ) → Rect
rect left top right bottom = record { x1 = left; y1 = top; x2 = right; y2 = bottom }

-- the numbers that are passed are those of the area
same_rect : (a b c d : ℤ) (x y r l : ℕ) → a ≡ pos x → b ≡ pos y → c ≡ pos r → d ≡ pos l → rect a b c d ≡ rect (pos x) (pos y) (pos r) (pos l)
same_rect a b c d x y r l e f g h = ap (λ n. rect n b c d) e ∙ ap (λ n. rect (pos x) n c d) f ∙ ap (λ n. rect (pos x) (pos y) n d) g ∙ ap (λ n. rect (pos x) (pos y) (pos r) n) h

summed : (a b : ℤ) (x w : ℕ) → a ≡ pos x → b ≡ pos w → a +ℤ b ≡ pos (x + w)
summed a b x w e f = ap (λ n. n +ℤ b) e ∙ ap (λ n. pos x +ℤ n) f

apart : (a b : ℤ) (x y : ℕ) → a ≡ pos x → b ≡ pos y → a -ℤ b ≡ pos x -ℤ pos y
apart a b x y e f = ap (λ n. n -ℤ b) e ∙ ap (λ n. pos x -ℤ n) f

pub returns-clause-painted : goal.returns-clause-painted
returns-clause-painted c config list was there here =
    let area = c.args.area in
    let x_small : area.x < 65536 = omega arith in
    let y_small : area.y < 65536 = omega arith in
    let w_small : area.w < 65536 = omega arith in
    let h_small : area.h < 65536 = omega arith in
    let from_x_small : c.args.x < 65536 = omega arith in
    let from_y_small : c.args.y < 65536 = omega arith in
    let left : back c.from-left.result ≡ pos area.x = as_pos c.from-left.result area.x c.from-left.ensures (omega arith) in
    let top : back c.from-top.result ≡ pos area.y = as_pos c.from-top.result area.y c.from-top.ensures (omega arith) in
    let width : back c.from.result ≡ pos area.w = as_pos c.from.result area.w c.from.ensures (omega arith) in
    let height : back c.from-2.result ≡ pos area.h = as_pos c.from-2.result area.h c.from-2.ensures (omega arith) in
    let from_x : back c.from-3.result ≡ pos c.args.x = as_pos c.from-3.result c.args.x c.from-3.ensures (omega arith) in
    let from_y : back c.from-4.result ≡ pos c.args.y = as_pos c.from-4.result c.args.y c.from-4.ensures (omega arith) in
    let right_is = summed (back c.from-left.result) (back c.from.result) area.x area.w left width in
    let bottom_is = summed (back c.from-top.result) (back c.from-2.result) area.y area.h top height in
    let right : ℤ = back (back c.from-left.result +ℤ back c.from.result) in
    let bottom : ℤ = back (back c.from-top.result +ℤ back c.from-2.result) in
    let dx : ℤ = back (back c.from-left.result -ℤ back c.from-3.result) in
    let dy : ℤ = back (back c.from-top.result -ℤ back c.from-4.result) in
    copy_done config list area c.args.x c.args.y (rect (back c.from-left.result) (back c.from-top.result) right bottom) dx dy c.args.canvas.now.screen c.do_copy_rect.new.self.screen c.do_copy_rect.result
    (same_rect (back c.from-left.result) (back c.from-top.result) right bottom area.x area.y (area.x + area.w) (area.y + area.h) left top
    (as_pos (back c.from-left.result +ℤ back c.from.result) (area.x + area.w) right_is (omega arith)) (as_pos (back c.from-top.result +ℤ back c.from-2.result) (area.y + area.h) bottom_is (omega arith)))
    (as_apart (back c.from-left.result -ℤ back c.from-3.result) area.x c.args.x (apart (back c.from-left.result) (back c.from-3.result) area.x c.args.x left from_x) x_small from_x_small)
    (as_apart (back c.from-top.result -ℤ back c.from-4.result) area.y c.args.y (apart (back c.from-top.result) (back c.from-4.result) area.y c.args.y top from_y) y_small from_y_small)
    was (c.do_copy_rect.ensures.step config list was) there here
