-- The test of two events tells whether they are equal.
use Rattle.std.proofs.Common.{◌≡◌, ℕ, nat_eq, true, List, refl, subst, ap}
use Rattle.std.specs.Prelude.{ℤ}
use Rattle.std.specs.Bool.{Decides}
use Rattle.std.specs.Ordering.{int_eq}
use Rattle.std.specs.Cmp.Lexicographic.{pointwise}
use Rattle.std.proofs.lemmas.Bool.{and_parts, and_from, false≢true}
use Rattle.std.proofs.lemmas.Bool.Decides.{Decides-eqb, Decides-int_eq}
use Rattle.std.proofs.lemmas.Slice.Eq.{slice_eq-Decides}
use Rattle.region.specs.declared.Rect.{Rect}
use Rattle.scene.specs.declared.Event.{Event}
use Rattle.scene.specs.declared.Event.TheVariants.{Write, Paint, Mark, ScheduleCopy, DoCopy, Bell, CutText, Resize, Connect, Hear, Cut, Close}
use Rattle.receipts.specs.Differences.{same_rect, same_event}

same_sides : (r s : Rect) → r.x1 ≡ s.x1 → r.y1 ≡ s.y1 → r.x2 ≡ s.x2 → r.y2 ≡ s.y2 → r ≡ s
same_sides r s left top right bottom = λ i. record { x1 = left i; y1 = top i; x2 = right i; y2 = bottom i }

int_tells : (x y : ℤ) → int_eq x y ≡ true → x ≡ y
int_tells x y h = (Decides-int_eq x y).0 h

int_itself : (x : ℤ) → int_eq x x ≡ true
int_itself x = (Decides-int_eq x x).1 refl

rect_tells : (r s : Rect) → same_rect r s ≡ true → r ≡ s
rect_tells r s h =
    let last = and_parts _ _ h in
    let third = and_parts _ _ last.0 in
    let first = and_parts _ _ third.0 in
    same_sides r s (int_tells _ _ first.0) (int_tells _ _ first.1) (int_tells _ _ third.1) (int_tells _ _ last.1)

rect_itself : (r : Rect) → same_rect r r ≡ true
rect_itself r = and_from _ _ (and_from _ _ (and_from _ _ (int_itself r.x1) (int_itself r.y1)) (int_itself r.x2)) (int_itself r.y2)

rects-Decides : (rs ss : List Rect) → Decides (pointwise same_rect rs ss) (rs ≡ ss)
rects-Decides rs ss = slice_eq-Decides (λ r s. (rect_tells r s, λ e. subst (λ t. same_rect r t ≡ true) e (rect_itself r))) rs ss _ refl

pub numbers-Decides : (xs ys : List ℕ) → Decides (pointwise nat_eq xs ys) (xs ≡ ys)
numbers-Decides xs ys = slice_eq-Decides Decides-eqb xs ys _ refl

nat_tells : (m n : ℕ) → nat_eq m n ≡ true → m ≡ n
nat_tells m n h = (Decides-eqb m n).0 h

nat_itself : (n : ℕ) → nat_eq n n ≡ true
nat_itself n = (Decides-eqb n n).1 refl

event_tells : (a b : Event) → same_event a b ≡ true → a ≡ b
event_tells (Write r colours) (Write s others) h = let p = and_parts _ _ h in let one = rect_tells r s p.0 in let two = (numbers-Decides colours others).0 p.1 in cc
event_tells (Paint r colours) (Paint s others) h = let p = and_parts _ _ h in let one = rect_tells r s p.0 in let two = (numbers-Decides colours others).0 p.1 in cc
event_tells (Mark rects) (Mark others) h = ap Mark ((rects-Decides rects others).0 h)
event_tells (ScheduleCopy rects dx dy) (ScheduleCopy others x y) h =
    let p = and_parts _ _ h in let q = and_parts _ _ p.0 in
    let one = (rects-Decides rects others).0 q.0 in let two = int_tells dx x q.1 in let three = int_tells dy y p.1 in cc
event_tells (DoCopy rects dx dy) (DoCopy others x y) h =
    let p = and_parts _ _ h in let q = and_parts _ _ p.0 in
    let one = (rects-Decides rects others).0 q.0 in let two = int_tells dx x q.1 in let three = int_tells dy y p.1 in cc
event_tells Bell Bell h = refl
event_tells (CutText text) (CutText other) h = ap CutText ((numbers-Decides text other).0 h)
event_tells (Resize w k) (Resize x y) h = let p = and_parts _ _ h in let one = nat_tells w x p.0 in let two = nat_tells k y p.1 in cc
event_tells (Connect v) (Connect w) h = ap Connect (nat_tells v w h)
event_tells (Hear v piece) (Hear w other) h = let p = and_parts _ _ h in let one = nat_tells v w p.0 in let two = (numbers-Decides piece other).0 p.1 in cc
event_tells (Cut v) (Cut w) h = ap Cut (nat_tells v w h)
event_tells (Close v) (Close w) h = ap Close (nat_tells v w h)
event_tells _ _ h = absurd (false≢true h)

event_itself : (a : Event) → same_event a a ≡ true
event_itself (Write r colours) = and_from _ _ (rect_itself r) ((numbers-Decides colours colours).1 refl)
event_itself (Paint r colours) = and_from _ _ (rect_itself r) ((numbers-Decides colours colours).1 refl)
event_itself (Mark rects) = (rects-Decides rects rects).1 refl
event_itself (ScheduleCopy rects dx dy) = and_from _ _ (and_from _ _ ((rects-Decides rects rects).1 refl) (int_itself dx)) (int_itself dy)
event_itself (DoCopy rects dx dy) = and_from _ _ (and_from _ _ ((rects-Decides rects rects).1 refl) (int_itself dx)) (int_itself dy)
event_itself Bell = refl
event_itself (CutText text) = (numbers-Decides text text).1 refl
event_itself (Resize w k) = and_from _ _ (nat_itself w) (nat_itself k)
event_itself (Connect v) = nat_itself v
event_itself (Hear v piece) = and_from _ _ (nat_itself v) ((numbers-Decides piece piece).1 refl)
event_itself (Cut v) = nat_itself v
event_itself (Close v) = nat_itself v

pub event-Decides : (a b : Event) → Decides (same_event a b) (a ≡ b)
event-Decides a b = (event_tells a b, λ e. subst (λ x. same_event a x ≡ true) e (event_itself a))
