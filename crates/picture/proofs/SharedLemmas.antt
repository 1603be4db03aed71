-- When rectangles are equal, and what holds of a list with one more at its end.
use Rattle.std.proofs.Common.{◌≡◌, ◌&&◌, Bool, true, List, [], ◌∷◌, ◌++◌, refl, sym, subst}
use Rattle.std.specs.Prelude.{ℤ, All}
use Rattle.std.specs.Bool.{Decides}
use Rattle.std.specs.Ordering.{int_eq}
use Rattle.std.specs.Cmp.Lexicographic.{pointwise}
use Rattle.std.proofs.lemmas.Bool.{and_parts, and_from}
use Rattle.std.proofs.lemmas.Bool.Decides.{Decides-int_eq}
use Rattle.std.proofs.lemmas.List.Elements.{All-append, All-cons, All-nil}
use Rattle.std.proofs.lemmas.Slice.Eq.{slice_eq-Decides}
use Rattle.region.specs.declared.Rect.{Rect}
use Rattle.picture.specs.Kept.{same_rect}

same_sides : (r s : Rect) → r.x1 ≡ s.x1 → r.y1 ≡ s.y1 → r.x2 ≡ s.x2 → r.y2 ≡ s.y2 → r ≡ s
same_sides r s left top right bottom = λ i. record { x1 = left i; y1 = top i; x2 = right i; y2 = bottom i }

tells : (r s : Rect) → same_rect r s ≡ true → r ≡ s
tells r s h =
    let last = and_parts _ _ h in
    let third = and_parts _ _ last.0 in
    let first = and_parts _ _ third.0 in
    same_sides r s ((Decides-int_eq _ _).0 first.0) ((Decides-int_eq _ _).0 first.1) ((Decides-int_eq _ _).0 third.1) ((Decides-int_eq _ _).0 last.1)

itself : (r : Rect) → same_rect r r ≡ true
itself r = and_from _ _ (and_from _ _ (and_from _ _ ((Decides-int_eq r.x1 r.x1).1 refl) ((Decides-int_eq r.y1 r.y1).1 refl)) ((Decides-int_eq r.x2 r.x2).1 refl)) ((Decides-int_eq r.y2 r.y2).1 refl)

pub same_rects : (rs ss : List Rect) (b : Bool) → b ≡ pointwise same_rect rs ss → b ≡ true → rs ≡ ss
same_rects rs ss b is = (slice_eq-Decides (λ r s. (tells r s, λ e. subst (λ t. same_rect r t ≡ true) e (itself r))) rs ss b is).0

-- one more behind a list
pub all_and_one : {X : Type 0} (P : X → Type 0) (xs now : List X) (x : X) → now ≡ xs ++ x ∷ [] → All P xs → P x → All P now
all_and_one P xs now x is all this = subst (All P) (sym is) (All-append P xs (x ∷ []) all (All-cons P x [] this (All-nil P)))
