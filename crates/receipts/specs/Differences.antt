-- Where two lists differ first, of bytes and of events.
use Rattle.std.specs.Prelude.{◌≡◌, ◌≤◌, ℕ, suc, length, take, drop, nat_eq, Bool, true, false, ◌&&◌, if◌then◌else◌, List, [], ◌∷◌, ◌++◌, Option, Some, None, option_map}
use Rattle.std.specs.Ordering.{int_eq}
use Rattle.std.specs.Cmp.Lexicographic.{pointwise}
use Rattle.region.specs.declared.Rect.{Rect}
use Rattle.scene.specs.declared.Event.{Event}
use Rattle.scene.specs.declared.Event.TheVariants.{Write, Paint, Mark, ScheduleCopy, DoCopy, Bell, CutText, Resize, Connect, Hear, Cut, Close}

-- the first place at which two lists differ, or the shorter one's length; none where they are equal
abbrev pub difference : {X : Type 0} → (X → X → Bool) → List X → List X → Option ℕ
difference same [] [] = None
difference same [] (y ∷ ys) = Some 0
difference same (x ∷ xs) [] = Some 0
difference same (x ∷ xs) (y ∷ ys) = if same x y then option_map suc (difference same xs ys) else Some 0

-- two lists begin with different elements, or one of them is at its end and the other is not
abbrev pub StartApart : {X : Type 0} → List X → List X → Type 0
StartApart [] [] = ⊥
StartApart [] (y ∷ ys) = Unit {0}
StartApart (x ∷ xs) [] = Unit {0}
StartApart (x ∷ xs) (y ∷ ys) = x ≡ y → ⊥

-- two lists agree up to a place within both, and no further
pub record IsFirstDifference {X : Type 0} (xs ys : List X) (at : ℕ) : Type 0 where
  pub within : at ≤ length xs
  pub within_other : at ≤ length ys
  pub agree : take at xs ≡ take at ys
  pub apart : StartApart (drop at xs) (drop at ys)

-- a list begins another, and is not all of it
abbrev pub IsProperPrefix : List ℕ → List ℕ → Type 0
IsProperPrefix xs ys = (next : ℕ) × ((rest : List ℕ) × (ys ≡ xs ++ next ∷ rest))

abbrev pub same_rect : Rect → Rect → Bool
same_rect r s = int_eq r.x1 s.x1 && int_eq r.y1 s.y1 && int_eq r.x2 s.x2 && int_eq r.y2 s.y2

-- whether two events are equal
abbrev pub same_event : Event → Event → Bool
same_event (Write r colours) (Write s others) = same_rect r s && pointwise nat_eq colours others
same_event (Paint r colours) (Paint s others) = same_rect r s && pointwise nat_eq colours others
same_event (Mark rects) (Mark others) = pointwise same_rect rects others
same_event (ScheduleCopy rects dx dy) (ScheduleCopy others x y) = pointwise same_rect rects others && int_eq dx x && int_eq dy y
same_event (DoCopy rects dx dy) (DoCopy others x y) = pointwise same_rect rects others && int_eq dx x && int_eq dy y
same_event Bell Bell = true
same_event (CutText text) (CutText other) = pointwise nat_eq text other
same_event (Resize w h) (Resize x y) = nat_eq w x && nat_eq h y
same_event (Connect v) (Connect w) = nat_eq v w
same_event (Hear v piece) (Hear w other) = nat_eq v w && pointwise nat_eq piece other
same_event (Cut v) (Cut w) = nat_eq v w
same_event (Close v) (Close w) = nat_eq v w
same_event _ _ = false
