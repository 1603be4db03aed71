-- The marks of a screen as two sets of places, the owed and the copied ones.
use Rattle.std.specs.Prelude.{◌≡◌, ℕ, ◌≤◌, true, false, ◌&&◌, if◌then◌else◌, List, ℤ}
use Rattle.region.specs.declared.Rect.{Rect}
use Rattle.region.specs.Region.{covers, on_screen}
use Rattle.copy_schedule.specs.declared.Mark.{Mark}
use Rattle.copy_schedule.specs.declared.Mark.TheVariants.{Clean, Copied, Owed}
use Rattle.copy_schedule.specs.declared.mark_sets.MarkSets.{MarkSets}
use Rattle.region.specs.Places.{by_place, longest_side}
use Rattle.copy_schedule.specs.Marks.{Marks}

-- the mark of a place, by the owed and the copied places
abbrev pub mark_in : List Rect → List Rect → ℤ → ℤ → Mark
mark_in owed copied x y = if covers owed x y then Owed else if covers copied x y then Copied else Clean

abbrev pub mark_in_sets : MarkSets → ℤ → ℤ → Mark
mark_in_sets k x y = mark_in k.owed.list k.copied.list x y

-- all places are on a w by h screen
abbrev pub LiesOn : ℕ → ℕ → List Rect → Type 0
LiesOn w h rs = (x y : ℤ) → covers rs x y ≡ true → on_screen w h x y ≡ true

-- the owed and the copied places are of a w by h screen, and none is both
pub record AreMarkSets (w h : ℕ) (k : MarkSets) : Type 0 where
  pub owed_on : LiesOn w h k.owed.list
  pub copied_on : LiesOn w h k.copied.list
  pub apart : (x y : ℤ) → (covers k.owed.list x y && covers k.copied.list x y) ≡ false

-- a screen's size, and its places that are not clean or asked for
pub record IsScreen (w h : ℕ) (k : MarkSets) (asked : List Rect) : Type 0 where
  pub columns : w ≤ longest_side
  pub rows : h ≤ longest_side
  pub sets : AreMarkSets w h k
  pub asked_on : LiesOn w h asked

-- marks with these sets
abbrev pub with_sets : MarkSets → Marks → Marks
with_sets k m = record m { marks = by_place m.width m.height (mark_in_sets k) }
