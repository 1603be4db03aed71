-- What a viewer's screen lacks, place by place, and what one update sends of it (RFC 6143, 7.5.3 and 7.6.1). An update that an application
-- draws by a copy may be sent as CopyRect (7.7.2).
use Rattle.std.specs.Prelude.{◌≡◌, length, ◌≤◌, ℕ, ◌*◌, Bool, true, false, not, ◌&&◌, ◌||◌, if◌then◌else◌, List, take, replicate, ℤ, pos, ◌+ℤ◌, ◌-ℤ◌, Option, Some, None}
use Rattle.std.specs.List.{All, list_any}
use Rattle.region.specs.declared.Rect.{Rect}
use Rattle.region.specs.Region.{covers, on_screen, rects_of, order}
use Rattle.copy_schedule.specs.declared.Cut.{Cut}
use Rattle.copy_schedule.specs.declared.Mark.{Mark}
use Rattle.copy_schedule.specs.declared.Mark.TheVariants.{Clean, Copied, Owed}
use Rattle.region.specs.Places.{by_place, at_place, some_place}
use Rattle.region.specs.Places.{same_offset, IsOnScreen, source_rect}

pub record Marks : Type 0 where
  -- the screen's size (7.3.2)
  pub width : ℕ
  pub height : ℕ
  -- a mark for each place, row by row
  pub marks : List Mark
  -- how far right of its source, and below it, each copy is that is awaited
  pub offset : ℤ × ℤ
  -- for each place whether it was asked for (7.5.3)
  pub asked : List Bool

abbrev pub is_clean : Mark → Bool
is_clean Clean = true
is_clean Copied = false
is_clean Owed = false

abbrev pub is_copied : Mark → Bool
is_copied Clean = false
is_copied Copied = true
is_copied Owed = false

abbrev pub is_owed : Mark → Bool
is_owed Clean = false
is_owed Copied = false
is_owed Owed = true

-- the mark of a place, Clean off the screen
abbrev pub mark_at : Marks → ℤ → ℤ → Mark
mark_at m x y = at_place Clean m.width m.height m.marks x y

abbrev pub asked_at : Marks → ℤ → ℤ → Bool
asked_at m x y = at_place false m.width m.height m.asked x y

-- whether a place is asked for
abbrev pub has_asked : Marks → Bool
has_asked m = list_any (λ is_asked. is_asked) m.asked

-- m with these marks
abbrev pub with_marks : Marks → (ℤ → ℤ → Mark) → Marks
with_marks m mark = record m { marks = by_place m.width m.height mark }

-- once a viewer has connected every place is owed, and none is asked for (7.3.2)
abbrev pub new_marks : ℕ → ℕ → Marks
new_marks w h = record { width = w; height = h; marks = replicate (w * h) Owed; offset = (pos 0, pos 0); asked = replicate (w * h) false }

-- Drawing. A set of places is a test.

-- the places of the set become owed: they are sent as pixels (7.6.1)
abbrev pub marked : (ℤ → ℤ → Bool) → Marks → Marks
marked set m = with_marks m (λ x y. if set x y then Owed else mark_at m x y)

-- Before a copy of a set by an offset: a place that awaits pixels by another offset, or from which the copy takes pixels that it still awaits, becomes owed.
abbrev pub lost_to : (ℤ → ℤ → Bool) → ℤ × ℤ → Marks → Marks
lost_to set by m = with_marks m (λ x y.
    if is_copied (mark_at m x y) && (not (same_offset m.offset by) || set (x +ℤ by.0) (y +ℤ by.1)) then Owed else mark_at m x y)

-- the mark of a place, of the copy's places or of those that await one, by the mark of its source
abbrev pub moved_mark : Bool → Mark → Mark → Mark
moved_mark is_drawn Owed source = Owed
moved_mark is_drawn Copied source = if is_owed source then Owed else Copied
moved_mark true Clean source = if is_owed source then Owed else Copied
moved_mark false Clean source = Clean

-- a viewer with CopyRect may move the set's pixels itself, by the offset, all places at once (7.7.2)
abbrev pub moved_marks : (ℤ → ℤ → Bool) → ℤ × ℤ → Marks → Marks
moved_marks set by m = record (with_marks m (λ x y. moved_mark (set x y) (mark_at m x y) (mark_at m (x -ℤ by.0) (y -ℤ by.1)))) { offset = by }

-- after a copy of a set, which is on the screen with its source and not empty, by an offset that is not (0, 0)
abbrev pub copied_by : (ℤ → ℤ → Bool) → ℤ × ℤ → Bool → Marks → Marks
copied_by set by true m = moved_marks set by (lost_to set by m)
copied_by set by false m = marked set m

-- Messages of the viewer.

-- a set is asked for; where not incremental, it and what awaits its pixels are owed (RFC 6143, 7.5.3)
abbrev pub asked_for : (ℤ → ℤ → Bool) → Marks → Marks
asked_for set m = record m { asked = by_place m.width m.height (λ x y. asked_at m x y || set x y) }

abbrev pub forgotten : (ℤ → ℤ → Bool) → Marks → Marks
forgotten set m = with_marks m (λ x y.
    if set x y || (is_copied (mark_at m x y) && set (x -ℤ m.offset.0) (y -ℤ m.offset.1)) then Owed else mark_at m x y)

abbrev pub requested : (ℤ → ℤ → Bool) → Bool → Marks → Marks
requested set true m = asked_for set m
requested set false m = forgotten set (asked_for set m)

-- a list of encodings came in which CopyRect isn't (7.5.2)
abbrev pub without_copyrect : Marks → Marks
without_copyrect m = with_marks m (λ x y. if is_copied (mark_at m x y) then Owed else mark_at m x y)

-- A new size.

-- Every place is owed, and nothing awaits a copy (DesktopSize, 7.8.2). Of the places that were asked for those stay asked for that are on the new screen
-- and in the view.
abbrev pub resized : ℕ → ℕ → (ℤ → ℤ → Bool) → Marks → Marks
resized w h view m = record (new_marks w h) { asked = by_place w h (λ x y. asked_at m x y && view x y) }

-- One update.

-- the places that are asked for and not clean (7.5.3)
abbrev pub wanted : Marks → ℤ → ℤ → Bool
wanted m x y = asked_at m x y && not (is_clean (mark_at m x y))

-- those of them whose pixels the viewer has at places that are asked for too (7.7.2)
abbrev pub copyable : Marks → ℤ → ℤ → Bool
copyable m x y = asked_at m x y && is_copied (mark_at m x y) && asked_at m (x -ℤ m.offset.0) (y -ℤ m.offset.1)

-- the first copies, in the order in which none is drawn over a later one's source
abbrev pub copies_of : ℕ → Marks → List Rect
copies_of limit m = take limit (order m.offset.0 m.offset.1 (rects_of m.width m.height (copyable m)))

-- the first rectangles of the rest (7.6.1)
abbrev pub pixels_of : ℕ → Marks → List Rect
pixels_of limit m = take limit (rects_of m.width m.height (λ x y. wanted m x y && not (copyable m x y)))

-- whether a place is wanted
abbrev pub pending : Marks → Bool
pending m = some_place m.width m.height (wanted m)

-- what is sent is clean then, and what else is not clean is owed
abbrev pub after_sending : List Rect → List Rect → Marks → Marks
after_sending copies pixels m = record (with_marks m (λ x y.
    if covers copies x y || covers pixels x y || is_clean (mark_at m x y) then Clean else Owed)) { offset = (pos 0, pos 0); asked = replicate (m.width * m.height) false }

-- a set of places is on a w by h screen with the places (dx, dy) before them
abbrev pub IsCutTo : ℕ → ℕ → ℤ × ℤ → List Rect → Type 0
IsCutTo w h by rs = (x y : ℤ) → covers rs x y ≡ true → (on_screen w h x y && on_screen w h (x -ℤ by.0) (y -ℤ by.1)) ≡ true

-- what one update sends, and the marks after it (7.6.1)
pub record Sent : Type 0 where
  pub copies : List Rect
  pub offset : ℤ × ℤ
  pub pixels : List Rect
  pub after : Marks

-- None where nothing is wanted; of the copies, and of the pixel rectangles, at most limit
abbrev pub cut_of : ℕ → Marks → Option Sent
cut_of limit m =
    if pending m then Some (record { copies = copies_of limit m; offset = m.offset; pixels = pixels_of limit m; after = after_sending (copies_of limit m) (pixels_of limit m) m })
    else None

-- as the call gives it
abbrev pub cut_of_sent : Sent → Cut
cut_of_sent s = record { copies = s.copies; offset = s.offset; pixels = s.pixels }

-- the marks after that, unchanged where nothing is wanted
abbrev pub marks_after : ℕ → Marks → Marks
marks_after limit m = if pending m then after_sending (copies_of limit m) (pixels_of limit m) m else m

-- all of a cut is on the screen
pub record IsInside (w h : ℕ) (cut : Cut) : Type 0 where
  pub copies : All (IsOnScreen w h) cut.copies
  pub pixels : All (IsOnScreen w h) cut.pixels

-- so is what its copies are copied from
abbrev pub HasSourcesInside : ℕ → ℕ → Cut → Type 0
HasSourcesInside w h cut = All (λ r. IsOnScreen w h (source_rect cut.offset r)) cut.copies

-- no more of each kind than the limit
pub record IsWithin (limit : ℕ) (cut : Cut) : Type 0 where
  pub copies : length cut.copies ≤ limit
  pub pixels : length cut.pixels ≤ limit
