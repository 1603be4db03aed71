-- Viewers whose marks are of a size, one for each position.
use Rattle.std.proofs.Common.{◌≡◌, ℕ, zero, suc, ◌*◌, ◌/◌, ◌%◌, ◌<◌, Bool, true, false, cond, List, [], ◌∷◌, ◌++◌, length, refl, sym, subst, ◌∙◌, ap, arith}
use Rattle.std.specs.Prelude.{ℤ, pos}
use Rattle.std.proofs.lemmas.List.{length-replicate}
use Rattle.std.proofs.lemmas.List.FromFn.{length-map-range_with_len}
use Rattle.region.specs.Region.{covers}
use Rattle.region.specs.PlaceLemmas.{at_place-number, by_place-numbers}
use Rattle.copy_schedule.specs.declared.LogEntry.{LogEntry}
use Rattle.copy_schedule.specs.declared.LogEntry.TheVariants.{Mark, Copy}
use Rattle.copy_schedule.specs.declared.Mark as mark
use Rattle.copy_schedule.specs.declared.Mark.TheVariants.{Clean, Owed}
use Rattle.copy_schedule.specs.Marks.{Marks, mark_at, marked, copied_by}
use Rattle.messages.specs.declared.Item.{Item}
use Rattle.messages.specs.declared.Item.TheVariants as item
use Rattle.messages.specs.Reading.{rest, new_items}
use Rattle.viewer.specs.Hearing.{after_items}
use Rattle.viewer.specs.Viewer.{KeptViewer, kept_viewer, new_viewer, after_item, viewer_marked, viewer_resized}
use Rattle.viewer_list.specs.Viewers.{IsOfSize, drawn}

-- ---- marks of no position

pub marked_none : (set : ℤ → ℤ → Bool) (m : Marks) → ((x y : ℤ) → set x y ≡ false) → length m.marks ≡ m.width * m.height → marked set m ≡ m
marked_none set m none whole = ap (λ (ms : List mark.Mark). record m { marks = ms }) (sym (by_place-numbers Clean m.width m.height (λ x y. cond (set x y) Owed (mark_at m x y)) m.marks whole (λ k below.
    sym (at_place-number Clean m.width m.height m.marks k (some_column m.width m.height k below) below)
    ∙ sym (ap (λ b. cond b Owed (mark_at m (pos (k % m.width)) (pos (k / m.width)))) (none (pos (k % m.width)) (pos (k / m.width)))))))
  where
    some_column : (w h k : ℕ) → k < w * h → 0 < w
    some_column zero h k below = absurd (omega arith)
    some_column (suc w) h k below = omega arith

-- ---- what keeps the size

module _ (w h : ℕ) where
  -- at connecting
  pub new_size : (v : KeptViewer) → v ≡ kept_viewer (new_viewer w h) → IsOfSize w h v
  new_size v is = subst (IsOfSize w h) (sym is) (record { width = refl; height = refl; whole = length-replicate (w * h) Owed; heard = ([], refl) })

  -- a screen of that size is made anew
  pub resized_size : (v : KeptViewer) → (before : List ℕ) × (v.heard ≡ rest before) → IsOfSize w h (viewer_resized w h v)
  resized_size v heard = record { width = refl; height = refl; whole = length-replicate (w * h) Owed; heard = heard }

  pub marked_size : (set : ℤ → ℤ → Bool) (v : KeptViewer) → IsOfSize w h v → IsOfSize w h (viewer_marked set v)
  marked_size set v size = record { width = size.width; height = size.height; whole = length-map-range_with_len _ 0 (v.marks.width * v.marks.height); heard = size.heard }

  pub drawn_size : (entry : LogEntry) (v : KeptViewer) → IsOfSize w h v → IsOfSize w h (drawn entry v)
  drawn_size (Mark region) v size = marked_size (covers region.list) v size
  drawn_size (Copy region dx dy) v size = go v.uses_copyrect
    where
      go : (b : Bool) → IsOfSize w h (record v { marks = copied_by (covers region.list) (dx, dy) b v.marks })
      go true = record { width = size.width; height = size.height; whole = length-map-range_with_len _ 0 (v.marks.width * v.marks.height); heard = size.heard }
      go false = marked_size (covers region.list) v size

  item_size : (a b : ℕ) (i : Item) (v : KeptViewer) → IsOfSize w h v → IsOfSize w h (after_item a b i v)
  item_size a b (item.Format f) v size = record { width = size.width; height = size.height; whole = size.whole; heard = size.heard }
  item_size a b (item.Encodings preferred true resize) v size = record { width = size.width; height = size.height; whole = size.whole; heard = size.heard }
  item_size a b (item.Encodings preferred false resize) v size = record { width = size.width; height = size.height; whole = length-map-range_with_len _ 0 (v.marks.width * v.marks.height); heard = size.heard }
  item_size a b (item.Request true area) v size = record { width = size.width; height = size.height; whole = size.whole; heard = size.heard }
  item_size a b (item.Request false area) v size = record { width = size.width; height = size.height; whole = length-map-range_with_len _ 0 (v.marks.width * v.marks.height); heard = size.heard }
  item_size a b (item.Version version) v size = size
  item_size a b item.Choice v size = size
  item_size a b (item.Init shared) v size = record { width = size.width; height = size.height; whole = size.whole; heard = size.heard }
  item_size a b (item.Input input) v size = size

  items_size : (a b : ℕ) (is : List Item) (v : KeptViewer) → IsOfSize w h v → IsOfSize w h (after_items a b is v)
  items_size a b [] v size = size
  items_size a b (i ∷ is) v size = items_size a b is (after_item a b i v) (item_size a b i v size)

  -- a piece of a viewer's bytes is heard
  pub heard_size : (piece : List ℕ) (v now : KeptViewer)
      → ((before : List ℕ) → v.heard ≡ rest before → now ≡ after_items v.marks.width v.marks.height (new_items before piece) (record v { heard = rest (before ++ piece) }))
      → IsOfSize w h v → IsOfSize w h now
  heard_size piece v now becomes size =
      let before = size.heard.0 in
      subst (IsOfSize w h) (sym (becomes before size.heard.1))
      (items_size v.marks.width v.marks.height (new_items before piece) (record v { heard = rest (before ++ piece) })
      (record { width = size.width; height = size.height; whole = size.whole; heard = (before ++ piece, refl) }))
