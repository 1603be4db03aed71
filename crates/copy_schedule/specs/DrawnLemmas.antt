-- Whether something is to be sent once drawing is known that stands in a log.
use Rattle.std.proofs.Common.{◌≡◌, ℕ, ◌+◌, ◌*◌, ◌/◌, ◌%◌, Bool, true, false, cond, ◌||◌, ◌&&◌, not, List, [], ◌∷◌, map, get_or, refl, sym, ◌∙◌, ap, arith}
use Rattle.std.specs.Prelude.{ℤ, pos, ◌+ℤ◌, ◌-ℤ◌, nat_abs}
use Rattle.std.specs.List.{list_any, range_with_len}
use Rattle.std.proofs.lemmas.Bool.{and_parts}
use Rattle.std.proofs.lemmas.Nat.{mul-add-lt}
use Rattle.std.proofs.lemmas.List.FromFn.{length-map-range_with_len}
use Rattle.std.proofs.lemmas.List.Folds.{list_any_at}
use Rattle.region.specs.declared.Rect.{Rect}
use Rattle.region.specs.RegionView.{SharePlace}
use Rattle.region.specs.Region.{covers, on_screen}
use Rattle.region.specs.Places.{by_place, some_place, same_offset}
use Rattle.region.specs.PlaceLemmas.{is_place, same_by_place, below, value_on}
use Rattle.copy_schedule.specs.declared.Mark as mark
use Rattle.copy_schedule.specs.declared.Mark.TheVariants.{Clean, Copied, Owed}
use Rattle.copy_schedule.specs.declared.LogEntry.{LogEntry}
use Rattle.copy_schedule.specs.declared.LogEntry.TheVariants.{Mark, Copy}
use Rattle.copy_schedule.specs.declared.mark_sets.MarkSets.{MarkSets}
use Rattle.copy_schedule.specs.Marks.{Marks, is_clean, is_copied, is_owed, mark_at, asked_at, marked, lost_to, moved_marks, moved_mark, wanted, pending}
use Rattle.copy_schedule.specs.Log.{after_entry, logged, draws_asked}
use Rattle.copy_schedule.specs.MarkSetLemmas.{Shows}

-- Some place of a screen.

some_there : (w h : ℕ) (f : ℤ → ℤ → Bool) (x y : ℤ) → on_screen w h x y ≡ true → f x y ≡ true → some_place w h f ≡ true
some_there w h f x y on is =
    let place = is_place w h x y on in
    let column = below w x place.left place.right in
    let row = below h y place.top place.bottom in
    let n = nat_abs y * w + nat_abs x in
    list_any_at (λ is_in. is_in) (by_place w h f) n false
    (omega (arith, length-map-range_with_len (λ i. f (pos (i % w)) (pos (i / w))) 0 (w * h), mul-add-lt (nat_abs y) w (nat_abs x) h row column))
    (sym (ap (λ b. cond b (get_or (by_place w h f) n false) false) on) ∙ value_on false w h f x y on ∙ is)

any_either : (f g : ℕ → Bool) (ns : List ℕ) → list_any (λ is_in. is_in) (map (λ n. f n || g n) ns) ≡ (list_any (λ is_in. is_in) (map f ns) || list_any (λ is_in. is_in) (map g ns))
any_either f g [] = refl
any_either f g (n ∷ ns) =
    ap (λ b. (f n || g n) || b) (any_either f g ns)
    ∙ swap (f n) (g n) (list_any (λ is_in. is_in) (map f ns)) (list_any (λ is_in. is_in) (map g ns))
  where
    swap : (a b c d : Bool) → ((a || b) || (c || d)) ≡ ((a || c) || (b || d))
    swap true b c d = refl
    swap false true true d = refl
    swap false true false d = refl
    swap false false c d = refl

some_either : (w h : ℕ) (f g both : ℤ → ℤ → Bool) → ((x y : ℤ) → on_screen w h x y ≡ true → both x y ≡ (f x y || g x y)) → some_place w h both ≡ (some_place w h f || some_place w h g)
some_either w h f g both each =
    ap (list_any (λ is_in. is_in)) (same_by_place w h both (λ x y. f x y || g x y) each)
    ∙ any_either (λ i. f (pos (i % w)) (pos (i / w))) (λ i. g (pos (i % w)) (pos (i / w))) (range_with_len 0 (w * h))

-- What one entry leaves clean: what was clean, and is not drawn.

marked_clean : (m : Marks) (set : ℤ → ℤ → Bool) (x y : ℤ) → on_screen m.width m.height x y ≡ true → is_clean (mark_at (marked set m) x y) ≡ (is_clean (mark_at m x y) && not (set x y))
marked_clean m set x y on =
    ap is_clean (value_on Clean m.width m.height (λ x y. cond (set x y) Owed (mark_at m x y)) x y on) ∙ go (set x y) (mark_at m x y)
  where
    go : (b : Bool) (z : mark.Mark) → is_clean (cond b Owed z) ≡ (is_clean z && not b)
    go true Clean = refl
    go true Copied = refl
    go true Owed = refl
    go false Clean = refl
    go false Copied = refl
    go false Owed = refl

lost_clean : (m : Marks) (set : ℤ → ℤ → Bool) (by : ℤ × ℤ) (x y : ℤ) → on_screen m.width m.height x y ≡ true → is_clean (mark_at (lost_to set by m) x y) ≡ is_clean (mark_at m x y)
lost_clean m set by x y on =
    ap is_clean (value_on Clean m.width m.height (λ x y. cond (is_copied (mark_at m x y) && is_lost x y) Owed (mark_at m x y)) x y on) ∙ go (is_lost x y) (mark_at m x y)
  where
    is_lost : ℤ → ℤ → Bool
    is_lost x y = not (same_offset m.offset by) || set (x +ℤ by.0) (y +ℤ by.1)

    go : (b : Bool) (z : mark.Mark) → is_clean (cond (is_copied z && b) Owed z) ≡ is_clean z
    go b Clean = refl
    go true Copied = refl
    go false Copied = refl
    go b Owed = refl

moved_clean : (m : Marks) (set : ℤ → ℤ → Bool) (by : ℤ × ℤ) (x y : ℤ) → on_screen m.width m.height x y ≡ true → is_clean (mark_at (moved_marks set by m) x y) ≡ (is_clean (mark_at m x y) && not (set x y))
moved_clean m set by x y on =
    ap is_clean (value_on Clean m.width m.height (λ x y. moved_mark (set x y) (mark_at m x y) (mark_at m (x -ℤ by.0) (y -ℤ by.1))) x y on) ∙ go (set x y) (mark_at m x y) (mark_at m (x -ℤ by.0) (y -ℤ by.1))
  where
    either : (b : Bool) → is_clean (cond b Owed Copied) ≡ false
    either true = refl
    either false = refl

    go : (b : Bool) (z source : mark.Mark) → is_clean (moved_mark b z source) ≡ (is_clean z && not b)
    go b Owed source = refl
    go true Copied source = either (is_owed source)
    go false Copied source = either (is_owed source)
    go true Clean source = either (is_owed source)
    go false Clean source = refl

-- Whether something is to be sent after an entry.

part : (asked clean is_drawn : Bool) → (asked && not (clean && not is_drawn)) ≡ ((asked && not clean) || (asked && is_drawn))
part true true true = refl
part true true false = refl
part true false b = refl
part false a b = refl

wanted_after : (m now : Marks) (set : ℤ → ℤ → Bool) → ((x y : ℤ) → on_screen m.width m.height x y ≡ true → wanted now x y ≡ (asked_at m x y && not (is_clean (mark_at m x y) && not (set x y))))
    → some_place m.width m.height (wanted now) ≡ (pending m || some_place m.width m.height (λ x y. asked_at m x y && set x y))
wanted_after m now set each = some_either m.width m.height (wanted m) (λ x y. asked_at m x y && set x y) (wanted now) (λ x y on. each x y on ∙ part (asked_at m x y) (is_clean (mark_at m x y)) (set x y))

pending_after_entry : (uses : Bool) (e : LogEntry) (m : Marks) → pending (after_entry uses e m) ≡ (pending m || draws_asked m e)
pending_after_entry uses (Mark region) m =
    wanted_after m (marked (covers region.list) m) (covers region.list) (λ x y on. ap (λ b. asked_at m x y && not b) (marked_clean m (covers region.list) x y on))
pending_after_entry false (Copy region dx dy) m =
    wanted_after m (marked (covers region.list) m) (covers region.list) (λ x y on. ap (λ b. asked_at m x y && not b) (marked_clean m (covers region.list) x y on))
pending_after_entry true (Copy region dx dy) m =
    wanted_after m (moved_marks (covers region.list) (dx, dy) (lost_to (covers region.list) (dx, dy) m)) (covers region.list) (λ x y on.
    ap (λ b. asked_at m x y && not b)
    (moved_clean (lost_to (covers region.list) (dx, dy) m) (covers region.list) (dx, dy) x y on
    ∙ ap (λ b. b && not (covers region.list x y)) (lost_clean m (covers region.list) (dx, dy) x y on)))

asks_same : (uses : Bool) (e : LogEntry) (m : Marks) (es : List LogEntry) → list_any (draws_asked (after_entry uses e m)) es ≡ list_any (draws_asked m) es
asks_same uses (Mark region) m es = refl
asks_same true (Copy region dx dy) m es = refl
asks_same false (Copy region dx dy) m es = refl

-- after a log: what was to be sent, or what one of its entries draws
pub pending_after_log : (uses : Bool) (es : List LogEntry) (m : Marks) → pending (logged uses es m) ≡ (pending m || list_any (draws_asked m) es)
pending_after_log uses [] m = none (pending m)
  where
    none : (b : Bool) → b ≡ (b || false)
    none true = refl
    none false = refl
pending_after_log uses (e ∷ es) m =
    pending_after_log uses es (after_entry uses e m)
    ∙ ap (λ b. pending (after_entry uses e m) || b) (asks_same uses e m es)
    ∙ ap (λ b. b || list_any (draws_asked m) es) (pending_after_entry uses e m)
    ∙ assoc (pending m) (draws_asked m e) (list_any (draws_asked m) es)
  where
    assoc : (a b c : Bool) → ((a || b) || c) ≡ (a || (b || c))
    assoc true b c = refl
    assoc false b c = refl

-- Whether an entry draws a place that is asked for: whether the regions share one.

module _ (m : Marks) (k : MarkSets) (asked drawn : List Rect) (shows : Shows m k asked) where
  asked_on : (x y : ℤ) → on_screen m.width m.height x y ≡ true → asked_at m x y ≡ covers asked x y
  asked_on x y on = ap (λ (bs : List Bool). cond (on_screen m.width m.height x y) (get_or bs (nat_abs y * m.width + nat_abs x) false) false) shows.places ∙ value_on false m.width m.height (covers asked) x y on

  pub shared_is_asked : SharePlace asked drawn → some_place m.width m.height (λ x y. asked_at m x y && covers drawn x y) ≡ true
  shared_is_asked shared =
      let x = shared.0 in
      let y = shared.1.0 in
      let parts = and_parts (covers asked x y) (covers drawn x y) shared.1.1 in
      let on = shows.screen.asked_on x y parts.0 in
      some_there m.width m.height (λ x y. asked_at m x y && covers drawn x y) x y on (ap (λ b. b && covers drawn x y) (asked_on x y on) ∙ shared.1.1)

  pub unshared_is_not_asked : ((x y : ℤ) → (covers asked x y && covers drawn x y) ≡ false) → some_place m.width m.height (λ x y. asked_at m x y && covers drawn x y) ≡ false
  unshared_is_not_asked apart =
      ap (list_any (λ is_in. is_in)) (same_by_place m.width m.height (λ x y. asked_at m x y && covers drawn x y) (λ x y. false) (λ x y on. ap (λ b. b && covers drawn x y) (asked_on x y on) ∙ apart x y))
      ∙ nowhere (range_with_len 0 (m.width * m.height))
    where
      nowhere : (ns : List ℕ) → list_any (λ is_in. is_in) (map (λ n. false) ns) ≡ false
      nowhere [] = refl
      nowhere (n ∷ ns) = nowhere ns
