-- The owed and the copied places, as the marks that they stand for.
use Rattle.std.proofs.Common.{◌≡◌, ℕ, ◌+◌, ◌*◌, ◌/◌, ◌%◌, ◌<◌, ◌≤◌, zero-add, Bool, true, false, cond, not, ◌&&◌, ◌||◌, List, [], get_or, replicate, true≢false, refl, sym, ◌∙◌, ap, arith}
use Rattle.std.specs.Prelude.{ℤ, pos, ◌+ℤ◌, ◌-ℤ◌, ◌≤ℤ◌, nat_abs}
use Rattle.std.proofs.lemmas.Bool.{and_parts}
use Rattle.std.proofs.lemmas.Int.{ints}
use Rattle.std.proofs.lemmas.Nat.{mul-add-lt}
use Rattle.std.proofs.lemmas.List.FromFn.{get_or-map-range_with_len, length-map-range_with_len}
use Rattle.std.proofs.lemmas.List.Folds.{list_any_at, list_any_none}
use Rattle.std.proofs.lemmas.List.{same_lists, length-replicate, get_or-replicate}
use Rattle.std.proofs.lemmas.List.Elements.{All-weaker}
use Rattle.std.specs.List.{All}
use Rattle.region.specs.RegionView.{RegionView, SharePlace}
use Rattle.region.specs.declared.Rect.{Rect}
use Rattle.region.specs.Region.{covers, on_screen, rects_of, IsCanonical}
use Rattle.region.specs.CanonicalLemmas.{one_list_a_set-holds, rects_of_is_canonical-holds, rects_of_covers-holds}
use Rattle.copy_schedule.specs.declared.Mark.{Mark}
use Rattle.copy_schedule.specs.declared.Mark.TheVariants.{Clean, Copied, Owed}
use Rattle.copy_schedule.specs.declared.mark_sets.MarkSets.{MarkSets}
use Rattle.region.specs.Places.{by_place, at_place, same_offset, IsOnScreen, longest_side}
use Rattle.copy_schedule.specs.Marks.{Marks, is_clean, is_owed, is_copied, mark_at, asked_at, with_marks, marked, lost_to, moved_mark, moved_marks, asked_for, forgotten, without_copyrect, wanted, copyable, pending, after_sending}
use Rattle.copy_schedule.specs.MarkSets.{mark_in_sets, LiesOn, AreMarkSets, IsScreen, with_sets}
use Rattle.region.specs.PlaceLemmas.{is_place}
use Rattle.copy_schedule.specs.SetLemmas.{lies_either, lies_part, lies_wider}
use Rattle.region.specs.PlaceLemmas.{same_by_place, below, value_on, value_at}

-- Marks that two sets stand for.

-- the marks are those of the owed and the copied places, and a set is asked for
pub record Shows (m : Marks) (k : MarkSets) (asked : List Rect) : Type 0 where
  pub screen : IsScreen m.width m.height k asked
  pub marks : m.marks ≡ by_place m.width m.height (mark_in_sets k)
  pub places : m.asked ≡ by_place m.width m.height (covers asked)

not_there : (w h : ℕ) (rs : List Rect) → LiesOn w h rs → (x y : ℤ) → on_screen w h x y ≡ false → covers rs x y ≡ false
not_there w h rs lies x y off = go (covers rs x y) refl
  where
    go : (t : Bool) → covers rs x y ≡ t → t ≡ false
    go true there = absurd (true≢false (sym (lies x y there) ∙ off))
    go false there = refl

pub clean_off : (w h : ℕ) (k : MarkSets) → AreMarkSets w h k → (x y : ℤ) → on_screen w h x y ≡ false → mark_in_sets k x y ≡ Clean
clean_off w h k is x y off =
    ap (λ t. cond t Owed (cond (covers k.copied.list x y) Copied Clean)) (not_there w h k.owed.list is.owed_on x y off)
    ∙ ap (λ t. cond t Copied Clean) (not_there w h k.copied.list is.copied_on x y off)

pub sets_wider : (w h : ℕ) (k : MarkSets) → w ≤ longest_side → h ≤ longest_side → AreMarkSets w h k → AreMarkSets longest_side longest_side k
sets_wider w h k columns rows is = record { owed_on = lies_wider w h k.owed.list columns rows is.owed_on; copied_on = lies_wider w h k.copied.list columns rows is.copied_on; apart = is.apart }

-- what a copy leaves, by the places that it takes
pub moving_marks : (k new : MarkSets) (drawn all sources taken : List Rect) (dx dy x y : ℤ) → covers all x y ≡ (covers k.copied.list x y || covers drawn x y) → covers sources x y ≡ covers k.owed.list (x -ℤ dx) (y -ℤ dy)
    → covers taken x y ≡ (covers all x y && covers sources x y) → covers new.owed.list x y ≡ (covers k.owed.list x y || covers taken x y) → covers new.copied.list x y ≡ (covers all x y && not (covers new.owed.list x y))
    → mark_in_sets new x y ≡ moved_mark (covers drawn x y) (mark_in_sets k x y) (mark_in_sets k (x -ℤ dx) (y -ℤ dy))
moving_marks k new drawn all sources taken dx dy x y is_all is_source is_taken is_owed_now is_copied_now =
    go (covers k.owed.list x y) (covers k.copied.list x y) (covers drawn x y) (covers k.owed.list (x -ℤ dx) (y -ℤ dy)) (covers k.copied.list (x -ℤ dx) (y -ℤ dy)) (covers new.owed.list x y) (covers new.copied.list x y)
    (is_owed_now ∙ ap (λ t. covers k.owed.list x y || t) (is_taken ∙ ap (λ t. t && covers sources x y) is_all ∙ ap (λ t. (covers k.copied.list x y || covers drawn x y) && t) is_source)) (is_copied_now ∙ ap (λ t. t && not (covers new.owed.list x y)) is_all)
  where
    go : (o c d so sc owed copied : Bool) → owed ≡ (o || ((c || d) && so)) → copied ≡ ((c || d) && not owed) → cond owed Owed (cond copied Copied Clean) ≡ moved_mark d (cond o Owed (cond c Copied Clean)) (cond so Owed (cond sc Copied Clean))
    go o c d so sc owed copied p q = ap (λ t. cond owed Owed (cond t Copied Clean)) q ∙ ap (λ t. cond t Owed (cond ((c || d) && not t) Copied Clean)) p ∙ done o c d so sc
      where
        done : (o c d so sc : Bool) → cond (o || ((c || d) && so)) Owed (cond ((c || d) && not (o || ((c || d) && so))) Copied Clean) ≡ moved_mark d (cond o Owed (cond c Copied Clean)) (cond so Owed (cond sc Copied Clean))
        done true c d so sc = refl
        done false true d true sc = refl
        done false true d false true = refl
        done false true d false false = refl
        done false false true true sc = refl
        done false false true false true = refl
        done false false true false false = refl
        done false false false so sc = refl

pub moving_keeps : (w h : ℕ) (k new : MarkSets) (drawn all taken : List Rect) (test : ℤ → ℤ → Bool) → AreMarkSets w h k → LiesOn w h drawn → ((x y : ℤ) → covers all x y ≡ (covers k.copied.list x y || covers drawn x y))
    → ((x y : ℤ) → covers taken x y ≡ (covers all x y && test x y)) → ((x y : ℤ) → covers new.owed.list x y ≡ (covers k.owed.list x y || covers taken x y)) → ((x y : ℤ) → covers new.copied.list x y ≡ (covers all x y && not (covers new.owed.list x y)))
    → AreMarkSets w h new
moving_keeps w h k new drawn all taken test is on_drawn is_all is_taken is_owed_now is_copied_now =
    let on_all = lies_either w h k.copied.list drawn all is.copied_on on_drawn is_all in
    record {
      owed_on = lies_either w h k.owed.list taken new.owed.list is.owed_on (lies_part w h all taken test on_all is_taken) is_owed_now;
      copied_on = lies_part w h all new.copied.list (λ x y. not (covers new.owed.list x y)) on_all is_copied_now;
      apart = λ x y. ap (λ t. covers new.owed.list x y && t) (is_copied_now x y) ∙ not_both (covers new.owed.list x y) (covers all x y);
    }
  where
    not_both : (o a : Bool) → (o && (a && not o)) ≡ false
    not_both true true = refl
    not_both true false = refl
    not_both false a = refl

-- what is lost to a copy, by its places
pub lost_marks : (k new : MarkSets) (lost : List Rect) (test : ℤ → ℤ → Bool) → ((x y : ℤ) → (covers k.owed.list x y && covers k.copied.list x y) ≡ false) → ((x y : ℤ) → covers lost x y ≡ (covers k.copied.list x y && test x y))
    → ((x y : ℤ) → mark_in_sets new x y ≡ cond (covers lost x y) Owed (mark_in_sets k x y)) → (x y : ℤ) → mark_in_sets new x y ≡ cond (is_copied (mark_in_sets k x y) && test x y) Owed (mark_in_sets k x y)
lost_marks k new lost test apart is_lost each x y =
    each x y ∙ ap (λ t. cond t Owed (mark_in_sets k x y)) (is_lost x y ∙ ap (λ t. t && test x y) (either (covers k.owed.list x y) (covers k.copied.list x y) (apart x y)))
  where
    either : (o c : Bool) → (o && c) ≡ false → c ≡ is_copied (cond o Owed (cond c Copied Clean))
    either true true e = absurd (true≢false e)
    either true false e = refl
    either false true e = refl
    either false false e = refl

module _ (m : Marks) (k : MarkSets) (asked : List Rect) (shows : Shows m k asked) where
  pub mark_is : (x y : ℤ) → mark_at m x y ≡ mark_in_sets k x y
  mark_is x y = ap (λ marks. at_place Clean m.width m.height marks x y) shows.marks ∙ value_at Clean m.width m.height (mark_in_sets k) (clean_off m.width m.height k shows.screen.sets) x y

  pub asked_is : (x y : ℤ) → asked_at m x y ≡ covers asked x y
  asked_is x y = ap (λ places. at_place false m.width m.height places x y) shows.places ∙ value_at false m.width m.height (covers asked) (not_there m.width m.height asked shows.screen.asked_on) x y

  -- other sets, and so other marks
  pub marks_are : (new : MarkSets) (mark : ℤ → ℤ → Mark) → ((x y : ℤ) → on_screen m.width m.height x y ≡ true → mark_in_sets new x y ≡ mark x y) → with_sets new m ≡ with_marks m mark
  marks_are new mark each = ap (λ marks. record m { marks = marks }) (same_by_place m.width m.height (mark_in_sets new) mark each)

  pub shows_new : (new : MarkSets) → AreMarkSets m.width m.height new → Shows (with_sets new m) new asked
  shows_new new is = record {
    screen = record { columns = shows.screen.columns; rows = shows.screen.rows; sets = is; asked_on = shows.screen.asked_on };
    marks = refl;
    places = shows.places;
  }

  -- a set becomes owed
  pub marked_are : (set : ℤ → ℤ → Bool) (new : MarkSets) → ((x y : ℤ) → mark_in_sets new x y ≡ cond (set x y && on_screen m.width m.height x y) Owed (mark_in_sets k x y)) → with_sets new m ≡ marked set m
  marked_are set new each = marks_are new (λ x y. cond (set x y) Owed (mark_at m x y)) (λ x y on.
      each x y ∙ ap (λ t. cond t Owed (mark_in_sets k x y)) (ap (λ t. set x y && t) on ∙ and_true (set x y)) ∙ ap (cond (set x y) Owed) (sym (mark_is x y)))
    where
      and_true : (t : Bool) → (t && true) ≡ t
      and_true true = refl
      and_true false = refl

  -- what is lost to a copy becomes owed
  pub lost_are : (set : ℤ → ℤ → Bool) (by : ℤ × ℤ) (new : MarkSets)
      → ((x y : ℤ) → mark_in_sets new x y ≡ cond (is_copied (mark_in_sets k x y) && (not (same_offset m.offset by) || set (x +ℤ by.0) (y +ℤ by.1))) Owed (mark_in_sets k x y)) → with_sets new m ≡ lost_to set by m
  lost_are set by new each = marks_are new (λ x y. cond (is_copied (mark_at m x y) && (not (same_offset m.offset by) || set (x +ℤ by.0) (y +ℤ by.1))) Owed (mark_at m x y)) (λ x y on.
      each x y ∙ ap (λ z. cond (is_copied z && (not (same_offset m.offset by) || set (x +ℤ by.0) (y +ℤ by.1))) Owed z) (sym (mark_is x y)))

  -- a copy moves what is owed
  pub moved_are : (set : ℤ → ℤ → Bool) (by : ℤ × ℤ) (new : MarkSets)
      → ((x y : ℤ) → on_screen m.width m.height x y ≡ true → mark_in_sets new x y ≡ moved_mark (set x y) (mark_in_sets k x y) (mark_in_sets k (x -ℤ by.0) (y -ℤ by.1))) → record (with_sets new m) { offset = by } ≡ moved_marks set by m
  moved_are set by new each = ap {A = Marks} {B = Marks} (λ n. record n { offset = by }) (marks_are new (λ x y. moved_mark (set x y) (mark_at m x y) (mark_at m (x -ℤ by.0) (y -ℤ by.1))) (λ x y on.
      each x y on ∙ ap (λ z. moved_mark (set x y) z (mark_in_sets k (x -ℤ by.0) (y -ℤ by.1))) (sym (mark_is x y)) ∙ ap (moved_mark (set x y) (mark_at m x y)) (sym (mark_is (x -ℤ by.0) (y -ℤ by.1)))))

  -- the copied places become owed
  pub uncopied_are : (new : MarkSets) → ((x y : ℤ) → mark_in_sets new x y ≡ cond (covers k.copied.list x y) Owed (mark_in_sets k x y)) → with_sets new m ≡ without_copyrect m
  uncopied_are new each = marks_are new (λ x y. cond (is_copied (mark_at m x y)) Owed (mark_at m x y)) (λ x y on.
      each x y ∙ either (covers k.owed.list x y) (covers k.copied.list x y) ∙ ap (λ z. cond (is_copied z) Owed z) (sym (mark_is x y)))
    where
      either : (o c : Bool) → cond c Owed (cond o Owed (cond c Copied Clean)) ≡ cond (is_copied (cond o Owed (cond c Copied Clean))) Owed (cond o Owed (cond c Copied Clean))
      either true true = refl
      either true false = refl
      either false true = refl
      either false false = refl

  -- a request's places, and what awaits their pixels
  pub forgotten_are : (set : ℤ → ℤ → Bool) (part awaiting : List Rect) (new : MarkSets) → ((x y : ℤ) → covers part x y ≡ (set x y && on_screen m.width m.height x y))
      → ((x y : ℤ) → covers awaiting x y ≡ (set (x -ℤ m.offset.0) (y -ℤ m.offset.1) && on_screen m.width m.height x y))
      → ((x y : ℤ) → mark_in_sets new x y ≡ cond (covers part x y || (covers k.copied.list x y && covers awaiting x y)) Owed (mark_in_sets k x y)) → with_sets new m ≡ forgotten set m
  forgotten_are set part awaiting new is_part is_awaiting each = marks_are new (λ x y. cond (set x y || (is_copied (mark_at m x y) && set (x -ℤ m.offset.0) (y -ℤ m.offset.1))) Owed (mark_at m x y)) (λ x y on.
      each x y
      ∙ ap (λ t. cond (t || (covers k.copied.list x y && covers awaiting x y)) Owed (mark_in_sets k x y)) (is_part x y ∙ ap (λ t. set x y && t) on)
      ∙ ap (λ t. cond ((set x y && true) || (covers k.copied.list x y && t)) Owed (mark_in_sets k x y)) (is_awaiting x y ∙ ap (λ t. set (x -ℤ m.offset.0) (y -ℤ m.offset.1) && t) on)
      ∙ either (covers k.owed.list x y) (covers k.copied.list x y) (set x y) (set (x -ℤ m.offset.0) (y -ℤ m.offset.1))
      ∙ ap (λ z. cond (set x y || (is_copied z && set (x -ℤ m.offset.0) (y -ℤ m.offset.1))) Owed z) (sym (mark_is x y)))
    where
      either : (o c s t : Bool) → cond ((s && true) || (c && (t && true))) Owed (cond o Owed (cond c Copied Clean)) ≡ cond (s || (is_copied (cond o Owed (cond c Copied Clean)) && t)) Owed (cond o Owed (cond c Copied Clean))
      either o c true t = refl
      either true true false true = refl
      either true true false false = refl
      either true false false t = refl
      either false true false true = refl
      either false true false false = refl
      either false false false t = refl

  -- one more set is asked for
  pub asked_are : (set : ℤ → ℤ → Bool) (part new : List Rect) → ((x y : ℤ) → covers part x y ≡ (set x y && on_screen m.width m.height x y)) → ((x y : ℤ) → covers new x y ≡ (covers asked x y || covers part x y))
      → record m { asked = by_place m.width m.height (covers new) } ≡ asked_for set m
  asked_are set part new is_part each = ap (λ places. record m { asked = places }) (same_by_place m.width m.height (covers new) (λ x y. asked_at m x y || set x y) (λ x y on.
      each x y ∙ ap (λ t. covers asked x y || t) (is_part x y ∙ ap (λ t. set x y && t) on ∙ and_true (set x y)) ∙ ap (λ t. t || set x y) (sym (asked_is x y))))
    where
      and_true : (t : Bool) → (t && true) ≡ t
      and_true true = refl
      and_true false = refl

  -- Lists of rectangles.

  listed : (rs : List Rect) (test : ℤ → ℤ → Bool) → IsCanonical rs → ((x y : ℤ) → covers rs x y ≡ (on_screen m.width m.height x y && test x y)) → rs ≡ rects_of m.width m.height test
  listed rs test canonical each = one_list_a_set-holds rs (rects_of m.width m.height test) canonical (rects_of_is_canonical-holds m.width m.height test) (λ x y. each x y ∙ sym (rects_of_covers-holds m.width m.height test x y))

  there : (rs : List Rect) → LiesOn m.width m.height rs → (x y : ℤ) → covers rs x y ≡ (on_screen m.width m.height x y && covers rs x y)
  there rs lies x y = go (covers rs x y) refl
    where
      and_false : (t : Bool) → false ≡ (t && false)
      and_false true = refl
      and_false false = refl

      go : (t : Bool) → covers rs x y ≡ t → t ≡ (on_screen m.width m.height x y && t)
      go true at = sym (ap (λ on. on && true) (lies x y at))
      go false at = and_false (on_screen m.width m.height x y)

  pub owed_listed : IsCanonical k.owed.list → k.owed.list ≡ rects_of m.width m.height (λ x y. is_owed (mark_at m x y))
  owed_listed canonical = listed k.owed.list (λ x y. is_owed (mark_at m x y)) canonical (λ x y.
      there k.owed.list shows.screen.sets.owed_on x y ∙ ap (λ t. on_screen m.width m.height x y && t) (either (covers k.owed.list x y) (covers k.copied.list x y) ∙ ap is_owed (sym (mark_is x y))))
    where
      either : (o c : Bool) → o ≡ is_owed (cond o Owed (cond c Copied Clean))
      either true c = refl
      either false true = refl
      either false false = refl

  pub copied_listed : IsCanonical k.copied.list → k.copied.list ≡ rects_of m.width m.height (λ x y. is_copied (mark_at m x y))
  copied_listed canonical = listed k.copied.list (λ x y. is_copied (mark_at m x y)) canonical (λ x y.
      there k.copied.list shows.screen.sets.copied_on x y ∙ ap (λ t. on_screen m.width m.height x y && t) (copied_mark x y ∙ ap is_copied (sym (mark_is x y))))
    where
      either : (o c : Bool) → (o && c) ≡ false → c ≡ is_copied (cond o Owed (cond c Copied Clean))
      either true true e = absurd (true≢false e)
      either true false e = refl
      either false true e = refl
      either false false e = refl

      copied_mark : (x y : ℤ) → covers k.copied.list x y ≡ is_copied (mark_in_sets k x y)
      copied_mark x y = either (covers k.owed.list x y) (covers k.copied.list x y) (shows.screen.sets.apart x y)

  pub asked_listed : IsCanonical asked → asked ≡ rects_of m.width m.height (asked_at m)
  asked_listed canonical = listed asked (asked_at m) canonical (λ x y. there asked shows.screen.asked_on x y ∙ ap (λ t. on_screen m.width m.height x y && t) (sym (asked_is x y)))

  -- What is wanted.

  is_unclean : (x y : ℤ) → (covers k.owed.list x y || covers k.copied.list x y) ≡ not (is_clean (mark_at m x y))
  is_unclean x y = either (covers k.owed.list x y) (covers k.copied.list x y) ∙ ap (λ z. not (is_clean z)) (sym (mark_is x y))
    where
      either : (o c : Bool) → (o || c) ≡ not (is_clean (cond o Owed (cond c Copied Clean)))
      either true c = refl
      either false true = refl
      either false false = refl

  copied_at : (x y : ℤ) → covers k.copied.list x y ≡ is_copied (mark_at m x y)
  copied_at x y = either (covers k.owed.list x y) (covers k.copied.list x y) (shows.screen.sets.apart x y) ∙ ap is_copied (sym (mark_is x y))
    where
      either : (o c : Bool) → (o && c) ≡ false → c ≡ is_copied (cond o Owed (cond c Copied Clean))
      either true true e = absurd (true≢false e)
      either true false e = refl
      either false true e = refl
      either false false e = refl

  pub copies_listed : (copies : List Rect) → IsCanonical copies → ((x y : ℤ) → covers copies x y ≡ (covers asked x y && covers k.copied.list x y && covers asked (x -ℤ m.offset.0) (y -ℤ m.offset.1))) → copies ≡ rects_of m.width m.height (copyable m)
  copies_listed copies canonical each = listed copies (copyable m) canonical (λ x y. is_copyable x y ∙ on_there x y)
    where
      is_copyable : (x y : ℤ) → covers copies x y ≡ copyable m x y
      is_copyable x y = each x y
          ∙ ap (λ t. t && covers k.copied.list x y && covers asked (x -ℤ m.offset.0) (y -ℤ m.offset.1)) (sym (asked_is x y))
          ∙ ap (λ t. asked_at m x y && t && covers asked (x -ℤ m.offset.0) (y -ℤ m.offset.1)) (copied_at x y)
          ∙ ap (λ t. asked_at m x y && is_copied (mark_at m x y) && t) (sym (asked_is (x -ℤ m.offset.0) (y -ℤ m.offset.1)))

      on_there : (x y : ℤ) → copyable m x y ≡ (on_screen m.width m.height x y && copyable m x y)
      on_there x y = go (on_screen m.width m.height x y) (get_or m.asked (nat_abs y * m.width + nat_abs x) false) (is_copied (mark_at m x y)) (asked_at m (x -ℤ m.offset.0) (y -ℤ m.offset.1))
        where
          go : (on a c s : Bool) → (cond on a false && c && s) ≡ (on && (cond on a false && c && s))
          go true a c s = refl
          go false a c s = refl

  pub pixels_listed : (copies pixels : List Rect) → IsCanonical pixels → ((x y : ℤ) → covers copies x y ≡ (covers asked x y && covers k.copied.list x y && covers asked (x -ℤ m.offset.0) (y -ℤ m.offset.1)))
      → ((x y : ℤ) → covers pixels x y ≡ (covers asked x y && (covers k.owed.list x y || covers k.copied.list x y) && not (covers copies x y))) → pixels ≡ rects_of m.width m.height (λ x y. wanted m x y && not (copyable m x y))
  pixels_listed copies pixels canonical is_copies each = listed pixels (λ x y. wanted m x y && not (copyable m x y)) canonical (λ x y. is_pixel x y ∙ on_there x y)
    where
      is_copyable : (x y : ℤ) → covers copies x y ≡ copyable m x y
      is_copyable x y = is_copies x y
          ∙ ap (λ t. t && covers k.copied.list x y && covers asked (x -ℤ m.offset.0) (y -ℤ m.offset.1)) (sym (asked_is x y))
          ∙ ap (λ t. asked_at m x y && t && covers asked (x -ℤ m.offset.0) (y -ℤ m.offset.1)) (copied_at x y)
          ∙ ap (λ t. asked_at m x y && is_copied (mark_at m x y) && t) (sym (asked_is (x -ℤ m.offset.0) (y -ℤ m.offset.1)))

      is_pixel : (x y : ℤ) → covers pixels x y ≡ (wanted m x y && not (copyable m x y))
      is_pixel x y = each x y
          ∙ ap (λ t. t && (covers k.owed.list x y || covers k.copied.list x y) && not (covers copies x y)) (sym (asked_is x y))
          ∙ ap (λ t. asked_at m x y && t && not (covers copies x y)) (is_unclean x y) ∙ ap (λ t. wanted m x y && not t) (is_copyable x y)

      on_there : (x y : ℤ) → (wanted m x y && not (copyable m x y)) ≡ (on_screen m.width m.height x y && (wanted m x y && not (copyable m x y)))
      on_there x y = go (on_screen m.width m.height x y) (get_or m.asked (nat_abs y * m.width + nat_abs x) false) (not (is_clean (mark_at m x y))) (not (copyable m x y))
        where
          go : (on a c s : Bool) → ((cond on a false && c) && s) ≡ (on && ((cond on a false && c) && s))
          go true a c s = refl
          go false a c s = refl

  -- what is left once some is sent
  pub left_is : (unclean left copies pixels : List Rect) → ((x y : ℤ) → covers unclean x y ≡ (covers k.owed.list x y || covers k.copied.list x y)) → ((x y : ℤ) → covers left x y ≡ (covers unclean x y && not (covers copies x y || covers pixels x y)))
      → (x y : ℤ) → covers left x y ≡ (not (is_clean (mark_at m x y)) && not (covers copies x y || covers pixels x y))
  left_is unclean left copies pixels is_all each x y = each x y ∙ ap (λ t. t && not (covers copies x y || covers pixels x y)) (is_all x y ∙ is_unclean x y)

  wanted_there : (x y : ℤ) → wanted m x y ≡ (covers asked x y && (covers k.owed.list x y || covers k.copied.list x y))
  wanted_there x y = ap (λ t. t && not (is_clean (mark_at m x y))) (asked_is x y) ∙ ap (λ t. covers asked x y && t) (sym (is_unclean x y))

  -- A place is wanted, or none is.

  pub pending_there : (x y : ℤ) → covers asked x y ≡ true → (covers k.owed.list x y || covers k.copied.list x y) ≡ true → pending m ≡ true
  pending_there x y is_asked unclean =
      let on = shows.screen.asked_on x y is_asked in
      let place = is_place m.width m.height x y on in
      let column = below m.width x place.left place.right in
      let row = below m.height y place.top place.bottom in
      let n = nat_abs y * m.width + nat_abs x in
      list_any_at (λ is_in. is_in) (by_place m.width m.height (wanted m)) n false
      (omega (arith, length-map-range_with_len (λ i. wanted m (pos (i % m.width)) (pos (i / m.width))) 0 (m.width * m.height), mul-add-lt (nat_abs y) m.width (nat_abs x) m.height row column))
      (sym (ap (λ b. cond b (get_or (by_place m.width m.height (wanted m)) n false) false) on) ∙ value_on false m.width m.height (wanted m) x y on
      ∙ wanted_there x y ∙ ap (λ t. t && (covers k.owed.list x y || covers k.copied.list x y)) is_asked ∙ unclean)

  pub pending_nowhere : ((x y : ℤ) → (covers asked x y && covers k.owed.list x y) ≡ false) → ((x y : ℤ) → (covers asked x y && covers k.copied.list x y) ≡ false) → pending m ≡ false
  pending_nowhere not_owed not_copied = list_any_none (λ is_in. is_in) (by_place m.width m.height (wanted m)) (λ i d within.
      let inside : i < m.width * m.height = omega (arith, within, length-map-range_with_len (λ i. wanted m (pos (i % m.width)) (pos (i / m.width))) 0 (m.width * m.height)) in
      get_or-map-range_with_len (λ i. wanted m (pos (i % m.width)) (pos (i / m.width))) 0 (m.width * m.height) i i d inside (zero-add i) ∙ unwanted (pos (i % m.width)) (pos (i / m.width)))
    where
      neither : (a o c : Bool) → (a && o) ≡ false → (a && c) ≡ false → (a && (o || c)) ≡ false
      neither true true c p q = p
      neither true false c p q = q
      neither false o c p q = refl

      unwanted : (x y : ℤ) → wanted m x y ≡ false
      unwanted x y = wanted_there x y ∙ neither (covers asked x y) (covers k.owed.list x y) (covers k.copied.list x y) (not_owed x y) (not_copied x y)

-- what is shared by no place
pub not_shared : (rs qs : List Rect) (b : Bool) → (SharePlace rs qs → b ≡ true) → b ≡ false → (x y : ℤ) → (covers rs x y && covers qs x y) ≡ false
not_shared rs qs b share is x y = go (covers rs x y && covers qs x y) refl
  where
    go : (t : Bool) → (covers rs x y && covers qs x y) ≡ t → t ≡ false
    go true at = absurd (true≢false (sym (share (x, (y, at))) ∙ is))
    go false at = refl

-- no place is asked for
pub none_asked : (w h : ℕ) (rs : List Rect) → rs ≡ [] → by_place w h (covers rs) ≡ replicate (w * h) false
none_asked w h rs none = same_lists (by_place w h (covers rs)) (replicate (w * h) false) (length-map-range_with_len f 0 (w * h) ∙ sym (length-replicate (w * h) false)) (λ k d within.
    let inside : k < w * h = omega (arith, within, length-map-range_with_len f 0 (w * h)) in
    get_or-map-range_with_len f 0 (w * h) k k d inside (zero-add k) ∙ ap (λ l. covers l (pos (k % w)) (pos (k / w))) none ∙ sym (get_or-replicate (w * h) k false d inside))
  where
    f : ℕ → Bool
    f i = covers rs (pos (i % w)) (pos (i / w))

-- the owed places alone are left
pub only_owed : (w h : ℕ) (owed copied : RegionView) → copied.list ≡ [] → by_place w h (mark_in_sets (record { owed = owed; copied = copied })) ≡ by_place w h (λ x y. cond (covers owed.list x y) Owed Clean)
only_owed w h owed copied none = same_by_place w h (mark_in_sets (record { owed = owed; copied = copied })) (λ x y. cond (covers owed.list x y) Owed Clean) (λ x y on.
    ap (λ l. cond (covers owed.list x y) Owed (cond (covers l x y) Copied Clean)) none)

-- all that is sent is on the largest screen
pub screen_wider : (w h : ℕ) (rs : List Rect) → w ≤ longest_side → h ≤ longest_side → All (IsOnScreen w h) rs → All (IsOnScreen longest_side longest_side) rs
screen_wider w h rs columns rows each = All-weaker (IsOnScreen w h) (IsOnScreen longest_side longest_side) (λ r is. record { left = is.left; columns = is.columns; right = farther r.x2 w is.right columns; top = is.top; rows = is.rows; bottom = farther r.y2 h is.bottom rows }) rs each
  where
    farther : (x : ℤ) (n : ℕ) → x ≤ℤ pos n → n ≤ longest_side → x ≤ℤ pos longest_side
    farther x n a b = omega (arith, ints, a, b)

-- what is left to owe after an update
pub owing_only_are : (m : Marks) (copies pixels owed : List Rect) → ((x y : ℤ) → covers owed x y ≡ (not (is_clean (mark_at m x y)) && not (covers copies x y || covers pixels x y)))
    → record (with_marks m (λ x y. cond (covers owed x y) Owed Clean)) { offset = (pos 0, pos 0); asked = replicate (m.width * m.height) false } ≡ after_sending copies pixels m
owing_only_are m copies pixels owed each = ap {A = List Mark} {B = Marks} (λ marks. record m { marks = marks; offset = (pos 0, pos 0); asked = replicate (m.width * m.height) false })
    (same_by_place m.width m.height (λ x y. cond (covers owed x y) Owed Clean) (λ x y. cond (covers copies x y || covers pixels x y || is_clean (mark_at m x y)) Clean Owed) (λ x y on.
    ap (λ t. cond t Owed Clean) (each x y) ∙ either (covers copies x y) (covers pixels x y) (is_clean (mark_at m x y))))
  where
    either : (c p z : Bool) → cond (not z && not (c || p)) Owed Clean ≡ cond (c || p || z) Clean Owed
    either true p true = refl
    either true p false = refl
    either false true true = refl
    either false true false = refl
    either false false true = refl
    either false false false = refl

-- and lies on the screen
pub left_lies : (m : Marks) (copies pixels owed : List Rect) → ((x y : ℤ) → covers owed x y ≡ (not (is_clean (mark_at m x y)) && not (covers copies x y || covers pixels x y))) → LiesOn m.width m.height owed
left_lies m copies pixels owed each x y at = go (on_screen m.width m.height x y) (get_or m.marks (nat_abs y * m.width + nat_abs x) Clean) (and_parts (not (is_clean (mark_at m x y))) (not (covers copies x y || covers pixels x y)) (sym (each x y) ∙ at)).0
  where
    go : (on : Bool) (z : Mark) → not (is_clean (cond on z Clean)) ≡ true → on ≡ true
    go true z e = refl
    go false z e = absurd (true≢false (sym e))

-- every place of the screen is owed
pub all_owed : (w h : ℕ) (owed copied : RegionView) → ((x y : ℤ) → covers owed.list x y ≡ on_screen w h x y) → by_place w h (mark_in_sets (record { owed = owed; copied = copied })) ≡ replicate (w * h) Owed
all_owed w h owed copied each = same_by_place w h (mark_in_sets (record { owed = owed; copied = copied })) (λ x y. Owed) (λ x y on.
    ap (λ t. cond t Owed (cond (covers copied.list x y) Copied Clean)) (each x y ∙ on)) ∙ constant
  where
    constant : by_place w h (λ x y. Owed) ≡ replicate (w * h) Owed
    constant = same_lists (by_place w h (λ x y. Owed)) (replicate (w * h) Owed) (length-map-range_with_len (λ i. Owed) 0 (w * h) ∙ sym (length-replicate (w * h) Owed)) (λ k d within.
        let inside : k < w * h = omega (arith, within, length-map-range_with_len (λ i. Owed) 0 (w * h)) in
        get_or-map-range_with_len (λ i. Owed) 0 (w * h) k k d inside (zero-add k) ∙ sym (get_or-replicate (w * h) k Owed d inside))
