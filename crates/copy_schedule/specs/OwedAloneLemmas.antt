-- What an update sends where all places are asked for and none awaits a copy.
use Rattle.std.proofs.Common.{◌≡◌, ℕ, zero, suc, Bool, true, false, not, ◌&&◌, ◌||◌, List, [], true≢false, refl, sym, ◌∙◌, ap, take}
use Rattle.std.specs.Prelude.{ℤ, pos, ◌-ℤ◌, int_lt}
use Rattle.region.specs.declared.Rect.{Rect}
use Rattle.region.specs.Region.{covers, on_screen, order, in_order, IsCanonical}
use Rattle.copy_schedule.specs.declared.mark_sets.MarkSets.{MarkSets}
use Rattle.copy_schedule.specs.Marks.{Marks, is_clean, mark_at, copies_of, pixels_of}
use Rattle.copy_schedule.specs.MarkSetLemmas.{Shows, copies_listed, pixels_listed, left_is}

none_in_order : (a b : Bool) → in_order a b [] ≡ []
none_in_order true true = refl
none_in_order true false = refl
none_in_order false true = refl
none_in_order false false = refl

none_taken : (n : ℕ) → take {A = Rect} n [] ≡ []
none_taken zero = refl
none_taken (suc n) = refl

module _ (m : Marks) (k : MarkSets) (asked : List Rect) (shows : Shows m k asked) (none : k.copied.list ≡ []) where
  no_copy : (x y : ℤ) → covers [] x y ≡ (covers asked x y && covers k.copied.list x y && covers asked (x -ℤ m.offset.0) (y -ℤ m.offset.1))
  no_copy x y = sym (ap (λ l. covers asked x y && covers l x y && covers asked (x -ℤ m.offset.0) (y -ℤ m.offset.1)) none ∙ never (covers asked x y) (covers asked (x -ℤ m.offset.0) (y -ℤ m.offset.1)))
    where
      never : (a b : Bool) → (a && false && b) ≡ false
      never true b = refl
      never false b = refl

  pub no_copies : (limit : ℕ) → [] ≡ copies_of limit m
  no_copies limit =
      sym (none_taken limit)
      ∙ ap (take limit) (sym (none_in_order (int_lt (pos 0) m.offset.0) (int_lt (pos 0) m.offset.1)))
      ∙ ap (λ rs. take limit (order m.offset.0 m.offset.1 rs)) (copies_listed m k asked shows [] ([], (tt, tt), refl) no_copy)

  pub owed_pixels : IsCanonical k.owed.list → ((x y : ℤ) → covers asked x y ≡ on_screen m.width m.height x y) → (limit : ℕ) → take limit k.owed.list ≡ pixels_of limit m
  owed_pixels canonical all limit = ap (take limit) (pixels_listed m k asked shows [] k.owed.list canonical no_copy (λ x y.
      either (covers k.owed.list x y) (on_screen m.width m.height x y) (shows.screen.sets.owed_on x y)
      ∙ ap (λ t. t && (covers k.owed.list x y || false) && true) (sym (all x y))
      ∙ ap (λ l. covers asked x y && (covers k.owed.list x y || covers l x y) && true) (sym none)))
    where
      either : (o on : Bool) → (o ≡ true → on ≡ true) → o ≡ (on && (o || false) && true)
      either true true h = refl
      either true false h = absurd (true≢false (sym (h refl)))
      either false true h = refl
      either false false h = refl

  pub owed_left : (left copies pixels : List Rect) → ((x y : ℤ) → covers left x y ≡ (covers k.owed.list x y && not (covers copies x y || covers pixels x y)))
      → (x y : ℤ) → covers left x y ≡ (not (is_clean (mark_at m x y)) && not (covers copies x y || covers pixels x y))
  owed_left left copies pixels each = left_is m k asked shows k.owed.list left copies pixels (λ x y. alone (covers k.owed.list x y) ∙ ap (λ l. covers k.owed.list x y || covers l x y) (sym none)) each
    where
      alone : (o : Bool) → o ≡ (o || false)
      alone true = refl
      alone false = refl
