-- What is shown by the marks, as these change.
use Rattle.std.proofs.Common.{◌≡◌, Option, Some, ◌⊎◌, inl, inr, ℕ, Bool, true, false, cond, not, ◌&&◌, ◌||◌, refl, sym, ap, ◌∙◌, arith}
use Rattle.std.specs.Prelude.{ℤ, ◌+ℤ◌, ◌-ℤ◌}
use Rattle.std.specs.Ordering.{int_eq}
use Rattle.std.proofs.lemmas.Int.{ints}
use Rattle.std.proofs.lemmas.Bool.{and_parts}
use Rattle.std.proofs.lemmas.Bool.Decides.{Decides-int_eq}
use Rattle.region.specs.Region.{on_screen}
use Rattle.pixel_translate.specs.Pixel.{pixel}
use Rattle.encode_raw.specs.Reading.{Dot, Shown}
use Rattle.copy_schedule.specs.declared.Mark.{Mark}
use Rattle.copy_schedule.specs.declared.Mark.TheVariants.{Clean, Copied, Owed}
use Rattle.region.specs.Places.{same_offset}
use Rattle.copy_schedule.specs.Marks.{Marks, is_copied, mark_at, with_marks, marked, lost_to, moved_mark, moved_marks, asked_for, forgotten, without_copyrect}
use Rattle.region.specs.PlaceLemmas.{value_on}
use Rattle.viewer_picture.specs.Pictures.{dot_at, ShowsColour}

-- Where T holds, each clean place of the marks' screen shows its colour, and so does a copied place's source, which is on the
-- screen; and P holds where there is a copied place.
pub record Shows (T P : Type 0) (colour : ℤ → ℤ → ℕ) (m : Marks) (shown : Shown) : Type 0 where
  pub clean : T → (x y : ℤ) → on_screen m.width m.height x y ≡ true → mark_at m x y ≡ Clean → ShowsColour (dot_at shown x y) (colour x y)
  pub copied : T → (x y : ℤ) → on_screen m.width m.height x y ≡ true → mark_at m x y ≡ Copied
      → (on_screen m.width m.height (x -ℤ m.offset.0) (y -ℤ m.offset.1) ≡ true) × ShowsColour (dot_at shown (x -ℤ m.offset.0) (y -ℤ m.offset.1)) (colour x y)
  pub may : (x y : ℤ) → on_screen m.width m.height x y ≡ true → mark_at m x y ≡ Copied → P

owed-clean : Owed ≡ Clean → ⊥
owed-clean e = cc

owed-copied : Owed ≡ Copied → ⊥
owed-copied e = cc

copied-clean : Copied ≡ Clean → ⊥
copied-clean e = cc

clean-copied : Clean ≡ Copied → ⊥
clean-copied e = cc

-- the mark of a place once the marks are those of a test
pub mark-is : (m : Marks) (mark : ℤ → ℤ → Mark) (x y : ℤ) → on_screen m.width m.height x y ≡ true → mark_at (with_marks m mark) x y ≡ mark x y
mark-is m mark x y on = value_on Clean m.width m.height mark x y on

-- another place, or another colour, that is the same
pub tells : (dot dot' : Option Dot) (c c' : ℕ) → dot' ≡ dot → c' ≡ c → ShowsColour dot c → ShowsColour dot' c'
tells dot dot' c c' e k (f, h) = (f, e ∙ h ∙ ap (λ (n : ℕ). Some (record { format = f; pixel = pixel f n })) (sym k))

-- ---- places that become owed

-- where a place that isn't owed was the same before, and shows what it showed
less : (T P : Type 0) (colour colour' : ℤ → ℤ → ℕ) (m : Marks) (mark : ℤ → ℤ → Mark) (shown shown' : Shown)
    → ((x y : ℤ) → on_screen m.width m.height x y ≡ true → mark x y ≡ Clean → (mark_at m x y ≡ Clean) × (colour' x y ≡ colour x y) × (dot_at shown' x y ≡ dot_at shown x y))
    → ((x y : ℤ) → on_screen m.width m.height x y ≡ true → mark x y ≡ Copied → (mark_at m x y ≡ Copied) × (colour' x y ≡ colour x y)
    × (on_screen m.width m.height (x -ℤ m.offset.0) (y -ℤ m.offset.1) ≡ true → dot_at shown' (x -ℤ m.offset.0) (y -ℤ m.offset.1) ≡ dot_at shown (x -ℤ m.offset.0) (y -ℤ m.offset.1)))
    → Shows T P colour m shown → Shows T P colour' (with_marks m mark) shown'
less T P colour colour' m mark shown shown' were-clean were-copied s = record {
  clean = λ t x y on e.
      let was = were-clean x y on (sym (mark-is m mark x y on) ∙ e) in
      tells (dot_at shown x y) (dot_at shown' x y) (colour x y) (colour' x y) was.2 was.1 (s.clean t x y on was.0);
  copied = λ t x y on e.
      let was = were-copied x y on (sym (mark-is m mark x y on) ∙ e) in
      let there = s.copied t x y on was.0 in
      (there.0, tells (dot_at shown (x -ℤ m.offset.0) (y -ℤ m.offset.1)) (dot_at shown' (x -ℤ m.offset.0) (y -ℤ m.offset.1)) (colour x y) (colour' x y) (was.2 there.0) was.1 there.1);
  may = λ x y on e. s.may x y on (were-copied x y on (sym (mark-is m mark x y on) ∙ e)).0;
}

-- a set becomes owed; colours change only in it
pub marked-shows : {T : Type 0} (P : Type 0) (colour colour' : ℤ → ℤ → ℕ) (set : ℤ → ℤ → Bool) (m : Marks) (shown : Shown) → ((x y : ℤ) → on_screen m.width m.height x y ≡ true → set x y ≡ false → colour' x y ≡ colour x y)
    → Shows T P colour m shown → Shows T P colour' (marked set m) shown
marked-shows {T} P colour colour' set m shown same s = less T P colour colour' m (λ x y. cond (set x y) Owed (mark_at m x y)) shown shown
    (λ x y on e. let was = one (set x y) (mark_at m x y) Clean owed-clean e in (was.1, same x y on was.0, refl))
    (λ x y on e. let was = one (set x y) (mark_at m x y) Copied owed-copied e in (was.1, same x y on was.0, λ there. refl)) s
  where
    one : (b : Bool) (a k : Mark) → (Owed ≡ k → ⊥) → cond b Owed a ≡ k → (b ≡ false) × (a ≡ k)
    one true a k not_owed e = absurd (not_owed e)
    one false a k not_owed e = (refl, e)

-- no place is copied any more
pub uncopied-shows : {T : Type 0} (P Q : Type 0) (colour : ℤ → ℤ → ℕ) (m : Marks) (shown : Shown) → Shows T P colour m shown → Shows T Q colour (without_copyrect m) shown
uncopied-shows {T} P Q colour m shown s = record {
  clean = owing.clean;
  copied = owing.copied;
  may = λ x y on e. absurd (two (mark_at m x y) (sym (mark-is m mark x y on) ∙ e));
}
  where
    one : (a : Mark) → cond (is_copied a) Owed a ≡ Clean → a ≡ Clean
    one Clean e = refl
    one Copied e = absurd cc
    one Owed e = e

    two : (a : Mark) → cond (is_copied a) Owed a ≡ Copied → ⊥
    two Clean e = cc
    two Copied e = cc
    two Owed e = cc

    mark : ℤ → ℤ → Mark
    mark x y = cond (is_copied (mark_at m x y)) Owed (mark_at m x y)

    owing : Shows T P colour (with_marks m mark) shown
    owing = less T P colour colour m mark shown shown (λ x y on e. (one (mark_at m x y) e, refl, refl)) (λ x y on e. absurd (two (mark_at m x y) e)) s

-- P may be another thing that holds
pub allowed : {T : Type 0} (P Q : Type 0) (colour : ℤ → ℤ → ℕ) (m : Marks) (shown : Shown) → Q → Shows T P colour m shown → Shows T Q colour m shown
allowed P Q colour m shown q s = record { clean = s.clean; copied = s.copied; may = λ x y on e. q }

-- a set is asked for
pub asked-shows : {T : Type 0} (P : Type 0) (colour : ℤ → ℤ → ℕ) (set : ℤ → ℤ → Bool) (m : Marks) (shown : Shown) → Shows T P colour m shown → Shows T P colour (asked_for set m) shown
asked-shows P colour set m shown s = record { clean = s.clean; copied = s.copied; may = s.may }

-- and it is shown no more
pub forgotten-shows : {T : Type 0} (P : Type 0) (colour : ℤ → ℤ → ℕ) (set : ℤ → ℤ → Bool) (m : Marks) (shown shown' : Shown)
    → ((x y : ℤ) → on_screen m.width m.height x y ≡ true → set x y ≡ false → dot_at shown' x y ≡ dot_at shown x y)
    → Shows T P colour m shown → Shows T P colour (forgotten set m) shown'
forgotten-shows {T} P colour set m shown shown' same s =
    less T P colour colour m (λ x y. cond (set x y || (is_copied (mark_at m x y) && set (x -ℤ m.offset.0) (y -ℤ m.offset.1))) Owed (mark_at m x y)) shown shown'
    (λ x y on e. let was = one (set x y) (set (x -ℤ m.offset.0) (y -ℤ m.offset.1)) (mark_at m x y) e in (was.1, refl, same x y on was.0))
    (λ x y on e. let was = two (set x y) (set (x -ℤ m.offset.0) (y -ℤ m.offset.1)) (mark_at m x y) e in (was.1, refl, λ there. same (x -ℤ m.offset.0) (y -ℤ m.offset.1) there was.0)) s
  where
    one : (b c : Bool) (a : Mark) → cond (b || (is_copied a && c)) Owed a ≡ Clean → (b ≡ false) × (a ≡ Clean)
    one true c a e = absurd (owed-clean e)
    one false c Clean e = (refl, refl)
    one false true Copied e = absurd (owed-clean e)
    one false false Copied e = absurd (copied-clean e)
    one false c Owed e = absurd (owed-clean e)

    two : (b c : Bool) (a : Mark) → cond (b || (is_copied a && c)) Owed a ≡ Copied → (c ≡ false) × (a ≡ Copied)
    two true c a e = absurd (owed-copied e)
    two false c Clean e = absurd (clean-copied e)
    two false true Copied e = absurd (owed-copied e)
    two false false Copied e = (refl, refl)
    two false c Owed e = absurd (owed-copied e)

-- ---- a copy that is drawn

clean-after : (d : Bool) (a source : Mark) → moved_mark d a source ≡ Clean → (d ≡ false) × (a ≡ Clean)
clean-after d Owed source e = absurd (owed-clean e)
clean-after d Copied Clean e = absurd (copied-clean e)
clean-after d Copied Copied e = absurd (copied-clean e)
clean-after d Copied Owed e = absurd (owed-clean e)
clean-after true Clean Clean e = absurd (copied-clean e)
clean-after true Clean Copied e = absurd (copied-clean e)
clean-after true Clean Owed e = absurd (owed-clean e)
clean-after false Clean source e = (refl, refl)

-- a place that is copied then is drawn, or was copied; and its source isn't owed
copied-after : (d : Bool) (a source : Mark) → moved_mark d a source ≡ Copied → ((d ≡ true) ⊎ ((d ≡ false) × (a ≡ Copied))) × ((source ≡ Clean) ⊎ (source ≡ Copied))
copied-after d Owed source e = absurd (owed-copied e)
copied-after true Copied Clean e = (inl refl, inl refl)
copied-after true Copied Copied e = (inl refl, inr refl)
copied-after false Copied Clean e = (inr (refl, refl), inl refl)
copied-after false Copied Copied e = (inr (refl, refl), inr refl)
copied-after d Copied Owed e = absurd (owed-copied e)
copied-after true Clean Clean e = (inl refl, inl refl)
copied-after true Clean Copied e = (inl refl, inr refl)
copied-after true Clean Owed e = absurd (owed-copied e)
copied-after false Clean source e = absurd (clean-copied e)

-- what a copy leaves before it is drawn
left-clean : (b : Bool) (a : Mark) → cond (is_copied a && b) Owed a ≡ Clean → a ≡ Clean
left-clean b Clean e = refl
left-clean true Copied e = absurd (owed-clean e)
left-clean false Copied e = e
left-clean b Owed e = e

left-copied : (near hit : Bool) (a : Mark) → cond (is_copied a && (not near || hit)) Owed a ≡ Copied → (a ≡ Copied) × (near ≡ true) × (hit ≡ false)
left-copied near hit Clean e = absurd (clean-copied e)
left-copied true true Copied e = absurd (owed-copied e)
left-copied true false Copied e = (refl, refl, refl)
left-copied false hit Copied e = absurd (owed-copied e)
left-copied near hit Owed e = absurd (owed-copied e)

-- the place by an offset before another shows its colour
abbrev SourceShows : (ℤ → ℤ → ℕ) → Marks → ℤ × ℤ → Shown → ℤ → ℤ → Type 0
SourceShows colour m by shown x y = (on_screen m.width m.height (x -ℤ by.0) (y -ℤ by.1) ≡ true) × ShowsColour (dot_at shown (x -ℤ by.0) (y -ℤ by.1)) (colour x y)

-- a set that is on the screen with its source gets the colours of its source
pub moved-shows : {T : Type 0} (P : Type 0) → P → (colour colour' : ℤ → ℤ → ℕ) (set : ℤ → ℤ → Bool) (by : ℤ × ℤ) (m : Marks) (shown : Shown)
    → ((x y : ℤ) → set x y ≡ true → on_screen m.width m.height (x -ℤ by.0) (y -ℤ by.1) ≡ true)
    → (T → (x y : ℤ) → on_screen m.width m.height x y ≡ true → colour' x y ≡ cond (set x y) (colour (x -ℤ by.0) (y -ℤ by.1)) (colour x y))
    → Shows T P colour m shown → Shows T P colour' (moved_marks set by (lost_to set by m)) shown
moved-shows {T} P p colour colour' set by m shown cut drawn s = record {
  clean = λ t x y on e.
      let after = clean-after (set x y) (mark_at lost x y) (mark_at lost (x -ℤ by.0) (y -ℤ by.1)) (sym (mark-is lost new x y on) ∙ e) in
      let before : mark_at m x y ≡ Clean = left-clean _ (mark_at m x y) (sym (mark-is m left x y on) ∙ after.1) in
      tells (dot_at shown x y) (dot_at shown x y) (colour x y) (colour' x y) refl (drawn t x y on ∙ ap (λ b. cond b (colour (x -ℤ by.0) (y -ℤ by.1)) (colour x y)) after.0) (s.clean t x y on before);
  copied = λ t x y on e.
      let after = copied-after (set x y) (mark_at lost x y) (mark_at lost (x -ℤ by.0) (y -ℤ by.1)) (sym (mark-is lost new x y on) ∙ e) in
      by-drawn t x y on after.0 after.1;
  may = λ x y on e. p;
}
  where
    left : ℤ → ℤ → Mark
    left x y = cond (is_copied (mark_at m x y) && (not (same_offset m.offset by) || set (x +ℤ by.0) (y +ℤ by.1))) Owed (mark_at m x y)

    lost : Marks
    lost = lost_to set by m

    new : ℤ → ℤ → Mark
    new x y = moved_mark (set x y) (mark_at lost x y) (mark_at lost (x -ℤ by.0) (y -ℤ by.1))

    back : (a b : ℤ) → (a -ℤ b) +ℤ b ≡ a
    back a b = omega (arith, ints)

    near : same_offset m.offset by ≡ true → (m.offset.0 ≡ by.0) × (m.offset.1 ≡ by.1)
    near e = let parts = and_parts (int_eq m.offset.0 by.0) (int_eq m.offset.1 by.1) e in ((Decides-int_eq m.offset.0 by.0).0 parts.0, (Decides-int_eq m.offset.1 by.1).0 parts.1)

    -- the source of a place that is drawn is clean
    source : T → (x y : ℤ) → on_screen m.width m.height x y ≡ true → set x y ≡ true → (mark_at lost (x -ℤ by.0) (y -ℤ by.1) ≡ Clean) ⊎ (mark_at lost (x -ℤ by.0) (y -ℤ by.1) ≡ Copied) → SourceShows colour' m by shown x y
    source t x y on hit (inl clean) =
        let there = cut x y hit in
        let before : mark_at m (x -ℤ by.0) (y -ℤ by.1) ≡ Clean = left-clean _ (mark_at m (x -ℤ by.0) (y -ℤ by.1)) (sym (mark-is m left (x -ℤ by.0) (y -ℤ by.1) there) ∙ clean) in (
          there,
          tells (dot_at shown (x -ℤ by.0) (y -ℤ by.1)) (dot_at shown (x -ℤ by.0) (y -ℤ by.1)) (colour (x -ℤ by.0) (y -ℤ by.1)) (colour' x y) refl
              (drawn t x y on ∙ ap (λ b. cond b (colour (x -ℤ by.0) (y -ℤ by.1)) (colour x y)) hit) (s.clean t (x -ℤ by.0) (y -ℤ by.1) there before),
        )
    source t x y on hit (inr copied) =
        let there = cut x y hit in
        let before = left-copied (same_offset m.offset by) (set ((x -ℤ by.0) +ℤ by.0) ((y -ℤ by.1) +ℤ by.1)) (mark_at m (x -ℤ by.0) (y -ℤ by.1)) (sym (mark-is m left (x -ℤ by.0) (y -ℤ by.1) there) ∙ copied) in
        absurd (never (sym hit ∙ sym (ap (λ a. set a ((y -ℤ by.1) +ℤ by.1)) (back x by.0) ∙ ap (set x) (back y by.1)) ∙ before.2))
      where
        never : true ≡ false → ⊥
        never e = cc

    by-drawn : T → (x y : ℤ) → on_screen m.width m.height x y ≡ true → (set x y ≡ true) ⊎ ((set x y ≡ false) × (mark_at lost x y ≡ Copied))
        → (mark_at lost (x -ℤ by.0) (y -ℤ by.1) ≡ Clean) ⊎ (mark_at lost (x -ℤ by.0) (y -ℤ by.1) ≡ Copied) → SourceShows colour' m by shown x y
    by-drawn t x y on (inl hit) from = source t x y on hit from
    by-drawn t x y on (inr kept) from =
        let before = left-copied (same_offset m.offset by) (set (x +ℤ by.0) (y +ℤ by.1)) (mark_at m x y) (sym (mark-is m left x y on) ∙ kept.1) in
        let same = near before.1 in
        let there = s.copied t x y on before.0 in (
          ap (λ d. on_screen m.width m.height (x -ℤ d) (y -ℤ by.1)) (sym same.0) ∙ ap (λ d. on_screen m.width m.height (x -ℤ m.offset.0) (y -ℤ d)) (sym same.1) ∙ there.0,
          tells (dot_at shown (x -ℤ m.offset.0) (y -ℤ m.offset.1)) (dot_at shown (x -ℤ by.0) (y -ℤ by.1)) (colour x y) (colour' x y)
              (ap (λ d. dot_at shown (x -ℤ d) (y -ℤ by.1)) (sym same.0) ∙ ap (λ d. dot_at shown (x -ℤ m.offset.0) (y -ℤ d)) (sym same.1))
              (drawn t x y on ∙ ap (λ b. cond b (colour (x -ℤ by.0) (y -ℤ by.1)) (colour x y)) kept.0) there.1,
        )

-- other colours that are the same on the screen
pub recoloured : {T : Type 0} (P : Type 0) (colour colour' : ℤ → ℤ → ℕ) (m : Marks) (shown : Shown) → ((x y : ℤ) → on_screen m.width m.height x y ≡ true → colour' x y ≡ colour x y) → Shows T P colour m shown → Shows T P colour' m shown
recoloured P colour colour' m shown same s = record {
  clean = λ t x y on e. tells (dot_at shown x y) (dot_at shown x y) (colour x y) (colour' x y) refl (same x y on) (s.clean t x y on e);
  copied = λ t x y on e. let there = s.copied t x y on e in
      (there.0, tells (dot_at shown (x -ℤ m.offset.0) (y -ℤ m.offset.1)) (dot_at shown (x -ℤ m.offset.0) (y -ℤ m.offset.1)) (colour x y) (colour' x y) refl (same x y on) there.1);
  may = s.may;
}
