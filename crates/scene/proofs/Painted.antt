-- What a viewer shows behind a drawing call.
use Rattle.std.proofs.Common.{◌≡◌, ℕ, ◌*◌, ◌/◌, ◌%◌, ◌^◌, ◌+◌, ◌<◌, ◌≤◌, Bool, true, false, cond, not, ◌&&◌, ◌||◌, List, [], ◌∷◌, ◌++◌, length, get_or, Some, None, refl, sym, ap, ◌∙◌, arith}
use Rattle.std.specs.Prelude.{ℤ, pos, ◌-ℤ◌, nat_abs, nat_lt}
use Rattle.std.specs.List.{AllByRecursion}
use Rattle.std.specs.Ordering.{int_eq}
use Rattle.std.proofs.lemmas.Int.{ints}
use Rattle.std.proofs.lemmas.Bool.{and_parts}
use Rattle.std.proofs.lemmas.Bool.Decides.{nat_tests, Decides-int_eq}
use Rattle.std.proofs.lemmas.Nat.{mul-add-lt}
use Rattle.std.proofs.lemmas.List.FromFn.{length-map-range_with_len}
use Rattle.std.proofs.lemmas.List.Folds.{list_any_at}
use Rattle.region.specs.declared.Rect.{Rect}
use Rattle.region.specs.Region.{in_rect, on_screen}
use Rattle.region.specs.Places.{by_place, some_place, cut_destination, same_offset}
use Rattle.copy_schedule.specs.Marks.{Marks, asked_at, copied_by, resized}
use Rattle.region.specs.PlaceLemmas.{value_on, is_place}
use Rattle.framebuffer.specs.Picture.{blank, colour_at, written, copied_colours, places_in, colour_in}
use Rattle.viewer_picture.specs.Messages.{may_come}
use Rattle.viewer_picture.specs.MarkLemmas.{Shows, recoloured, marked-shows, moved-shows}
use Rattle.scene.specs.declared.Config.{Config}
use Rattle.scene.specs.declared.Event.{Event}
use Rattle.scene.specs.declared.Event.TheVariants as event
use Rattle.scene.specs.declared.ScreenError.TheVariants as refusals
use Rattle.updates.specs.declared.notices.Notice.{Notice}
use Rattle.updates.specs.declared.notices.Notice.TheVariants as notice
use Rattle.updates.specs.Short.{IsShort}
use Rattle.updates.specs.Waiting.{with_notice}
use Rattle.viewer.specs.Viewer.{Viewer, is_open_viewer, viewer_copied, viewer_resized, in_view, does_nothing}
use Rattle.framebuffer.specs.Frame.{Frame, blank_frame}
use Rattle.scene.specs.Alone.{owner_of, at_size, drawing_refusal, drawn, shown_drawing}
use Rattle.scene.specs.Shown.{Watching}
use Rattle.scene.specs.Pictures.{is_told}
use Rattle.scene.proofs.Pictured.{Watches, on-it, all-owed-shows}

-- ---- colours

-- outside a rectangle that is written
written-out : (w h : ℕ) (r : Rect) (colours picture : List ℕ) (x y : ℤ) → on_screen w h x y ≡ true → in_rect r x y ≡ false → colour_at w h (written w h r colours picture) x y ≡ colour_at w h picture x y
written-out w h r colours picture x y on out =
    value_on 0 w h (λ x y. cond (in_rect r x y) (colour_in r colours x y % 2 ^ 24) (colour_at w h picture x y)) x y on
    ∙ ap (λ b. cond b (colour_in r colours x y % 2 ^ 24) (colour_at w h picture x y)) out

copied-is : (w h : ℕ) (set : ℤ → ℤ → Bool) (by : ℤ × ℤ) (picture : List ℕ) (x y : ℤ) → on_screen w h x y ≡ true
    → colour_at w h (copied_colours w h set by picture) x y ≡ cond (cut_destination w h set by x y) (colour_at w h picture (x -ℤ by.0) (y -ℤ by.1)) (colour_at w h picture x y)
copied-is w h set by picture x y on =
    value_on 0 w h (λ x y. cond (cut_destination w h set by x y) (colour_at w h picture (x -ℤ by.0) (y -ℤ by.1)) (colour_at w h picture x y)) x y on

-- a copy that does nothing leaves the colours
no-place : (w h : ℕ) (test : ℤ → ℤ → Bool) → some_place w h test ≡ false → (x y : ℤ) → on_screen w h x y ≡ true → test x y ≡ false
no-place w h test none x y on = go (test x y) refl
  where
    numbers : (w h : ℕ) (x y : ℤ) → on_screen w h x y ≡ true → (nat_abs x < w) × (nat_abs y < h)
    numbers w h x y on = let p = is_place w h x y on in let a = p.left in let b = p.right in let d = p.top in let e = p.bottom in (omega (arith, ints, a, b), omega (arith, ints, d, e))

    some : test x y ≡ true → some_place w h test ≡ true
    some e =
        let n = numbers w h x y on in
        let k : ℕ = nat_abs y * w + nat_abs x in
        let fits : k < w * h = mul-add-lt (nat_abs y) w (nat_abs x) h n.1 n.0 in
        list_any_at (λ b. b) (by_place w h test) k false (let size = length-map-range_with_len (λ i. test (pos (i % w)) (pos (i / w))) 0 (w * h) in omega (arith, size, fits))
        (sym (ap (λ b. cond b (get_or (by_place w h test) k false) false) on) ∙ value_on false w h test x y on ∙ e)

    go : (b : Bool) → test x y ≡ b → test x y ≡ false
    go false e = e
    go true e = absurd (never (sym (some e) ∙ none))
      where
        never : true ≡ false → ⊥
        never e = cc

still : (w h : ℕ) (set : ℤ → ℤ → Bool) (by : ℤ × ℤ) (picture : List ℕ) → does_nothing w h set by ≡ true → (x y : ℤ) → on_screen w h x y ≡ true → colour_at w h (copied_colours w h set by picture) x y ≡ colour_at w h picture x y
still w h set by picture idle x y on = copied-is w h set by picture x y on ∙ why (same_offset by (pos 0, pos 0)) (some_place w h (cut_destination w h set by)) refl refl idle
  where
    same : {A : Type 0} (b : Bool) (z : A) → cond b z z ≡ z
    same true z = refl
    same false z = refl

    unmoved : (a d : ℤ) → d ≡ pos 0 → a -ℤ d ≡ a
    unmoved a d e = omega (arith, ints)

    why : (near some : Bool) → same_offset by (pos 0, pos 0) ≡ near → some_place w h (cut_destination w h set by) ≡ some → (near || not some) ≡ true
        → cond (cut_destination w h set by x y) (colour_at w h picture (x -ℤ by.0) (y -ℤ by.1)) (colour_at w h picture x y) ≡ colour_at w h picture x y
    why true some e f idle =
        let parts = and_parts (int_eq by.0 (pos 0)) (int_eq by.1 (pos 0)) e in
        ap (λ z. cond (cut_destination w h set by x y) (colour_at w h picture z (y -ℤ by.1)) (colour_at w h picture x y)) (unmoved x by.0 ((Decides-int_eq by.0 (pos 0)).0 parts.0))
        ∙ ap (λ z. cond (cut_destination w h set by x y) (colour_at w h picture x z) (colour_at w h picture x y)) (unmoved y by.1 ((Decides-int_eq by.1 (pos 0)).0 parts.1))
        ∙ same (cut_destination w h set by x y) (colour_at w h picture x y)
    why false true e f idle = absurd cc
    why false false e f idle = ap (λ b. cond b (colour_at w h picture (x -ℤ by.0) (y -ℤ by.1)) (colour_at w h picture x y)) (no-place w h (cut_destination w h set by) f x y on)

-- ---- notices

all-join : (P : Notice → Type 0) (xs : List Notice) (n : Notice) → AllByRecursion P xs → P n → AllByRecursion P (xs ++ n ∷ [])
all-join P [] n h k = (k, tt)
all-join P (x ∷ xs) n h k = (h.0, all-join P xs n h.1 k)

noticed-short : (n : Notice) (open_now : Bool) (notices : List Notice) → IsShort n → AllByRecursion IsShort notices → AllByRecursion IsShort (cond open_now (with_notice n notices) notices)
noticed-short n false notices short h = h
noticed-short n true notices short h = go (nat_lt (length notices) 64)
  where
    go : (b : Bool) → AllByRecursion IsShort (cond b (notices ++ n ∷ []) notices)
    go true = all-join IsShort notices n h short
    go false = h

text-short : (n : ℕ) (b : Bool) → nat_lt 65536 n ≡ b → cond b (Some refusals.TextTooLong) None ≡ None → n ≤ 2 ^ 16
text-short n true e f = absurd cc
text-short n false e f = grind (arith, nat_tests)

-- ---- drawing calls

module _ (T : Type 0) (made : Config) (f : Frame) (v : Viewer (List ℕ)) (s : Watching) (h : Watches T (at_size f made) f.colours v s) where
  abbrev c : Config
  c = at_size f made

  abbrev picture : List ℕ
  picture = f.colours

  colour : ℤ → ℤ → ℕ
  colour = colour_at c.width c.height picture

  -- other marks of the same size, for which the same is asked, and which show the colours
  remarked : (now : List ℕ) (marks : Marks) → marks.width ≡ v.marks.width → marks.height ≡ v.marks.height → ((x y : ℤ) → asked_at marks x y ≡ asked_at v.marks x y) → Shows T (may_come s.agreed.listed (pos 1) ≡ true) (colour_at c.width c.height now) marks s.shown → Watches T c now (record v { marks = marks }) s
  remarked now marks wide high same shows = record {
    said = h.said;
    legal = h.legal;
    short = h.short;
    follows = record { format = h.follows.format; early = h.follows.early; told = h.follows.told; encoding = h.follows.encoding; copyrect = h.follows.copyrect; sizes = h.follows.sizes; asked = λ x y e. h.follows.asked x y (sym (same x y) ∙ e); width = wide ∙ h.follows.width; height = high ∙ h.follows.height; map = h.follows.map; shows = shows };
  }

  noticed-watched : (n : Notice) (open_now : Bool) → IsShort n → Watches T c picture (record v { notices = cond open_now (with_notice n v.notices) v.notices }) s
  noticed-watched n open_now short = record {
    said = h.said;
    legal = h.legal;
    short = noticed-short n open_now v.notices short h.short;
    follows = record { format = h.follows.format; early = h.follows.early; told = h.follows.told; encoding = h.follows.encoding; copyrect = h.follows.copyrect; sizes = h.follows.sizes; asked = h.follows.asked; width = h.follows.width; height = h.follows.height; map = h.follows.map; shows = h.follows.shows };
  }

  on : (x y : ℤ) → on_screen v.marks.width v.marks.height x y ≡ true → on_screen c.width c.height x y ≡ true
  on = on-it c v.marks h.follows.width h.follows.height

  off : (x y : ℤ) → on_screen c.width c.height x y ≡ true → on_screen v.marks.width v.marks.height x y ≡ true
  off x y e = ap (λ n. on_screen n v.marks.height x y) h.follows.width ∙ ap (λ n. on_screen c.width n x y) h.follows.height ∙ e

  -- marks of a copy: each place of it has the colour of its source where T holds, and no other has another colour
  copy-watched : (now : List ℕ) (set : ℤ → ℤ → Bool) (by : ℤ × ℤ)
      → (T → (x y : ℤ) → on_screen c.width c.height x y ≡ true
      → colour_at c.width c.height now x y ≡ cond (cut_destination c.width c.height set by x y) (colour_at c.width c.height picture (x -ℤ by.0) (y -ℤ by.1)) (colour_at c.width c.height picture x y))
      → ((x y : ℤ) → on_screen c.width c.height x y ≡ true → cut_destination c.width c.height set by x y ≡ false → colour_at c.width c.height now x y ≡ colour_at c.width c.height picture x y)
      → (does_nothing c.width c.height set by ≡ true → (x y : ℤ) → on_screen c.width c.height x y ≡ true → colour_at c.width c.height now x y ≡ colour_at c.width c.height picture x y)
      → (b : Bool) → does_nothing c.width c.height set by ≡ b
      → Watches T c now (record v { marks = cond b v.marks (copied_by (cut_destination c.width c.height set by) by v.uses_copyrect v.marks) }) s
  unfolding colour
  copy-watched now set by moved others unmoved true e = remarked _ v.marks refl refl (λ x y. refl) (recoloured _ colour _ v.marks s.shown (λ x y there. unmoved e x y (on x y there)) h.follows.shows)
  copy-watched now set by moved others unmoved false e = by-copyrect v.uses_copyrect refl
    where
      cut : ℤ → ℤ → Bool
      cut = cut_destination c.width c.height set by

      source : (a b d : Bool) → (a && b && d) ≡ true → d ≡ true
      source true true d e = e
      source true false d e = absurd cc
      source false b d e = absurd cc

      by-copyrect : (uses : Bool) → v.uses_copyrect ≡ uses → Watches T c now (record v { marks = copied_by cut by uses v.marks }) s
      by-copyrect true e = remarked _ _ refl refl (λ x y. refl) (moved-shows _ (h.follows.copyrect e) colour _ cut by v.marks s.shown
          (λ x y hit. off (x -ℤ by.0) (y -ℤ by.1) (source (set x y) (on_screen c.width c.height x y) (on_screen c.width c.height (x -ℤ by.0) (y -ℤ by.1)) hit)) (λ t x y there. moved t x y (on x y there)) h.follows.shows)
      by-copyrect false e = remarked _ _ refl refl (λ x y. refl) (marked-shows _ colour _ cut v.marks s.shown (λ x y there out. others x y (on x y there) out) h.follows.shows)

  -- a copy that is drawn
  drawn-copy-watched : (set : ℤ → ℤ → Bool) (by : ℤ × ℤ) → Watches T c (copied_colours c.width c.height set by picture) (viewer_copied c.width c.height set by v) s
  drawn-copy-watched set by = copy-watched (copied_colours c.width c.height set by picture) set by (λ t x y there. copied-is c.width c.height set by picture x y there)
      (λ x y there out. copied-is c.width c.height set by picture x y there ∙ ap (λ b. cond b (colour_at c.width c.height picture (x -ℤ by.0) (y -ℤ by.1)) (colour_at c.width c.height picture x y)) out)
      (λ idle x y there. still c.width c.height set by picture idle x y there) (does_nothing c.width c.height set by) refl

  untold : false ≡ true → ⊥
  untold e = cc

  -- a new size: every place is owed, and of what was asked for that stays so which is seen
  resized-watched : (w k : ℕ) → Watches T (at_size (blank_frame w k) made) (blank w k) (viewer_resized w k v) s
  resized-watched w k = record {
    said = h.said;
    legal = h.legal;
    short = h.short;
    follows = record {
      format = h.follows.format;
      early = h.follows.early;
      told = h.follows.told;
      encoding = h.follows.encoding;
      copyrect = h.follows.copyrect;
      sizes = h.follows.sizes;
      asked = seen;
      width = refl;
      height = refl;
      map = h.follows.map;
      shows = all-owed-shows T _ w k (by_place w k test) (colour_at w k (blank w k)) s.shown;
    };
  }
    where
      test : ℤ → ℤ → Bool
      test x y = asked_at v.marks x y && in_view w k v x y

      never : false ≡ true → ⊥
      never e = cc

      seen : (x y : ℤ) → asked_at (resized w k (in_view w k v) v.marks) x y ≡ true → in_view w k v x y ≡ true
      seen x y e = go (on_screen w k x y) refl
        where
          go : (t : Bool) → on_screen w k x y ≡ t → in_view w k v x y ≡ true
          go true there = (and_parts (asked_at v.marks x y) (in_view w k v x y) (sym (value_on false w k test x y there) ∙ e)).1
          go false away = absurd (never (sym (ap (λ b. cond b (get_or (by_place w k test) (nat_abs y * w + nat_abs x) false) false) away) ∙ e))

  -- each drawing call; where T holds the viewers are told of it
  pub drawing-watched : (e : Event) → owner_of e ≡ None → (T → is_told e ≡ true) → drawing_refusal c e ≡ None → Watches T (at_size (drawn e f) made) (drawn e f).colours (shown_drawing c e (is_open_viewer v) v) s
  unfolding colour
  drawing-watched (event.Paint r colours) mine told accepted = remarked _ _ refl refl (λ x y. refl) (marked-shows _ colour _ (in_rect r) v.marks s.shown (λ x y there out. written-out c.width c.height r colours picture x y (on x y there) out) h.follows.shows)
  drawing-watched (event.Mark rects) mine told accepted = remarked _ _ refl refl (λ x y. refl) (marked-shows _ colour colour (places_in rects) v.marks s.shown (λ x y there out. refl) h.follows.shows)
  drawing-watched (event.DoCopy rects dx dy) mine told accepted = drawn-copy-watched (places_in rects) (dx, dy)
  drawing-watched event.Bell mine told accepted = noticed-watched notice.Bell (is_open_viewer v) tt
  drawing-watched (event.CutText text) mine told accepted = noticed-watched (notice.CutText text) (is_open_viewer v) (text-short (length text) (nat_lt 65536 (length text)) refl accepted)
  drawing-watched (event.Write r colours) mine told accepted = remarked _ _ refl refl (λ x y. refl) (record { clean = λ t. absurd (untold (told t)); copied = λ t. absurd (untold (told t)); may = h.follows.shows.may })
  drawing-watched (event.ScheduleCopy rects dx dy) mine told accepted = copy-watched picture (places_in rects) (dx, dy) (λ t. absurd (untold (told t))) (λ x y there out. refl) (λ idle x y there. refl) (does_nothing c.width c.height (places_in rects) (dx, dy)) refl
  drawing-watched (event.Resize w k) mine told accepted = resized-watched w k
  drawing-watched (event.Connect n) mine told accepted = absurd cc
  drawing-watched (event.Hear n piece) mine told accepted = absurd cc
  drawing-watched (event.Cut n) mine told accepted = absurd cc
  drawing-watched (event.Close n) mine told accepted = absurd cc
