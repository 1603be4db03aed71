-- What the viewers show after a list of events is what is drawn, and the colour map is there.
use Rattle.std.proofs.Common.{◌≡◌, ℕ, Bool, true, false, cond, List, [], ◌∷◌, ◌++◌, Option, Some, None, refl, sym, ap, subst, ◌∙◌, append_assoc}
use Rattle.std.specs.Prelude.{All, ◌==◌, option_map, ℤ, ◌-ℤ◌}
use Rattle.std.specs.List.{AllByRecursion, filter_map, cons_option, list_all}
use Rattle.std.proofs.lemmas.Bool.{and_parts}
use Rattle.std.proofs.lemmas.Bool.Decides.{Decides-eqb}
use Rattle.std.proofs.lemmas.List.{append-nil}
use Rattle.std.proofs.lemmas.List.Elements.{All-from_recursion}
use Rattle.messages.specs.Reading.{Rest}
use Rattle.viewer_picture.specs.Claims.{RectanglesAreRead}
use Rattle.viewer_picture.specs.Pictures.{ShowsPicture}
use Rattle.region.specs.Region.{on_screen}
use Rattle.scene.specs.declared.Config.{Config}
use Rattle.scene.specs.declared.Event.{Event}
use Rattle.scene.specs.declared.ScreenError.{ScreenError}
use Rattle.viewer.specs.Viewer.{Viewer, kept_viewer, is_open_viewer}
use Rattle.framebuffer.specs.Frame.{Frame}
use Rattle.scene.specs.Alone.{One, at_size, config_refusal, own_step, draw_step, after, owner_of, drawing_refusal, drawn, shown_drawing, empty_screen}
use Rattle.scene.specs.Answers.{own, answer_to, answers_after, answers, picture_of, viewer_of, live_from, entry_of, scene_after}
use Rattle.scene.specs.Shown.{Watching, at_first, is_its, watched_unless_refused, watching}
use Rattle.scene.specs.Pictures.{is_told, ReadsAndShows, HasMap, pictures_are_shown, maps_are_there}
use Rattle.scene.proofs.Steps.{after-append, own-drawing}
use Rattle.scene.proofs.Everyones.{one_of, now_at, own-picture, one-picture}
use Rattle.scene.proofs.Owners.{own-hit, own-miss, answer-own}
use Rattle.scene.proofs.Watched.{Limits}
use Rattle.scene.proofs.Pictured.{limits, limits-drawn, Watches, WatchesIf, on-it, own-watched}
use Rattle.scene.proofs.Painted.{drawing-watched}

-- the one viewer's machine after one event more
one-drawing : (c : Config) (v : ℕ) (before : List Event) (e : Event) → owner_of e ≡ None
    → let o = one_of c v before in one_of c v (before ++ e ∷ []) ≡ (draw_step (at_size o.picture c) e o (drawing_refusal (at_size o.picture c) e)).0
one-drawing c v before e h = ap (λ l. after c l (empty_screen c)) (own-drawing v before e h) ∙ after-append c (own v before) e (empty_screen c) ∙ rw h refl

one-own : (c : Config) (v : ℕ) (before : List Event) (e : Event) → owner_of e ≡ Some v
    → let o = one_of c v before in one_of c v (before ++ e ∷ []) ≡ (own_step (at_size o.picture c) e o o.viewer).0
one-own c v before e h = ap (λ l. after c l (empty_screen c)) (own-hit v before e h) ∙ after-append c (own v before) e (empty_screen c) ∙ rw h refl

one-other : (c : Config) (v n : ℕ) (before : List Event) (e : Event) → owner_of e ≡ Some n → (n == v) ≡ false → one_of c v (before ++ e ∷ []) ≡ one_of c v before
one-other c v n before e h other = ap (λ l. after c l (empty_screen c)) (own-miss v n before e h other)

-- a viewer is watched on a screen within the limits
record IsWatched (T : Type 0) (c : Config) (o : One) (s : Watching) : Type 0 where
  within : Limits (at_size o.picture c)
  watched : WatchesIf T (at_size o.picture c) o.picture.colours o.viewer s

-- where T holds the viewers are told of all
module _ (reads : RectanglesAreRead) (T : Type 0) (c : Config) (v : ℕ) where
  -- a drawing call
  drawn-watched : (e : Event) → owner_of e ≡ None → (T → is_told e ≡ true) → (o : One) (s : Watching) → IsWatched T c o s → (r : Option ScreenError) → drawing_refusal (at_size o.picture c) e ≡ r
      → IsWatched T c (draw_step (at_size o.picture c) e o r).0 s
  drawn-watched e mine told o s h (Some r) is = h
  drawn-watched e mine told o s h None is = record { within = limits-drawn c o.picture e h.within is; watched = go o.viewer h.watched }
    where
      go : (w : Option (Viewer (List ℕ))) → WatchesIf T (at_size o.picture c) o.picture.colours w s
          → WatchesIf T (at_size (drawn e o.picture) c) (drawn e o.picture).colours (option_map (λ v. shown_drawing (at_size o.picture c) e (is_open_viewer v) v) w) s
      go None h = tt
      go (Some w) h = drawing-watched T c o.picture w s h e mine told is

  -- one event
  event-watched : (before : List Event) (e : Event) (s : Watching) → (T → is_told e ≡ true) → IsWatched T c (one_of c v before) s
      → IsWatched T c (one_of c v (before ++ e ∷ [])) (cond (is_its v (owner_of e)) (watched_unless_refused e (answer_to c before e) s) s)
  event-watched before e s told h = by-owner (owner_of e) refl
    where
      o : One
      o = one_of c v before

      own-step : owner_of e ≡ Some v → IsWatched T c (own_step (at_size o.picture c) e o o.viewer).0 (watched_unless_refused e (own_step (at_size o.picture c) e o o.viewer).1 s)
      own-step mine =
          let step = own_step (at_size o.picture c) e o o.viewer in
          let same = sym (own-picture (at_size o.picture c) e o o.viewer) in
          record {
            within = subst (λ (f : Frame). Limits (at_size f c)) same h.within;
            watched = subst (λ (f : Frame). WatchesIf T (at_size f c) f.colours step.0.viewer (watched_unless_refused e step.1 s)) same
                (own-watched reads T (at_size o.picture c) h.within o.picture.colours o.picture refl e o.viewer s h.watched);
          }

      by-number : (n : ℕ) (b : Bool) → owner_of e ≡ Some n → (n == v) ≡ b → IsWatched T c (one_of c v (before ++ e ∷ [])) (cond b (watched_unless_refused e (answer_to c before e) s) s)
      by-number n false is other = subst (λ (w : One). IsWatched T c w s) (sym (one-other c v n before e is other)) h
      by-number n true is same =
          let mine : owner_of e ≡ Some v = is ∙ ap Some ((Decides-eqb n v).0 same) in
          subst (λ (w : One). IsWatched T c w (watched_unless_refused e (answer_to c before e) s)) (sym (one-own c v before e mine))
          (subst (λ a. IsWatched T c (own_step (at_size o.picture c) e o o.viewer).0 (watched_unless_refused e a s)) (sym (answer-own c v before e mine)) (own-step mine))

      by-owner : (w : Option ℕ) → owner_of e ≡ w → IsWatched T c (one_of c v (before ++ e ∷ [])) (cond (is_its v w) (watched_unless_refused e (answer_to c before e) s) s)
      by-owner None is = subst (λ (w : One). IsWatched T c w s) (sym (one-drawing c v before e is)) (drawn-watched e is told o s h (drawing_refusal (at_size o.picture c) e) refl)
      by-owner (Some n) is = by-number n (n == v) is refl

  -- a list of events
  list-watched : (es before : List Event) (s : Watching) → (T → list_all is_told es ≡ true) → IsWatched T c (one_of c v before) s → IsWatched T c (one_of c v (before ++ es)) (watching v es (answers_after c before es) s)
  list-watched [] before s told h = subst (λ (l : List Event). IsWatched T c (one_of c v l) s) (sym (append-nil before)) h
  list-watched (e ∷ es) before s told h =
      let next : Watching = cond (is_its v (owner_of e)) (watched_unless_refused e (answer_to c before e) s) s in
      subst (λ (l : List Event). IsWatched T c (one_of c v l) (watching v es (answers_after c (before ++ e ∷ []) es) next)) (append_assoc before (e ∷ []) es)
      (list-watched es (before ++ e ∷ []) next (λ t. (and_parts (is_told e) (list_all is_told es) (told t)).1) (event-watched before e s (λ t. (and_parts (is_told e) (list_all is_told es) (told t)).0) h))

-- ---- every viewer that is there

module _ (P : ℕ × Viewer Rest → Type 0) (c : Config) (es : List Event) (each : (n : ℕ) (w : Viewer (List ℕ)) → viewer_of c n es ≡ Some w → P (n, kept_viewer w)) where
  those : (n : ℕ) (w : Option (Viewer (List ℕ))) → viewer_of c n es ≡ w → (rest : List (ℕ × Viewer Rest)) → AllByRecursion P rest → AllByRecursion P (cons_option (entry_of n w) rest)
  those n None is rest h = h
  those n (Some w) is rest h = (each n w is, h)

  all-those : (ns : List ℕ) → AllByRecursion P (filter_map (λ n. entry_of n (viewer_of c n es)) ns)
  all-those [] = tt
  all-those (n ∷ ns) = those n (viewer_of c n es) refl (filter_map (λ n. entry_of n (viewer_of c n es)) ns) (all-those ns)

  every-one : All P (scene_after c es).viewers
  every-one = All-from_recursion P (scene_after c es).viewers (all-those (live_from [] es))

-- how a viewer that is there is watched
watched-there : RectanglesAreRead → (c : Config) (es : List Event) → config_refusal c ≡ None → (n : ℕ) (w : Viewer (List ℕ)) → viewer_of c n es ≡ Some w
    → Watches (list_all is_told es ≡ true) (now_at c es) (picture_of c es).colours w (watching n es (answers c es) at_first)
watched-there reads c es accepted n w is =
    let T : Type 0 = list_all is_told es ≡ true in
    let s : Watching = watching n es (answers c es) at_first in
    let all = list-watched reads T c n es [] at_first (λ t. t) (record { within = limits c accepted; watched = tt }) in
    subst (λ (f : Frame). Watches T (at_size f c) f.colours w s) (one-picture c n es) (subst (λ o. WatchesIf T (at_size (one_of c n es).picture c) (one_of c n es).picture.colours o s) is all.watched)

pictured : (T : Type 0) → T → (c : Config) (picture : List ℕ) (w : Viewer (List ℕ)) (s : Watching) → Watches T c picture w s → ShowsPicture c.width c.height picture w.marks s.shown
pictured T t c picture w s h = record {
  clean = λ x y on e. h.follows.shows.clean t x y (back x y on) e;
  copied = λ x y on e. let there = h.follows.shows.copied t x y (back x y on) e in (on-it c w.marks h.follows.width h.follows.height (x -ℤ w.marks.offset.0) (y -ℤ w.marks.offset.1) there.0, there.1);
}
  where
    back : (x y : ℤ) → on_screen c.width c.height x y ≡ true → on_screen w.marks.width w.marks.height x y ≡ true
    back x y e = ap (λ n. on_screen n w.marks.height x y) h.follows.width ∙ ap (λ n. on_screen c.width n x y) h.follows.height ∙ e

pub pictures-shown : RectanglesAreRead → pictures_are_shown
pictures-shown reads c es accepted told =
    let f : Frame = picture_of c es in
    every-one (λ p. ReadsAndShows f.width f.height f.colours p.1.marks (watching p.0 es (answers c es) at_first)) c es
    (λ n w is. let here = watched-there reads c es accepted n w is in record { legal = here.legal; shows = pictured (list_all is_told es ≡ true) told (now_at c es) f.colours w (watching n es (answers c es) at_first) here })

pub maps-there : RectanglesAreRead → maps_are_there
maps-there reads c es accepted =
    every-one (λ p. HasMap p.1 (watching p.0 es (answers c es) at_first)) c es
    (λ n w is. let here = watched-there reads c es accepted n w is in record { legal = here.legal; colours = λ opened. here.follows.map })
