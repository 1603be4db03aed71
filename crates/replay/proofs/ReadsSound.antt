-- What happened is sound.
use Rattle.std.proofs.Common.{◌≡◌, ℕ, ◌+◌, ◌*◌, ◌^◌, ◌≤◌, Bool, true, false, not, cond, ◌&&◌, eqb, leb, ltb, List, [], ◌∷◌, ◌++◌, length, refl, ◌∙◌, ap, arith, Option, Some, None, ℤ}
use Rattle.std.specs.Prelude.{◌-ℤ◌, nat_abs, is_none, filter}
use Rattle.std.specs.List.{AllByRecursion}
use Rattle.std.proofs.Math.Nat.{mul-le-mul}
use Rattle.region.specs.declared.Rect.{Rect}
use Rattle.framebuffer.specs.Frame.{Frame}
use Rattle.scene.specs.declared.ScreenError.{ScreenError}
use Rattle.scene.specs.declared.ScreenError.TheVariants as refusals
use Rattle.screen.specs.declared.Config.{Config}
use Rattle.screen.specs.declared.Event.{Event}
use Rattle.screen.specs.declared.Event.TheVariants as event
use Rattle.scene.specs.Alone.{One, at_size, step, draw_step, after, owner_of, drawing_refusal, pixels_refusal, size_refusal, is_size, is_span, is_within, config_refusal, empty_screen}
use Rattle.scene.specs.Answers.{is_drawing, answer_to, refused_or_nothing, picture_of}
use Rattle.scene.specs.History.{has_happened, accepted_after, accepted}
use Rattle.play_script.specs.Words.{number_limit}
use Rattle.replay.specs.Said.{IsTyped, IsRun, IsSound, IsSoundConfig, AreColoursOf, AreSound}
use Rattle.replay.proofs.ReadsTests.{below, both_true, within, equal_from}
use Rattle.replay.proofs.ReadsPlaces.{Span, sides_of, span_abs}
use Rattle.replay.proofs.ReadsAccepted.{own-picture}

not_true : (b : Bool) → not b ≡ false → b ≡ true
not_true true h = refl
not_true false h = cc

-- ---- sizes

record Size (w h : ℕ) : Type 0 where
  columns : w ≤ 8192
  rows : h ≤ 8192
  places : w * h ≤ 2 ^ 24

size_of : (w h : ℕ) → is_size w h ≡ true → Size w h
size_of w h e =
    let a = both_true (leb 1 w && leb w 8192 && leb 1 h && leb h 8192) (leb (w * h) (2 ^ 24)) e in
    let b = both_true (leb 1 w && leb w 8192 && leb 1 h) (leb h 8192) a.0 in
    let d = both_true (leb 1 w && leb w 8192) (leb 1 h) b.0 in
    record { columns = below w 8192 (both_true (leb 1 w) (leb w 8192) d.0).1; rows = below h 8192 b.1; places = below (w * h) (2 ^ 24) a.1 }

abbrev IsSized : Frame → Type 0
IsSized f = is_size f.width f.height ≡ true

size_taken : (b : Bool) → cond b None (Some refusals.BadSize) ≡ None → b ≡ true
size_taken true h = refl
size_taken false h = cc

-- a screen keeps a size that it may have
drawn_sized : (c : Config) (e : Event) (s : One) (o : Option ScreenError) → drawing_refusal c e ≡ o → IsSized s.picture → IsSized (draw_step c e s o).0.picture
drawn_sized c e s (Some r) is h = h
drawn_sized c (event.Resize w k) s None is h = size_taken (is_size w k) is
drawn_sized c (event.Write r cs) s None is h = h
drawn_sized c (event.Paint r cs) s None is h = h
drawn_sized c (event.Mark rs) s None is h = h
drawn_sized c (event.ScheduleCopy rs dx dy) s None is h = h
drawn_sized c (event.DoCopy rs dx dy) s None is h = h
drawn_sized c event.Bell s None is h = h
drawn_sized c (event.CutText t) s None is h = h
drawn_sized c (event.Connect v) s None is h = h
drawn_sized c (event.Hear v piece) s None is h = h
drawn_sized c (event.Cut v) s None is h = h
drawn_sized c (event.Close v) s None is h = h

step_sized : (c : Config) (e : Event) (s : One) → IsSized s.picture → IsSized (step c e s).0.picture
step_sized c e s h = go (owner_of e) refl
  where
    go : (o : Option ℕ) → owner_of e ≡ o → IsSized (step c e s).0.picture
    go None is = rw is (drawn_sized (at_size s.picture c) e s (drawing_refusal (at_size s.picture c) e) refl h)
    go (Some v) is = rw is (ap (λ (f : Frame). is_size f.width f.height) (own-picture (at_size s.picture c) e s s.viewer) ∙ h)

after_sized : (c : Config) (es : List Event) (s : One) → IsSized s.picture → IsSized (after c es s).picture
after_sized c [] s h = h
after_sized c (e ∷ es) s h = after_sized c es (step c e s).0 (step_sized c e s h)

record Taken (c : Config) : Type 0 where
  size : is_size c.width c.height ≡ true
  limit : c.rects_per_update ≤ 1000

config_taken : (size name limits : Bool) → cond (not size) (Some refusals.BadSize) (cond name (Some refusals.BadName) (cond (not limits) (Some refusals.BadRectLimit) None)) ≡ None → (size ≡ true) × (limits ≡ true)
config_taken false name limits h = absurd cc
config_taken true true limits h = absurd cc
config_taken true false false h = absurd cc
config_taken true false true h = (refl, refl)

taken : (c : Config) → config_refusal c ≡ None → Taken c
taken c h =
    let both = config_taken (is_size c.width c.height) (ltb 255 (length c.name)) (leb 1 c.rects_per_update && leb c.rects_per_update 1000) h in
    record { size = both.0; limit = below c.rects_per_update 1000 (both_true (leb 1 c.rects_per_update) (leb c.rects_per_update 1000) both.1).1 }

picture_sized : (c : Config) (es : List Event) → config_refusal c ≡ None → IsSized (picture_of c es)
picture_sized c es h = after_sized c (filter (λ e. is_drawing (owner_of e)) es) (empty_screen c) (taken c h).size

pub config_sound : (c : Config) (list : List Event) → IsRun c list → IsSoundConfig c
config_sound c list h =
    let t = taken c h.screen in
    let s = size_of c.width c.height t.size in
    record { width = omega (arith, s.columns); height = omega (arith, s.rows); name = h.name; limit = omega (arith, t.limit) }

-- ---- colours

span_again : (from to : ℤ) (limit : ℕ) → limit ≤ number_limit → Span from to limit → is_span from to number_limit ≡ true
span_again from to limit l s = rw (s.from_is, s.to_is) (three_true (leb 0 s.start) (leb s.start (s.start + s.count)) (leb (s.start + s.count) number_limit) (within 0 s.start (omega arith)) (within s.start (s.start + s.count) (omega arith)) (within (s.start + s.count) number_limit (omega (arith, s.high))))
  where
    three_true : (a b d : Bool) → a ≡ true → b ≡ true → d ≡ true → (a && b && d) ≡ true
    three_true a b d p q r = rw (p, q, r) refl

fewer : (n m w h : ℕ) → n ≤ w → m ≤ h → w * h ≤ 2 ^ 24 → n * m ≤ 2 ^ 24
fewer n m w h a b d = let less : n * m ≤ w * h = mul-le-mul a b in omega arith

colours_taken : (w h : ℕ) (r : Rect) (cs : List ℕ) → Size w h → is_within w h r ≡ true → length cs ≡ nat_abs (r.x2 -ℤ r.x1) * nat_abs (r.y2 -ℤ r.y1) → AreColoursOf r cs
colours_taken w h r cs size e count =
    let sides = sides_of r w h e in
    let a = sides.across in
    let d = sides.down in
    let few : a.count * d.count ≤ 2 ^ 24 = fewer a.count d.count w h (omega (arith, a.high)) (omega (arith, d.high)) size.places in
    let same : length cs ≡ a.count * d.count = count ∙ ap (λ (n : ℕ). n * nat_abs (r.y2 -ℤ r.y1)) (span_abs r.x1 r.x2 w a) ∙ ap (λ (n : ℕ). a.count * n) (span_abs r.y1 r.y2 h d) in
    record {
      within = both (is_span r.x1 r.x2 number_limit) (is_span r.y1 r.y2 number_limit) (span_again r.x1 r.x2 w (omega (arith, size.columns)) a) (span_again r.y1 r.y2 h (omega (arith, size.rows)) d);
      count = count;
      few = omega (arith, same, few);
    }
  where
    both : (p q : Bool) → p ≡ true → q ≡ true → (p && q) ≡ true
    both p q x y = rw (x, y) refl

pixels_taken : (inside counted : Bool) → cond (not inside) (Some refusals.BadRect) (cond (not counted) (Some refusals.BadPixelCount) None) ≡ None → (inside ≡ true) × (counted ≡ true)
pixels_taken false counted h = absurd cc
pixels_taken true false h = absurd cc
pixels_taken true true h = (refl, refl)

colours_sound : (f : Frame) (r : Rect) (cs : List ℕ) → IsSized f → pixels_refusal f.width f.height r cs ≡ None → AreColoursOf r cs
colours_sound f r cs sized h =
    let both = pixels_taken (is_within f.width f.height r) (eqb (length cs) (nat_abs (r.x2 -ℤ r.x1) * nat_abs (r.y2 -ℤ r.y1))) h in
    colours_taken f.width f.height r cs (size_of f.width f.height sized) both.0 (equal_from _ _ both.1)

-- ---- events

none_due : (o : Option ScreenError) → is_none (refused_or_nothing o).refused ≡ true → o ≡ None
none_due None h = refl
none_due (Some r) h = absurd cc

event_sound : (c : Config) (before : List Event) (e : Event) → config_refusal c ≡ None → IsTyped e → has_happened e (answer_to c before e) ≡ true → IsSound e
event_sound c before (event.Write r cs) h t happened = colours_sound (picture_of c before) r cs (picture_sized c before h) (none_due _ happened)
event_sound c before (event.Paint r cs) h t happened = colours_sound (picture_of c before) r cs (picture_sized c before h) (none_due _ happened)
event_sound c before (event.Mark rs) h t happened = t
event_sound c before (event.ScheduleCopy rs dx dy) h t happened = t
event_sound c before (event.DoCopy rs dx dy) h t happened = t
event_sound c before event.Bell h t happened = tt
event_sound c before (event.CutText text) h t happened = t
event_sound c before (event.Resize w k) h t happened =
    let size = size_of w k (size_taken (is_size w k) (none_due (size_refusal w k) happened)) in
    (omega (arith, size.columns), omega (arith, size.rows))
event_sound c before (event.Connect v) h t happened = t
event_sound c before (event.Hear v piece) h t happened = t
event_sound c before (event.Cut v) h t happened = t
event_sound c before (event.Close v) h t happened = t

sound_after : (c : Config) (before es : List Event) → config_refusal c ≡ None → AllByRecursion IsTyped es → AllByRecursion IsSound (accepted_after c before es)
sound_after c before [] h t = tt
sound_after c before (e ∷ es) h t = go (has_happened e (answer_to c before e)) refl (sound_after c (before ++ e ∷ []) es h t.1)
  where
    go : (b : Bool) → has_happened e (answer_to c before e) ≡ b → AllByRecursion IsSound (accepted_after c (before ++ e ∷ []) es)
        → AllByRecursion IsSound (cond b (e ∷ accepted_after c (before ++ e ∷ []) es) (accepted_after c (before ++ e ∷ []) es))
    go true is rest = (event_sound c before e h t.0 is, rest)
    go false is rest = rest

pub accepted_sound : (c : Config) (list : List Event) → IsRun c list → AreSound c (accepted c list)
accepted_sound c list h = (config_sound c list h, sound_after c [] list h.screen h.events)
