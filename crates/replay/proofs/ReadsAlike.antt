-- The byte above a colour changes nothing that is drawn or answered.
use Rattle.std.proofs.Common.{◌≡◌, ℕ, ◌+◌, ◌*◌, ◌%◌, ◌^◌, Bool, true, false, cond, List, [], ◌∷◌, get_or, map, refl, ap, ◌∙◌, arith, Option, Some, None}
use Rattle.std.specs.Prelude.{◌-ℤ◌, ◌/◌, pos, nat_abs, flat_map, filter}
use Rattle.std.specs.List.{range_with_len}
use Rattle.std.proofs.Math.ListN.{get_or-map}
use Rattle.std.proofs.lemmas.List.{length-map}
use Rattle.region.specs.declared.Rect.{Rect}
use Rattle.region.specs.Region.{in_rect}
use Rattle.framebuffer.specs.Picture.{colour_in, colour_at, written}
use Rattle.scene.specs.declared.ScreenError.{ScreenError}
use Rattle.screen.specs.declared.Config.{Config}
use Rattle.screen.specs.declared.Event.{Event}
use Rattle.screen.specs.declared.Event.TheVariants as event
use Rattle.scene.specs.declared.Answer.{Answer}
use Rattle.scene.specs.Alone.{One, step, draw_step, at_size, pixels_refusal, owner_of, empty_screen, after, answers_from, alone}
use Rattle.scene.specs.Answers.{own, is_owner, is_drawing, picture_of}
use Rattle.receipts.specs.Histories.{bytes_of}
use Rattle.replay.specs.Said.{said_event, said_config, said_colours}
use Rattle.replay.specs.Claims.{said_is_answered_alike}

-- ---- colours

map_same : {X : Type 0} (f g : ℕ → X) → ((i : ℕ) → f i ≡ g i) → (is : List ℕ) → map f is ≡ map g is
map_same f g h [] = refl
map_same f g h (i ∷ is) = ap (λ x. x ∷ map f is) (h i) ∙ ap (λ l. g i ∷ l) (map_same f g h is)

twice : (c : ℕ) → c % 0x100_0000 % 2 ^ 24 ≡ c % 2 ^ 24
twice c = omega arith

colour_said : (cs : List ℕ) (k : ℕ) → get_or (said_colours cs) k 0 % 2 ^ 24 ≡ get_or cs k 0 % 2 ^ 24
colour_said cs k = ap (λ (c : ℕ). c % 2 ^ 24) (get_or-map (λ c. c % 0x100_0000) cs k 0) ∙ twice (get_or cs k 0)

written_said : (w h : ℕ) (r : Rect) (cs picture : List ℕ) → written w h r (said_colours cs) picture ≡ written w h r cs picture
written_said w h r cs picture = map_same _ _ (λ i. at (in_rect r (pos (i % w)) (pos (i / w))) i) (range_with_len 0 (w * h))
  where
    at : (b : Bool) (i : ℕ) → cond b (colour_in r (said_colours cs) (pos (i % w)) (pos (i / w)) % 2 ^ 24) (colour_at w h picture (pos (i % w)) (pos (i / w))) ≡ cond b (colour_in r cs (pos (i % w)) (pos (i / w)) % 2 ^ 24) (colour_at w h picture (pos (i % w)) (pos (i / w)))
    at true i = colour_said cs (nat_abs (pos (i / w) -ℤ r.y1) * nat_abs (r.x2 -ℤ r.x1) + nat_abs (pos (i % w) -ℤ r.x1))
    at false i = refl

-- ---- one step

refusal_said : (w h : ℕ) (r : Rect) (cs : List ℕ) → pixels_refusal w h r (said_colours cs) ≡ pixels_refusal w h r cs
refusal_said w h r cs = rw (length-map cs (λ c. c % 0x100_0000)) refl

write_said : (c : Config) (r : Rect) (cs : List ℕ) (s : One) (o : Option ScreenError) → draw_step c (event.Write r (said_colours cs)) s o ≡ draw_step c (event.Write r cs) s o
write_said c r cs s None = rw (written_said s.picture.width s.picture.height r cs s.picture.colours) refl
write_said c r cs s (Some e) = refl

paint_said : (c : Config) (r : Rect) (cs : List ℕ) (s : One) (o : Option ScreenError) → draw_step c (event.Paint r (said_colours cs)) s o ≡ draw_step c (event.Paint r cs) s o
paint_said c r cs s None = rw (written_said s.picture.width s.picture.height r cs s.picture.colours) refl
paint_said c r cs s (Some e) = refl

-- whether the events are kept is nothing to a step
kept_said : (c : Config) (e : Event) (s : One) → step (said_config c) e s ≡ step c e s
kept_said c (event.Write r cs) s = same (pixels_refusal s.picture.width s.picture.height r cs)
  where
    same : (o : Option ScreenError) → draw_step (at_size s.picture (said_config c)) (event.Write r cs) s o ≡ draw_step (at_size s.picture c) (event.Write r cs) s o
    same None = refl
    same (Some e) = refl
kept_said c (event.Paint r cs) s = same (pixels_refusal s.picture.width s.picture.height r cs)
  where
    same : (o : Option ScreenError) → draw_step (at_size s.picture (said_config c)) (event.Paint r cs) s o ≡ draw_step (at_size s.picture c) (event.Paint r cs) s o
    same None = refl
    same (Some e) = refl
kept_said c (event.Mark rs) s = refl
kept_said c (event.ScheduleCopy rs dx dy) s = refl
kept_said c (event.DoCopy rs dx dy) s = refl
kept_said c event.Bell s = refl
kept_said c (event.CutText text) s = refl
kept_said c (event.Resize w h) s = refl
kept_said c (event.Connect n) s = refl
kept_said c (event.Hear n piece) s = refl
kept_said c (event.Cut n) s = refl
kept_said c (event.Close n) s = refl

colours_said : (c : Config) (e : Event) (s : One) → step c (said_event e) s ≡ step c e s
colours_said c (event.Write r cs) s =
    write_said (at_size s.picture c) r cs s (pixels_refusal s.picture.width s.picture.height r (said_colours cs))
    ∙ ap (draw_step (at_size s.picture c) (event.Write r cs) s) (refusal_said s.picture.width s.picture.height r cs)
colours_said c (event.Paint r cs) s =
    paint_said (at_size s.picture c) r cs s (pixels_refusal s.picture.width s.picture.height r (said_colours cs))
    ∙ ap (draw_step (at_size s.picture c) (event.Paint r cs) s) (refusal_said s.picture.width s.picture.height r cs)
colours_said c (event.Mark rs) s = refl
colours_said c (event.ScheduleCopy rs dx dy) s = refl
colours_said c (event.DoCopy rs dx dy) s = refl
colours_said c event.Bell s = refl
colours_said c (event.CutText text) s = refl
colours_said c (event.Resize w h) s = refl
colours_said c (event.Connect n) s = refl
colours_said c (event.Hear n piece) s = refl
colours_said c (event.Cut n) s = refl
colours_said c (event.Close n) s = refl

step_said : (c : Config) (e : Event) (s : One) → step (said_config c) (said_event e) s ≡ step c e s
step_said c e s = kept_said c (said_event e) s ∙ colours_said c e s

-- ---- lists

answers_said : (c : Config) (es : List Event) (s : One) → answers_from (said_config c) (map said_event es) s ≡ answers_from c es s
answers_said c [] s = refl
answers_said c (e ∷ es) s =
    ap (λ (a : One × Answer). a.1 ∷ answers_from (said_config c) (map said_event es) a.0) (step_said c e s)
    ∙ ap (λ (l : List Answer). (step c e s).1 ∷ l) (answers_said c es (step c e s).0)

after_said : (c : Config) (es : List Event) (s : One) → after (said_config c) (map said_event es) s ≡ after c es s
after_said c [] s = refl
after_said c (e ∷ es) s = ap (λ (a : One × Answer). after (said_config c) (map said_event es) a.0) (step_said c e s) ∙ after_said c es (step c e s).0

owner_said : (e : Event) → owner_of (said_event e) ≡ owner_of e
owner_said (event.Write r cs) = refl
owner_said (event.Paint r cs) = refl
owner_said (event.Mark rs) = refl
owner_said (event.ScheduleCopy rs dx dy) = refl
owner_said (event.DoCopy rs dx dy) = refl
owner_said event.Bell = refl
owner_said (event.CutText text) = refl
owner_said (event.Resize w h) = refl
owner_said (event.Connect n) = refl
owner_said (event.Hear n piece) = refl
owner_said (event.Cut n) = refl
owner_said (event.Close n) = refl

filter_said : (p : Option ℕ → Bool) (es : List Event) → filter (λ e. p (owner_of e)) (map said_event es) ≡ map said_event (filter (λ e. p (owner_of e)) es)
filter_said p [] = refl
filter_said p (e ∷ es) = ap (λ o. cond (p o) (said_event e ∷ filter (λ x. p (owner_of x)) (map said_event es)) (filter (λ x. p (owner_of x)) (map said_event es))) (owner_said e) ∙ go (p (owner_of e)) (filter_said p es)
  where
    go : (b : Bool) → filter (λ x. p (owner_of x)) (map said_event es) ≡ map said_event (filter (λ x. p (owner_of x)) es)
        → cond b (said_event e ∷ filter (λ x. p (owner_of x)) (map said_event es)) (filter (λ x. p (owner_of x)) (map said_event es)) ≡ map said_event (cond b (e ∷ filter (λ x. p (owner_of x)) es) (filter (λ x. p (owner_of x)) es))
    go true more = ap (λ (l : List Event). said_event e ∷ l) more
    go false more = more

pub bytes_said : (c : Config) (v : ℕ) (es : List Event) → bytes_of (said_config c) v (map said_event es) ≡ bytes_of c v es
bytes_said c v es =
    ap (λ l. flat_map (λ (a : Answer). a.bytes) (alone (said_config c) l)) (filter_said (is_owner v) es)
    ∙ ap (flat_map (λ (a : Answer). a.bytes)) (answers_said c (own v es) (empty_screen c))

picture_said : (c : Config) (es : List Event) → picture_of (said_config c) (map said_event es) ≡ picture_of c es
picture_said c es =
    ap (λ l. (after (said_config c) l (empty_screen c)).picture) (filter_said is_drawing es)
    ∙ ap (λ (s : One). s.picture) (after_said c (filter (λ e. is_drawing (owner_of e)) es) (empty_screen c))

pub said_is_answered_alike-holds : said_is_answered_alike
said_is_answered_alike-holds = record { bytes = bytes_said; picture = picture_said }
