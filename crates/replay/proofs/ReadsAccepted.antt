-- The events that happened send a viewer what all of them send it.
use Rattle.std.proofs.Common.{◌≡◌, ℕ, Bool, true, false, cond, List, [], ◌∷◌, ◌++◌, Option, Some, None, refl, sym, ◌∙◌, ap, subst}
use Rattle.std.specs.Prelude.{filter, flat_map, is_none, if◌then◌else◌, ◌==◌}
use Rattle.std.proofs.lemmas.Bool.Decides.{Decides-eqb}
use Rattle.std.proofs.lemmas.List.{append-nil}
use Rattle.framebuffer.specs.Frame.{Frame}
use Rattle.viewer.specs.Viewer.{Viewer}
use Rattle.scene.specs.declared.ScreenError.{ScreenError}
use Rattle.screen.specs.declared.Config.{Config}
use Rattle.screen.specs.declared.Event.{Event}
use Rattle.screen.specs.declared.Event.TheVariants.{Write, Paint, Mark, ScheduleCopy, DoCopy, Bell, CutText, Resize, Connect, Hear, Cut, Close}
use Rattle.scene.specs.Alone.{One, at_size, step, own_step, draw_step, after, answers_from, alone, owner_of, drawing_refusal, drawn, empty_screen}
use Rattle.scene.specs.Answers.{own, is_owner, is_drawing, last_of, answer_to, refused_or_nothing, picture_of}
use Rattle.scene.specs.History.{has_happened, accepted_after, accepted}
use Rattle.receipts.specs.Histories.{bytes_of}
use Rattle.replay.proofs.ReadsUnchanged.{step_nothing}

-- the screen of one viewer alone
abbrev one_of : Config → ℕ → List Event → One
one_of c v es = after c (own v es) (empty_screen c)

-- ---- the picture is everyone's

pub own-picture : (c : Config) (e : Event) (s : One) (o : Option (Viewer (List ℕ))) → (own_step c e s o).0.picture ≡ s.picture
own-picture c (Connect n) s None = refl
own-picture c (Connect n) s (Some v) = refl
own-picture c (Hear n piece) s (Some v) = refl
own-picture c (Hear n piece) s None = refl
own-picture c (Cut n) s (Some v) = refl
own-picture c (Cut n) s None = refl
own-picture c (Close n) s (Some v) = refl
own-picture c (Close n) s None = refl
own-picture c (Paint r colours) s o = refl
own-picture c (Write r colours) s o = refl
own-picture c (Mark rects) s o = refl
own-picture c (ScheduleCopy rects dx dy) s o = refl
own-picture c (DoCopy rects dx dy) s o = refl
own-picture c Bell s o = refl
own-picture c (CutText text) s o = refl
own-picture c (Resize w h) s o = refl

draw-picture : (c : Config) (e : Event) (s t : One) (r : Option ScreenError) → s.picture ≡ t.picture → (draw_step c e s r).0.picture ≡ (draw_step c e t r).0.picture
draw-picture c e s t None h = ap (drawn e) h
draw-picture c e s t (Some x) h = h

same-picture : (c : Config) (v : ℕ) (es : List Event) (s t : One) → s.picture ≡ t.picture → (after c (own v es) s).picture ≡ (after c (filter (λ a. is_drawing (owner_of a)) es) t).picture
same-picture c v [] s t h = h
same-picture c v (e ∷ es) s t h = go (owner_of e) refl (λ s' t' k. same-picture c v es s' t' k)
  where
    go : (o : Option ℕ) → owner_of e ≡ o → ((s' t' : One) → s'.picture ≡ t'.picture → (after c (own v es) s').picture ≡ (after c (filter (λ a. is_drawing (owner_of a)) es) t').picture)
        → (after c (cond (is_owner v o) (e ∷ own v es) (own v es)) s).picture ≡ (after c (cond (is_drawing o) (e ∷ filter (λ a. is_drawing (owner_of a)) es) (filter (λ a. is_drawing (owner_of a)) es)) t).picture
    go None k rest = rest (step c e s).0 (step c e t).0 (rw k (draw-picture (at_size s.picture c) e s t (drawing_refusal (at_size s.picture c) e) h
        ∙ ap (λ (f : Frame). (draw_step (at_size f c) e t (drawing_refusal (at_size f c) e)).0.picture) h))
    go (Some n) k rest = elim (n == v) as (λ b. (after c (cond b (e ∷ own v es) (own v es)) s).picture ≡ (after c (filter (λ a. is_drawing (owner_of a)) es) t).picture) [
      | true ↦ rest (step c e s).0 t (rw k (own-picture (at_size s.picture c) e s s.viewer ∙ h))
      | false ↦ rest s t h
    ]

one-picture : (c : Config) (v : ℕ) (es : List Event) → (one_of c v es).picture ≡ picture_of c es
one-picture c v es = same-picture c v es (empty_screen c) (empty_screen c) refl

-- ---- one event more

after-append : (c : Config) (es : List Event) (e : Event) (s : One) → after c (es ++ e ∷ []) s ≡ (step c e (after c es s)).0
after-append c [] e s = refl
after-append c (a ∷ es) e s = after-append c es e (step c a s).0

own-append : (v : ℕ) (es : List Event) (e : Event) → own v (es ++ e ∷ []) ≡ own v es ++ own v (e ∷ [])
own-append v [] e = refl
own-append v (a ∷ es) e = elim (is_owner v (owner_of a)) as (λ b. cond b (a ∷ own v (es ++ e ∷ [])) (own v (es ++ e ∷ [])) ≡ cond b (a ∷ own v es) (own v es) ++ own v (e ∷ [])) [
  | true ↦ ap (λ l. a ∷ l) (own-append v es e)
  | false ↦ own-append v es e
]

last-answers : (c : Config) (es : List Event) (e : Event) (s : One) → last_of (answers_from c (es ++ e ∷ []) s) ≡ (step c e (after c es s)).1
last-answers c [] e s = refl
last-answers c (a ∷ []) e s = refl
last-answers c (a ∷ b ∷ es) e s = last-answers c (b ∷ es) e (step c a s).0

hit : (v : ℕ) (es : List Event) (e : Event) → is_owner v (owner_of e) ≡ true → own v (es ++ e ∷ []) ≡ own v es ++ e ∷ []
hit v es e h = own-append v es e ∙ ap (λ (b : Bool). own v es ++ cond b (e ∷ []) []) h

one-hit : (c : Config) (v : ℕ) (es : List Event) (e : Event) → is_owner v (owner_of e) ≡ true → one_of c v (es ++ e ∷ []) ≡ (step c e (one_of c v es)).0
one-hit c v es e h = ap (λ l. after c l (empty_screen c)) (hit v es e h) ∙ after-append c (own v es) e (empty_screen c)

one-miss : (c : Config) (v : ℕ) (es : List Event) (e : Event) → is_owner v (owner_of e) ≡ false → one_of c v (es ++ e ∷ []) ≡ one_of c v es
one-miss c v es e h = ap (λ l. after c l (empty_screen c)) (own-append v es e ∙ ap (λ (b : Bool). own v es ++ cond b (e ∷ []) []) h ∙ append-nil (own v es))

-- ---- whether it happened, by the screen of the one viewer

drawn-refused : (c : Config) (e : Event) (s : One) (o : Option ScreenError) → is_none (draw_step c e s o).1.refused ≡ is_none (refused_or_nothing o).refused
drawn-refused c e s None = refl
drawn-refused c e s (Some q) = refl

drawn-happened : (c : Config) (e : Event) (s : One) (es : List Event) → owner_of e ≡ None → s.picture ≡ picture_of c es → has_happened e (step c e s).1 ≡ has_happened e (answer_to c es e)
drawn-happened c (Write r l) s es h same =
    drawn-refused (at_size s.picture c) (Write r l) s (drawing_refusal (at_size s.picture c) (Write r l)) ∙ ap (λ (f : Frame). is_none (refused_or_nothing (drawing_refusal (at_size f c) (Write r l))).refused) same
drawn-happened c (Paint r l) s es h same =
    drawn-refused (at_size s.picture c) (Paint r l) s (drawing_refusal (at_size s.picture c) (Paint r l)) ∙ ap (λ (f : Frame). is_none (refused_or_nothing (drawing_refusal (at_size f c) (Paint r l))).refused) same
drawn-happened c (CutText t) s es h same = drawn-refused (at_size s.picture c) (CutText t) s (drawing_refusal c (CutText t))
drawn-happened c (Resize w k) s es h same = drawn-refused (at_size s.picture c) (Resize w k) s (drawing_refusal c (Resize w k))
drawn-happened c (Mark rects) s es h same = refl
drawn-happened c (ScheduleCopy rects dx dy) s es h same = refl
drawn-happened c (DoCopy rects dx dy) s es h same = refl
drawn-happened c Bell s es h same = refl
drawn-happened c (Connect v) s es h same = absurd cc
drawn-happened c (Hear v piece) s es h same = absurd cc
drawn-happened c (Cut v) s es h same = absurd cc
drawn-happened c (Close v) s es h same = absurd cc

own-answer : (c : Config) (v : ℕ) (e : Event) (es : List Event) → owner_of e ≡ Some v → is_owner v (owner_of e) ≡ true → answer_to c es e ≡ (step c e (one_of c v es)).1
own-answer c v e es is own_one = by (owner_of e) is ∙ ap (λ l. last_of (alone c l)) (hit v es e own_one) ∙ last-answers c (own v es) e (empty_screen c)
  where
    by : (o : Option ℕ) → o ≡ Some v → answer_to c es e ≡ last_of (alone c (own v (es ++ e ∷ [])))
    by o h = rw is refl

happened : (c : Config) (v : ℕ) (e : Event) (es : List Event) → is_owner v (owner_of e) ≡ true → has_happened e (step c e (one_of c v es)).1 ≡ has_happened e (answer_to c es e)
happened c v e es h = go (owner_of e) refl
  where
    go : (o : Option ℕ) → owner_of e ≡ o → has_happened e (step c e (one_of c v es)).1 ≡ has_happened e (answer_to c es e)
    go None is = drawn-happened c e (one_of c v es) es is (one-picture c v es)
    go (Some n) is =
        let same : n ≡ v = (Decides-eqb n v).0 (sym (ap (is_owner v) is) ∙ h) in
        ap (has_happened e) (sym (own-answer c v e es (is ∙ ap Some same) h))

-- ---- whole lists

abbrev sent_from : Config → List Event → One → List ℕ
sent_from c es s = flat_map (λ a. a.bytes) (answers_from c es s)

abbrev if_happened : Bool → Event → List Event → List Event
if_happened b e rest = if b then e ∷ rest else rest

abbrev if_own : Bool → Event → List Event → List Event
if_own b e rest = cond b (e ∷ rest) rest

sent_after : (c : Config) (v : ℕ) (before es : List Event) → sent_from c (own v (accepted_after c before es)) (one_of c v before) ≡ sent_from c (own v es) (one_of c v before)
sent_after c v before [] = refl
sent_after c v before (e ∷ es) = go (has_happened e (answer_to c before e)) refl (is_owner v (owner_of e)) refl (sent_after c v (before ++ e ∷ []) es)
  where
    rest : List Event
    rest = accepted_after c (before ++ e ∷ []) es

    s : One
    s = one_of c v before

    go : (h : Bool) → has_happened e (answer_to c before e) ≡ h → (b : Bool) → is_owner v (owner_of e) ≡ b
        → sent_from c (own v rest) (one_of c v (before ++ e ∷ [])) ≡ sent_from c (own v es) (one_of c v (before ++ e ∷ []))
        → sent_from c (own v (if_happened h e rest)) s ≡ sent_from c (own v (e ∷ es)) s
    go true h true own_one more =
        let next = one-hit c v before e own_one in
        ap (λ (b : Bool). sent_from c (if_own b e (own v rest)) s) own_one
        ∙ ap (λ l. (step c e s).1.bytes ++ l) (subst (λ (t : One). sent_from c (own v rest) t ≡ sent_from c (own v es) t) next more)
        ∙ ap (λ (b : Bool). sent_from c (if_own b e (own v es)) s) (sym own_one)
    go true h false own_one more =
        let next = one-miss c v before e own_one in
        ap (λ (b : Bool). sent_from c (if_own b e (own v rest)) s) own_one
        ∙ subst (λ (t : One). sent_from c (own v rest) t ≡ sent_from c (own v es) t) next more
        ∙ ap (λ (b : Bool). sent_from c (if_own b e (own v es)) s) (sym own_one)
    go false h true own_one more =
        let nothing = step_nothing c e s (happened c v e before own_one ∙ h) in
        let next = one-hit c v before e own_one in
        subst (λ (t : One). sent_from c (own v rest) t ≡ sent_from c (own v es) t) (next ∙ nothing.same) more
        ∙ ap (λ (t : One). sent_from c (own v es) t) (sym nothing.same)
        ∙ ap (λ l. l ++ sent_from c (own v es) (step c e s).0) (sym nothing.none)
        ∙ ap (λ (b : Bool). sent_from c (if_own b e (own v es)) s) (sym own_one)
    go false h false own_one more =
        let next = one-miss c v before e own_one in
        subst (λ (t : One). sent_from c (own v rest) t ≡ sent_from c (own v es) t) next more
        ∙ ap (λ (b : Bool). sent_from c (if_own b e (own v es)) s) (sym own_one)

pub accepted_sends : (c : Config) (v : ℕ) (es : List Event) → bytes_of c v (accepted c es) ≡ bytes_of c v es
accepted_sends c v es = sent_after c v [] es
