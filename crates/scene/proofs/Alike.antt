-- A viewer's answers are those of its own events alone.
use Rattle.std.proofs.Common.{◌≡◌, ℕ, Bool, true, false, cond, List, [], ◌∷◌, ◌++◌, Option, Some, None, refl, sym, ◌∙◌, ap}
use Rattle.std.specs.Prelude.{◌==◌}
use Rattle.std.proofs.lemmas.Bool.Decides.{Decides-eqb}
use Rattle.scene.specs.declared.Config.{Config}
use Rattle.scene.specs.declared.Event.{Event}
use Rattle.scene.specs.declared.Answer.{Answer}
use Rattle.scene.specs.Alone.{One, at_size, step, own_step, after, answers_from, owner_of, empty_screen}
use Rattle.scene.specs.Answers.{own, is_owner, answer_to, answers_after}
use Rattle.scene.specs.Claims.{answer_for, answers_for, told_alike}
use Rattle.scene.proofs.Steps.{after-append, own-drawing}
use Rattle.scene.proofs.Everyones.{one_of}
use Rattle.scene.proofs.Owners.{own-hit, own-miss, answer-own}

-- the answers to the viewer's own events, alone
abbrev alone_for : Config → ℕ → List Event → One → List Answer
alone_for c v es s = answers_for v es (answers_from c es s)

-- the list goes on with an event of the viewer or a drawing call
one-more : (c : Config) (v : ℕ) (before : List Event) (e : Event) → own v (before ++ e ∷ []) ≡ own v before ++ e ∷ [] → (step c e (one_of c v before)).0 ≡ one_of c v (before ++ e ∷ [])
one-more c v before e h = sym (after-append c (own v before) e (empty_screen c)) ∙ sym (ap (λ l. after c l (empty_screen c)) h)

step-hit : (c : Config) (v : ℕ) (e : Event) (s : One) → owner_of e ≡ Some v → (step c e s).1 ≡ (own_step (at_size s.picture c) e s s.viewer).1
step-hit c v e s h = rw h refl

for-after : (c : Config) (v : ℕ) (before es : List Event) → answers_for v es (answers_after c before es) ≡ alone_for c v (own v es) (one_of c v before)
for-after c v before [] = refl
for-after c v before (e ∷ es) = go (owner_of e) refl (for-after c v (before ++ e ∷ []) es)
  where
    hit : (b : Bool) (n : ℕ) → owner_of e ≡ Some n → (n == v) ≡ b → answers_for v es (answers_after c (before ++ e ∷ []) es) ≡ alone_for c v (own v es) (one_of c v (before ++ e ∷ []))
        → cond b (answer_to c before e ∷ answers_for v es (answers_after c (before ++ e ∷ []) es)) (answers_for v es (answers_after c (before ++ e ∷ []) es)) ≡ alone_for c v (cond b (e ∷ own v es) (own v es)) (one_of c v before)
    hit true n h same rest =
        let mine : owner_of e ≡ Some v = h ∙ ap Some ((Decides-eqb n v).0 same) in
        ap (λ a. a ∷ answers_for v es (answers_after c (before ++ e ∷ []) es)) (answer-own c v before e mine ∙ sym (step-hit c v e (one_of c v before) mine))
        ∙ ap (λ l. (step c e (one_of c v before)).1 ∷ l) (rest ∙ ap (alone_for c v (own v es)) (sym (one-more c v before e (own-hit v before e mine))))
        ∙ sym (ap (λ o. answer_for v o (step c e (one_of c v before)).1 (alone_for c v (own v es) (step c e (one_of c v before)).0)) h
        ∙ ap (λ t. cond t ((step c e (one_of c v before)).1 ∷ alone_for c v (own v es) (step c e (one_of c v before)).0) (alone_for c v (own v es) (step c e (one_of c v before)).0)) same)
    hit false n h other rest = rest ∙ ap (λ l. alone_for c v (own v es) (after c l (empty_screen c))) (own-miss v n before e h other)

    go : (o : Option ℕ) → owner_of e ≡ o → answers_for v es (answers_after c (before ++ e ∷ []) es) ≡ alone_for c v (own v es) (one_of c v (before ++ e ∷ []))
        → answer_for v o (answer_to c before e) (answers_for v es (answers_after c (before ++ e ∷ []) es)) ≡ alone_for c v (cond (is_owner v o) (e ∷ own v es) (own v es)) (one_of c v before)
    go None h rest = rest ∙ ap (alone_for c v (own v es)) (sym (one-more c v before e (own-drawing v before e h)))
        ∙ sym (ap (λ o. answer_for v o (step c e (one_of c v before)).1 (alone_for c v (own v es) (step c e (one_of c v before)).0)) h)
    go (Some n) h rest = hit (n == v) n h refl rest

-- so they are a function of its own events and the drawing calls
pub told_alike-holds : told_alike
told_alike-holds c v es fs h = for-after c v [] es ∙ ap (λ l. alone_for c v l (empty_screen c)) h ∙ sym (for-after c v [] fs)
