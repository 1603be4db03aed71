-- What happened, by what the calls of a screen answer.
use Rattle.std.proofs.Common.{◌≡◌, Bool, true, false, List, [], ◌∷◌, ◌++◌, Option, Some, None, Result, Ok, Err, OnOk, refl, sym, ap, ◌∙◌}
use Rattle.std.specs.Prelude.{is_none, if◌then◌else◌, MatchOption, MatchResult}
use Rattle.std.proofs.lemmas.List.{append-nil, append_assoc}
use Rattle.scene.specs.declared.Config.{Config}
use Rattle.scene.specs.declared.Event.{Event}
use Rattle.scene.specs.declared.Answer.{Answer}
use Rattle.scene.specs.declared.ScreenError.{ScreenError}
use Rattle.scene.specs.declared.ScreenError.TheVariants.{OutOfMemory}
use Rattle.scene.specs.Alone.{Tells}
use Rattle.scene.specs.Answers.{answer_to}
use Rattle.scene.specs.History.{has_happened, accepted_after, accepted}
use Rattle.screen.specs.Happening.{AllHappen}

abbrev if_happened : Bool → Event → List Event → List Event
if_happened b e rest = if b then e ∷ rest else rest

-- the events that happened, with one event more
pub accepted-append : (c : Config) (before es : List Event) (e : Event)
    → accepted_after c before (es ++ e ∷ []) ≡ accepted_after c before es ++ if_happened (has_happened e (answer_to c (before ++ es) e)) e []
accepted-append c before [] e = ap (λ l. if_happened (has_happened e (answer_to c l e)) e []) (sym (append-nil before))
accepted-append c before (x ∷ es) e =
    go (has_happened x (answer_to c before x))
    (accepted-append c (before ++ x ∷ []) es e
    ∙ ap (λ l. accepted_after c (before ++ x ∷ []) es ++ if_happened (has_happened e (answer_to c l e)) e []) (append_assoc before (x ∷ []) es))
  where
    more : List Event
    more = accepted_after c (before ++ x ∷ []) (es ++ e ∷ [])

    less : List Event
    less = accepted_after c (before ++ x ∷ []) es

    last : List Event
    last = if_happened (has_happened e (answer_to c (before ++ x ∷ es) e)) e []

    go : (b : Bool) → more ≡ less ++ last → if_happened b x more ≡ if_happened b x less ++ last
    go true h = ap (λ l. x ∷ l) h
    go false h = h

pub one-happens : (c : Config) (list : List Event) (e : Event) → has_happened e (answer_to c list e) ≡ true → AllHappen c list (e ∷ [])
one-happens c list e h = accepted-append c [] list e ∙ ap (λ b. accepted c list ++ if_happened b e []) h

-- one that did not happen isn't kept
pub none-happens : (c : Config) (list : List Event) (e : Event) → has_happened e (answer_to c list e) ≡ false → accepted c (list ++ e ∷ []) ≡ accepted c list
none-happens c list e h = accepted-append c [] list e ∙ ap (λ b. accepted c list ++ if_happened b e []) h ∙ append-nil (accepted c list)

pub happen-nothing : (c : Config) (list : List Event) → AllHappen c list []
happen-nothing c list = ap (accepted c) (append-nil list) ∙ sym (append-nil (accepted c list))

pub happen-then : (c : Config) (list first second : List Event) → AllHappen c list first → AllHappen c (list ++ first) second → AllHappen c list (first ++ second)
happen-then c list first second a b = ap (accepted c) (sym (append_assoc list first second)) ∙ b ∙ ap (λ l. l ++ second) a ∙ append_assoc (accepted c list) first second

-- a call that answered no error was not refused
pub told-accepted : {X : Type 0} (f : X → Answer) (r : Result X ScreenError) (a : Answer) → Tells f r a → OnOk r (is_none a.refused ≡ true)
told-accepted {X = X} f r a h = go a.refused h
  where
    go : (o : Option ScreenError) → MatchOption o (MatchResult r (λ x. f x ≡ a) (λ e. e ≡ OutOfMemory)) (λ e. r ≡ Err e) → OnOk r (is_none o ≡ true)
    go None h = fine r
      where
        fine : (q : Result X ScreenError) → OnOk q (true ≡ true)
        fine (Ok x) = refl
        fine (Err e) = tt
    go (Some e) h = failed r h
      where
        failed : (q : Result X ScreenError) → q ≡ Err e → OnOk q (is_none (Some e) ≡ true)
        failed (Ok x) is = absurd cc
        failed (Err e) is = tt
