-- Which refusal is due, handed on.
use Rattle.std.specs.Prelude.{Result, Ok, Err, IsErrAnd, MatchOption}
use Rattle.std.proofs.lemmas.Result.{err_from_is_err_and}
use Rattle.std.proofs.Common.{◌≡◌, Option, Some, None, refl, sym, ap, ◌∙◌, subst}
use Rattle.screen.specs.declared.ScreenError.{ScreenError}
use Rattle.screen.specs.declared.ScreenError.TheVariants as refusals
use Rattle.screen.specs.declared.Answer.{Answer}
use Rattle.screen.specs.Alone.{Tells}
use Rattle.screen.specs.Refusals.{absence, Refuses}
use Rattle.viewer.specs.Viewer.{KeptViewer}

-- an error that is handed on
pub same-error : {X : Type 0} (r : Result X ScreenError) (e : ScreenError) → IsErrAnd r (λ y. y ≡ e) → r ≡ Err e
same-error r e failed = let error = err_from_is_err_and r failed in error.1 ∙ ap (λ x. Err x) error.2

abbrev err_of : {X : Type 0} → ScreenError → Result X ScreenError → ScreenError
err_of other (Ok x) = other
err_of other (Err e) = e

pub refuses-too : {X : Type 0} (Y : Type 0) (r : Result X ScreenError) (e : ScreenError) (due : Option ScreenError) → r ≡ Err e → Refuses {X = Y} (Err e) due → Refuses r due
refuses-too {X = X} Y r e due is h = subst (λ (q : Result X ScreenError). Refuses q due) (sym is) (go due h)
  where
    go : (o : Option ScreenError) → Refuses {X = Y} (Err e) o → Refuses {X = X} (Err e) o
    go None h = h
    go (Some x) h = ap (λ y. Err y) (ap (err_of e) h)

pub tells-too : {X Y : Type 0} (f : X → Answer) (g : Y → Answer) (r : Result X ScreenError) (e : ScreenError) (a : Answer) → r ≡ Err e → Tells g (Err e) a → Tells f r a
tells-too {X = X} {Y = Y} f g r e a is h = subst (λ (q : Result X ScreenError). Tells f q a) (sym is) (go a.refused h)
  where
    go : (o : Option ScreenError) → MatchOption o (e ≡ refusals.OutOfMemory) (λ x. ◌≡◌ {A = Result Y ScreenError} (Err e) (Err x))
        → MatchOption o (e ≡ refusals.OutOfMemory) (λ x. ◌≡◌ {A = Result X ScreenError} (Err e) (Err x))
    go None h = h
    go (Some x) h = ap (λ y. Err y) (ap (err_of e) h)

-- what is told is the answer
pub told-is : {X : Type 0} (f : X → Answer) (x : X) (a : Answer) → Tells f (Ok x) a → f x ≡ a
told-is {X = X} f x a told = go a.refused told
  where
    go : (o : Option ScreenError) → MatchOption o (f x ≡ a) (λ e. ◌≡◌ {A = Result X ScreenError} (Ok x) (Err e)) → f x ≡ a
    go None h = h
    go (Some e) h = absurd cc

-- a viewer that a closing was refused for isn't there
pub not-there : (e : ScreenError) (o : Option KeptViewer) → e ≡ refusals.NoViewer → Refuses {X = Unit {0}} (Err e) (absence o) → o ≡ None
not-there e None is h = refl
not-there e (Some viewer) is h = absurd cc

-- where memory was refused, what is due comes before that
pub due-told : (X : Type 0) (due : Option ScreenError) (e : ScreenError) → MatchOption due (e ≡ refusals.OutOfMemory) (λ x. e ≡ x) → Refuses {X = X} (Err e) due
due-told X None e h = h
due-told X (Some x) e h = ap (λ y. Err y) h
