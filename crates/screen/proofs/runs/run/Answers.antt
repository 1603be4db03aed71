use Rattle.std.proofs.Common.{◌≡◌, List, Option, None, Some, Result, Ok, Err, MatchOption, MatchResult, refl, sym, subst, arith, rules}
use Rattle.std.proofs.lemmas.Grind.{common_steps}
use Rattle.scene.specs.declared.Answer.{Answer}
use Rattle.scene.specs.declared.ScreenError.{ScreenError}
use Rattle.scene.specs.declared.ScreenError.TheVariants.{OutOfMemory}
use Rattle.scene.specs.Alone.{config_refusal}
use Rattle.scene.specs.Answers.{answers}
use Rattle.scene.specs.Pictures.{ShowPictures, HaveMaps}
use Rattle.screen.proofs.runs.run.Goals as goal

-- a screen is made where no refusal stands
no-refusal : {X : Type 0} (o : Option ScreenError) (made : Type 0) (x : X) → MatchOption o made (λ e. ◌≡◌ {A = Result X ScreenError} (Ok x) (Err e)) → o ≡ None
no-refusal None made x h = refl
no-refusal (Some e) made x h = absurd cc

-- so what is said of one that is made holds
as-made : (o : Option ScreenError) (made : Type 0) (refused : ScreenError → Type 0) → o ≡ None → made → MatchOption o made refused
as-made None made refused is h = h
as-made (Some e) made refused is h = absurd cc

pub returns-clause-maps : goal.returns-clause-maps
returns-clause-maps c =
    let given : c.loop-event.given.items ≡ answers c.args.config c.args.events.now = (let h = c.loop-event in grind (arith, common_steps)) in
    let accepted = no-refusal _ _ _ c.in_ok-screen.ensures.refused in
    subst (λ (l : List Answer). HaveMaps c.args.config c.args.events.now l) (sym given) (c.maps_are_there.ensures c.args.config c.args.events.now accepted)

pub returns-clause-pictures : goal.returns-clause-pictures
returns-clause-pictures c = λ told.
    let given : c.loop-event.given.items ≡ answers c.args.config c.args.events.now = (let h = c.loop-event in grind (arith, common_steps)) in
    let accepted = no-refusal _ _ _ c.in_ok-screen.ensures.refused in
    subst (λ (l : List Answer). ShowPictures c.args.config c.args.events.now l) (sym given) (c.pictures_are_shown.ensures c.args.config c.args.events.now accepted told)

pub returns-clause-answers : goal.returns-clause-answers
returns-clause-answers c =
    let given : c.loop-event.given.items ≡ answers c.args.config c.args.events.now = (let h = c.loop-event in grind (arith, common_steps)) in
    let accepted : config_refusal c.args.config ≡ None = no-refusal _ _ _ c.in_ok-screen.ensures.refused in
    as-made (config_refusal c.args.config) (c.loop-event.given.items ≡ answers c.args.config c.args.events.now) (λ e. ◌≡◌ {A = Result _ ScreenError} (Ok c.loop-event.given) (Err e)) accepted given

pub returns-in_err-answer-clause-answers : goal.returns-in_err-answer-clause-answers
returns-in_err-answer-clause-answers c =
    let r = c.from_residual-in_err-answer.result in
    let accepted : config_refusal c.args.config ≡ None = no-refusal _ _ _ c.in_ok-screen.ensures.refused in
    as-made (config_refusal c.args.config) (MatchResult r (λ given. given.items ≡ answers c.args.config c.args.events.now) (λ e. e ≡ OutOfMemory)) (λ e. r ≡ Err e) accepted (search rules)

pub returns-in_err-push-clause-answers : goal.returns-in_err-push-clause-answers
returns-in_err-push-clause-answers c =
    let r = c.from_residual-in_err-push.result in
    let accepted : config_refusal c.args.config ≡ None = no-refusal _ _ _ c.in_ok-screen.ensures.refused in
    as-made (config_refusal c.args.config) (MatchResult r (λ given. given.items ≡ answers c.args.config c.args.events.now) (λ e. e ≡ OutOfMemory)) (λ e. r ≡ Err e) accepted (search rules)
