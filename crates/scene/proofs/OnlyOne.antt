-- A run with one viewer is the machine with one viewer.
use Rattle.std.proofs.Common.{◌≡◌, ℕ, Bool, true, false, cond, ◌&&◌, List, [], ◌∷◌, ◌++◌, Option, Some, None, refl, sym, ◌∙◌, ap}
use Rattle.std.specs.List.{list_all}
use Rattle.std.proofs.lemmas.Bool.Decides.{Decides-eqb}
use Rattle.scene.specs.declared.Config.{Config}
use Rattle.scene.specs.declared.ScreenError.{ScreenError}
use Rattle.scene.specs.declared.Event.{Event}
use Rattle.scene.specs.declared.Answer.{Answer}
use Rattle.scene.specs.Alone.{One, at_size, owner_of, step, own_step, draw_step, drawing_refusal, after, answers_from, empty_screen}
use Rattle.scene.specs.Answers.{own, is_owner, refused_or_nothing, answer_to, answers_after}
use Rattle.scene.specs.Claims.{one_viewer_is_alone}
use Rattle.scene.proofs.Steps.{after-append, filter-append}
use Rattle.framebuffer.specs.Frame.{Frame}
use Rattle.scene.proofs.Everyones.{one-picture}
use Rattle.scene.proofs.Owners.{answer-own}

both : (a b : Bool) → (a && b) ≡ true → (a ≡ true) × (b ≡ true)
both true true e = (refl, refl)
both true false e = absurd cc
both false b e = absurd cc

module _ (c : Config) (v : ℕ) where
  drawn-so : (k : Config) (e : Event) (s : One) (o : Option ScreenError) → refused_or_nothing o ≡ (draw_step k e s o).1
  drawn-so k e s None = refl
  drawn-so k e s (Some r) = refl

  -- the answer to one event more
  told-so : (before : List Event) (e : Event) → own v before ≡ before → is_owner v (owner_of e) ≡ true → answer_to c before e ≡ (step c e (after c before (empty_screen c))).1
  told-so before e same owned = go (owner_of e) refl owned
    where
      go : (o : Option ℕ) → owner_of e ≡ o → is_owner v o ≡ true → answer_to c before e ≡ (step c e (after c before (empty_screen c))).1
      go None k owned =
          rw k (ap (λ (f : Frame). refused_or_nothing (drawing_refusal (at_size f c) e)) (sym (one-picture c v before) ∙ ap (λ (l : List Event). (after c l (empty_screen c)).picture) same)
          ∙ drawn-so (at_size (after c before (empty_screen c)).picture c) e (after c before (empty_screen c)) (drawing_refusal (at_size (after c before (empty_screen c)).picture c) e))
      go (Some n) k owned =
          let number : n ≡ v = (Decides-eqb n v).0 owned in
          answer-own c v before e (k ∙ ap (λ (m : ℕ). Some m) number)
          ∙ ap (λ (l : List Event). (own_step (at_size (after c l (empty_screen c)).picture c) e (after c l (empty_screen c)) (after c l (empty_screen c)).viewer).1) same
          ∙ rw k refl

  own-last : (before : List Event) (e : Event) → own v before ≡ before → is_owner v (owner_of e) ≡ true → own v (before ++ e ∷ []) ≡ before ++ e ∷ []
  own-last before e same owned =
      filter-append (λ a. is_owner v (owner_of a)) before e ∙ ap (λ l. l ++ own v (e ∷ [])) same ∙ ap (λ b. before ++ cond b (e ∷ []) []) owned

  from : (before es : List Event) → own v before ≡ before → list_all (λ e. is_owner v (owner_of e)) es ≡ true → answers_after c before es ≡ answers_from c es (after c before (empty_screen c))
  from before [] same all = refl
  from before (e ∷ es) same all =
      let parts = both (is_owner v (owner_of e)) (list_all (λ e. is_owner v (owner_of e)) es) all in
      ap (λ (a : Answer). a ∷ answers_after c (before ++ e ∷ []) es) (told-so before e same parts.0)
      ∙ ap (λ (l : List Answer). (step c e (after c before (empty_screen c))).1 ∷ l)
      (from (before ++ e ∷ []) es (own-last before e same parts.0) parts.1 ∙ ap (answers_from c es) (after-append c before e (empty_screen c)))

pub one_viewer-alone : one_viewer_is_alone
one_viewer-alone c v es all = from c v [] es refl all
