-- Whether a viewer was there, by what a call of the list of viewers gave.
use Rattle.std.proofs.Common.{◌≡◌, ◌≢◌, ℕ, ◌==◌, List, true, false, Option, Some, None, Result, Ok, Err, true≢false, refl, sym, ap, ◌∙◌}
use Rattle.std.specs.Prelude.{is_some}
use Rattle.std.specs.Map.{lookup}
use Rattle.std.specs.Option.{option_map}
use Rattle.std.proofs.lemmas.Option.{same_Some}
use Rattle.std.specs.declared.alloc.AllocError.{AllocError}
use Rattle.viewer.specs.Viewer.{KeptViewer}
use Rattle.framebuffer.specs.Frame.{Frame}
use Rattle.scene.specs.declared.Config.{Config}
use Rattle.scene.specs.Answers.{SceneState}
use Rattle.scene.specs.Refusals.{viewer_at, absence}

-- by a test
pub test-some : (o : Option KeptViewer) → is_some o ≡ true → (v : KeptViewer) × (Some v ≡ o)
test-some None is = absurd (true≢false (sym is))
test-some (Some v) is = (v, refl)

pub test-none : (o : Option KeptViewer) → is_some o ≡ false → o ≡ None
test-none None is = refl
test-none (Some v) is = absurd (true≢false is)

-- by the refusal that is due where it isn't there
pub present : (o : Option KeptViewer) → absence o ≡ None → (v : KeptViewer) × (Some v ≡ o)
present None is = absurd (cc)
present (Some v) is = (v, refl)

pub present-seen : (c : Config) (p : Frame) (pairs : List (ℕ × KeptViewer)) (number : ℕ) (s : SceneState) → record { config = c; picture = p; viewers = pairs } ≡ s → absence (viewer_at s number) ≡ None
    → (v : KeptViewer) × (Some v ≡ lookup (λ n. n == number) pairs)
present-seen c p pairs number s is there = present (lookup (λ n. n == number) pairs) (ap (λ (t : SceneState). absence (viewer_at t number)) is ∙ there)

pub not-none : (o : Option KeptViewer) → o ≢ None → (v : KeptViewer) × (Some v ≡ o)
not-none None far = absurd (far refl)
not-none (Some v) far = (v, refl)

module _ {Y : Type 0} (f : KeptViewer → Y) where
  -- by what is seen of it
  pub mapped-some : (o : Option KeptViewer) (y : Y) → Some y ≡ option_map f o → (v : KeptViewer) × (Some v ≡ o) × (y ≡ f v)
  mapped-some None y is = absurd (cc)
  mapped-some (Some v) y is = (v, refl, same_Some y (f v) is)

  pub mapped-none : (o : Option KeptViewer) → None ≡ option_map f o → o ≡ None
  mapped-none None is = refl
  mapped-none (Some v) is = absurd (cc)

module _ {X : Type 0} (o : Option KeptViewer) where
  abbrev pub ok : Option X → Result (Option X) AllocError
  ok given = Ok given

  abbrev pub err : AllocError → Result (Option X) AllocError
  err e = Err e

  -- by what was given
  pub given-some : (given : Option X) (x : X) → (o ≡ None → ok given ≡ ok None) → given ≡ Some x → (v : KeptViewer) × (Some v ≡ o)
  given-some given x absent is = not-none o (λ none. lost (absent none))
    where
      lost : ok given ≡ ok None → ⊥
      lost e = true≢false (sym (ap is_some is) ∙ ap (λ (r : Result (Option X) AllocError). elim r [ Ok g ↦ is_some g | Err k ↦ true ]) e)

  -- by an error
  pub error-some : (e : AllocError) → (o ≡ None → err e ≡ ok None) → (v : KeptViewer) × (Some v ≡ o)
  error-some e absent = not-none o (λ none. lost (absent none))
    where
      lost : err e ≡ ok None → ⊥
      lost is = true≢false (ap (λ (r : Result (Option X) AllocError). elim r [ Ok g ↦ false | Err k ↦ true ]) is)

  -- by what is known of each
  pub given-none : {Y : Type 0} (f : X → Y) (of : KeptViewer → Y) (given : Option X) → ((v : KeptViewer) → o ≡ Some v → option_map f given ≡ Some (of v)) → given ≡ None → o ≡ None
  given-none f of given each none = go o refl
    where
      go : (p : Option KeptViewer) → o ≡ p → p ≡ None
      go None is = refl
      go (Some v) is = absurd (true≢false (sym (ap is_some (each v is)) ∙ ap (λ (g : Option X). is_some (option_map f g)) none))
