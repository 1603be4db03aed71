-- What is owed by who holds keys and buttons down to who lets all go.
use Rattle.std.proofs.Common.{◌≡◌, ℕ, Bool, true, false, cond, List, [], ◌∷◌, ◌++◌, Option, Some, None, refl, sym, ap, subst, arith}
use Rattle.std.proofs.lemmas.Bool.{lt-ltb}
use Rattle.std.specs.Prelude.{◌==◌, length, map}
use Rattle.std.specs.Option.{option_map_or}
use Rattle.std.specs.List.{position, remove}
use Rattle.std.proofs.lemmas.Bool.Decides.{Decides-eqb}
use Rattle.screen.specs.declared.Input.{Input}
use Rattle.screen.specs.declared.Input.TheVariants.{Key, Pointer}
use Rattle.held_inputs.specs.Held.{Held, after, let_go, lifted, owed}
use Rattle.connections.specs.Telling.{releases}

first-removed : (p : ℕ → Bool) (x : ℕ) (xs : List ℕ) → p x ≡ true → option_map_or (λ place. remove (x ∷ xs) place) (position p (x ∷ xs)) (x ∷ xs) ≡ xs
first-removed p x xs h = rw h (rw (lt-ltb 0 (length (x ∷ xs)) (omega arith)) refl)

lifted-first : (key : ℕ) (keys : List ℕ) → lifted key (key ∷ keys) ≡ keys
lifted-first key keys = first-removed (λ k. k == key) key keys ((Decides-eqb key key).1 refl)

-- what is owed is the first release, and others are left
abbrev pub OwesFirst : Held → Input → Type 0
OwesFirst held i = (releases held ≡ i ∷ releases (after held i)) × (let_go (after held i) ≡ let_go held)

key-first : (key : ℕ) (keys : List ℕ) (mask x y : ℕ) → OwesFirst (record { keys = key ∷ keys; mask = mask; x = x; y = y }) (Key false key)
key-first key keys mask x y =
    (ap (λ (l : List ℕ). Key false key ∷ (map (λ k. Key false k) l ++ cond (mask == 0) [] (Pointer 0 x y ∷ []))) (sym (lifted-first key keys)), refl)

buttons-first : (mask x y : ℕ) (i : Input) (b : Bool) → (mask == 0) ≡ b → cond b None (Some (Pointer 0 x y)) ≡ Some i → OwesFirst (record { keys = []; mask = mask; x = x; y = y }) i
buttons-first mask x y i true is h = absurd cc
buttons-first mask x y i false is h =
    let same : Pointer 0 x y ≡ i = cc in
    subst (λ (j : Input). OwesFirst (record { keys = []; mask = mask; x = x; y = y }) j) same (ap (λ b. cond b [] (Pointer 0 x y ∷ [])) is, refl)

first-of : (keys : List ℕ) (mask x y : ℕ) (i : Input) → owed (record { keys = keys; mask = mask; x = x; y = y }) (let_go (record { keys = keys; mask = mask; x = x; y = y })) ≡ Some i → OwesFirst (record { keys = keys; mask = mask; x = x; y = y }) i
first-of [] mask x y i h = buttons-first mask x y i (mask == 0) refl h
first-of (key ∷ keys) mask x y i h =
    let same : Key false key ≡ i = cc in
    subst (λ (j : Input). OwesFirst (record { keys = key ∷ keys; mask = mask; x = x; y = y }) j) same (key-first key keys mask x y)

pub owes-first : (held : Held) (i : Input) → owed held (let_go held) ≡ Some i → OwesFirst held i
owes-first held i h = first-of held.keys held.mask held.x held.y i h

no-buttons : (x y : ℕ) (b : Bool) → ◌≡◌ {A = Option Input} (cond b None (Some (Pointer 0 x y))) None → cond b [] (Pointer 0 x y ∷ []) ≡ []
no-buttons x y true h = refl
no-buttons x y false h = absurd cc

none-of : (keys : List ℕ) (mask x y : ℕ) → owed (record { keys = keys; mask = mask; x = x; y = y }) (let_go (record { keys = keys; mask = mask; x = x; y = y })) ≡ None → releases (record { keys = keys; mask = mask; x = x; y = y }) ≡ []
none-of [] mask x y h = no-buttons x y (mask == 0) h
none-of (key ∷ keys) mask x y h = absurd cc

-- nothing is owed where nothing is left to release
pub owes-none : (held : Held) → owed held (let_go held) ≡ None → releases held ≡ []
owes-none held h = none-of held.keys held.mask held.x held.y h
