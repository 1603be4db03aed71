-- Keys of which some are held.
use Rattle.std.proofs.Common.{◌≡◌, ℕ, ◌+◌, ◌<◌, ◌==◌, Bool, true, false, if◌then◌else◌, ◌||◌, ◌⊎◌, inl, inr, List, [], ◌∷◌, get_or, drop, length, Option, Some, None, refl, sym, ap, ap₂, ◌∙◌, subst}
use Rattle.std.proofs.lemmas.Bool.{eqb-true}
use Rattle.std.proofs.lemmas.List.{drop_more}
use Rattle.messages.specs.declared.Input.{Input}
use Rattle.messages.specs.declared.Input.TheVariants.{Pointer}
use Rattle.held_inputs.specs.Held.{Held, is_among, missing, owed_buttons}

-- a key that is held is not the first that is missing
pub missing-further : (keys : List ℕ) (i d : ℕ) (held : List ℕ) → i < length keys → is_among (get_or keys i d) held ≡ true → missing (drop i keys) held ≡ missing (drop (i + 1) keys) held
missing-further keys i d held below is =
    ap (λ (l : List ℕ). missing l held) (drop_more keys i d below) ∙ ap (λ (b : Bool). if b then missing (drop (i + 1) keys) held else Some (get_or keys i d)) is

-- and one that isn't is
pub missing-here : (keys : List ℕ) (i d : ℕ) (held : List ℕ) → i < length keys → is_among (get_or keys i d) held ≡ false → missing (drop i keys) held ≡ Some (get_or keys i d)
missing-here keys i d held below is =
    ap (λ (l : List ℕ). missing l held) (drop_more keys i d below) ∙ ap (λ (b : Bool). if b then missing (drop (i + 1) keys) held else Some (get_or keys i d)) is

is-none : (b : Bool) (key : ℕ) (rest : Option ℕ) → (if b then rest else Some key) ≡ None → (b ≡ true) × (rest ≡ None)
is-none true key rest is = (refl, is)
is-none false key rest is = absurd cc

either : (a b : Bool) → (a || b) ≡ true → (a ≡ true) ⊎ (b ≡ true)
either true b is = inl refl
either false b is = inr is

-- the first key is held, and each of the others
one-or-another : (k key : ℕ) (keys held : List ℕ) → is_among k held ≡ true → (is_among key keys ≡ true → is_among key held ≡ true) → ((k == key) ≡ true) ⊎ (is_among key keys ≡ true) → is_among key held ≡ true
one-or-another k key keys held first others (inl same) = subst (λ (q : ℕ). is_among q held ≡ true) (eqb-true k key same) first
one-or-another k key keys held first others (inr among) = others among

-- where none is missing, each is held
all-held : (keys held : List ℕ) → missing keys held ≡ None → (key : ℕ) → is_among key keys ≡ true → is_among key held ≡ true
all-held [] held none key is = absurd cc
all-held (k ∷ keys) held none key is =
    let p = is-none (is_among k held) k (missing keys held) none in
    one-or-another k key keys held p.0 (all-held keys held p.1 key) (either (k == key) (is_among key keys) is)

pub all-held-in : (xs ys keys held : List ℕ) → xs ≡ keys → ys ≡ held → missing xs ys ≡ None → (key : ℕ) → is_among key keys ≡ true → is_among key held ≡ true
all-held-in xs ys keys held own other none = all-held keys held (ap₂ missing (sym own) (sym other) ∙ none)

is-same : (b : Bool) (i : Input) → (if b then None else Some i) ≡ None → b ≡ true
is-same true i is = refl
is-same false i is = absurd cc

-- where no pointer is owed, the buttons are the same
pub same-buttons : (down held : Held) → owed_buttons down held ≡ None → down.mask ≡ held.mask
same-buttons down held none = eqb-true down.mask held.mask (is-same (down.mask == held.mask) (Pointer held.mask held.x held.y) none)
