-- A viewer's inputs on their way into the application's queue.
use Rattle.std.specs.Prelude.{◌≡◌, ◌⊎◌, ℕ, ◌+◌, List, [], ◌∷◌, ◌++◌}
use Rattle.messages.specs.declared.Input.{Input}
use Rattle.held_inputs.specs.Held.{Held, HoldsNoMore, after, roomy}
use Rattle.input_queue.specs.Ends.{Putting, Settles, accepting, held_by}

-- Inputs were put in order. Each was accepted behind the others, or it met a full queue and was dropped; so many were.
abbrev pub Puts : List Input → Putting → Putting → ℕ → Type 0
Puts [] before after dropped = (after ≡ before) × (dropped ≡ 0)
Puts (input ∷ inputs) before after dropped =
    Puts inputs (accepting input before) after dropped ⊎ ((others : ℕ) × (dropped ≡ others + 1) × Puts inputs before after others)

-- What was owed of what a viewer holds was put, and then an input: it was accepted once nothing more was owed, or it was dropped.
abbrev pub PutsBehind : Held → Input → Putting → Putting → ℕ → Type 0
PutsBehind held input before now dropped =
    (owing : List Input) × (then : Putting) × Settles held owing before then
    × ((HoldsNoMore (held_by then.accepted) held × (now ≡ accepting input then) × (dropped ≡ 0)) ⊎ ((now ≡ then) × (dropped ≡ 1)))

-- what a viewer holds behind inputs: before each its earliest key is let go, where it holds as many as are known
abbrev pub held_after : Held → List Input → Held
held_after held [] = held
held_after held (input ∷ inputs) = held_after (after (roomy held) input) inputs

-- The inputs that a viewer said were put in order, each behind what was owed then, and nothing else was; so many were dropped.
abbrev pub PutsBetween : Held → List Input → Putting → Putting → ℕ → Type 0
PutsBetween held [] before now dropped = (now ≡ before) × (dropped ≡ 0)
PutsBetween held (input ∷ inputs) before now dropped =
    (then : Putting) × (one : ℕ) × (others : ℕ) × PutsBehind (roomy held) input before then one
    × PutsBetween (after (roomy held) input) inputs then now others × (dropped ≡ one + others)
