-- What viewers told, as a program in C is given it.
use Rattle.std.specs.Prelude.{◌≡◌, drop, ℕ, zero, suc, Bool, true, false, if◌then◌else◌, List, [], ◌∷◌, ◌++◌, map, take, length, flat_map}
use Rattle.screen.specs.declared.Input.{Input}
use Rattle.screen.specs.declared.Input.TheVariants.{Key, Pointer, Text}
use Rattle.c_screen.specs.declared.told.Told.{Told}

-- each with the number of the viewer that told it
abbrev pub told_by : ℕ → List Input → List (ℕ × Input)
told_by v inputs = map (λ i. (v, i)) inputs

-- what viewers told at once, one after the other
abbrev pub in_order : List (ℕ × Input) → List (List (ℕ × Input)) → List (ℕ × Input)
in_order next later = next ++ flat_map (λ at_once. at_once) later

abbrev pub one_if : Bool → ℕ
one_if b = if b then 1 else 0

abbrev pub nothing_told : Told
nothing_told = record { viewer = 0; kind = 0; down = 0; key = 0; buttons = 0; x = 0; y = 0; length = 0; shortened = 0 }

-- kind 1 is a key, 2 the pointer, 3 a text
abbrev pub told_as : ℕ → Input → Told
told_as v (Key down key) = record nothing_told { viewer = v; kind = 1; down = one_if down; key = key }
told_as v (Pointer mask x y) = record nothing_told { viewer = v; kind = 2; buttons = mask; x = x; y = y }
told_as v (Text text shortened) = record nothing_told { viewer = v; kind = 3; length = length text; shortened = one_if shortened }

abbrev pub is_text : ℕ × Input → Bool
is_text (v, Text text shortened) = true
is_text (v, _) = false

-- the text of the last text among inputs; the one before where there is none
abbrev pub last_text : List ℕ → List (ℕ × Input) → List ℕ
last_text before [] = before
last_text before ((v, Text text shortened) ∷ rest) = last_text text rest
last_text before ((v, _) ∷ rest) = last_text before rest

-- how many inputs are fetched at once: as many as there is room for, up to the first text
abbrev pub count_fetched : ℕ → List (ℕ × Input) → ℕ
count_fetched zero inputs = 0
count_fetched (suc room) [] = 0
count_fetched (suc room) (i ∷ inputs) = if is_text i then 1 else suc (count_fetched room inputs)

abbrev pub fetched : ℕ → List (ℕ × Input) → List (ℕ × Input)
fetched room inputs = take (count_fetched room inputs) inputs

-- Of inputs those were fetched, and the others wait on. They stand in the room, whose rest stayed, and the last text among them was put behind.
pub record IsFetched (limit : ℕ) (old new : List (ℕ × Input)) (room_old room_new : List Told) (text_old text_new : List ℕ) (number : ℕ) : Type 0 where
  pub count : number ≡ length (fetched limit old)
  pub others : fetched limit old ++ new ≡ old
  pub room : room_new ≡ map (λ i. told_as i.0 i.1) (fetched limit old) ++ drop number room_old
  pub text : text_new ≡ last_text text_old (fetched limit old)
