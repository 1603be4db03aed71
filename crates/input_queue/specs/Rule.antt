-- The rule of the queue.
use Rattle.std.specs.Prelude.{◌≡◌, ◌⊎◌, ℕ, ◌+◌, ◌≤◌, ◌==◌, false, if◌then◌else◌, List, [], ◌∷◌, ◌++◌, map, length}
use mathlib.Core.Option.{some, none}
use mathlib.Core.Option as maybe
use lib.ListN.{get_elem?}
use Rattle.input_queue.specs.declared.Told.{Told}
use Rattle.input_queue.specs.declared.rule.Note.{Note}
use Rattle.input_queue.specs.declared.rule.View.{View}
use Rattle.input_queue.specs.Views.{spent, newcomer, hub, taker, seat, joined}

-- the items with a number, in order
abbrev pub those_of : {T : Type 0} → ℕ → List (ℕ × T) → List T
those_of k [] = []
those_of k (x ∷ xs) = if x.0 == k then x.1 ∷ those_of k xs else those_of k xs

-- A whole is an interleaving of lists: its items can be given the numbers of lists so that those with a number are that list, in order.
abbrev pub Interleaves : {T : Type 0} → (ℕ → List T) → List T → Type 0
Interleaves {T} lists whole = (numbered : List (ℕ × T)) × (map (λ x. x.1) numbered ≡ whole) × ((k : ℕ) → those_of k numbered ≡ lists k)

-- what was noted of the seat with a number
abbrev pub noted_of : ℕ → List Note → List Told
noted_of k [] = []
noted_of k (e ∷ es) = if e.number == k then e.accepted else noted_of k es

abbrev pub known_or : maybe.Option View → List Told → List Told
known_or none noted = noted
known_or (some v) noted = if v.puts then v.accepted else noted

-- what the seat with a number accepted: as it knows, and of a spent seat as the taker noted it
abbrev pub accepted_by : List Note → List View → ℕ → List Told
accepted_by notes seats k = known_or (get_elem? seats k) (noted_of k notes)

abbrev pub EachNote : (Note → Type 0) → List Note → Type 0
EachNote P [] = Unit {0}
EachNote P (e ∷ es) = P e × EachNote P es

-- no two notes have one number
abbrev pub AreApart : List Note → Type 0
AreApart [] = Unit {0}
AreApart (e ∷ es) = EachNote (λ f. (f.number == e.number) ≡ false) es × AreApart es

abbrev pub weigh : (View → ℕ) → List View → ℕ
weigh f [] = 0
weigh f (v ∷ vs) = f v + weigh f vs

abbrev pub noted_items : List Note → ℕ
noted_items [] = 0
noted_items (e ∷ es) = length e.accepted + noted_items es

abbrev pub seats_in : View → ℕ
seats_in v = if v.puts then 1 else 0

-- What was taken, followed by what the queue holds, is an interleaving of what the seats accepted. The seats are numbered from 0; each is spent just where it is noted, once.
pub record Keeps (items : List Told) (n : ℕ) (taken : List Told) (notes : List Note) (seats : List View) : Type 0 where
  pub interleaved : Interleaves (accepted_by notes seats) (taken ++ items)
  pub made : length seats ≡ n
  pub numbers : (k : ℕ) (v : View) → get_elem? seats k ≡ some v → (v ≡ seat k v.accepted) ⊎ (v ≡ spent)
  pub given_back : EachNote (λ e. get_elem? seats e.number ≡ some spent) notes
  pub apart : AreApart notes
  pub counted : weigh seats_in seats + length notes ≡ n
  pub lengths : weigh (λ v. length v.accepted) seats + noted_items notes ≡ length taken + length items

-- the first two passes are the hub's and the taker's, which may have been given back to the hub
abbrev pub AreHeads : ℕ → List Told → List Note → View → View → Type 0
AreHeads n taken notes a b = ((a ≡ hub n) × (b ≡ taker taken notes)) ⊎ ((a ≡ joined n taken notes) × (b ≡ spent))

abbrev pub Runs : List Told → List View → Type 0
Runs items views =
    (n : ℕ) × (taken : List Told) × (notes : List Note) × (a : View) × (b : View) × (seats : List View)
    × (views ≡ a ∷ b ∷ seats) × AreHeads n taken notes a b × Keeps items n taken notes seats

-- of an empty queue with one pass, or of one that runs
abbrev pub Holds : List Told → List View → Type 0
Holds items views = ((items ≡ []) × (views ≡ newcomer ∷ [])) ⊎ Runs items views

-- what the taker learns of the items of a queue that holds them
abbrev pub Reached : View → List Told → Type 0
Reached v items = ((lists : ℕ → List Told) × Interleaves lists (v.taken ++ items)) × (noted_items v.noted ≤ length v.taken + length items)

-- what the hub learns once the taker is given back
abbrev pub Closed : View → List Told → Type 0
Closed v items = (seats : List View) × Keeps items v.number v.taken v.noted seats
