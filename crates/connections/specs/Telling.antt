-- What an application is told of what viewers say, and of their ends.
use Rattle.std.specs.Prelude.{◌≡◌, ℕ, false, ◌==◌, if◌then◌else◌, List, [], ◌∷◌, ◌++◌, map, Option, Some, None, Result, OnOk}
use Rattle.std.specs.Option.{option_to_list}
use Rattle.screen.specs.declared.Config.{Config}
use Rattle.screen.specs.declared.Event.{Event}
use Rattle.screen.specs.declared.Event.TheVariants.{Hear, Close}
use Rattle.screen.specs.declared.Input.{Input}
use Rattle.screen.specs.declared.Input.TheVariants.{Key, Pointer}
use Rattle.screen.specs.Answers.{answer_to}
use Rattle.receipts.specs.declared.Receipt.{Receipt}
use Rattle.receipts.specs.Histories.{piece_of}
use Rattle.held_inputs.specs.Held.{Held, nothing, after, roomy, room_release}
use Rattle.connection.specs.Holding.{held_behind}

-- what events say: an input of a viewer, or that a viewer leaves
pub data Word : Type 0 where
  Says : ℕ → Input → Word
  Leaves : ℕ → Word

-- what an application is told: an input of a viewer, or the receipt of a viewer that left
pub data Told : Type 0 where
  Said : ℕ → Input → Told
  Left : Receipt → Told

-- the words of events that are told so
abbrev pub word_of : Told → Word
word_of (Said v input) = Says v input
word_of (Left receipt) = Leaves receipt.viewer

abbrev pub words_of : List Told → List Word
words_of told = map word_of told

-- a viewer's inputs, as words and as they are told
abbrev pub says : ℕ → List Input → List Word
says v inputs = map (λ input. Says v input) inputs

abbrev pub said_by : ℕ → List Input → List Told
said_by v inputs = map (λ input. Said v input) inputs

-- the inputs among words, each with its viewer's number
abbrev pub inputs_in : List Word → List (ℕ × Input)
inputs_in [] = []
inputs_in (Says v input ∷ words) = (v, input) ∷ inputs_in words
inputs_in (Leaves v ∷ words) = inputs_in words

-- the inputs that are told
abbrev pub inputs_told : List Told → List (ℕ × Input)
inputs_told told = inputs_in (words_of told)

-- the receipts that are told
abbrev pub receipts_in : List Told → List Receipt
receipts_in [] = []
receipts_in (Said v input ∷ told) = receipts_in told
receipts_in (Left receipt ∷ told) = receipt ∷ receipts_in told

-- what an application is told of an input of a viewer that holds these: the release of the key that is let go before it, if one is, and the input
abbrev pub told_for : Held → Input → List Input
told_for held input = option_to_list (room_release held.keys) ++ input ∷ []

-- what it is told of inputs, in order
abbrev pub told_behind : Held → List Input → List Input
told_behind held [] = []
told_behind held (input ∷ inputs) = told_for held input ++ told_behind (after (roomy held) input) inputs

-- behind a piece of a viewer's bytes that is heard after some events, by its inputs; no piece changes nothing
abbrev pub held_with : Config → ℕ → List Event → Held → Option (List ℕ) → Held
held_with c v before held None = held
held_with c v before held (Some piece) = held_behind held (answer_to c before (Hear v piece)).inputs

-- behind events that come after others
abbrev pub held_after : Config → ℕ → Held → List Event → List Event → Held
held_after c v held before [] = held
held_after c v held before (e ∷ es) = held_after c v (held_with c v before held (piece_of v e)) (before ++ e ∷ []) es

-- what a viewer holds down behind all events, by all that it said
abbrev pub held_of : Config → ℕ → List Event → Held
held_of c v list = held_after c v nothing [] list

-- the releases of what is held: of each key that is down, the earliest first, and then the pointer without a button, where buttons are down
abbrev pub releases : Held → List Input
releases held = map (λ key. Key false key) held.keys ++ (if held.mask == 0 then [] else Pointer 0 held.x held.y ∷ [])

-- the words of an event that comes after others: the inputs of a piece that is heard (RFC 6143, 7.5.4 to 7.5.6), with what is let go before them; at a viewer's end the releases of what it holds, and that it leaves
abbrev pub words_by : Config → List Event → Event → List Word
words_by c before (Hear v piece) = says v (told_behind (held_of c v before) (answer_to c before (Hear v piece)).inputs)
words_by c before (Close v) = says v (releases (held_of c v before)) ++ Leaves v ∷ []
words_by c before _ = []

-- those of events that come after others
abbrev pub words_after : Config → List Event → List Event → List Word
words_after c before [] = []
words_after c before (e ∷ es) = words_by c before e ++ words_after c (before ++ e ∷ []) es

-- the inputs of these events
abbrev pub inputs_after : Config → List Event → List Event → List (ℕ × Input)
inputs_after c before es = inputs_in (words_after c before es)

-- an application stands for what it stood for
abbrev pub Stays : {A : Type 0} → (A → List Told → Type 0) → A → A → Type 0
Stays stands before after = (told : List Told) → stands before told → stands after told

-- An application is told inputs and receipts, in order. Whatever it stood for, it stands for that with those that it was told behind it: all, or the first ones where an error ended this.
abbrev pub IsTold : {A X E : Type 0} → (A → List Told → Type 0) → List Told → A → A → Result X E → Type 0
IsTold stands all old new result = (before : List Told) → stands old before → (told rest : List Told) × (told ++ rest ≡ all) × OnOk result (rest ≡ []) × stands new (before ++ told)
