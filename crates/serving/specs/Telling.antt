-- What an application is told of what viewers say.
use Rattle.std.specs.Prelude.{◌≡◌, List, ◌++◌}
use Rattle.input_queue.specs.declared.Told.{Told}
use Rattle.input_queue.specs.Ends.{Taking}

-- an application stands for the inputs that it stood for
abbrev pub Stays : {A : Type 0} → (A → List Told → Type 0) → A → A → Type 0
Stays stands before after = (inputs : List Told) → stands before inputs → stands after inputs

-- An application was told inputs, each once and in order: whatever inputs it stood for, it stands for these with those behind them.
abbrev pub IsTold : {A : Type 0} → (A → List Told → Type 0) → List Told → A → A → Type 0
IsTold stands told before after = (inputs : List Told) → stands before inputs → stands after (inputs ++ told)

-- a taker took inputs, in order
abbrev pub Took : List Told → Taking → Taking → Type 0
Took told before after = after ≡ record before { taken = before.taken ++ told }
