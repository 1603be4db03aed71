-- What sockets carry.
use Rattle.std.specs.Prelude.{◌≡◌, ℕ, List, [], ◌∷◌, ◌++◌, Option, None, Result}
use Rattle.std.specs.List.{All}
use Rattle.screen.specs.declared.Config.{Config}
use Rattle.screen.specs.declared.Event.{Event}
use Rattle.screen.specs.declared.Event.TheVariants.{Close}
use Rattle.receipts.specs.declared.Receipt.{Receipt}
use Rattle.connections.specs.Telling.{Told, words_of, receipts_in, words_after, IsTold}
use Rattle.connection.specs.Recording.{none_yet}
use Rattle.connections.specs.Serving.{Began, Serving, is_kept, Serves, WasServed}

-- no byte of a socket is known, but what was written to it is kept, where the history is; and what a record's writer held before, where there is a record
abbrev pub sockets_and : Option (Option (List ℕ)) → Config → Began
sockets_and held c = record { carried = λ _. record { unread = None; written = None; sent = none_yet (is_kept c.history) }; held = held }

-- the same without a record
abbrev pub sockets : Config → Began
sockets c = sockets_and None c

-- whatever the connections stood for, they stand for it with more events behind it, in which no viewer says anything, and none leaves
abbrev pub GoesOnServing : Serving → Serving → Type 0
GoesOnServing old new = (held : Option (Option (List ℕ))) (c : Config) (list : List Event) → Serves c (sockets_and held c) list old → (more : List Event) × Serves c (sockets_and held c) (list ++ more) new × (words_after c list more ≡ [])

-- a receipt is that of a viewer that left: it was served over a socket by the events up to its end
abbrev pub IsOfLeaver : Config → List Event → Receipt → Type 0
IsOfLeaver c list r = (front back : List Event) × (front ++ Close r.viewer ∷ back ≡ list) × WasServed {T = Unit {0}} c (front ++ Close r.viewer ∷ []) ((sockets c).carried r.viewer) (λ _. None) (λ _. None) tt r

-- What is told is an account of events that come after others: it has the inputs of these, and a receipt of each viewer that leaves in them, in their order.
pub record IsAccountOf (c : Config) (list more : List Event) (told : List Told) : Type 0 where
  pub said : words_of told ≡ words_after c list more
  pub left : All (IsOfLeaver c (list ++ more)) (receipts_in told)

-- whatever the connections stood for, they stand for it with more events behind it, and an application is told an account of these
abbrev pub GoesOnServingTelling : {A X E : Type 0} → (A → List Told → Type 0) → Serving → Serving → A → A → Result X E → Type 0
GoesOnServingTelling stands old new before after result =
    (held : Option (Option (List ℕ))) (c : Config) (list : List Event) → Serves c (sockets_and held c) list old
    → (more : List Event) × Serves c (sockets_and held c) (list ++ more) new × (told : List Told) × IsAccountOf c list more told × IsTold stands told before after result
