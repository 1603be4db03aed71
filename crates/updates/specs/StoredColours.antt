-- The colours of an update's rectangle, as they are held.
use Rattle.std.specs.Prelude.{ℕ, List}
use Rattle.updates.specs.declared.colours.Storage.{Storage}
use Rattle.updates.specs.declared.colours.Storage.TheVariants.{Owned, Shared}

abbrev pub stored_colours : Storage → List ℕ
stored_colours (Owned colours) = colours.items
stored_colours (Shared snapshot) = snapshot.colours
