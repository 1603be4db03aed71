-- Events that happened after others, all of them.
use Rattle.std.specs.Prelude.{◌≡◌, List, ◌++◌}
use Rattle.scene.specs.declared.Config.{Config}
use Rattle.scene.specs.declared.Event.{Event}
use Rattle.scene.specs.History.{accepted}

abbrev pub AllHappen : Config → List Event → List Event → Type 0
AllHappen c list more = accepted c (list ++ more) ≡ accepted c list ++ more
