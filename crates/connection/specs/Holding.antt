-- What a viewer holds down behind what it said.
use Rattle.std.specs.Prelude.{List, [], ◌∷◌}
use Rattle.screen.specs.declared.Input.{Input}
use Rattle.held_inputs.specs.Held.{Held, after, roomy}

-- The keys and buttons that are held down behind inputs. Before each the earliest of 512 keys is let go, so that another may go down.
abbrev pub held_behind : Held → List Input → Held
held_behind held [] = held
held_behind held (input ∷ inputs) = held_behind (after (roomy held) input) inputs
