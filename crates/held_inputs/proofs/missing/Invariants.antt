use Rattle.std.specs.Prelude.{◌≡◌, drop}
use Rattle.held_inputs.specs.Held.{missing}
use Rattle.held_inputs.proofs.missing.Given as goal

abbrev pub invariant-loop-key : goal.invariant-loop-key
invariant-loop-key l = missing l.keys l.held ≡ missing (drop l.key-index l.keys) l.held
