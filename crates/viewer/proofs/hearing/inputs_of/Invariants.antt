use Rattle.std.proofs.Common.{◌≡◌, ◌≤◌, ◌+◌, ◌++◌, reverse, vec_len, vec_capacity}
use Rattle.std.specs.List.{filter_map}
use Rattle.viewer.specs.Hearing.{input_of}
use Rattle.viewer.proofs.hearing.inputs_of.Given as goal

-- the inputs of the items left, and those so far the other way round, are those of all
abbrev pub invariant-loop-item : goal.invariant-loop-item
invariant-loop-item l = record {
  given : filter_map input_of l.items.items ++ reverse l.inputs.items ≡ filter_map input_of l.fn.items.items;
  capacity : vec_len l.inputs + vec_len l.items ≤ vec_capacity l.inputs;
}

abbrev pub decreases-loop-item : goal.decreases-loop-item
decreases-loop-item l = vec_len l.items
