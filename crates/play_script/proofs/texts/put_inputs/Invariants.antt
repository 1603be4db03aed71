use Rattle.std.proofs.Common.{◌≡◌, ◌++◌, take, flat_map}
use Rattle.play_script.specs.Texts.{input_line}
use Rattle.play_script.proofs.texts.put_inputs.Given as goal

abbrev pub invariant-loop-input : goal.invariant-loop-input
invariant-loop-input l = l.out.items ≡ l.fn.out.items ++ flat_map (input_line l.viewer) (take l.input-index l.inputs)
