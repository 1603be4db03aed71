use Rattle.std.proofs.Common.{◌≡◌, map}
use Rattle.std.specs.List.{range_with_len}
use Rattle.play_script.specs.Words.{value_in, group}
use Rattle.play_script.proofs.hex.hex_bytes.Given as goal

abbrev pub invariant-loop-place : goal.invariant-loop-place
invariant-loop-place l = l.bytes.items ≡ map (λ n. value_in 16 (group 2 l.word n)) (range_with_len 0 l.place)
