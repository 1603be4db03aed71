use Rattle.std.proofs.Common.{◌≡◌, ◌++◌, take}
use Rattle.play_script.specs.Texts.{hex}
use Rattle.play_script.proofs.texts.put_hex.Given as goal

abbrev pub invariant-loop-byte : goal.invariant-loop-byte
invariant-loop-byte l = l.out.items ≡ l.fn.out.items ++ hex (take l.byte-index l.bytes)
