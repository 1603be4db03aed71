use Rattle.std.proofs.Common.{◌≡◌, ◌++◌, take}
use Rattle.recorder.specs.Words.{hex}
use Rattle.replay.proofs.texts.put_hex.Given as goal

-- the digits so far
abbrev pub invariant-loop-byte : goal.invariant-loop-byte
invariant-loop-byte l = l.out.items ≡ l.fn.out.items ++ hex (take l.byte-index l.bytes)
