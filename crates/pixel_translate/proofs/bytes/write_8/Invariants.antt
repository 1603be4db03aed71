use Rattle.std.proofs.Common.{ℕ}
use Rattle.pixel_translate.specs.Bytes.{Gives, bytes_by}
use Rattle.pixel_translate.proofs.Blocks.{AreWritten}
use Rattle.pixel_translate.proofs.bytes.write_8.Given as goal

-- the first i pixels are written
abbrev pub invariant-loop-i : goal.invariant-loop-i
invariant-loop-i g l = (number : ℕ → ℕ) → Gives (goal.F-post g l.pixel_of) number → AreWritten (bytes_by l.format number) 1 l.values l.fn.places l.i l.places
