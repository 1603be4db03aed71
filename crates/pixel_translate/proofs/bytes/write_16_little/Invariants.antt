use Rattle.std.proofs.Common.{ℕ}
use Rattle.std.specs.Int.{w16, to_le_bytes}
use Rattle.pixel_translate.specs.Bytes.{Gives}
use Rattle.pixel_translate.proofs.Blocks.{AreWritten}
use Rattle.pixel_translate.proofs.bytes.write_16_little.Given as goal

-- the first i pixels are written
abbrev pub invariant-loop-i : goal.invariant-loop-i
invariant-loop-i g l = (number : ℕ → ℕ) → Gives (goal.F-post g l.pixel_of) number → AreWritten (λ value. to_le_bytes w16 (number value)) 2 l.values l.fn.places l.i l.places
