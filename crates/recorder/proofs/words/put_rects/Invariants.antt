use Rattle.std.proofs.Common.{take}
use Rattle.std.specs.Prelude.{flat_map}
use Rattle.scribe.specs.Scribing.{Puts}
use Rattle.recorder.specs.Words.{corner_words, spaced}
use Rattle.recorder.proofs.words.put_rects.Given as goal

abbrev pub invariant-loop-rect : goal.invariant-loop-rect
invariant-loop-rect g l = Puts (spaced (flat_map corner_words (take l.rect-index l.rects))) l.initial.scribe l.scribe
