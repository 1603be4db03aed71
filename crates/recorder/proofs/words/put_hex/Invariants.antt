use Rattle.std.proofs.Common.{◌≡◌, ℕ, List, ◌++◌}
use Rattle.std.specs.Slice.Iter.{chunks_rest, chunks_size}
use Rattle.scribe.specs.Scribing.{Puts}
use Rattle.recorder.specs.Words.{hex}
use Rattle.recorder.proofs.words.put_hex.Given as goal

abbrev pub invariant-loop-few : goal.invariant-loop-few
invariant-loop-few g l =
    (goal.iterator-loop-few g).can_next l.few-iterator
    × (goal.iterator-loop-few g).is_finite l.few-iterator
    × (chunks_size l.few-iterator ≡ 192)
    × ((done : List ℕ) × Puts (hex done) l.initial.scribe l.scribe × (done ++ chunks_rest l.few-iterator ≡ l.bytes))
