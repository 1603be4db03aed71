use Rattle.std.proofs.Common.{◌≡◌, ℕ, List, ◌++◌}
use Rattle.std.specs.Prelude.{flat_map}
use Rattle.std.specs.Slice.Iter.{chunks_rest, chunks_size}
use Rattle.scribe.specs.Scribing.{Puts}
use Rattle.recorder.specs.Words.{colour_digits}
use Rattle.recorder.proofs.words.put_colours.Given as goal

abbrev pub invariant-loop-few : goal.invariant-loop-few
invariant-loop-few g l =
    (goal.iterator-loop-few g).can_next l.few-iterator
    × (goal.iterator-loop-few g).is_finite l.few-iterator
    × (chunks_size l.few-iterator ≡ 64)
    × ((done : List ℕ) × Puts (flat_map colour_digits done) l.initial.scribe l.scribe × (done ++ chunks_rest l.few-iterator ≡ l.colours))
