use Rattle.std.proofs.Common.{ℕ, ◌<◌, slice_index}
use Rattle.demo_app.specs.Watching.{ShowsAt}
use Rattle.demo_app.proofs.watching.shows.Given as goal

-- the places before this one show their colours
abbrev pub invariant-loop-x : goal.invariant-loop-x
invariant-loop-x l = (x : ℕ) → x < l.x → ShowsAt l.shown x (slice_index l.picture x)
