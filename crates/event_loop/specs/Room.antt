-- Which connections a loop has room for.
use Rattle.std.specs.Prelude.{ℕ, Bool, true, false, not, ◌&&◌, ◌||◌, nat_le, nat_lt}
use Rattle.event_loop.specs.declared.limits.Limits.{Limits}
use Rattle.event_loop.specs.declared.limits.WhenFull.{WhenFull}
use Rattle.event_loop.specs.declared.limits.WhenFull.TheVariants.{Wait, LetGo}

-- whether as many viewers came as are served in all
abbrev pub all_came : Limits → ℕ → Bool
all_came limits came = nat_le limits.all_viewers came

-- whether one viewer more may be live, beside so many
abbrev pub has_room : Limits → ℕ → ℕ → Bool
has_room limits came live = not (all_came limits came) && nat_lt live limits.live_viewers

abbrev pub lets_go : WhenFull → Bool
lets_go Wait = false
lets_go LetGo = true

-- whether a connection for which there is no room is turned away, and doesn't wait
abbrev pub turns_away : Limits → ℕ → Bool
turns_away limits came = all_came limits came || lets_go limits.when_full

-- whether the next connection is accepted, be it to be turned away
abbrev pub accepts_next : Limits → ℕ → ℕ → Bool
accepts_next limits came live = has_room limits came live || turns_away limits came
