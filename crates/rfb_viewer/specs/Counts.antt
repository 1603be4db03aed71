-- What was read whole.
use Rattle.std.specs.Prelude.{ℕ, ◌+◌, ◌-◌, ◌^◌, min, Bool, true, false}
use Rattle.rfb_viewer.specs.declared.stages.Stage.{Stage}
use Rattle.rfb_viewer.specs.declared.stages.Stage.TheVariants as stage

-- a count goes no further than a u64 does
abbrev pub one_more : ℕ → ℕ
one_more n = min (n + 1) (2 ^ 64 - 1)

-- 7.1 to 7.3: what comes next is no part of the opening
abbrev pub is_open_at : Stage → Bool
is_open_at stage.Version = false
is_open_at stage.SecurityCount = false
is_open_at (stage.SecurityTypes listed) = false
is_open_at stage.SecurityType = false
is_open_at stage.SecurityResult = false
is_open_at stage.Init = false
is_open_at stage.Name = false
is_open_at _ = true
