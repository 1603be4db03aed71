-- What a command line may choose.
use Rattle.std.specs.Prelude.{◌≤◌, ℕ}
use Rattle.demo_app.specs.declared.command_line.Chosen.{Chosen}
use Rattle.demo_app.specs.declared.command_line.Chosen.TheVariants as chosen

-- Threads serve 1 to 64 viewers, one thread and a mirror 1 to 1024; the program's own are 1 to 8.
abbrev pub HasViewers : Chosen → Type 0
HasViewers (chosen.Serve port options forever ends) = (1 ≤ options.viewers) × (options.viewers ≤ 64)
HasViewers (chosen.ServeInOneThread port options file web forever ends) = (1 ≤ options.viewers) × (options.viewers ≤ 1024)
HasViewers (chosen.Own viewers) = (1 ≤ viewers) × (viewers ≤ 8)
HasViewers (chosen.OwnInOneThread viewers) = (1 ≤ viewers) × (viewers ≤ 8)
HasViewers chosen.Play = Unit {0}
HasViewers (chosen.Replay file asked) = Unit {0}
HasViewers (chosen.Mirror listen web options) = (1 ≤ options.viewers) × (options.viewers ≤ 1024)
