-- Which screen options tell.
use Rattle.std.specs.Prelude.{Bool, true, false, codes}
use Rattle.screen.specs.declared.Config.{Config}
use Rattle.screen.specs.declared.History.{History}
use Rattle.screen.specs.declared.History.TheVariants.{Kept, NotKept}
use Rattle.demo_app.specs.declared.serve.ServeOptions.{ServeOptions}

-- the history is kept where the run is judged
abbrev pub history_by : Bool → History
history_by true = Kept
history_by false = NotKept

abbrev pub config_by : ServeOptions → Config
config_by o = record { width = o.width; height = o.height; name = o.name; rects_per_update = o.limit; history = history_by o.check }

-- the screen of `self`, whose history is kept
abbrev pub own_config : Config
own_config = record { width = 4; height = 1; name = codes "demo"; rects_per_update = 50; history = Kept }
