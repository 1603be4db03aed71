-- How a screen stands to what was played, and a printed line to the script's.
use Rattle.std.specs.Prelude.{◌≡◌, ℕ, ⊤, Option, Some, None}
use Rattle.screen.specs.State.{State, state}
use Rattle.play_script.specs.Transcript.{Played, Next, on, over, Step}
use Rattle.play_script.specs.declared.play.Said.{Said}

-- the screen stands for the events so far, or there is none yet
abbrev pub StandsFor : Option State → Option Played → Type 0
StandsFor None None = ⊤
StandsFor (Some s) (Some p) = s ≡ state p.config p.events
StandsFor None (Some p) = ⊥
StandsFor (Some s) None = ⊥

-- a script goes on with this screen, or ends with this status
abbrev pub GoesOn : Option ℕ → Option State → Next → Type 0
GoesOn None screen (on played) = StandsFor screen played
GoesOn (Some status) screen (over end) = status ≡ end
GoesOn None screen (over end) = ⊥
GoesOn (Some status) screen (on played) = ⊥

-- what is said to a line is the step's text, and then the script goes on as the step says
abbrev pub Says : Said → Option State → Step → Type 0
Says said screen step = (said.text.items ≡ step.text) × GoesOn said.status screen step.next
