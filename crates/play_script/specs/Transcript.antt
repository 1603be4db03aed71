-- What a script prints, and with which status it ends.
use Rattle.std.specs.Prelude.{ℕ, ◌+◌, List, [], ◌∷◌, ◌++◌, map, Option, Some, None}
use Rattle.screen.specs.declared.Config.{Config}
use Rattle.screen.specs.declared.ScreenError.{ScreenError}
use Rattle.screen.specs.declared.Event.{Event}
use Rattle.screen.specs.Alone.{config_refusal}
use Rattle.screen.specs.Answers.{answer_to}
use Rattle.play_script.specs.declared.lines.Line.{Line}
use Rattle.play_script.specs.declared.lines.Line.TheVariants.{Skipped, Start, Do, Bad}
use Rattle.play_script.specs.Words.{lines_of}
use Rattle.play_script.specs.Lines.{line_of}
use Rattle.play_script.specs.Texts.{ok, refused, bad_line, text_of}

-- a screen that was made, and the events since
pub record Played : Type 0 where
  pub config : Config
  pub events : List Event

-- how a script goes on behind a line: from here, with a screen or none yet, or not at all
pub data Next : Type 0 where
  on : Option Played → Next
  over : ℕ → Next

pub record Step : Type 0 where
  pub text : List ℕ
  pub next : Next

abbrev pub is_bad : ℕ → Step
is_bad n = record { text = bad_line n; next = over 1 }

-- the screen is made, or refused
abbrev pub started : Config → Option ScreenError → Step
started c None = record { text = ok; next = on (Some (record { config = c; events = [] })) }
started c (Some e) = record { text = refused e; next = over 1 }

-- Of the line with a number, what is printed and how the script goes on. There is one screen, and it comes first.
abbrev pub step_of : ℕ → Option Played → Line → Step
step_of n played Skipped = record { text = []; next = on played }
step_of n None (Start c) = started c (config_refusal c)
step_of n (Some p) (Do e) = record { text = text_of e (answer_to p.config p.events e); next = on (Some (record { config = p.config; events = p.events ++ e ∷ [] })) }
step_of n (Some p) (Start c) = is_bad n
step_of n None (Do e) = is_bad n
step_of n played Bad = is_bad n

pub record Outcome : Type 0 where
  pub text : List ℕ
  pub status : ℕ

abbrev pub with_text : List ℕ → Outcome → Outcome
with_text front o = record { text = front ++ o.text; status = o.status }

-- from a line on, by the number of the lines before it
abbrev pub outcome_from : ℕ → Next → List Line → Outcome
outcome_from n (over status) ls = record { text = []; status = status }
outcome_from n (on played) [] = record { text = []; status = 0 }
outcome_from n (on played) (l ∷ ls) =
    with_text (step_of (n + 1) played l).text (outcome_from (n + 1) (step_of (n + 1) played l).next ls)

abbrev pub outcome : List ℕ → Outcome
outcome script = outcome_from 0 (on None) (map line_of (lines_of script))

-- what a script prints
abbrev pub transcript : List ℕ → List ℕ
transcript script = (outcome script).text

-- and its status
abbrev pub status_of : List ℕ → ℕ
status_of script = (outcome script).status
