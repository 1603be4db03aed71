-- What holds of lines and of what is printed.
use Rattle.std.specs.Prelude.{◌≡◌, ℕ, ◌<◌, ◌^◌, List, [], ◌∷◌, ◌++◌, map, Some, None}
use Rattle.std.specs.List.{AllByRecursion}
use Rattle.std.specs.Fmt.{decimal}
use Rattle.screen.specs.declared.Config.{Config}
use Rattle.screen.specs.declared.Event.{Event}
use Rattle.screen.specs.declared.Answer.{Answer}
use Rattle.screen.specs.Alone.{config_refusal}
use Rattle.screen.specs.Answers.{answers}
use Rattle.play_script.specs.declared.lines.Line.TheVariants.{Start, Do}
use Rattle.play_script.specs.Words.{viewer_number, hex_bytes}
use Rattle.play_script.specs.Texts.{hex_word, ok, text_of}
use Rattle.play_script.specs.Transcript.{on, outcome_from}

-- bytes that are printed are those that the word spells
abbrev pub bytes_are_read : Type 0
bytes_are_read = (bytes : List ℕ) → AllByRecursion (λ b. b < 256) bytes → hex_bytes (hex_word bytes) ≡ Some bytes

-- a viewer's number that is printed is the one that the word spells
abbrev pub viewers_are_read : Type 0
viewers_are_read = (viewer : ℕ) → viewer < 2 ^ 64 → viewer_number (decimal viewer) ≡ Some viewer

abbrev pub texts_of : List Event → List Answer → List ℕ
texts_of [] given = []
texts_of (e ∷ es) [] = []
texts_of (e ∷ es) (a ∷ given) = text_of e a ++ texts_of es given

-- where the lines are a screen that is not refused and then events, each event's answer is printed
abbrev pub events_are_answered : Type 0
events_are_answered = (n : ℕ) (c : Config) (es : List Event) → config_refusal c ≡ None
    → outcome_from n (on None) (Start c ∷ map (λ e. Do e) es) ≡ record { text = ok ++ texts_of es (answers c es); status = 0 }
