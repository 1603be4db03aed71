-- What holds of the answers.
use Rattle.std.specs.Prelude.{◌≡◌, ℕ, true, ◌==◌, if◌then◌else◌, List, [], ◌∷◌, Option, Some, None}
use Rattle.scene.specs.declared.Config.{Config}
use Rattle.scene.specs.declared.Event.{Event}
use Rattle.scene.specs.declared.Answer.{Answer}
use Rattle.std.specs.List.{list_all}
use Rattle.scene.specs.Alone.{owner_of, alone}
use Rattle.scene.specs.Answers.{own, is_owner, answers}

abbrev pub answer_for : ℕ → Option ℕ → Answer → List Answer → List Answer
answer_for v None a rest = rest
answer_for v (Some n) a rest = if n == v then a ∷ rest else rest

-- of answers to a list of events, those to a viewer's own
abbrev pub answers_for : ℕ → List Event → List Answer → List Answer
answers_for v [] given = []
answers_for v (e ∷ es) [] = []
answers_for v (e ∷ es) (a ∷ given) = answer_for v (owner_of e) a (answers_for v es given)

-- Two lists that agree in the drawing calls and in a viewer's own events give that viewer the same answers.
abbrev pub told_alike : Type 0
told_alike = (c : Config) (v : ℕ) (es fs : List Event) → own v es ≡ own v fs → answers_for v es (answers c es) ≡ answers_for v fs (answers c fs)

-- A list of drawing calls and one viewer's own events is answered as the machine with one viewer answers it.
abbrev pub one_viewer_is_alone : Type 0
one_viewer_is_alone = (c : Config) (v : ℕ) (es : List Event) → list_all (λ e. is_owner v (owner_of e)) es ≡ true → answers c es ≡ alone c es
