-- The events that a screen keeps: those that were accepted, in order, without the cuts that gave nothing.
use Rattle.std.specs.Prelude.{◌≡◌, ℕ, Bool, if◌then◌else◌, ◌&&◌, List, [], ◌∷◌, ◌++◌, is_none}
use Rattle.scene.specs.declared.Config.{Config}
use Rattle.scene.specs.declared.Event.{Event}
use Rattle.scene.specs.declared.Event.TheVariants.{Connect, Cut}
use Rattle.scene.specs.declared.Answer.{Answer}
use Rattle.scene.specs.Alone.{owner_of, some_bytes}
use Rattle.scene.specs.Answers.{answer_to, is_drawing, scene_after}

-- whether something happened, by the answer: a cut that gave nothing changed nothing
abbrev pub has_happened : Event → Answer → Bool
has_happened (Cut v) a = is_none a.refused && some_bytes a.bytes
has_happened _ a = is_none a.refused

-- of events that come after others, those that happened
abbrev pub accepted_after : Config → List Event → List Event → List Event
accepted_after c before [] = []
accepted_after c before (e ∷ es) =
    let rest = accepted_after c (before ++ e ∷ []) es in
    if has_happened e (answer_to c before e) then e ∷ rest else rest

abbrev pub accepted : Config → List Event → List Event
accepted c es = accepted_after c [] es

-- of a list, the drawing calls
abbrev pub drawings : List Event → List Event
drawings [] = []
drawings (e ∷ es) = if is_drawing (owner_of e) then e ∷ drawings es else drawings es

-- and the numbers that connected
abbrev pub connects : List Event → List ℕ
connects [] = []
connects (Connect v ∷ es) = v ∷ connects es
connects (e ∷ es) = connects es

-- What is held stands for the events that happened: those that are left out changed nothing.
abbrev pub accepted_is_enough : Type 0
accepted_is_enough = (c : Config) (es : List Event) → scene_after c (accepted c es) ≡ scene_after c es

-- and they all happen when they come again
abbrev pub accepted_happens_again : Type 0
accepted_happens_again = (c : Config) (es : List Event) → accepted c (accepted c es) ≡ accepted c es
