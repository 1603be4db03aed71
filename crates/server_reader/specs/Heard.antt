-- What steps tell besides what they show: bells, texts and the ends of updates.
use Rattle.std.specs.Prelude.{◌≡◌, ℕ, zero, suc, ◌==◌, Bool, true, false, if◌then◌else◌, List, slice_index}
use Rattle.pixel_translate.specs.Pixel.{be32_at}
use Rattle.server_reader.specs.declared.step.Step.{Step}
use Rattle.server_reader.specs.declared.step.Step.TheVariants as step
use Rattle.server_reader.specs.declared.stage.Stage.{Stage}
use Rattle.server_reader.specs.declared.stage.Stage.TheVariants as stage

-- 7.6.3, 7.6.4: the step of a message's head, by its type
abbrev pub head_step : (head : List ℕ) → Step
head_step head = if slice_index head 0 == 2 then step.Bell else (if slice_index head 0 == 3 then step.TextBegins (be32_at head 4) else step.Head)

-- neither a bell, nor of a text, nor the end of an update
abbrev pub is_quiet : Step → Bool
is_quiet step.Bell = false
is_quiet (step.TextBegins long) = false
is_quiet (step.Text bytes) = false
is_quiet step.UpdateEnd = false
is_quiet _ = true

-- the step of a group, by the stage
abbrev pub HearsAt : Stage → (group : List ℕ) → Step → Type 0
HearsAt stage.Message head done = done ≡ head_step head
HearsAt stage.UpdateEnd group done = done ≡ step.UpdateEnd
HearsAt _ group done = is_quiet done ≡ true

-- bytes of a text are its bytes; where none are to come, the step is a group's
abbrev pub Hears : (text : ℕ) → Stage → (group front : List ℕ) → Step → Type 0
Hears zero at group front done = HearsAt at group done
Hears (suc n) at group front (step.Text bytes) = bytes.now ≡ front
Hears (suc n) at group front _ = ⊥
