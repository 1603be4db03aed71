-- Calls of the places of a region are refused for memory alone.
use Rattle.std.specs.Prelude.{◌≡◌, List, None}
use Rattle.std.proofs.Common.{refl}
use Rattle.region.specs.declared.Rect.{Rect}
use Rattle.screen.specs.declared.Event.{Event}
use Rattle.screen.specs.State.{State, refusal}
use Rattle.c_screen.specs.declared.draw.RegionCall.{RegionCall}
use Rattle.c_screen.specs.declared.draw.RegionCall.TheVariants.{Mark, ScheduleCopy, DoCopy}
use Rattle.c_screen.specs.Places.{event_by}

pub free_places : (call : RegionCall) (places : List Rect) (e : Event) → e ≡ event_by call places → (s : State) → refusal s e ≡ None
free_places Mark places e is = λ s. rw is refl
free_places (ScheduleCopy dx dy) places e is = λ s. rw is refl
free_places (DoCopy dx dy) places e is = λ s. rw is refl
