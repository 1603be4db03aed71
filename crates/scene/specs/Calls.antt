-- The event that a drawing call is, and when it is refused.
use Rattle.std.specs.Prelude.{ℕ, [], ◌∷◌, Option, None}
use Rattle.scene.specs.Alone.{pixels_refusal, text_refusal, size_refusal}
use Rattle.scene.specs.declared.ScreenError.{ScreenError}
use Rattle.scene.specs.declared.Event.{Event}
use Rattle.scene.specs.declared.Event.TheVariants as events
use Rattle.scene.specs.declared.call.Drawing.{Drawing}
use Rattle.scene.specs.declared.call.Drawing.TheVariants.{Write, Paint, MarkRect, MarkRegion, ScheduleCopyRect, ScheduleCopyRegion, DoCopyRect, DoCopyRegion, Bell, CutText, NewFramebuffer}

abbrev pub event_of : Drawing → Event
event_of (Write rect colours) = events.Write rect colours.now
event_of (Paint rect colours) = events.Paint rect colours.now
event_of (MarkRect rect) = events.Mark (rect ∷ [])
event_of (MarkRegion region) = events.Mark region.now.list
event_of (ScheduleCopyRect rect dx dy) = events.ScheduleCopy (rect ∷ []) dx dy
event_of (ScheduleCopyRegion region dx dy) = events.ScheduleCopy region.now.list dx dy
event_of (DoCopyRect rect dx dy) = events.DoCopy (rect ∷ []) dx dy
event_of (DoCopyRegion region dx dy) = events.DoCopy region.now.list dx dy
event_of Bell = events.Bell
event_of (CutText text) = events.CutText text.now
event_of (NewFramebuffer width height) = events.Resize width height

-- why it is refused on a screen of so many columns and rows, if it is
abbrev pub call_refusal : ℕ → ℕ → Drawing → Option ScreenError
call_refusal width height (Write rect colours) = pixels_refusal width height rect colours.now
call_refusal width height (Paint rect colours) = pixels_refusal width height rect colours.now
call_refusal width height (CutText text) = text_refusal text.now
call_refusal width height (NewFramebuffer w h) = size_refusal w h
call_refusal width height _ = None
