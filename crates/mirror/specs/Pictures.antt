-- A source whose picture comes: what it is asked, and what is drawn of it.
use Rattle.std.specs.Prelude.{◌≡◌, ℕ, Bool, true, false, ◌&&◌, if◌then◌else◌, List, [], None, Result, OnOk}
use Rattle.screen.specs.declared.Config.{Config}
use Rattle.screen.specs.declared.Event.{Event}
use Rattle.screen.specs.Alone.{config_refusal}
use Rattle.screen.specs.State.{State, state}
use Rattle.source_talk.specs.Requests.{format_message, encodings_message, listed_by, request_message}
use Rattle.source_talk.specs.Outbox.{Waiting, put, has_room, most_waiting}
use Rattle.server_reader.specs.declared.stage.Size.{Size}
use Rattle.source_picture.specs.Mirroring.{begun, IsShare, GoesOnMirroring}
use Rattle.source_picture.specs.declared.source.Request.{Request}
use Rattle.source_picture.specs.declared.source.Request.TheVariants as request
use Rattle.mirror.specs.declared.source.Stage.{Stage}
use Rattle.mirror.specs.declared.source.Stage.TheVariants as stage

-- nothing of a picture of this size came
abbrev pub stage_begun : (width height : ℕ) → Stage
stage_begun width height = stage.Picture (begun width height)

-- 7.5.1, 7.5.2: what is said first: the format of pixels, and the encodings
abbrev pub first_put : (raw : Bool) → Waiting → Waiting
first_put raw waiting = put most_waiting (encodings_message (listed_by raw)) (put most_waiting format_message waiting)

-- 7.5.3: whether something is to be requested
abbrev pub is_wanted : Request → Bool
is_wanted request.None = false
is_wanted _ = true

-- what is requested waits, where it finds room
abbrev pub out_with : Request → Size → Waiting → Waiting
out_with request.None size waiting = waiting
out_with request.Changes size waiting = if has_room most_waiting 10 waiting then put most_waiting (request_message true size.width size.height) waiting else waiting
out_with request.All size waiting = if has_room most_waiting 10 waiting then put most_waiting (request_message false size.width size.height) waiting else waiting

abbrev pub out_asked : Stage → Waiting → Waiting
out_asked (stage.Picture picture) waiting = out_with picture.asking.request picture.reader.state.size waiting
out_asked _ waiting = waiting

-- what found room is requested no more
abbrev pub stage_asked : Stage → Waiting → Stage
stage_asked (stage.Picture picture) waiting =
    if is_wanted picture.asking.request && has_room most_waiting 10 waiting
    then stage.Picture (record picture { asking = record picture.asking { request = request.None } }) else stage.Picture picture
stage_asked s waiting = s

-- The bytes that came are drawn, up to a share of work, in order and once: what the picture mirrored, it mirrors with these behind it. The others
-- are left.
abbrev pub DrawsBytes : {X E : Type 0} → Stage → List ℕ → Stage → (left : List ℕ) → Result X E → (old new : State) → Type 0
DrawsBytes (stage.Picture before) bytes (stage.Picture after) left result old new =
    OnOk result (IsShare before bytes after left)
    × ((config : Config) (list : List Event) → config_refusal config ≡ None → old ≡ state config list → OnOk result (GoesOnMirroring config list before bytes after left old new))
DrawsBytes (stage.Picture before) bytes _ left result old new = OnOk result ⊥
DrawsBytes _ bytes after left result old new = Unit {0}
