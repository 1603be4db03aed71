-- What a viewer shows, by RFC 6143 alone: from what it says itself and what it is answered, since it connected.
use Rattle.std.specs.Prelude.{ℕ, Bool, true, false, ◌&&◌, ◌==◌, nat_lt, if◌then◌else◌, List, [], ◌∷◌, ◌++◌, Option, None, Some, option_map}
use Rattle.pixel_translate.specs.declared.Area.{Area}
use Rattle.pixel_translate.specs.Pixel.{server_format}
use Rattle.encode_raw.specs.Reading.{◌>>=◌, Shown, is_inside}
use Rattle.messages.specs.declared.Item.{Item}
use Rattle.messages.specs.declared.Item.TheVariants as item
use Rattle.messages.specs.declared.Phase.{Phase}
use Rattle.messages.specs.declared.Phase.TheVariants as phase
use Rattle.messages.specs.Grammar.{after}
use Rattle.messages.specs.Reading.{is_version, heard, new_items}
use Rattle.viewer_picture.specs.Messages.{Agreed, ColourMap, nothing_mapped, nothing_shown, messages_at}
use Rattle.viewer_picture.specs.Encodings.{taken}
use Rattle.viewer_picture.specs.Opening.{security_at, result_at, init_at}
use Rattle.scene.specs.declared.Event.{Event}
use Rattle.scene.specs.declared.Event.TheVariants.{Connect, Hear, Cut}
use Rattle.scene.specs.declared.Answer.{Answer}
use Rattle.scene.specs.Alone.{owner_of}

-- A viewer: its bytes so far, whether all that it was sent could be read, what it goes by where it reads an update (the
-- picture's size as it was told last, the format of pixels, and of the encodings that it listed those that the server takes), what it
-- shows, and its colour map.
pub record Watching : Type 0 where
  pub said : List ℕ
  pub legal : Bool
  pub agreed : Agreed
  pub shown : Shown
  pub colours : ColourMap

-- before it is sent anything
abbrev pub at_first : Watching
at_first = record { said = []; legal = true; agreed = record { width = 0; height = 0; format = server_format; listed = [] }; shown = nothing_shown; colours = nothing_mapped }

-- 7.1.1: at connecting the server says a version
abbrev pub after_version : List ℕ → Watching
after_version bytes = record at_first { legal = is_version bytes }

-- 7.5.3: what the viewer asks for anew, of its picture, it shows no more
abbrev pub forgotten : Area → Watching → Watching
forgotten a s = record s { shown = λ x y. if is_inside a x y && nat_lt x s.agreed.width && nat_lt y s.agreed.height then None else s.shown x y }

-- 7.1 to 7.5: what an item does that the viewer says, and the bytes that answer it
abbrev pub item_at : Phase → Item → Watching → List ℕ → Option (Watching × List ℕ)
item_at p (item.Version v) s bytes = do
  more ← security_at v bytes
  Some (s, more)
item_at (phase.Choice v) item.Choice s bytes = do
  more ← result_at v bytes
  Some (s, more)
item_at p (item.Init shared) s bytes = do
  init ← init_at bytes
  Some (record s { agreed = record s.agreed { width = init.0.width; height = init.0.height; format = init.0.format } }, init.1)
item_at p (item.Format f) s bytes = Some (record s { agreed = record s.agreed { format = f } }, bytes)
item_at p (item.Encodings preferred copyrect resize) s bytes = Some (record s { agreed = record s.agreed { listed = taken preferred copyrect resize } }, bytes)
item_at p (item.Request false area) s bytes = Some (forgotten area s, bytes)
item_at p _ s bytes = Some (s, bytes)

-- one after the other, where the conversation stands
abbrev pub items_at : Phase → List Item → Watching → List ℕ → Option (Watching × List ℕ)
items_at p [] s bytes = Some (s, bytes)
items_at p (i ∷ items) s bytes = do
  first ← item_at p i s bytes
  items_at (after p i) items first.0 first.1

-- with no byte left
abbrev pub all_read : Watching × List ℕ → Option Watching
all_read (s, []) = Some s
all_read (s, b ∷ bytes) = None

-- from bytes on that can't be read nothing is shown, and no colour map is there
abbrev pub or_nothing : Watching → Option Watching → Watching
or_nothing s None = record s { legal = false; shown = nothing_shown; colours = nothing_mapped }
or_nothing s (Some t) = t

abbrev pub reading_on : Watching → Option Watching → Watching
reading_on s read = if s.legal then or_nothing s read else s

-- a piece of the viewer's bytes, and the bytes that answer it
abbrev pub after_piece : List ℕ → List ℕ → Watching → Watching
after_piece piece bytes s =
    let t = record s { said = s.said ++ piece } in
    reading_on t (items_at (heard s.said).phase (new_items s.said piece) t bytes >>= all_read)

-- the bytes of a sending step
abbrev pub after_messages : List ℕ → Watching → Watching
after_messages bytes s = reading_on s (option_map (λ d. record s { agreed = d.agreed; shown = d.shown; colours = d.colours })
    (messages_at (record { agreed = s.agreed; shown = s.shown; colours = s.colours }) bytes))

-- an event of the viewer, and what it was answered
abbrev pub watched : Event → Answer → Watching → Watching
watched (Connect n) a s = after_version a.bytes
watched (Hear n piece) a s = after_piece piece a.bytes s
watched (Cut n) a s = after_messages a.bytes s
watched _ a s = s

-- what is refused changes nothing
abbrev pub watched_unless_refused : Event → Answer → Watching → Watching
watched_unless_refused e a s = elim a.refused [ None ↦ watched e a s | Some refusal ↦ s ]

abbrev pub is_its : ℕ → Option ℕ → Bool
is_its v None = false
is_its v (Some n) = n == v

-- a list of events and their answers: those of the viewer's own
abbrev pub watching : ℕ → List Event → List Answer → Watching → Watching
watching v [] given s = s
watching v (e ∷ es) [] s = s
watching v (e ∷ es) (a ∷ given) s = watching v es given (if is_its v (owner_of e) then watched_unless_refused e a s else s)

-- what a viewer shows after them
abbrev pub shown_to : ℕ → List Event → List Answer → Shown
shown_to v es given = (watching v es given at_first).shown
