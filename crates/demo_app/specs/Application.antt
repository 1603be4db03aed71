-- What an input has the application of `serve` draw.
use Rattle.std.specs.Prelude.{ℕ, ◌≡◌, ◌+◌, nat_lt, ◌==◌, ◌&&◌, bit_and, Bool, true, false, if◌then◌else◌, pos, List, [], ◌∷◌, take, map, codes, Option, Some, None, option_map, is_none, IfSome, ◌⊎◌}
use Rattle.std.specs.Global.{Vec}
use Rattle.std.specs.List.{flat_map}
use Rattle.std.specs.Option.{option_to_list}
use Rattle.region.specs.declared.Rect.{Rect}
use Rattle.messages.specs.declared.Input.{Input}
use Rattle.messages.specs.declared.Input.TheVariants as input
use Rattle.screen.specs.declared.Event.{Event}
use Rattle.screen.specs.declared.Event.TheVariants as event
use Rattle.receipts.specs.declared.Receipt.{Receipt}
use Rattle.connections.specs.Telling.{Told, inputs_told, receipts_in}
use Rattle.demo_app.specs.declared.serve.Easel.{Easel}
use Rattle.demo_app.specs.declared.serve.Stroke.{Stroke}
use Rattle.demo_app.specs.declared.serve.Stroke.TheVariants.{Place, Bell, Text}

abbrev pub white : ℕ
white = 0xff_ffff

-- the place of a pointer whose first button is down, where that is on the screen
abbrev pub painted : (width height mask x y : ℕ) → Option Rect
painted w h mask x y = if (bit_and mask 1 == 1) && (nat_lt x w && nat_lt y h) then Some (record { x1 = pos x; y1 = pos y; x2 = pos (x + 1); y2 = pos (y + 1) }) else None

-- A pointer paints its place, a key that goes down rings the bell, and a text is sent back, its first 65,536 bytes.
abbrev pub event_for : ℕ → ℕ → Input → Option Event
event_for w h (input.Pointer mask x y) = option_map (λ rect. event.Paint rect (white ∷ [])) (painted w h mask x y)
event_for w h (input.Key true key) = Some event.Bell
event_for w h (input.Key false key) = None
event_for w h (input.Text text shortened) = Some (event.CutText (take 65536 text))

-- the drawing call that a stroke is
abbrev pub stroke_event : Stroke → Event
stroke_event (Place rect) = event.Paint rect (white ∷ [])
stroke_event Bell = event.Bell
stroke_event (Text text) = event.CutText text.now

-- the calls that are kept, where they are
abbrev pub kept_in : Option (Vec Event) → Option (List Event)
kept_in drawn = option_map (λ v. v.items) drawn

-- the drawing call of an input, if it has one
abbrev pub drawn_for : (width height : ℕ) → Input → List Event
drawn_for w h input = option_to_list (event_for w h input)

-- the drawing calls of inputs, in order
abbrev pub drawn_by : (width height : ℕ) → List Input → List Event
drawn_by w h inputs = flat_map (drawn_for w h) inputs

-- what viewers said, whoever said it
abbrev pub said : List (ℕ × Input) → List Input
said inputs = map (λ i. i.1) inputs

-- The application of one thread draws on a screen of so many columns and rows, and was told these inputs: the drawing calls that it keeps, if any, are those of these inputs.
pub record WasTold (w h : ℕ) (easel : Easel) (drawn : Option (Vec Event)) (inputs : List (ℕ × Input)) : Type 0 where
  pub wide : easel.width ≡ w
  pub high : easel.height ≡ h
  pub kept : IfSome (kept_in drawn) (λ events. events ≡ drawn_by w h (said inputs))

-- the receipts that are kept of those that are told: none where viewers are taken without end, else all
abbrev pub receipts_kept : Bool → List Told → List Receipt
receipts_kept true told = []
receipts_kept false told = receipts_in told

-- The same application was told these inputs and receipts: it drew what it was to, and kept the receipts that it was to. It has a number of viewers to wait for unless they are taken without end.
pub record KeepsTold (w h : ℕ) (forever : Bool) (easel : Easel) (drawn : Option (Vec Event)) (viewers : Option ℕ) (receipts : List Receipt) (told : List Told) : Type 0 where
  pub drew : WasTold w h easel drawn (inputs_told told)
  pub ends : is_none viewers ≡ forever
  pub kept : receipts ≡ receipts_kept forever told

-- the drawing calls of the stored run of `self`
abbrev pub own_calls : List Event
own_calls =
    event.Paint (record { x1 = pos 0; y1 = pos 0; x2 = pos 4; y2 = pos 1 }) (1 ∷ 2 ∷ 3 ∷ 4 ∷ [])
    ∷ event.DoCopy (record { x1 = pos 1; y1 = pos 0; x2 = pos 4; y2 = pos 1 } ∷ []) (pos 1) (pos 0)
    ∷ event.CutText (codes "end") ∷ []

-- The application of `self --one-thread` was told these inputs and receipts: it kept the receipts, and drew the stored run, or nothing yet.
pub record KeepsOwn (drawn : List Event) (receipts : List Receipt) (told : List Told) : Type 0 where
  pub drew : (drawn ≡ []) ⊎ (drawn ≡ own_calls)
  pub kept : receipts ≡ receipts_in told
