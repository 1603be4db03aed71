-- What a history says of one viewer.
use Rattle.std.specs.Prelude.{ℕ, ◌==◌, Bool, false, if◌then◌else◌, List, flat_map, Option, Some, None}
use Rattle.std.specs.List.{filter_map, count_by}
use Rattle.scene.specs.declared.Config.{Config}
use Rattle.scene.specs.declared.Event.{Event}
use Rattle.scene.specs.declared.Event.TheVariants.{Hear, Cut}
use Rattle.scene.specs.Alone.{alone}
use Rattle.scene.specs.Answers.{own}

-- the piece that an event lets the server hear of a viewer
abbrev pub piece_of : ℕ → Event → Option (List ℕ)
piece_of v (Hear n piece) = if n == v then Some piece else None
piece_of v _ = None

abbrev pub pieces_of : ℕ → List Event → List (List ℕ)
pieces_of v es = filter_map (piece_of v) es

-- all bytes that were heard of it
abbrev pub heard_of : ℕ → List Event → List ℕ
heard_of v es = flat_map (λ piece. piece) (pieces_of v es)

abbrev pub is_cut_of : ℕ → Event → Bool
is_cut_of v (Cut n) = n == v
is_cut_of v _ = false

-- how many updates were cut for it
abbrev pub cuts_of : ℕ → List Event → ℕ
cuts_of v es = count_by (is_cut_of v) es

-- the bytes that it is to be sent: those that the screen with this one viewer gives for the drawing calls and the viewer's own events
abbrev pub bytes_of : Config → ℕ → List Event → List ℕ
bytes_of c v es = flat_map (λ a. a.bytes) (alone c (own v es))
