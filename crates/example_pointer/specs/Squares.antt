-- Where inputs put the square, and on how large a screen.
use Rattle.std.specs.Prelude.{ℕ, ◌-◌, ◌*◌, ◌/◌, min, nat_le, ◌==◌, true, false, if◌then◌else◌, List, [], ◌∷◌}
use Rattle.messages.specs.declared.Input.{Input}
use Rattle.messages.specs.declared.Input.TheVariants.{Key, Pointer, Text}
use Rattle.input_queue.specs.declared.Told.{Told}
use Rattle.example_pointer.specs.declared.square.Square.{Square}

-- with its corner at a place of a screen, or as far from it as keeps the square on the screen
abbrev pub placed : ℕ → ℕ → ℕ → ℕ → Square
placed width height x y = record { width = width; height = height; x = min x (width - 2); y = min y (height - 2) }

-- in the left upper corner of the first screen
abbrev pub first : Square
first = placed 12 6 0 0

-- on a screen of twice the columns and rows, and of half, as far as screens go here
abbrev pub doubled : Square → Square
doubled s = if nat_le 768 s.width then s else placed (min (s.width * 2) 65535) (min (s.height * 2) 65535) s.x s.y

abbrev pub halved : Square → Square
halved s = if nat_le s.width 12 then s else placed (s.width / 2) (s.height / 2) s.x s.y

-- the keys + and -, as keysyms of X11 (RFC 6143, 7.5.4)
abbrev pub by_key : Square → ℕ → Square
by_key s key = if key == 0x2b then doubled s else (if key == 0x2d then halved s else s)

-- It goes to where the pointer is, and keys that go down change the screen.
abbrev pub moved : Square → Input → Square
moved s (Pointer mask x y) = placed s.width s.height x y
moved s (Key true key) = by_key s key
moved s (Key false key) = s
moved s (Text text shortened) = s

abbrev pub moved_by : Square → List Told → Square
moved_by s [] = s
moved_by s (t ∷ told) = moved_by (moved s t.input) told
