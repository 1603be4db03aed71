-- What contracts see of what a viewer holds down (RFC 6143, 7.5.4 and 7.5.5).
use Rattle.std.specs.Prelude.{◌≡◌, ℕ, Bool, true, false, ◌==◌, if◌then◌else◌, List, [], ◌∷◌, ◌++◌, length, drop, slice_index, Option, Some, None}
use Rattle.std.specs.Option.{option_map_or}
use Rattle.std.specs.List.{list_any, position, remove}
use Rattle.messages.specs.declared.Input.{Input}
use Rattle.messages.specs.declared.Input.TheVariants as input
use Rattle.held_inputs.specs.declared.Change.{Change}
use Rattle.held_inputs.specs.declared.Change.TheVariants as change

-- keys that are down, the earliest first; the buttons that are, a bit each; and where the pointer is
pub record Held : Type 0 where
  pub keys : List ℕ
  pub mask : ℕ
  pub x : ℕ
  pub y : ℕ

abbrev pub nothing : Held
nothing = record { keys = []; mask = 0; x = 0; y = 0 }

abbrev pub is_among : ℕ → List ℕ → Bool
is_among key keys = list_any (λ k. k == key) keys

-- of 512 keys the earliest is forgotten where another may go down
abbrev pub latest : List ℕ → List ℕ
latest keys = if length keys == 512 then drop 1 keys else keys

-- the release of that one
abbrev pub room_release : List ℕ → Option Input
room_release keys = if length keys == 512 then Some (input.Key false (slice_index keys 0)) else None

-- another key may go down
abbrev pub roomy : Held → Held
roomy held = record held { keys = latest held.keys }

-- the keys that are down once one went down
abbrev pub pressed : ℕ → List ℕ → List ℕ
pressed key keys = if is_among key keys then keys else latest keys ++ key ∷ []

-- once one went up
abbrev pub lifted : ℕ → List ℕ → List ℕ
lifted key keys = option_map_or (λ place. remove keys place) (position (λ k. k == key) keys) keys

abbrev pub changed : Held → Change → Held
changed held (change.Key true key) = record held { keys = pressed key held.keys }
changed held (change.Key false key) = record held { keys = lifted key held.keys }
changed held (change.Pointer mask x y) = record held { mask = mask; x = x; y = y }
changed held change.None = held

-- what an input changes
abbrev pub change_of : Input → Change
change_of (input.Key down key) = change.Key down key
change_of (input.Pointer mask x y) = change.Pointer mask x y
change_of (input.Text text shortened) = change.None

-- what is held behind an input
abbrev pub after : Held → Input → Held
after held i = changed held (change_of i)

-- nothing is down, and the pointer is where it was
abbrev pub let_go : Held → Held
let_go held = record nothing { x = held.x; y = held.y }

-- the first key that is down and not held
abbrev pub missing : List ℕ → List ℕ → Option ℕ
missing [] held = None
missing (key ∷ keys) held = if is_among key held then missing keys held else Some key

abbrev pub owed_buttons : Held → Held → Option Input
owed_buttons down held = if down.mask == held.mask then None else Some (input.Pointer held.mask held.x held.y)

-- What is to be told first to whom these are down, so that he knows what is held: the release of a key that isn't held, or else the pointer, where other buttons are down.
abbrev pub owed_with : Option ℕ → Held → Held → Option Input
owed_with (Some key) down held = Some (input.Key false key)
owed_with None down held = owed_buttons down held

abbrev pub owed : Held → Held → Option Input
owed down held = owed_with (missing down.keys held.keys) down held

-- no key is down that isn't held, and the buttons are the same
abbrev pub HoldsNoMore : Held → Held → Type 0
HoldsNoMore down held = ((key : ℕ) → is_among key down.keys ≡ true → is_among key held.keys ≡ true) × (down.mask ≡ held.mask)
