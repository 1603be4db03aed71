-- Sets of keys, in the order in which they came.
use Rattle.std.specs.Prelude.{◌≡◌, ◌<◌, ℕ, Bool, false, not, ◌==◌, if◌then◌else◌, List, [], ◌∷◌, ◌++◌, length, slice_index_or}
use Rattle.std.specs.List.{list_any, filter}

-- whether a key is one of a list
abbrev pub is_among : ℕ → List ℕ → Bool
is_among key keys = list_any (λ k. k == key) keys

-- a list with a key at its end, unless it is there
abbrev pub with_key : ℕ → List ℕ → List ℕ
with_key key keys = if is_among key keys then keys else keys ++ key ∷ []

-- a list without a key
abbrev pub without_key : ℕ → List ℕ → List ℕ
without_key key keys = filter (λ k. not (k == key)) keys

-- each key of a list is there once
abbrev pub AreApart : List ℕ → Type 0
AreApart [] = Unit {0}
AreApart (key ∷ keys) = (is_among key keys ≡ false) × AreApart keys

-- the flags that are up are those of the keys of a list, and each of these is there once
pub record IsFlagged (up : List Bool) (keys : List ℕ) : Type 0 where
  pub flags : (key : ℕ) → slice_index_or up key false ≡ is_among key keys
  pub apart : AreApart keys

-- a set of keys
pub record Keys : Type 0 where
  pub list : List ℕ
  -- for how many there is room
  pub room : ℕ
  -- which have room: those below it
  pub top : ℕ

-- a key has room
abbrev pub HasRoom : ℕ → Keys → Type 0
HasRoom key keys = (length keys.list < keys.room) × (key < keys.top)
