-- What a contract sees of the viewers of a screen.
use Rattle.std.specs.Prelude.{◌≡◌, ℕ, zero, suc, ◌==◌, nat_eq, if◌then◌else◌, List, [], ◌∷◌, map, length, Option, Some, None, refl, slice_get}
use Rattle.std.specs.List.{Contains, IsDistinct}
use Rattle.std.specs.Map.{keys_of, lookup}
use Rattle.std.specs.Option.{option_map}
use Rattle.std.specs.Coded.{Coded, code_by, coded×, coded_ℕ, coded_list}

-- the viewers' pairs of number and value in order of connecting, and their positions in the same order
pub record Connected (T : Type 0) : Type 0 where
  pub pairs : List (ℕ × T)
  pub positions : List ℕ

-- they are stored as the two lists
abbrev pub connected_code : {T : Type 0} → Coded T → Coded (Connected T)
connected_code {T} code =
    code_by
    (List (ℕ × T) × List ℕ)
    (coded× (coded_list (coded× coded_ℕ code)) (coded_list coded_ℕ))
    (λ c. (c.pairs, c.positions))
    (λ p. record { pairs = p.0; positions = p.1 })
    (λ _. refl)

-- where x comes first in a list; the list's length where it doesn't come
abbrev pub index_of : (list : List ℕ) → (x : ℕ) → ℕ
index_of [] x = 0
index_of (y ∷ ys) x = if y == x then 0 else suc (index_of ys x)

module _ {T : Type 0} where
  -- there are as many positions as pairs, and no number and no position comes twice
  pub record IsListed (c : Connected T) : Type 0 where
    pub as_many : length c.pairs ≡ length c.positions
    pub numbers : IsDistinct nat_eq (keys_of c.pairs)
    pub positions : IsDistinct nat_eq c.positions

  -- the pair with an index has w as its value
  abbrev pub set_value_at : List (ℕ × T) → ℕ → T → List (ℕ × T)
  set_value_at [] i w = []
  set_value_at (pair ∷ rest) zero w = (pair.0, w) ∷ rest
  set_value_at (pair ∷ rest) (suc i) w = pair ∷ set_value_at rest i w

  -- the viewer with an index has w as its value; all else is as it was
  abbrev pub with_value : Connected T → ℕ → T → Connected T
  with_value c i w = record c { pairs = set_value_at c.pairs i w }

  module _ (c : Connected T) where
    -- the value of the viewer with a number, if there is one
    abbrev pub value_of : ℕ → Option T
    value_of number = lookup (λ n. n == number) c.pairs

    -- the index of the viewer with a number
    abbrev pub index_of_number : ℕ → ℕ
    index_of_number number = index_of (keys_of c.pairs) number

    -- a position is a viewer's
    abbrev pub IsPosition : ℕ → Type 0
    IsPosition position = Contains c.positions position

    -- the pair of the viewer at a position
    abbrev pub pair_at : ℕ → Option (ℕ × T)
    pair_at position = slice_get c.pairs (index_of c.positions position)

    abbrev pub number_at : ℕ → Option ℕ
    number_at position = option_map (λ pair. pair.0) (pair_at position)

    abbrev pub value_at : ℕ → Option T
    value_at position = option_map (λ pair. pair.1) (pair_at position)

    -- a position is that of the viewer with a number
    abbrev pub IsPositionOf : ℕ → ℕ → Type 0
    IsPositionOf number position = IsPosition position × (index_of c.positions position ≡ index_of_number number) × (number_at position ≡ Some number)

    -- how many viewers a walk that has come to a position has passed; all of them where it has come to none
    abbrev pub passed : Option ℕ → ℕ
    passed None = length c.positions
    passed (Some position) = index_of c.positions position

  -- the pairs, each value changed by f
  abbrev pub changed : (T → T) → List (ℕ × T) → List (ℕ × T)
  changed f pairs = map (λ pair. (pair.0, f pair.1)) pairs
