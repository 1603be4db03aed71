-- What a contract sees of lists of spans.
use Rattle.std.specs.Prelude.{◌≡◌, ◌≢◌, ℕ, nat_eq, List, [], ◌∷◌, ◌++◌, Option, Some, None, IsSome, slice_index_or}
use Rattle.std.specs.List.{Contains, IsDistinct}
use Rattle.std.specs.Option.{option_map_or}
use Rattle.span_arena.specs.declared.Span.{Span}

-- the list or none at each id, as its spans' ids in order; the span or none at each id; and how many more lists and spans fit
-- with no allocation
pub record Arena : Type 0 where
  pub lists : List (Option (List ℕ))
  pub spans : List (Option Span)
  pub spare : ℕ

-- the last of a list, and of one that begins with `first`
abbrev pub last_from : ℕ → List ℕ → ℕ
last_from first [] = first
last_from first (next ∷ rest) = last_from next rest

abbrev pub last_in : List ℕ → Option ℕ
last_in [] = None
last_in (first ∷ rest) = Some (last_from first rest)

module _ (arena : Arena) where
  -- the list with an id, as its spans' ids in order; None where no list has the id
  abbrev pub list_of : ℕ → Option (List ℕ)
  list_of list = slice_index_or arena.lists list None

  -- the same; none where no list has the id
  abbrev pub ids_of : ℕ → List ℕ
  ids_of list = option_map_or (λ ids. ids) (list_of list) []

  -- the span with an id; None where no span has it
  abbrev pub span_of : ℕ → Option Span
  span_of at = slice_index_or arena.spans at None

  -- the list with an id has the span's id
  abbrev pub IsIn : ℕ → ℕ → Type 0
  IsIn list at = (front : List ℕ) × (back : List ℕ) × (list_of list ≡ Some (front ++ at ∷ back))

  -- each id in a list is a span's, and is in that list alone, and there once; and each span's id is in a list
  pub record IsSound : Type 0 where
    pub live : (list at : ℕ) → IsIn list at → IsSome (span_of at)
    pub once : (list : ℕ) (ids : List ℕ) → list_of list ≡ Some ids → IsDistinct nat_eq ids
    pub alone : (list other at : ℕ) → IsIn list at → IsIn other at → list ≡ other
    pub listed : (at : ℕ) → IsSome (span_of at) → (list : ℕ) × IsIn list at

module _ (old new : Arena) where
  -- the list with an id is another, or none, and every other list is as it was
  pub record SetsList (list : ℕ) (ids : Option (List ℕ)) : Type 0 where
    pub set : list_of new list ≡ ids
    pub others : (other : ℕ) → other ≢ list → list_of new other ≡ list_of old other

  -- the span with an id is another, or none, and every other span is as it was
  pub record SetsSpan (at : ℕ) (span : Option Span) : Type 0 where
    pub set : span_of new at ≡ span
    pub others : (other : ℕ) → other ≢ at → span_of new other ≡ span_of old other

  -- every list is as it was
  abbrev pub SameLists : Type 0
  SameLists = (list : ℕ) → list_of new list ≡ list_of old list

  -- every span is as it was
  abbrev pub SameSpans : Type 0
  SameSpans = (at : ℕ) → span_of new at ≡ span_of old at

  -- the spans with these ids are gone, and every other span is as it was
  pub record SpansGone (ids : List ℕ) : Type 0 where
    pub gone : (at : ℕ) → Contains ids at → span_of new at ≡ None
    pub others : (at : ℕ) → (Contains ids at → ⊥) → span_of new at ≡ span_of old at
