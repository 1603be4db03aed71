-- What the header lines of a head say, each a name and a value (RFC 9110, 5.1 to 5.6).
use Rattle.std.specs.Prelude.{ℕ, ◌+◌, Bool, false, ◌&&◌, ◌||◌, List, [], ◌∷◌, if◌then◌else◌}
use Rattle.websocket.specs.Headers.{Fields, eq_ignore_case}
use Rattle.web_opening.specs.declared.text.Letters.{Letters}
use Rattle.web_opening.specs.Text.{has_element}

-- how many lines have the name
abbrev pub count_named : Fields → List ℕ → ℕ
count_named [] name = 0
count_named (field ∷ fields) name =
    if eq_ignore_case field.0 name then count_named fields name + 1 else count_named fields name

-- the line has the name, and the wanted text among the elements of its value
unfoldable pub is_listed_in : List ℕ × List ℕ → List ℕ → List ℕ → Letters → Bool
is_listed_in field name wanted letters = eq_ignore_case field.0 name && has_element field.1 wanted letters

-- a line of the name has the wanted text among its elements
abbrev pub lists : Fields → List ℕ → List ℕ → Letters → Bool
lists [] name wanted letters = false
lists (field ∷ fields) name wanted letters =
    is_listed_in field name wanted letters || lists fields name wanted letters
