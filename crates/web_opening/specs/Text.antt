-- Texts in bytes: without the case of letters, and as elements of a list with commas (RFC 9110, 5.6.1).
use Rattle.std.specs.Prelude.{ℕ, Bool, ◌&&◌, ◌||◌, ◌==◌, nat_le, List, [], ◌∷◌, ◌++◌, length, take, drop, bytes_eq, if◌then◌else◌}
use Rattle.httparse.specs.Grammar.{skip_ows}
use Rattle.websocket.specs.Headers.{eq_ignore_case}
use Rattle.web_opening.specs.declared.text.Letters.{Letters}
use Rattle.web_opening.specs.declared.text.Letters.TheVariants.{AnyCase, Exact}

-- the text begins with the other, but for the case of letters
abbrev pub begins_with : List ℕ → List ℕ → Bool
begins_with text beginning =
    nat_le (length beginning) (length text) && eq_ignore_case (take (length beginning) text) beginning

-- the two texts are equal, in any case of letters or in their own
abbrev pub is_same_text : Letters → List ℕ → List ℕ → Bool
is_same_text AnyCase a b = eq_ignore_case a b
is_same_text Exact a b = bytes_eq a b

-- the text begins with the wanted one, and then has only spaces and tabs
abbrev pub is_before_white_space : List ℕ → List ℕ → Letters → Bool
is_before_white_space text wanted letters =
    nat_le (length wanted) (length text) && is_same_text letters (take (length wanted) text) wanted
    && length (skip_ows (drop (length wanted) text)) == 0

-- the piece is the wanted text, with spaces and tabs around it or none
unfoldable pub is_element : List ℕ → List ℕ → Letters → Bool
is_element piece wanted letters = is_before_white_space (skip_ows piece) wanted letters

-- b','
abbrev pub comma : ℕ
comma = 44

-- the piece that began with `piece`, or a later one, is the wanted text
abbrev pub has_element_from : List ℕ → Letters → List ℕ → List ℕ → Bool
has_element_from wanted letters piece [] = is_element piece wanted letters
has_element_from wanted letters piece (b ∷ bytes) =
    if b == comma then is_element piece wanted letters || has_element_from wanted letters [] bytes
    else has_element_from wanted letters (piece ++ b ∷ []) bytes

-- one of the pieces between commas is the wanted text
unfoldable pub has_element : List ℕ → List ℕ → Letters → Bool
has_element list wanted letters = has_element_from wanted letters [] list
