-- Texts without the spaces and tabs at their beginning.
use Rattle.std.proofs.Common.{◌≡◌, ℕ, ◌+◌, ◌<◌, true, false, List, length, get_or, drop, refl}
use Rattle.std.proofs.lemmas.List.{drop_more}
use Rattle.httparse.specs.Grammar.{is_ows, skip_ows}

-- a space or a tab is skipped
pub skip_ows_step : (text : List ℕ) (i : ℕ) → i < length text → is_ows (get_or text i 0) ≡ true
    → skip_ows (drop i text) ≡ skip_ows (drop (i + 1) text)
skip_ows_step text i inside white = rw (drop_more text i 0 inside, white) refl

-- at any other byte the text begins
pub skip_ows_stop : (text : List ℕ) (i : ℕ) → i < length text → is_ows (get_or text i 0) ≡ false
    → skip_ows (drop i text) ≡ drop i text
skip_ows_stop text i inside other = rw (drop_more text i 0 inside, other) refl
