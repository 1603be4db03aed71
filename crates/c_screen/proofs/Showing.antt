-- What a viewer has set, shown in a room.
use Rattle.std.proofs.Common.{◌≡◌, ℕ, List, ◌++◌, take, drop, Result, Ok, sym, ap, ◌∙◌, subst}
use Rattle.std.specs.Prelude.{MatchResult}
use Rattle.screen.specs.declared.ScreenError.{ScreenError}
use Rattle.screen.specs.declared.Settings.{Settings}
use Rattle.c_screen.specs.Calls.{count_shown, shown_in}
use Rattle.c_screen.specs.Settings.{settings_as, settings_words, words_of}
use Rattle.c_screen.specs.declared.settings.ViewerSettings.{ViewerSettings}

pub shows : (answer : Result Settings ScreenError) (settings : Settings) (told : ViewerSettings) (words room new : List ℕ) (count : ℕ) → answer ≡ Ok settings → told ≡ settings_as settings → words ≡ words_of told → count ≡ count_shown words room → new ≡ take count words ++ drop count room
    → MatchResult answer (λ s. new ≡ shown_in (settings_words s) room) (λ e. new ≡ room)
shows answer settings told words room new count is told_is words_are count_is new_is =
    subst (λ (r : Result Settings ScreenError). MatchResult r (λ s. new ≡ shown_in (settings_words s) room) (λ e. new ≡ room)) (sym is)
    (new_is ∙ (ap (λ n. take n words ++ drop n room) count_is ∙ ap (λ w. shown_in w room) (words_are ∙ ap words_of told_is)))
