-- Lines of which none is bad say a session, or there is no screen yet.
use Rattle.std.proofs.Common.{◌≡◌, ◌⊎◌, inl, inr, ℕ, ◌+◌, Bool, true, false, cond, List, [], ◌∷◌, refl, ap, Some, None}
use Rattle.std.specs.Prelude.{is_some, option_map}
use Rattle.std.specs.List.{AllByRecursion}
use Rattle.screen.specs.Alone.{config_refusal}
use Rattle.screen.specs.declared.Config.{Config}
use Rattle.screen.specs.declared.Event.{Event}
use Rattle.play_script.specs.declared.lines.Line.{Line}
use Rattle.play_script.specs.declared.lines.Line.TheVariants.{Skipped, Start, Do, Bad}
use Rattle.replay.specs.Sessions.{Session, events_of, begun_with, said_by, lines_said}
use Rattle.replay.specs.BadLines.{is_refused, needed_with, bad_behind, bad_from}
use Rattle.replay.specs.declared.replaying.Question.{Question}
use Rattle.replay.specs.Claims.{good_lines_are_read}

-- there are events
SaysEvents : List Line → Type 0
SaysEvents ls = (es : List Event) × (events_of ls ≡ Some es)

good_events : (q : Question) (c : Config) (before : List Event) (n : ℕ) (ls : List Line) → bad_behind q c before n ls ≡ None → SaysEvents ls
unfolding SaysEvents
good_events q c before n [] h = ([], refl)
good_events q c before n (Skipped ∷ ls) h = good_events q c before (n + 1) ls h
good_events q c before n (Start d ∷ ls) h = absurd cc
good_events q c before n (Bad ∷ ls) h = absurd cc
good_events q c before n (Do e ∷ ls) h = go (is_refused q c before e) h (good_events q c (needed_with q before e) (n + 1) ls)
  where
    go : (r : Bool) → cond r (Some (n + 1)) (bad_behind q c (needed_with q before e) (n + 1) ls) ≡ None → (bad_behind q c (needed_with q before e) (n + 1) ls ≡ None → SaysEvents ls) → SaysEvents (Do e ∷ ls)
    go true g rest = absurd cc
    go false g rest = let found = rest g in (e ∷ found.0, ap (option_map (λ es. e ∷ es)) found.1)

abbrev Says : List Line → Type 0
Says ls = AllByRecursion (λ l. l ≡ Skipped) ls ⊎ ((s : Session) × (said_by ls ≡ Some s))

good_lines : (q : Question) (n : ℕ) (ls : List Line) → bad_from q n ls ≡ None → Says ls
unfolding SaysEvents
good_lines q n [] h = inl tt
good_lines q n (Do e ∷ ls) h = absurd cc
good_lines q n (Bad ∷ ls) h = absurd cc
good_lines q n (Skipped ∷ ls) h = go (good_lines q (n + 1) ls h)
  where
    go : Says ls → Says (Skipped ∷ ls)
    go (inl all) = inl (refl, all)
    go (inr found) = inr found
good_lines q n (Start c ∷ ls) h = go (is_some (config_refusal c)) h
  where
    go : (r : Bool) → cond r (Some (n + 1)) (bad_behind q c [] (n + 1) ls) ≡ None → Says (Start c ∷ ls)
    go true g = absurd cc
    go false g = let found = good_events q c [] (n + 1) ls g in inr (record { config = c; events = found.0 }, ap (begun_with c) found.1)

pub good_lines_are_read-holds : good_lines_are_read
good_lines_are_read-holds asked text h = good_lines asked.question 0 (lines_said asked.lines text) h
