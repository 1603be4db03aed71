-- Lines that are read, one after the other.
use Rattle.std.proofs.Common.{◌≡◌, ℕ, suc, zero, List, [], ◌∷◌, ◌++◌, take, map, refl, ap, subst, ◌∙◌, sym, Option, Some, None, true, false, Bool, cond, Result, Ok, Err, ◌+◌}
use Rattle.std.specs.Prelude.{is_some, IsErrAnd}
use Rattle.screen.specs.declared.Config.{Config}
use Rattle.screen.specs.declared.Event.{Event}
use Rattle.screen.specs.declared.ScreenError.{ScreenError}
use Rattle.screen.specs.State.{State, state}
use Rattle.screen.specs.Alone.{config_refusal}
use Rattle.play_script.specs.declared.lines.Line.{Line}
use Rattle.play_script.specs.declared.lines.Line.TheVariants.{Skipped, Start}
use Rattle.replay.specs.Lines.{session_line}
use Rattle.replay.specs.Sessions.{whole_lines, said_by}
use Rattle.replay.specs.BadLines.{needed_of, bad_behind, bad_from}
use Rattle.replay.specs.Reading.{TakesLine, ahead, lines_ahead, NextLine, NextText, Both, Opens, Steps, GoesOn}
use Rattle.replay.specs.declared.answered.Answered.{Answered}
use Rattle.replay.specs.declared.replaying.Question.{Question}
use Rattle.replay.specs.declared.stop.Stop.{Stop}
use Rattle.replay.specs.declared.stop.Stop.TheVariants.{BadLine, Trouble}

-- a line more
pub next_line : (left n : ℕ) (old new : Option (List ℕ)) (line : List ℕ) (found : Bool) (said : Line) → left ≡ suc n → found ≡ true → said ≡ session_line line → TakesLine old new line found → NextLine (ahead left old) (ahead n new) (Some said)
next_line left n None new line found said l f s h = tt
next_line left n (Some text) new line found said l f s h = at new (subst (TakesLine (Some text) new line) f h)
  where
    at : (o : Option (List ℕ)) → TakesLine (Some text) o line true → NextLine (ahead left (Some text)) (ahead n o) (Some said)
    at None t = absurd t
    at (Some rest) t =
        ap (λ k. map session_line (take k (whole_lines text))) l
        ∙ ap (λ ls. map session_line (take (suc n) ls)) t
        ∙ ap (λ x. x ∷ map session_line (take n (whole_lines rest))) (sym s)

pub no_line : (left n : ℕ) (old new : Option (List ℕ)) (line : List ℕ) → TakesLine old new line false → NextLine (ahead left old) (ahead n new) None
no_line left n None new line h = tt
no_line left n (Some text) new line h = ap (λ ls. map session_line (take left ls)) h ∙ none left
  where
    none : (k : ℕ) → map session_line (take k []) ≡ []
    none zero = refl
    none (suc k) = refl

pub no_line_left : (n : ℕ) (old new : Option (List ℕ)) → NextLine (ahead 0 old) (ahead n new) None
no_line_left n None new = tt
no_line_left n (Some text) new = refl

-- Up to the screen.

-- lines before that are skipped change nothing of what is said, nor of what is bad
abbrev pub SameSession : Question → Option (List Line) → Option (List Line) → ℕ → ℕ → Type 0
SameSession q a b n m = Both a b (λ ls rest. (said_by ls ≡ said_by rest) × (bad_from q n ls ≡ bad_from q m rest))

pub same_session : (q : Question) (a : Option (List Line)) (n : ℕ) → SameSession q a a n n
same_session q None n = tt
same_session q (Some ls) n = (refl, refl)

pub session_skipped : (q : Question) (a b d : Option (List Line)) (n m k : ℕ) → SameSession q a b n m → NextLine b d (Some Skipped) → k ≡ m + 1 → SameSession q a d n k
session_skipped q None b d n m k h x e = tt
session_skipped q (Some y) None d n m k h x e = absurd h
session_skipped q (Some y) (Some z) None n m k h x e = absurd x
session_skipped q (Some y) (Some z) (Some w) n m k h x e = (h.0 ∙ ap said_by x, h.1 ∙ ap (bad_from q m) x ∙ ap (λ i. bad_from q i w) (sym e))

abbrev if_refused : Option ScreenError → ℕ → Option ℕ → Option ℕ
if_refused o n rest = cond (is_some o) (Some n) rest

pub screen_made : (q : Question) (a b d : Option (List Line)) (n m k : ℕ) (c : Config) (s : State) → SameSession q a b n m → NextLine b d (Some (Start c)) → k ≡ m + 1 → s ≡ state c [] → config_refusal c ≡ None → Opens q a d n k (Ok (Some s))
screen_made q None b d n m k c s h x e is fine = tt
screen_made q (Some y) None d n m k c s h x e is fine = absurd h
screen_made q (Some y) (Some z) None n m k c s h x e is fine = absurd x
screen_made q (Some y) (Some z) (Some w) n m k c s h x e is fine = (
  c,
  is,
  h.0 ∙ ap said_by x,
  h.1 ∙ ap (bad_from q m) x ∙ ap (λ o. if_refused o (m + 1) (bad_behind q c [] (m + 1) w)) fine ∙ ap (λ i. bad_behind q c [] i w) (sym e),
)

pub screen_refused : (q : Question) (a b d : Option (List Line)) (n m k : ℕ) (c : Config) (t : Stop) → SameSession q a b n m → NextLine b d (Some (Start c)) → k ≡ m + 1 → (t ≡ BadLine → is_some (config_refusal c) ≡ true) → Opens q a d n k (Err t)
screen_refused q a b d n m k c (Trouble t) h x e is = tt
screen_refused q None b d n m k c BadLine h x e is = tt
screen_refused q (Some y) None d n m k c BadLine h x e is = absurd h
screen_refused q (Some y) (Some z) None n m k c BadLine h x e is = absurd x
screen_refused q (Some y) (Some z) (Some w) n m k c BadLine h x e is = h.1 ∙ ap (bad_from q m) x ∙ ap (λ r. cond r (Some (m + 1)) (bad_behind q c [] (m + 1) w)) (is refl) ∙ ap (λ i. Some i) (sym e)

-- a line that says nothing, or an event before the screen
pub line_refused : (q : Question) (a b d : Option (List Line)) (n m k : ℕ) (l : Line) → SameSession q a b n m → NextLine b d (Some l) → k ≡ m + 1 → ((rest : List Line) → bad_from q m (l ∷ rest) ≡ Some (m + 1)) → Opens q a d n k (Err BadLine)
line_refused q None b d n m k l h x e is = tt
line_refused q (Some y) None d n m k l h x e is = absurd h
line_refused q (Some y) (Some z) None n m k l h x e is = absurd x
line_refused q (Some y) (Some z) (Some w) n m k l h x e is = h.1 ∙ ap (bad_from q m) x ∙ is w ∙ ap (λ i. Some i) (sym e)

pub no_screen : (q : Question) (a b d f : Option (List Line)) (n m k : ℕ) → SameSession q a b n m → NextLine b d None → Opens q a f n k (Ok None)
no_screen q None b d f n m k h x = tt
no_screen q (Some y) None d f n m k h x = absurd h
no_screen q (Some y) (Some z) d f n m k h x = (h.0 ∙ ap said_by x, h.1 ∙ ap (bad_from q m) x)

pub screen_unread : (q : Question) (a d : Option (List Line)) (n k : ℕ) (t : Stop) → (t ≡ BadLine → ⊥) → Opens q a d n k (Err t)
screen_unread q a d n k (Trouble t) h = tt
screen_unread q a d n k BadLine h = absurd (h refl)

-- Up to the next event.

-- lines whose events the question doesn't need change nothing of what it needs, nor of what is bad
abbrev pub SameEvents : Question → Config → List Event → Option (List Line) → Option (List Line) → ℕ → ℕ → Type 0
SameEvents q c before a b n m = Both a b (λ ls rest. (needed_of q ls ≡ needed_of q rest) × (bad_behind q c before n ls ≡ bad_behind q c before m rest))

pub same_events : (q : Question) (c : Config) (before : List Event) (a : Option (List Line)) (n : ℕ) → SameEvents q c before a a n n
same_events q c before None n = tt
same_events q c before (Some ls) n = (refl, refl)

pub events_skipped : (q : Question) (c : Config) (before : List Event) (a b d : Option (List Line)) (n m k : ℕ) (l : Line) (s : State) → SameEvents q c before a b n m → NextLine b d (Some l) → k ≡ m + 1 → Steps q c before l s (Ok None) → SameEvents q c before a d n k
events_skipped q c before None b d n m k l s h x e did = tt
events_skipped q c before (Some y) None d n m k l s h x e did = absurd h
events_skipped q c before (Some y) (Some z) None n m k l s h x e did = absurd x
events_skipped q c before (Some y) (Some z) (Some w) n m k l s h x e did = (
  h.0 ∙ ap (needed_of q) x ∙ (did w).0,
  h.1 ∙ ap (bad_behind q c before m) x ∙ (did w).1 m ∙ ap (λ i. bad_behind q c before i w) (sym e),
)

pub event_done : (q : Question) (c : Config) (before : List Event) (a b d : Option (List Line)) (n m k : ℕ) (l : Line) (s : State) (r : Answered) → SameEvents q c before a b n m → NextLine b d (Some l) → k ≡ m + 1 → Steps q c before l s (Ok (Some r)) → GoesOn q c before s a d n k (Ok (Some r))
event_done q c before None b d n m k l s r h x e did = tt
event_done q c before (Some y) None d n m k l s r h x e did = absurd h
event_done q c before (Some y) (Some z) None n m k l s r h x e did = absurd x
event_done q c before (Some y) (Some z) (Some w) n m k l s r h x e did = (
  did.0,
  h.0 ∙ ap (needed_of q) x ∙ (did.1 w).0,
  h.1 ∙ ap (bad_behind q c before m) x ∙ (did.1 w).1 m ∙ ap (λ i. bad_behind q c (before ++ r.event ∷ []) i w) (sym e),
)

pub event_refused : (q : Question) (c : Config) (before : List Event) (a b d : Option (List Line)) (n m k : ℕ) (l : Line) (s : State) (t : Stop) → SameEvents q c before a b n m → NextLine b d (Some l) → k ≡ m + 1 → Steps q c before l s (Err t) → GoesOn q c before s a d n k (Err t)
event_refused q c before a b d n m k l s (Trouble t) h x e did = tt
event_refused q c before None b d n m k l s BadLine h x e did = tt
event_refused q c before (Some y) None d n m k l s BadLine h x e did = absurd h
event_refused q c before (Some y) (Some z) None n m k l s BadLine h x e did = absurd x
event_refused q c before (Some y) (Some z) (Some w) n m k l s BadLine h x e did = h.1 ∙ ap (bad_behind q c before m) x ∙ did w m ∙ ap (λ i. Some i) (sym e)

pub events_over : (q : Question) (c : Config) (before : List Event) (a b d f : Option (List Line)) (n m k : ℕ) (s : State) → SameEvents q c before a b n m → NextLine b d None → GoesOn q c before s a f n k (Ok None)
events_over q c before None b d f n m k s h x = tt
events_over q c before (Some y) None d f n m k s h x = absurd h
events_over q c before (Some y) (Some z) d f n m k s h x = (h.0 ∙ ap (needed_of q) x, h.1 ∙ ap (bad_behind q c before m) x)

pub events_unread : (q : Question) (c : Config) (before : List Event) (a d : Option (List Line)) (n k : ℕ) (s : State) (t : Stop) → (t ≡ BadLine → ⊥) → GoesOn q c before s a d n k (Err t)
events_unread q c before a d n k s (Trouble t) h = tt
events_unread q c before a d n k s BadLine h = absurd (h refl)

-- what `?` hands on
pub handed_on : {X : Type 0} (P : Result X Stop → Type 0) (r : Result X Stop) (e : Stop) → IsErrAnd r (λ y. y ≡ e) → P (Err e) → P r
handed_on P (Ok x) e h p = absurd h
handed_on P (Err y) e h p = subst (λ z. P (Err z)) (sym h) p

-- The lines themselves.

pub next_text : (left n : ℕ) (old new : Option (List ℕ)) (line : List ℕ) (found : Bool) (said : Line) → left ≡ suc n → found ≡ true → said ≡ session_line line → TakesLine old new line found → NextText (lines_ahead left old) (lines_ahead n new) line (Some said)
next_text left n None new line found said l f s h = tt
next_text left n (Some text) new line found said l f s h = at new (subst (TakesLine (Some text) new line) f h)
  where
    at : (o : Option (List ℕ)) → TakesLine (Some text) o line true → NextText (lines_ahead left (Some text)) (lines_ahead n o) line (Some said)
    at None t = absurd t
    at (Some rest) t = (ap (λ k. take k (whole_lines text)) l ∙ ap (take (suc n)) t, s)

pub no_text : (left n : ℕ) (old new : Option (List ℕ)) (line : List ℕ) → TakesLine old new line false → NextText (lines_ahead left old) (lines_ahead n new) line None
no_text left n None new line h = tt
no_text left n (Some text) new line h = ap (take left) h ∙ none left
  where
    the_none : List (List ℕ)
    the_none = []

    none : (k : ℕ) → take k the_none ≡ the_none
    none zero = refl
    none (suc k) = refl

pub no_text_left : (n : ℕ) (old new : Option (List ℕ)) (line : List ℕ) → NextText (lines_ahead 0 old) (lines_ahead n new) line None
no_text_left n None new line = tt
no_text_left n (Some text) new line = refl
