-- A session's text is read back, and so is its beginning.
use Rattle.std.proofs.Common.{◌≡◌, ◌⊎◌, inl, inr, ℕ, zero, suc, ◌+◌, ◌<◌, Bool, true, false, eqb, List, [], ◌∷◌, ◌++◌, length, take, map, refl, sym, ap, ◌∙◌, arith, append_assoc, Some, None, add-one, codes}
use Rattle.std.specs.Prelude.{flat_map, option_map}
use Rattle.std.specs.List.{AllByRecursion, onto_first}
use Rattle.std.proofs.lemmas.List.{take-map, take_all}
use Rattle.screen.specs.declared.Config.{Config}
use Rattle.screen.specs.declared.Event.{Event}
use Rattle.recorder.specs.Events.{event_line, screen_line, session_text}
use Rattle.play_script.specs.declared.lines.Line.{Line}
use Rattle.play_script.specs.declared.lines.Line.TheVariants.{Start, Do}
use Rattle.play_script.specs.Words.{parts, next_part}
use Rattle.replay.specs.Lines.{session_line}
use Rattle.replay.specs.Reading.{has_feed}
use Rattle.replay.specs.Sessions.{whole_of, whole_lines, events_of, begun_with, said_by, session_of}
use Rattle.replay.specs.Said.{IsSound, AreSound, said_event, said_config, said_session}
use Rattle.replay.specs.Claims.{IsLine}
use Rattle.replay.proofs.ReadsTests.{either_false}
use Rattle.replay.proofs.ReadsEvents.{event_says}
use Rattle.replay.proofs.ReadsScreens.{screen_says}

-- ---- a text of lines

-- there is always a part
record IsSome (ps : List (List ℕ)) : Type 0 where
  first : List ℕ
  more : List (List ℕ)
  is : ps ≡ first ∷ more

parts_some : (bs : List ℕ) → IsSome (parts 10 bs)
parts_some [] = record { first = []; more = []; is = refl }
parts_some (b ∷ bs) = go (eqb b 10) (parts 10 bs)
  where
    go : (t : Bool) (ps : List (List ℕ)) → IsSome (next_part t b ps)
    go true ps = record { first = []; more = ps; is = refl }
    go false [] = record { first = b ∷ []; more = []; is = refl }
    go false (p ∷ ps) = record { first = b ∷ p; more = ps; is = refl }

whole_more : (l : List ℕ) (ps : List (List ℕ)) → IsSome ps → whole_of (l ∷ ps) ≡ l ∷ whole_of ps
whole_more l ps h = ap (λ qs. whole_of (l ∷ qs)) h.is ∙ ap (λ qs. l ∷ whole_of qs) (sym h.is)

line_first : (line rest : List ℕ) → has_feed line ≡ false → parts 10 (line ++ 10 ∷ rest) ≡ line ∷ parts 10 rest
line_first [] rest h = refl
line_first (b ∷ bs) rest h =
    let e = either_false (eqb b 10) (has_feed bs) h in
    let more : parts 10 (bs ++ 10 ∷ rest) ≡ bs ∷ parts 10 rest = line_first bs rest e.1 in
    rw (e.0, more) refl

whole_first : (line rest : List ℕ) → has_feed line ≡ false → whole_lines (line ++ 10 ∷ rest) ≡ line ∷ whole_lines rest
whole_first line rest h = ap whole_of (line_first line rest h) ∙ whole_more line (parts 10 rest) (parts_some rest)

-- a line, and then others
line_then : (text rest : List ℕ) (said : Line) (h : IsLine text said) → whole_lines (text ++ rest) ≡ h.line ∷ whole_lines rest
line_then text rest said h = ap (λ t. whole_lines (t ++ rest)) h.text_is ∙ ap whole_lines (append_assoc h.line (codes "\n") rest) ∙ whole_first h.line rest h.is_one

pub says_then : (text rest : List ℕ) (said : Line) → IsLine text said → map session_line (whole_lines (text ++ rest)) ≡ said ∷ map session_line (whole_lines rest)
says_then text rest said h = ap (map session_line) (line_then text rest said h) ∙ ap (λ l. l ∷ map session_line (whole_lines rest)) h.says

-- ---- what a session's text says

abbrev dones : List Event → List Line
dones es = map (λ e. Do (said_event e)) es

events_say : (es : List Event) → AllByRecursion IsSound es → map session_line (whole_lines (flat_map event_line es)) ≡ dones es
events_say [] h = refl
events_say (e ∷ es) h = says_then (event_line e) (flat_map event_line es) (Do (said_event e)) (event_says e h.0) ∙ ap (λ (l : List Line). Do (said_event e) ∷ l) (events_say es h.1)

session_says : (c : Config) (es : List Event) → AreSound c es → map session_line (whole_lines (session_text c es)) ≡ Start (said_config c) ∷ dones es
session_says c es h = says_then (screen_line c) (flat_map event_line es) (Start (said_config c)) (screen_says c h.0) ∙ ap (λ (l : List Line). Start (said_config c) ∷ l) (events_say es h.1)

-- so many events
first_events : (es : List Event) (k : ℕ) → events_of (take k (dones es)) ≡ Some (map said_event (take k es))
first_events es zero = refl
first_events [] (suc k) = refl
first_events (e ∷ es) (suc k) = ap (option_map (λ (l : List Event). said_event e ∷ l)) (first_events es k)

first_by : (c : Config) (es : List Event) (k : ℕ) → AreSound c es → session_of (suc k) (session_text c es) ≡ Some (said_session c (take k es))
first_by c es k h =
    ap said_by (sym (take-map session_line (suc k) (whole_lines (session_text c es))) ∙ ap (take (suc k)) (session_says c es h))
    ∙ ap (begun_with (said_config c)) (first_events es k)

pub first_read : (c : Config) (es : List Event) (count : ℕ) → AreSound c es → session_of (count + 1) (session_text c es) ≡ Some (said_session c (take count es))
first_read c es count h = ap (λ n. session_of n (session_text c es)) (add-one count) ∙ first_by c es count h

pub all_read : (c : Config) (es : List Event) (lines : ℕ) → AreSound c es → length es < lines → session_of lines (session_text c es) ≡ Some (said_session c es)
all_read c es zero h l = absurd (omega arith)
all_read c es (suc k) h l = first_by c es k h ∙ ap (λ es. Some (said_session c es)) (take_all k es (omega arith))

-- ---- the beginning of a text

-- these lines begin those
record Begin (ls all : List (List ℕ)) : Type 0 where
  count : ℕ
  is : ls ≡ take count all

-- a byte before whole lines goes to the first one
with_byte : Bool → ℕ → List (List ℕ) → List (List ℕ)
with_byte true b ls = [] ∷ ls
with_byte false b [] = []
with_byte false b (l ∷ ls) = (b ∷ l) ∷ ls

whole_onto : (b : ℕ) (ps : List (List ℕ)) → IsSome ps → whole_of (onto_first b ps) ≡ with_byte false b (whole_of ps)
unfolding with_byte
whole_onto b ps h = ap (λ qs. whole_of (onto_first b qs)) h.is ∙ go h.first h.more ∙ ap (λ qs. with_byte false b (whole_of qs)) (sym h.is)
  where
    go : (p : List ℕ) (qs : List (List ℕ)) → whole_of (onto_first b (p ∷ qs)) ≡ with_byte false b (whole_of (p ∷ qs))
    go p [] = refl
    go p (q ∷ qs) = refl

whole_byte : (b : ℕ) (bs : List ℕ) → whole_lines (b ∷ bs) ≡ with_byte (eqb b 10) b (whole_lines bs)
unfolding with_byte
whole_byte b bs = go (eqb b 10)
  where
    go : (t : Bool) → whole_of (next_part t b (parts 10 bs)) ≡ with_byte t b (whole_of (parts 10 bs))
    go true = whole_more [] (parts 10 bs) (parts_some bs)
    go false = whole_onto b (parts 10 bs) (parts_some bs)

begin_byte : (t : Bool) (b : ℕ) (ls all : List (List ℕ)) → Begin ls all → Begin (with_byte t b ls) (with_byte t b all)
unfolding with_byte
begin_byte true b ls all h = record { count = suc h.count; is = ap (λ l. [] ∷ l) h.is }
begin_byte false b ls [] h = record { count = 0; is = ap (with_byte false b) h.is ∙ none h.count }
  where
    none : (k : ℕ) → with_byte false b (take k []) ≡ []
    none zero = refl
    none (suc k) = refl
begin_byte false b ls (l ∷ all) h = record { count = h.count; is = ap (with_byte false b) h.is ∙ go h.count }
  where
    go : (k : ℕ) → with_byte false b (take k (l ∷ all)) ≡ take k ((b ∷ l) ∷ all)
    go zero = refl
    go (suc k) = refl

-- the whole lines of a text's beginning are the first ones of the text
whole_begin : (n : ℕ) (text : List ℕ) → Begin (whole_lines (take n text)) (whole_lines text)
whole_begin zero text = record { count = 0; is = refl }
whole_begin (suc n) [] = record { count = 0; is = refl }
whole_begin (suc n) (b ∷ bs) =
    let h = begin_byte (eqb b 10) b (whole_lines (take n bs)) (whole_lines bs) (whole_begin n bs) in
    record { count = h.count; is = whole_byte b (take n bs) ∙ h.is ∙ ap (take h.count) (sym (whole_byte b bs)) }

-- those of the first events
first_lines : (es : List Event) (k : ℕ) → AllByRecursion IsSound es → take k (whole_lines (flat_map event_line es)) ≡ whole_lines (flat_map event_line (take k es))
first_lines es zero h = refl
first_lines [] (suc k) h = refl
first_lines (e ∷ es) (suc k) h =
    let line = event_says e h.0 in
    ap (take (suc k)) (line_then (event_line e) (flat_map event_line es) (Do (said_event e)) line)
    ∙ ap (λ ls. line.line ∷ ls) (first_lines es k h.1)
    ∙ sym (line_then (event_line e) (flat_map event_line (take k es)) (Do (said_event e)) line)

first_session : (c : Config) (es : List Event) (k : ℕ) → AreSound c es → take (suc k) (whole_lines (session_text c es)) ≡ whole_lines (session_text c (take k es))
first_session c es k h =
    let line = screen_says c h.0 in
    ap (take (suc k)) (line_then (screen_line c) (flat_map event_line es) (Start (said_config c)) line)
    ∙ ap (λ ls. line.line ∷ ls) (first_lines es k h.1)
    ∙ sym (line_then (screen_line c) (flat_map event_line (take k es)) (Start (said_config c)) line)

pub lines_cut : (c : Config) (es : List Event) (n : ℕ) → AreSound c es
    → (whole_lines (take n (session_text c es)) ≡ []) ⊎ ((count : ℕ) × (whole_lines (take n (session_text c es)) ≡ whole_lines (session_text c (take count es))))
lines_cut c es n h = go (whole_begin n (session_text c es))
  where
    by : (k : ℕ) → whole_lines (take n (session_text c es)) ≡ take k (whole_lines (session_text c es))
        → (whole_lines (take n (session_text c es)) ≡ []) ⊎ ((count : ℕ) × (whole_lines (take n (session_text c es)) ≡ whole_lines (session_text c (take count es))))
    by zero e = inl e
    by (suc k) e = inr (k, e ∙ first_session c es k h)

    go : Begin (whole_lines (take n (session_text c es))) (whole_lines (session_text c es))
        → (whole_lines (take n (session_text c es)) ≡ []) ⊎ ((count : ℕ) × (whole_lines (take n (session_text c es)) ≡ whole_lines (session_text c (take count es))))
    go b = by b.count b.is

sound_take : (es : List Event) (k : ℕ) → AllByRecursion IsSound es → AllByRecursion IsSound (take k es)
sound_take es zero h = tt
sound_take [] (suc k) h = tt
sound_take (e ∷ es) (suc k) h = (h.0, sound_take es k h.1)

take_shorter : {X : Type 0} (j k : ℕ) (xs : List X) → (i : ℕ) × (take j (take k xs) ≡ take i xs)
take_shorter zero k xs = (0, refl)
take_shorter (suc j) zero xs = (0, refl)
take_shorter (suc j) (suc k) [] = (0, refl)
take_shorter (suc j) (suc k) (x ∷ xs) = let h = take_shorter j k xs in (suc h.0, ap (λ l. x ∷ l) h.1)

pub cut_read : (c : Config) (es : List Event) (n lines : ℕ) → AreSound c es
    → (session_of lines (take n (session_text c es)) ≡ None) ⊎ ((count : ℕ) × (session_of lines (take n (session_text c es)) ≡ Some (said_session c (take count es))))
cut_read c es n lines h = go lines (lines_cut c es n h)
  where
    go : (j : ℕ) → (whole_lines (take n (session_text c es)) ≡ []) ⊎ ((count : ℕ) × (whole_lines (take n (session_text c es)) ≡ whole_lines (session_text c (take count es))))
        → (session_of j (take n (session_text c es)) ≡ None) ⊎ ((count : ℕ) × (session_of j (take n (session_text c es)) ≡ Some (said_session c (take count es))))
    go zero e = inl refl
    go (suc j) (inl e) = inl (ap (λ ls. said_by (map session_line (take (suc j) ls))) e)
    go (suc j) (inr e) =
        let few = take_shorter j e.0 es in
        inr (few.0, ap (λ ls. said_by (map session_line (take (suc j) ls))) e.1 ∙ first_by c (take e.0 es) j (h.0, sound_take es e.0 h.1) ∙ ap (λ fs. Some (said_session c fs)) few.1)
