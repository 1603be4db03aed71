-- A line of a command and its words is split into these, and is one line.
use Rattle.std.proofs.Common.{◌≡◌, ℕ, Bool, false, ◌||◌, eqb, List, [], ◌∷◌, ◌++◌, length, get_or, refl, sym, ap, ◌∙◌, arith, append_assoc}
use Rattle.std.proofs.lemmas.List.{append-nil}
use Rattle.std.specs.Prelude.{codes}
use Rattle.std.specs.List.{list_any, AllByRecursion}
use Rattle.recorder.specs.Words.{spaced, parts_words}
use Rattle.recorder.specs.Events.{line_of}
use Rattle.play_script.specs.Words.{parts, words_of}
use Rattle.play_script.specs.Lines.{is_skipped, command_of, verb_of as script_verb}
use Rattle.play_script.specs.declared.lines.Line.{Line}
use Rattle.replay.specs.Lines.{session_line, unless_bad, verb_of, own_command}
use Rattle.replay.specs.Reading.{has_feed}
use Rattle.replay.specs.Claims.{IsLine}
use Rattle.replay.proofs.ReadsTests.{either_false, not_empty}
use Rattle.replay.proofs.Feeds.{no_feed-append}

-- a word has no blank and no line feed
abbrev pub IsWord : List ℕ → Type 0
IsWord w = list_any parts_words w ≡ false

abbrev pub AreWords : List (List ℕ) → Type 0
AreWords ws = AllByRecursion IsWord ws

both_none : (a b : Bool) → a ≡ false → b ≡ false → (a || b) ≡ false
both_none a b h g = rw (h, g) refl

pub word_more : (b : ℕ) (bs : List ℕ) → eqb b 32 ≡ false → eqb b 10 ≡ false → IsWord bs → IsWord (b ∷ bs)
word_more b bs p q h = both_none _ _ (both_none _ _ p q) h

pub word_append : (v w : List ℕ) → IsWord v → IsWord w → IsWord (v ++ w)
word_append [] w h g = g
word_append (b ∷ bs) w h g =
    let e = either_false (parts_words b) (list_any parts_words bs) h in
    both_none _ _ e.0 (word_append bs w e.1 g)

no_blank : (w : List ℕ) → IsWord w → list_any (λ b. eqb b 32) w ≡ false
no_blank [] h = refl
no_blank (b ∷ bs) h =
    let e = either_false (parts_words b) (list_any parts_words bs) h in
    both_none _ _ (either_false (eqb b 32) (eqb b 10) e.0).0 (no_blank bs e.1)

no_feed : (w : List ℕ) → IsWord w → has_feed w ≡ false
no_feed [] h = refl
no_feed (b ∷ bs) h =
    let e = either_false (parts_words b) (list_any parts_words bs) h in
    both_none _ _ (either_false (eqb b 32) (eqb b 10) e.0).1 (no_feed bs e.1)

first_word : (w rest : List ℕ) → list_any (λ b. eqb b 32) w ≡ false → parts 32 (w ++ 32 ∷ rest) ≡ w ∷ parts 32 rest
first_word [] rest h = refl
first_word (b ∷ bs) rest h =
    let e = either_false (eqb b 32) (list_any (λ x. eqb x 32) bs) h in
    let more : parts 32 (bs ++ 32 ∷ rest) ≡ bs ∷ parts 32 rest = first_word bs rest e.1 in
    rw (e.0, more) refl

last_word : (w : List ℕ) → list_any (λ b. eqb b 32) w ≡ false → parts 32 w ≡ w ∷ []
last_word [] h = refl
last_word (b ∷ bs) h =
    let e = either_false (eqb b 32) (list_any (λ x. eqb x 32) bs) h in
    let more : parts 32 bs ≡ bs ∷ [] = last_word bs e.1 in
    rw (e.0, more) refl

pub words_split : (w : List ℕ) (ws : List (List ℕ)) → IsWord w → AreWords ws → words_of (w ++ spaced ws) ≡ w ∷ ws
words_split w [] h hs = ap words_of (append-nil w) ∙ last_word w (no_blank w h)
words_split w (v ∷ ws) h hs = first_word w (v ++ spaced ws) (no_blank w h) ∙ ap (λ l. w ∷ l) (words_split v ws hs.0 hs.1)

pub words_are_one : (w : List ℕ) (ws : List (List ℕ)) → IsWord w → AreWords ws → has_feed (w ++ spaced ws) ≡ false
words_are_one w [] h hs = ap has_feed (append-nil w) ∙ no_feed w h
words_are_one w (v ∷ ws) h hs = no_feed-append w (32 ∷ (v ++ spaced ws)) (no_feed w h) (words_are_one v ws hs.0 hs.1)

pub words-append : (vs ws : List (List ℕ)) → AreWords vs → AreWords ws → AreWords (vs ++ ws)
words-append [] ws h g = g
words-append (v ∷ vs) ws h g = (h.0, words-append vs ws h.1 g)

-- what a session reads of words
abbrev pub said_of : List ℕ → List (List ℕ) → Line
said_of command ws = unless_bad (command_of (script_verb command) (command ∷ ws)) (own_command (verb_of command) (command ∷ ws))

said_by_words : (l : List ℕ) (command : List ℕ) (ws : List (List ℕ)) → is_skipped l ≡ false → words_of l ≡ command ∷ ws → session_line l ≡ said_of command ws
said_by_words l command ws h e = rw (h, e) refl

-- a command begins, and not with `#`
abbrev pub Begins : List ℕ → Type 0
Begins command = eqb (get_or command 0 35) 35 ≡ false

not_skipped : (command rest : List ℕ) → Begins command → is_skipped (command ++ rest) ≡ false
not_skipped [] rest h = absurd cc
not_skipped (b ∷ bs) rest h = both_none _ _ (not_empty (length (b ∷ (bs ++ rest))) (omega arith)) h

-- a line of words, by what these say
pub line_says : (command : List ℕ) (ws : List (List ℕ)) (said : Line) → IsWord command → AreWords ws → Begins command → said_of command ws ≡ said → IsLine (line_of command ws) said
line_says command ws said h hs s e = record {
  line = command ++ spaced ws;
  text_is = sym (append_assoc command (spaced ws) (codes "\n"));
  is_one = words_are_one command ws h hs;
  says = said_by_words (command ++ spaced ws) command ws (not_skipped command (spaced ws) s) (words_split command ws h hs) ∙ e;
}
