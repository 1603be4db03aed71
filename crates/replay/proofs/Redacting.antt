-- Lines of a session that is redacted, one after the other.
use Rattle.std.proofs.Common.{◌≡◌, ℕ, ◌+◌, List, [], ◌∷◌, ◌++◌, take, map, refl, sym, ap, subst, ◌∙◌, append_assoc, Option, Some, None, true, false, Bool, cond, not}
use Rattle.std.proofs.lemmas.List.{append-nil}
use Rattle.std.specs.Prelude.{IfSome, is_some}
use Rattle.std.specs.Io.KnownBytes.{Appends}
use Rattle.redaction.specs.Places.{Spot}
use Rattle.redaction.specs.Following.{Follows}
use Rattle.screen.specs.Alone.{config_refusal}
use Rattle.screen.specs.declared.Config.{Config}
use Rattle.screen.specs.declared.Event.{Event}
use Rattle.play_script.specs.declared.lines.Line.{Line}
use Rattle.play_script.specs.declared.lines.Line.TheVariants.{Skipped, Start, Do, Bad}
use Rattle.replay.specs.Lines.{session_line}
use Rattle.replay.specs.Sessions.{whole_lines}
use Rattle.replay.specs.BadLines.{bad_behind, bad_from, may_stand, has_screen_with}
use Rattle.replay.specs.Reading.{Both, NextText, ahead, lines_ahead}
use Rattle.replay.specs.Redacted.{redacted_as, redacted_lines, with_said}
use Rattle.replay.specs.declared.replaying.Question.TheVariants.{Redacted}
use Rattle.replay.proofs.Growing.{appends_more, appends_nothing}

-- the first line that may not stand where it does
abbrev bad_among : Bool → ℕ → List Line → Option ℕ
bad_among h n [] = None
bad_among h n (l ∷ ls) = cond (may_stand h l) (bad_among (has_screen_with h l) (n + 1) ls) (Some (n + 1))

among_behind : (c : Config) (before : List Event) (n : ℕ) (ls : List Line) → bad_behind Redacted c before n ls ≡ bad_among true n ls
among_behind c before n [] = refl
among_behind c before n (Skipped ∷ ls) = among_behind c before (n + 1) ls
among_behind c before n (Do e ∷ ls) = among_behind c before (n + 1) ls
among_behind c before n (Start d ∷ ls) = refl
among_behind c before n (Bad ∷ ls) = refl

among_from : (n : ℕ) (ls : List Line) → bad_from Redacted n ls ≡ bad_among false n ls
among_from n [] = refl
among_from n (Skipped ∷ ls) = among_from (n + 1) ls
among_from n (Do e ∷ ls) = refl
among_from n (Bad ∷ ls) = refl
among_from n (Start c ∷ ls) = go (is_some (config_refusal c)) (among_behind c [] (n + 1) ls)
  where
    go : (r : Bool) → bad_behind Redacted c [] (n + 1) ls ≡ bad_among true (n + 1) ls → cond r (Some (n + 1)) (bad_behind Redacted c [] (n + 1) ls) ≡ cond (not r) (bad_among true (n + 1) ls) (Some (n + 1))
    go true h = refl
    go false h = h

-- what was written stands for the lines so far, and what is kept follows their events
pub record Redacting (n m : ℕ) (h : Bool) (kept : List (ℕ × Spot)) (w x : Option (List ℕ)) (ls rest : List (List ℕ)) : Type 0 where
  pub before : List Event
  pub front : List ℕ
  pub follows : Follows kept before
  pub wrote : Appends w x front
  pub text : front ++ redacted_lines before rest ≡ redacted_lines [] ls
  pub bad : bad_among false n (map session_line ls) ≡ bad_among h m (map session_line rest)

abbrev pub Redacts : Option (List (List ℕ)) → Option (List (List ℕ)) → ℕ → ℕ → Bool → List (ℕ × Spot) → Option (List ℕ) → Option (List ℕ) → Type 0
Redacts a b n m h kept w x = Both a b (Redacting n m h kept w x)

pub redacts_begin : (a : Option (List (List ℕ))) (n : ℕ) (kept : List (ℕ × Spot)) (w : Option (List ℕ)) → Follows kept [] → Redacts a a n n false kept w w
redacts_begin None n kept w f = tt
redacts_begin (Some ls) n kept w f = record { before = []; front = []; follows = f; wrote = appends_nothing w; text = refl; bad = refl }

-- what is written for a line, behind any events that are followed
abbrev pub Writes : List (ℕ × Spot) → List (ℕ × Spot) → List ℕ → Line → Option (List ℕ) → Option (List ℕ) → Type 0
Writes kept more line said x z = (es : List Event) → Follows kept es → Appends x z (redacted_as es line said) × Follows more (with_said es said)

pub redacts_next : (a b d : Option (List (List ℕ))) (n m k : ℕ) (h i : Bool) (kept more : List (ℕ × Spot)) (w x z : Option (List ℕ)) (line shown : List ℕ) (o : Option Line) (said : Line) → Redacts a b n m h kept w x → NextText b d line o → o ≡ Some said
    → k ≡ m + 1 → may_stand h said ≡ true → i ≡ has_screen_with h said → shown ≡ line → Writes kept more shown said x z → Redacts a d n k i more w z
redacts_next None b d n m k h i kept more w x z line shown o said r t e num may screen same wrote = tt
redacts_next (Some ls) None d n m k h i kept more w x z line shown o said r t e num may screen same wrote = absurd r
redacts_next (Some ls) (Some rest) d n m k h i kept more w x z line shown o said r t e num may screen same wrote = at d (subst (NextText (Some rest) d line) e t)
  where
    at : (f : Option (List (List ℕ))) → NextText (Some rest) f line (Some said) → Redacts (Some ls) f n k i more w z
    at None s = absurd s
    at (Some tail) s =
        let did = subst (λ l. Writes kept more l said x z) same wrote r.before r.follows in
        let part : redacted_lines r.before rest ≡ redacted_as r.before line said ++ redacted_lines (with_said r.before said) tail =
        ap (redacted_lines r.before) s.0 ∙ ap (λ q. redacted_as r.before line q ++ redacted_lines (with_said r.before q) tail) (sym s.1) in
        let next : bad_among h m (map session_line rest) ≡ bad_among i k (map session_line tail) =
        ap (λ q. bad_among h m (map session_line q)) s.0
        ∙ ap (λ q. bad_among h m (q ∷ map session_line tail)) (sym s.1)
        ∙ ap (λ b. cond b (bad_among (has_screen_with h said) (m + 1) (map session_line tail)) (Some (m + 1))) may
        ∙ ap (λ b. bad_among b (m + 1) (map session_line tail)) (sym screen)
        ∙ ap (λ c. bad_among i c (map session_line tail)) (sym num) in
        record {
          before = with_said r.before said;
          front = r.front ++ redacted_as r.before line said;
          follows = did.1;
          wrote = appends_more w x z r.front _ r.wrote did.0;
          text = append_assoc r.front (redacted_as r.before line said) (redacted_lines (with_said r.before said) tail) ∙ ap (λ l. r.front ++ l) (sym part) ∙ r.text;
          bad = r.bad ∙ next;
        }

pub redacts_bad : (left : ℕ) (o : Option (List ℕ)) (b d : Option (List (List ℕ))) (n m k : ℕ) (h : Bool) (kept : List (ℕ × Spot)) (w x : Option (List ℕ)) (line : List ℕ) (p : Option Line) (said : Line) → Redacts (lines_ahead left o) b n m h kept w x → NextText b d line p → p ≡ Some said
    → k ≡ m + 1 → may_stand h said ≡ false → IfSome (ahead left o) (λ ls. bad_from Redacted n ls ≡ Some k)
redacts_bad left None b d n m k h kept w x line p said r t e num may = tt
redacts_bad left (Some text) None d n m k h kept w x line p said r t e num may = absurd r
redacts_bad left (Some text) (Some rest) d n m k h kept w x line p said r t e num may = at d (subst (NextText (Some rest) d line) e t)
  where
    at : (f : Option (List (List ℕ))) → NextText (Some rest) f line (Some said) → bad_from Redacted n (map session_line (take left (whole_lines text))) ≡ Some k
    at None s = absurd s
    at (Some tail) s =
        among_from n (map session_line (take left (whole_lines text)))
        ∙ r.bad
        ∙ ap (λ q. bad_among h m (map session_line q)) s.0
        ∙ ap (λ q. bad_among h m (q ∷ map session_line tail)) (sym s.1)
        ∙ ap (λ b. cond b (bad_among (has_screen_with h said) (m + 1) (map session_line tail)) (Some (m + 1))) may
        ∙ ap (λ c. Some c) (sym num)

pub redacts_good : (left : ℕ) (o : Option (List ℕ)) (b d : Option (List (List ℕ))) (n m : ℕ) (h : Bool) (kept : List (ℕ × Spot)) (w x : Option (List ℕ)) (line : List ℕ) (p : Option Line) → Redacts (lines_ahead left o) b n m h kept w x → NextText b d line p → p ≡ None
    → IfSome (ahead left o) (λ ls. bad_from Redacted n ls ≡ None)
redacts_good left None b d n m h kept w x line p r t e = tt
redacts_good left (Some text) None d n m h kept w x line p r t e = absurd r
redacts_good left (Some text) (Some rest) d n m h kept w x line p r t e =
    among_from n (map session_line (take left (whole_lines text))) ∙ r.bad ∙ ap (λ q. bad_among h m (map session_line q)) (subst (NextText (Some rest) d line) e t)

pub redacts_all : (a b d : Option (List (List ℕ))) (n m : ℕ) (h : Bool) (kept : List (ℕ × Spot)) (w x : Option (List ℕ)) (line : List ℕ) (p : Option Line) → Redacts a b n m h kept w x → NextText b d line p → p ≡ None
    → IfSome a (λ ls. Appends w x (redacted_lines [] ls))
redacts_all None b d n m h kept w x line p r t e = tt
redacts_all (Some ls) None d n m h kept w x line p r t e = absurd r
redacts_all (Some ls) (Some rest) d n m h kept w x line p r t e =
    subst (Appends w x) (sym (append-nil r.front) ∙ ap (λ q. r.front ++ redacted_lines r.before q) (sym (subst (NextText (Some rest) d line) e t)) ∙ r.text) r.wrote
