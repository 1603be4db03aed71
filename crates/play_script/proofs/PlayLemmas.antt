-- A line more of what is printed.
use Rattle.std.specs.Prelude.{IfSome}
use Rattle.std.specs.Option.{option_map_or}
use Rattle.std.proofs.Common.{Bor, length, arith, ◌<◌, ◌≤◌, ◌≡◌, ℕ, ◌+◌, List, ◌∷◌, ◌++◌, Option, Some, None, sym, ap, ◌∙◌, append_assoc}
use Rattle.std.proofs.lemmas.List.{append-nil}
use Rattle.std.specs.Io.KnownBytes.{Appends}
use Rattle.screen.specs.State.{State}
use Rattle.play_script.specs.declared.lines.Line.{Line}
use Rattle.play_script.specs.Transcript.{Played, Next, on, over, step_of, Outcome, with_text, outcome_from}
use Rattle.play_script.specs.Playing.{StandsFor, GoesOn}

pub appends_more : (a b c : Option (List ℕ)) (xs ys zs : List ℕ) → Appends a b xs → Appends b c ys → zs ≡ xs ++ ys → Appends a c zs
appends_more None b c xs ys zs h g e = tt
appends_more (Some x) None c xs ys zs h g e = absurd h
appends_more (Some x) (Some y) None xs ys zs h g e = absurd g
appends_more (Some x) (Some y) (Some z) xs ys zs h g e =
    g ∙ ap (λ r. r ++ ys) h ∙ append_assoc x xs ys ∙ ap (λ r. x ++ r) (sym e)

regrouped : (front text : List ℕ) (o : Outcome) → with_text (front ++ text) o ≡ with_text front (with_text text o)
regrouped front text o =
    let f : List ℕ → Outcome = λ t. record { text = t; status = o.status } in
    ap f (append_assoc front text o.text)

-- A script goes on with a screen that stands for what was played.
pub record On (n : ℕ) (front : List ℕ) (screen : Option State) (lines : List Line) (whole : Outcome) : Type 0 where
  pub played : Option Played
  pub stands : StandsFor screen played
  pub rest : with_text front (outcome_from n (on played) lines) ≡ whole

goes_by : (n : ℕ) (front text : List ℕ) (status : Option ℕ) (screen : Option State) (next : Next) (lines : List Line) (whole : Outcome) → with_text front (with_text text (outcome_from n next lines)) ≡ whole → GoesOn status screen next → status ≡ None → On n (front ++ text) screen lines whole
goes_by n front text None screen (on q) lines whole e h s = record { played = q; stands = h; rest = regrouped front text (outcome_from n (on q) lines) ∙ e }
goes_by n front text None screen (over end) lines whole e h s = absurd h
goes_by n front text (Some status) screen next lines whole e h s = cc

pub goes_on : (n : ℕ) (front : List ℕ) (p : Option Played) (line : Line) (lines before : List Line) (text : List ℕ) (status : Option ℕ) (screen : Option State) (whole : Outcome)
    → before ≡ line ∷ lines → with_text front (outcome_from n (on p) before) ≡ whole → text ≡ (step_of (n + 1) p line).text → GoesOn status screen (step_of (n + 1) p line).next → status ≡ None
    → On (n + 1) (front ++ text) screen lines whole
goes_on n front p line lines before text status screen whole b e t h s =
    let f : List Line → Outcome = λ ls. with_text front (outcome_from n (on p) ls) in
    let g : List ℕ → Outcome = λ xs. with_text front (with_text xs (outcome_from (n + 1) (step_of (n + 1) p line).next lines)) in
    goes_by (n + 1) front text status screen (step_of (n + 1) p line).next lines whole (ap g t ∙ sym (ap f b) ∙ e) h s

ends_by : (n : ℕ) (front text : List ℕ) (status : Option ℕ) (code : ℕ) (screen : Option State) (next : Next) (lines : List Line) (whole : Outcome) → with_text front (with_text text (outcome_from n next lines)) ≡ whole → GoesOn status screen next → status ≡ Some code → (whole.text ≡ front ++ text) × (code ≡ whole.status)
ends_by n front text None code screen next lines whole e h s = cc
ends_by n front text (Some status) code screen (on q) lines whole e h s = absurd h
ends_by n front text (Some status) code screen (over end) lines whole e h s =
    let same : status ≡ code = cc in
    (ap (λ (o : Outcome). o.text) (sym e) ∙ ap (λ r. front ++ r) (append-nil text), sym same ∙ h ∙ ap (λ (o : Outcome). o.status) e)

pub ends : (n : ℕ) (front : List ℕ) (p : Option Played) (line : Line) (lines before : List Line) (text : List ℕ) (status : Option ℕ) (code : ℕ) (screen : Option State) (whole : Outcome)
    → before ≡ line ∷ lines → with_text front (outcome_from n (on p) before) ≡ whole → text ≡ (step_of (n + 1) p line).text → GoesOn status screen (step_of (n + 1) p line).next → status ≡ Some code
    → (whole.text ≡ front ++ text) × (code ≡ whole.status)
ends n front p line lines before text status code screen whole b e t h s =
    let f : List Line → Outcome = λ ls. with_text front (outcome_from n (on p) ls) in
    let g : List ℕ → Outcome = λ xs. with_text front (with_text xs (outcome_from (n + 1) (step_of (n + 1) p line).next lines)) in
    ends_by (n + 1) front text status code screen (step_of (n + 1) p line).next lines whole (ap g t ∙ sym (ap f b) ∙ e) h s

-- what stands behind a line is shorter than the text
pub shorter : (rest : Option (Bor (List ℕ))) (n : ℕ) → IfSome rest (λ r. length r.now < n) → option_map_or (λ (r : Bor (List ℕ)). length r.now + 1) rest 0 ≤ n
shorter None n h = omega arith
shorter (Some r) n h = omega (arith, h)
