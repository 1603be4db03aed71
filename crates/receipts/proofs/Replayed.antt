-- A run of the drawing calls with one viewer's own events, event by event.
use Rattle.std.proofs.Common.{◌≡◌, ℕ, ◌+◌, ◌<◌, Bool, true, false, cond, List, [], ◌∷◌, ◌++◌, length, get_or, take, drop, refl, sym, ap, ◌∙◌, append_assoc}
use Rattle.std.proofs.lemmas.List.{append-nil}
use Rattle.std.specs.Prelude.{flat_map}
use Rattle.std.specs.List.{list_all}
use Rattle.std.proofs.lemmas.Bool.{and_from}
use Rattle.std.proofs.lemmas.List.Elements.{filter_more}
use Rattle.scene.specs.declared.Config.{Config}
use Rattle.scene.specs.declared.Event.{Event}
use Rattle.scene.specs.declared.Answer.{Answer}
use Rattle.scene.specs.Alone.{owner_of}
use Rattle.scene.specs.Answers.{own, is_owner, answer_to, answers_after}
use Rattle.receipts.proofs.Reading.{left_is}

abbrev is_own : ℕ → Event → Bool
is_own v e = is_owner v (owner_of e)

taken : (v : ℕ) (es : List Event) (i : ℕ) (e : Event) → i < length es → e ≡ get_or es i e → own v (take (i + 1) es) ≡ own v (take i es) ++ cond (is_own v e) (e ∷ []) []
taken v es i e within is = filter_more (is_own v) es i e within ∙ ap (λ x. own v (take i es) ++ cond (is_own v x) (x ∷ []) []) (sym is)

left : (v : ℕ) (es : List Event) (i : ℕ) (e : Event) → i < length es → e ≡ get_or es i e → own v (drop i es) ≡ cond (is_own v e) (e ∷ own v (drop (i + 1) es)) (own v (drop (i + 1) es))
left v es i e within is = ap (own v) (left_is es i e within is)

pub own_taken : (v : ℕ) (es : List Event) (i : ℕ) (e : Event) → i < length es → e ≡ get_or es i e → is_own v e ≡ true → own v (take (i + 1) es) ≡ own v (take i es) ++ e ∷ []
own_taken v es i e within is h = taken v es i e within is ∙ ap (λ b. own v (take i es) ++ cond b (e ∷ []) []) h

pub own_left : (v : ℕ) (es : List Event) (i : ℕ) (e : Event) → i < length es → e ≡ get_or es i e → is_own v e ≡ true → own v (drop i es) ≡ e ∷ own v (drop (i + 1) es)
own_left v es i e within is h = left v es i e within is ∙ ap (λ b. cond b (e ∷ own v (drop (i + 1) es)) (own v (drop (i + 1) es))) h

pub other_taken : (v : ℕ) (es : List Event) (i : ℕ) (e : Event) → i < length es → e ≡ get_or es i e → is_own v e ≡ false → own v (take (i + 1) es) ≡ own v (take i es)
other_taken v es i e within is h = taken v es i e within is ∙ ap (λ b. own v (take i es) ++ cond b (e ∷ []) []) h ∙ append-nil (own v (take i es))

pub other_left : (v : ℕ) (es : List Event) (i : ℕ) (e : Event) → i < length es → e ≡ get_or es i e → is_own v e ≡ false → own v (drop i es) ≡ own v (drop (i + 1) es)
other_left v es i e within is h = left v es i e within is ∙ ap (λ b. cond b (e ∷ own v (drop (i + 1) es)) (own v (drop (i + 1) es))) h

-- the bytes of one more answer
pub bytes_more : (c : Config) (front rest : List Event) (e : Event) (a : Answer) (sent all : List ℕ) → a ≡ answer_to c front e → sent ++ flat_map (λ x. x.bytes) (answers_after c front (e ∷ rest)) ≡ all → sent ++ a.bytes ++ flat_map (λ x. x.bytes) (answers_after c (front ++ e ∷ []) rest) ≡ all
bytes_more c front rest e a sent all is h =
    append_assoc sent a.bytes (flat_map (λ x. x.bytes) (answers_after c (front ++ e ∷ []) rest))
    ∙ ap (λ x. sent ++ (x.bytes ++ flat_map (λ y. y.bytes) (answers_after c (front ++ e ∷ []) rest))) is ∙ h

pub own_are_own : (v : ℕ) (es : List Event) → list_all (λ e. is_owner v (owner_of e)) (own v es) ≡ true
own_are_own v [] = refl
own_are_own v (e ∷ es) = go (is_own v e) refl (own_are_own v es)
  where
    go : (b : Bool) → is_own v e ≡ b → list_all (is_own v) (own v es) ≡ true → list_all (is_own v) (cond b (e ∷ own v es) (own v es)) ≡ true
    go true h rest = and_from _ _ h rest
    go false h rest = rest
