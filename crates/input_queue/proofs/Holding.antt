-- What is down by what was accepted at a seat.
use Rattle.std.specs.Prelude.{IfOk, MatchResult, is_err}
use Rattle.std.proofs.Common.{◌≡◌, Bool, true, false, Result, Ok, Err, List, [], ◌∷◌, ◌++◌, Some, refl, sym, ap, ◌∙◌, subst}
use Rattle.messages.specs.declared.Input.{Input}
use Rattle.held_inputs.specs.Held.{Held, nothing, after, owed}
use Rattle.input_queue.specs.declared.Told.{Told}
use Rattle.input_queue.specs.Ends.{Putting, accepting, held_behind, held_by, Settles}

pub behind-more : (held : Held) (ts : List Told) (t : Told) → held_behind held (ts ++ t ∷ []) ≡ after (held_behind held ts) t.input
behind-more held [] t = refl
behind-more held (u ∷ ts) t = behind-more (after held u.input) ts t

pub by-more : (h : Held) (ts us : List Told) (t : Told) → h ≡ held_by ts → us ≡ ts ++ t ∷ [] → after h t.input ≡ held_by us
by-more h ts us t is more = ap (λ (q : Held). after q t.input) is ∙ sym (behind-more nothing ts t) ∙ ap held_by (sym more)

pub settles-then : (held : Held) (inputs : List Input) (input : Input) (s t u : Putting) → Settles held inputs s t → owed (held_by t.accepted) held ≡ Some input → u ≡ accepting input t
    → Settles held (inputs ++ input ∷ []) s u
settles-then held [] input s t u same is next =
    let is-s = subst (λ (q : Putting). owed (held_by q.accepted) held ≡ Some input) same is in
    (is-s, next ∙ ap (accepting input) same)
settles-then held (i ∷ inputs) input s t u all is next = (all.0, settles-then held inputs input (accepting i s) t u all.1 is next)

-- the seat stays that of its queue
pub settles-frame : (held : Held) (inputs : List Input) (s t : Putting) → Settles held inputs s t → t ≡ record s { accepted = t.accepted }
settles-frame held [] s t all = all ∙ ap (λ (q : Putting). record s { accepted = q.accepted }) (sym all)
settles-frame held (i ∷ inputs) s t all = settles-frame held inputs (accepting i s) t all.1

pub when-ok : {T E : Type 0} (r : Result T E) (b : Bool) (P : Type 0) → IfOk r (λ _. P) → b ≡ is_err r → b ≡ false → P
when-ok (Ok u) b P h e is = h
when-ok (Err x) b P h e is = absurd cc

pub when-err : {T E : Type 0} (r : Result T E) (b : Bool) (Q : E → Type 0) (P : Type 0) → MatchResult r (λ _. Unit {0}) (λ e. Q e × P) → b ≡ is_err r → b ≡ true → P
when-err (Ok u) b Q P h e was = absurd cc
when-err (Err x) b Q P h e was = h.1
