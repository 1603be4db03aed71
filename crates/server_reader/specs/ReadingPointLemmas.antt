-- Steps one after the other: lemmas for the crates above.
use Rattle.std.proofs.Common.{ℕ, ◌≤◌, ◌≡◌, List, ◌++◌, length, refl, sym, subst, ◌∙◌, append_assoc}
use Rattle.server_reader.specs.Stages.{Point, Same}
use Rattle.server_reader.specs.Steps.{ReadingPoint, GoesOn}

pub goes_on_itself : (s : ReadingPoint) → GoesOn s s
goes_on_itself s later n room = record { left = n; room = room; is = refl }

pub goes_on_through : (p q r : ReadingPoint) → GoesOn p q → GoesOn q r → GoesOn p r
goes_on_through p q r first second later n room =
    let a = first later n room in
    let b = second later a.left a.room in
    record { left = b.left; room = b.room; is = a.is ∙ b.is }

-- a further piece stands behind what is left of the one before
pub goes_on_with : (p q : ReadingPoint) (next : List ℕ) → GoesOn p q → GoesOn (record p { left = p.left ++ next }) (record q { left = q.left ++ next })
goes_on_with p q next goes later n room =
    let before : List ℕ → Point = λ bytes. record { state = p.view.state; shown = p.shown; colours = p.colours; bytes = p.view.held ++ bytes } in
    let after : List ℕ → Point = λ bytes. record { state = q.view.state; shown = q.shown; colours = q.colours; bytes = q.view.held ++ bytes } in
    let p_one : p.left ++ next ++ later ≡ p.left ++ (next ++ later) = append_assoc p.left next later in
    let q_one : q.left ++ next ++ later ≡ q.left ++ (next ++ later) = append_assoc q.left next later in
    let P : List ℕ → Type 0 = λ bytes. length (p.view.held ++ bytes) ≤ n in
    let Q : List ℕ → Type 0 = λ bytes. Same n (before (p.left ++ next ++ later)) (after bytes) in
    let R : List ℕ → Type 0 = λ bytes. Same n (before bytes) (after (q.left ++ (next ++ later))) in
    subst Q (sym q_one) (subst R (sym p_one) (goes (next ++ later) n (subst P p_one room)))
