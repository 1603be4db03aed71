-- Inputs that an application is told, one after the other.
use Rattle.std.proofs.Common.{◌≡◌, List, [], ◌∷◌, ◌++◌, ap, sym, ◌∙◌, subst, append_assoc, append-nil}
use Rattle.input_queue.specs.declared.Told.{Told}
use Rattle.input_queue.specs.Ends.{Taking}
use Rattle.serving.specs.Telling.{IsTold, Stays, Took}

-- nothing was told, and nothing taken
pub told-nothing : {A : Type 0} (stands : A → List Told → Type 0) (x : A) → IsTold stands [] x x
told-nothing stands x = λ inputs h. subst (stands x) (sym (append-nil inputs)) h

took-nothing : (t : Taking) → Took [] t t
took-nothing t = ap (λ (l : List Told). record t { taken = l }) (sym (append-nil t.taken))

pub told-stays : {A : Type 0} (stands : A → List Told → Type 0) (x y : A) → Stays stands x y → IsTold stands [] x y
told-stays stands x y p = λ inputs h. subst (stands y) (sym (append-nil inputs)) (p inputs h)

pub took-none : (t u : Taking) → u ≡ t → Took [] t u
took-none t u same = same ∙ took-nothing t

-- and then some more
pub told-then : {A : Type 0} (stands : A → List Told → Type 0) (x y z : A) (before more : List Told) → IsTold stands before x y → IsTold stands more y z → IsTold stands (before ++ more) x z
told-then stands x y z before more p q = λ inputs h. subst (stands z) (append_assoc inputs before more) (q (inputs ++ before) (p inputs h))

pub took-then : (t u v : Taking) (before more : List Told) → Took before t u → Took more u v → Took (before ++ more) t v
took-then t u v before more p q =
    q ∙ ap (λ (w : Taking). record w { taken = w.taken ++ more }) p ∙ ap (λ (l : List Told). record t { taken = l }) (append_assoc t.taken before more)

-- an application that stands for the same is told nothing
pub stays-then : {A : Type 0} (stands : A → List Told → Type 0) (x y z : A) → Stays stands x y → Stays stands y z → Stays stands x z
stays-then stands x y z p q = λ inputs h. q inputs (p inputs h)
