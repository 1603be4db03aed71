-- What holds of each seat.
use Rattle.std.proofs.Common.{◌≡◌, ℕ, zero, suc, Bool, true, false, cond, List, [], ◌∷◌, ◌++◌, All, Some, sym, subst, arith}
use Rattle.std.specs.Prelude.{◌==◌, filter}
use Rattle.std.specs.Map.{values_of}
use Rattle.std.proofs.lemmas.Option.{same_Some}
use Rattle.client_list.specs.Connected.{set_value_at}
use Rattle.viewer.specs.Viewer.{KeptViewer}
use Rattle.scene.proofs.Connected.{viewer_numbered}

all-cons : (P : KeptViewer → Type 0) (s : KeptViewer) (seats : List KeptViewer) → P s → All P seats → All P (s ∷ seats)
all-cons P s seats here rest zero d below = here
all-cons P s seats here rest (suc k) d below = rest k d (omega (arith, below))

pub all-tail : (P : KeptViewer → Type 0) (s : KeptViewer) (seats : List KeptViewer) → All P (s ∷ seats) → All P seats
all-tail P s seats all = λ k d below. all (suc k) d (omega (arith, below))

pub all-head : (P : KeptViewer → Type 0) (s : KeptViewer) (seats : List KeptViewer) → All P (s ∷ seats) → P s
all-head P s seats all = all 0 s (omega arith)

module _ (P : KeptViewer → Type 0) where
  -- it holds still once one seat is another of which it holds
  pub all-set : (pairs : List (ℕ × KeptViewer)) (i : ℕ) (new : KeptViewer) → All P (values_of pairs) → P new → All P (values_of (set_value_at pairs i new))
  all-set [] i new all here = all
  all-set (pair ∷ pairs) zero new all here = all-cons P new (values_of pairs) here (all-tail P pair.1 (values_of pairs) all)
  all-set (pair ∷ pairs) (suc i) new all here = all-cons P pair.1 (values_of (set_value_at pairs i new)) (all-head P pair.1 (values_of pairs) all) (all-set pairs i new (all-tail P pair.1 (values_of pairs) all) here)

  -- of some of the seats
  pub all-some : (test : ℕ × KeptViewer → Bool) (pairs : List (ℕ × KeptViewer)) → All P (values_of pairs) → All P (values_of (filter test pairs))
  all-some test [] all = all
  all-some test (pair ∷ pairs) all =
      let rest = all-some test pairs (all-tail P pair.1 (values_of pairs) all) in
      elim (test pair) as (λ b. All P (values_of (cond b (pair ∷ filter test pairs) (filter test pairs)))) [
        | true ↦ all-cons P pair.1 (values_of (filter test pairs)) (all-head P pair.1 (values_of pairs) all) rest
        | false ↦ rest
      ]

  -- of one more
  pub all-last : (pairs : List (ℕ × KeptViewer)) (number : ℕ) (new : KeptViewer) → All P (values_of pairs) → P new → All P (values_of (pairs ++ (number, new) ∷ []))
  all-last [] number new all here = all-cons P new [] here all
  all-last (pair ∷ pairs) number new all here = all-cons P pair.1 (values_of (pairs ++ (number, new) ∷ [])) (all-head P pair.1 (values_of pairs) all) (all-last pairs number new (all-tail P pair.1 (values_of pairs) all) here)

  -- of the one with a number
  pub all-at : (pairs : List (ℕ × KeptViewer)) (v : ℕ) (old : KeptViewer) → All P (values_of pairs) → Some old ≡ viewer_numbered pairs v → P old
  all-at [] v old all there = absurd (cc)
  all-at (pair ∷ pairs) v old all there = go (pair.0 == v) there (λ later. all-at pairs v old (all-tail P pair.1 (values_of pairs) all) later)
    where
      go : (b : Bool) → Some old ≡ cond b (Some pair.1) (viewer_numbered pairs v) → (Some old ≡ viewer_numbered pairs v → P old) → P old
      go true e later = subst P (same_Some pair.1 old (sym e)) (all-head P pair.1 (values_of pairs) all)
      go false e later = later e
