-- The maximal runs of a function, stretch by stretch of equal values.
use Rattle.std.proofs.Common.{◌≡◌, ◌≢◌, ℕ, zero, suc, ◌+◌, ◌<◌, ◌≤◌, Bool, true, false, cond, ◌&&◌, List, [], ◌∷◌, ◌++◌, refl, subst, sym, ◌∙◌, ap, arith, Option, Some, None, ◌⊎◌, inl, inr}
use Rattle.std.specs.Prelude.{ℤ, pos, ◌<ℤ◌}
use Rattle.std.specs.Ordering.{int_eq}
use Rattle.std.proofs.lemmas.Bool.Decides.{Decides-int_eq}
use Rattle.std.proofs.lemmas.Int.{ints}
use Rattle.region.specs.Runs.{Run, AreRuns, with_value, runs_of}
use Rattle.region.specs.RunLemmas.{value_at, inside, first_some}
use Rattle.region.specs.MaximalLemmas.{runs_of_runs, value_at-runs_of}

-- a stretch is one run, or none where it has no value
abbrev pub stretch : {V : Type 0} → ℤ → ℤ → Option V → List (Run V)
stretch from to None = []
stretch from to (Some v) = record { from = from; to = to; value = v } ∷ []

module _ {V : Type 0} (same : V → V → Bool) where
  -- runs depend on the values of their numbers alone
  pub runs_of-ext : (f g : ℤ → Option V) (n count : ℕ) → ((y : ℕ) → n ≤ y → y < n + count → f (pos y) ≡ g (pos y)) → runs_of same f (pos n) count ≡ runs_of same g (pos n) count
  runs_of-ext f g n zero agree = refl
  runs_of-ext f g n (suc count) agree =
      ap (λ o. with_value same (pos n) o (runs_of same f (pos (n + 1)) count)) (agree n (omega arith) (omega arith))
      ∙ ap (with_value same (pos n) (g (pos n))) (runs_of-ext f g (n + 1) count (λ y low high. agree y (omega arith) (omega arith)))

module _ {V : Type 0} (same : V → V → Bool) (exact : (u v : V) → same u v ≡ true → u ≡ v) (whole : (u : V) → same u u ≡ true) where
  some_inj : {x y : V} → Some x ≡ Some y → x ≡ y
  some_inj e = cc

  -- and determine them
  pub runs_of-tell : (f g : ℤ → Option V) (n count : ℕ) → runs_of same f (pos n) count ≡ runs_of same g (pos n) count → (y : ℕ) → n ≤ y → y < n + count → f (pos y) ≡ g (pos y)
  runs_of-tell f g n count e y low high =
      sym (value_at-runs_of same exact whole f (pos n) count (pos y) (omega (arith, ints)) (omega (arith, ints)))
      ∙ ap (λ rs. value_at rs (pos y)) e
      ∙ value_at-runs_of same exact whole g (pos n) count (pos y) (omega (arith, ints)) (omega (arith, ints))

  -- a number before another value is a run of its own
  apart : (f : ℤ → Option V) (n count : ℕ) (v : V) → (count ≡ 0) ⊎ (f (pos (n + 1)) ≢ Some v)
      → with_value same (pos n) (Some v) (runs_of same f (pos (n + 1)) count) ≡ stretch (pos n) (pos (n + 1)) (Some v) ++ runs_of same f (pos (n + 1)) count
  apart f n zero v ends = refl
  apart f n (suc count) v ends = go (runs_of same f (pos (n + 1)) (suc count)) refl
    where
      not_same : (r : Run V) (later : List (Run V)) → runs_of same f (pos (n + 1)) (suc count) ≡ r ∷ later → (a b : Bool) → int_eq r.from (pos (n + 1)) ≡ a → same v r.value ≡ b → (a && b) ≡ false
      not_same r later e true true p q =
          let from : r.from ≡ pos (n + 1) = (Decides-int_eq r.from (pos (n + 1))).0 p in
          let runs : AreRuns (r ∷ later) = subst AreRuns e (runs_of_runs same exact whole f (pos (n + 1)) (suc count)).0 in
          let some : r.from <ℤ r.to = first_some r later runs in
          elim ends as (λ _. true ≡ false) [
            | inl none ↦ absurd (zero-suc count none)
            | inr other ↦ absurd (other (
                sym (value_at-runs_of same exact whole f (pos (n + 1)) (suc count) (pos (n + 1)) (omega (arith, ints)) (omega (arith, ints)))
                ∙ ap (λ rs. value_at rs (pos (n + 1))) e
                ∙ inside r later (pos (n + 1)) (omega (arith, ints, from)) (omega (arith, ints, from, some))
                ∙ ap Some (sym (exact v r.value q))))
          ]
        where
          zero-suc : (n : ℕ) → suc n ≡ 0 → ⊥
          zero-suc n e = omega (arith, e)
      not_same r later e true false p q = refl
      not_same r later e false b p q = refl

      go : (rs : List (Run V)) → runs_of same f (pos (n + 1)) (suc count) ≡ rs → with_value same (pos n) (Some v) rs ≡ record { from = pos n; to = pos (n + 1); value = v } ∷ rs
      go [] e = refl
      go (r ∷ later) e = ap (λ b. cond b (record { from = pos n; to = r.to; value = v } ∷ later) (record { from = pos n; to = pos (n + 1); value = v } ∷ r ∷ later)) (not_same r later e (int_eq r.from (pos (n + 1))) (same v r.value) refl refl)

  -- a stretch of equal values is one run, before the runs of what follows
  pub runs_of-stretch : (f : ℤ → Option V) (n k count total : ℕ) → total ≡ k + count → ((y : ℕ) → n ≤ y → y < n + suc k → f (pos y) ≡ f (pos n)) → (count ≡ 0) ⊎ (f (pos (n + suc k)) ≢ f (pos n))
      → runs_of same f (pos n) (suc total) ≡ stretch (pos n) (pos (n + suc k)) (f (pos n)) ++ runs_of same f (pos (n + suc k)) count
  runs_of-stretch f n zero count total e equal ends =
      ap (λ t. with_value same (pos n) (f (pos n)) (runs_of same f (pos (n + 1)) t)) (omega (arith, e)) ∙ go (f (pos n)) ends
    where
      go : (o : Option V) → (count ≡ 0) ⊎ (f (pos (n + 1)) ≢ o) → with_value same (pos n) o (runs_of same f (pos (n + 1)) count) ≡ stretch (pos n) (pos (n + 1)) o ++ runs_of same f (pos (n + 1)) count
      go None ends = refl
      go (Some v) ends = apart f n count v ends
  runs_of-stretch f n (suc k) count total e equal ends =
      ap (λ t. runs_of same f (pos n) (suc t)) total_is
      ∙ ap (with_value same (pos n) (f (pos n))) (
      runs_of-stretch f (n + 1) k count (k + count) refl (λ y low high. equal y (omega arith) (omega arith) ∙ sym next) last
      ∙ ap (λ m. stretch (pos (n + 1)) (pos m) (f (pos (n + 1))) ++ runs_of same f (pos m) count) at
      ∙ ap (λ o. stretch (pos (n + 1)) (pos (n + suc (suc k))) o ++ runs_of same f (pos (n + suc (suc k))) count) next)
      ∙ go (f (pos n))
    where
      total_is : total ≡ suc (k + count)
      total_is = omega (arith, e)

      at : n + 1 + suc k ≡ n + suc (suc k)
      at = omega arith

      next : f (pos (n + 1)) ≡ f (pos n)
      next = equal (n + 1) (omega arith) (omega arith)

      last : (count ≡ 0) ⊎ (f (pos (n + 1 + suc k)) ≢ f (pos (n + 1)))
      last = elim ends [ inl none ↦ inl none | inr other ↦ inr (λ e. other (ap (λ m. f (pos m)) (sym at) ∙ e ∙ next)) ]

      go : (o : Option V) → with_value same (pos n) o (stretch (pos (n + 1)) (pos (n + suc (suc k))) o ++ runs_of same f (pos (n + suc (suc k))) count) ≡ stretch (pos n) (pos (n + suc (suc k))) o ++ runs_of same f (pos (n + suc (suc k))) count
      go None = refl
      go (Some v) = rw ((Decides-int_eq (pos (n + 1)) (pos (n + 1))).1 refl, whole v) refl
