-- The maximal runs of a function have its values.
use Rattle.std.proofs.Common.{◌≡◌, ◌≢◌, ℕ, zero, suc, Bool, true, false, cond, ◌&&◌, List, [], ◌∷◌, refl, sym, ◌∙◌, ap, arith, Option, Some, None}
use Rattle.std.specs.Prelude.{ℤ, pos, ◌+ℤ◌, ◌<ℤ◌, ◌≤ℤ◌}
use Rattle.std.specs.Ordering.{int_eq}
use Rattle.std.proofs.lemmas.Bool.Decides.{Decides-int_eq}
use Rattle.std.proofs.lemmas.Int.{ints, by_lt_z}
use Rattle.region.specs.Runs.{Run, AreRuns, with_value, runs_of}
use Rattle.region.specs.RunLemmas.{value_at, inside, below_first, above_first, nothing_below, first_some}

true-false : true ≡ false → ⊥
true-false e = cc

-- runs that begin at n or later
abbrev pub StartFrom : {V : Type 0} → ℤ → List (Run V) → Type 0
StartFrom n [] = Unit {0}
StartFrom n (r ∷ rs) = n ≤ℤ r.from

pub nothing_before : {V : Type 0} (n : ℤ) (rs : List (Run V)) (y : ℤ) → AreRuns rs → StartFrom n rs → y <ℤ n → value_at rs y ≡ None
nothing_before n [] y h from low = refl
nothing_before n (r ∷ rs) y h from low = nothing_below r rs y h (omega (arith, ints, from, low))

-- an integer is before, at or behind another
by_place : {P : Type 0} (y n : ℤ) → (y <ℤ n → P) → (y ≡ n → P) → (n <ℤ y → P) → P
by_place y n less same more = by_lt_z y n less (λ h. by_lt_z n y more (λ k. same (omega (arith, ints, h, k))))

module _ {V : Type 0} (same : V → V → Bool) (exact : (u v : V) → same u v ≡ true → u ≡ v) (whole : (u : V) → same u u ≡ true) where
  -- what one more number makes of the runs behind it
  record Extends (n : ℤ) (o : Option V) (later made : List (Run V)) : Type 0 where
    here : value_at made n ≡ o
    elsewhere : (y : ℤ) → y ≢ n → value_at made y ≡ value_at later y
    runs : AreRuns made
    start : StartFrom n made

  one : ℤ → V → Run V
  one n v = record { from = n; to = n +ℤ pos 1; value = v }

  alone : (n : ℤ) (v : V) (later : List (Run V)) → AreRuns (record { from = n; to = n +ℤ pos 1; value = v } ∷ later) → Extends n (Some v) later (record { from = n; to = n +ℤ pos 1; value = v } ∷ later)
  alone n v later runs =
      let r : Run V = record { from = n; to = n +ℤ pos 1; value = v } in
      record {
        here = inside r later n (omega (arith, ints)) (omega (arith, ints));
        elsewhere = λ y other. by_place y n (λ less. below_first r later y less) (λ e. absurd (other e)) (λ more. above_first r later y (omega (arith, ints, more)));
        runs = runs;
        start = omega (arith, ints);
      }

  -- it joins the run that begins right behind it
  joined : (n : ℤ) (v : V) (r : Run V) (later : List (Run V)) → AreRuns (r ∷ later) → r.from ≡ n +ℤ pos 1 → v ≡ r.value
      → Extends n (Some v) (r ∷ later) (record { from = n; to = r.to; value = v } ∷ later)
  joined n v r later h touch e =
      let j : Run V = record { from = n; to = r.to; value = v } in
      let some : r.from <ℤ r.to = first_some r later h in
      record {
        here = inside j later n (omega (arith, ints)) (omega (arith, ints, touch, some));
        elsewhere = λ y other. by_place y n
            (λ less. below_first j later y less ∙ sym (below_first r later y (omega (arith, ints, touch, less))))
            (λ e. absurd (other e))
            (λ more. by_lt_z y r.to
            (λ within. inside j later y (omega (arith, ints, more)) within ∙ ap Some e ∙ sym (inside r later y (omega (arith, ints, touch, more)) within))
            (λ behind. above_first j later y behind ∙ sym (above_first r later y behind)));
        runs = joined_runs r later h touch e;
        start = omega (arith, ints);
      }
    where
      joined_runs : (r : Run V) (later : List (Run V)) → AreRuns (r ∷ later) → r.from ≡ n +ℤ pos 1 → v ≡ r.value → AreRuns (record { from = n; to = r.to; value = v } ∷ later)
      joined_runs r [] h touch e = omega (arith, ints, touch, h)
      joined_runs r (s ∷ later) h touch e = (omega (arith, ints, touch, h.0), h.1, λ meet equal. h.2 meet (sym e ∙ equal), h.3)

  extends : (n : ℤ) (o : Option V) (later : List (Run V)) → AreRuns later → StartFrom (n +ℤ pos 1) later → Extends n o later (with_value same n o later)
  extends n None later h from = record {
    here = nothing_before (n +ℤ pos 1) later n h from (omega (arith, ints));
    elsewhere = λ y other. refl;
    runs = h;
    start = earlier n later from;
  }
    where
      earlier : (n : ℤ) (later : List (Run V)) → StartFrom (n +ℤ pos 1) later → StartFrom n later
      earlier n [] from = tt
      earlier n (r ∷ rs) from = omega (arith, ints, from)
  extends n (Some v) [] h from = alone n v [] (omega (arith, ints))
  extends n (Some v) (r ∷ later) h from = go (int_eq r.from (n +ℤ pos 1)) (same v r.value) refl refl
    where
      go : (a b : Bool) → int_eq r.from (n +ℤ pos 1) ≡ a → same v r.value ≡ b → Extends n (Some v) (r ∷ later)
          (cond (a && b) (record { from = n; to = r.to; value = v } ∷ later) (record { from = n; to = n +ℤ pos 1; value = v } ∷ r ∷ later))
      go true true p q = joined n v r later h ((Decides-int_eq r.from (n +ℤ pos 1)).0 p) (exact v r.value q)
      go true false p q = alone n v (r ∷ later) (omega (arith, ints), omega (arith, ints, from), λ meet equal. true-false (sym (whole v) ∙ ap (same v) equal ∙ q), h)
      go false true p q = alone n v (r ∷ later) (omega (arith, ints), omega (arith, ints, from), λ meet equal. true-false (sym ((Decides-int_eq r.from (n +ℤ pos 1)).1 (sym meet)) ∙ p), h)
      go false false p q = alone n v (r ∷ later) (omega (arith, ints), omega (arith, ints, from), λ meet equal. true-false (sym (whole v) ∙ ap (same v) equal ∙ q), h)

  -- the runs of a function are runs, from its first number on
  pub runs_of_runs : (f : ℤ → Option V) (n : ℤ) (count : ℕ) → AreRuns (runs_of same f n count) × StartFrom n (runs_of same f n count)
  runs_of_runs f n zero = (tt, tt)
  runs_of_runs f n (suc count) =
      let behind = runs_of_runs f (n +ℤ pos 1) count in
      let made = extends n (f n) (runs_of same f (n +ℤ pos 1) count) behind.0 behind.1 in
      (made.runs, made.start)

  -- with its values
  pub value_at-runs_of : (f : ℤ → Option V) (n : ℤ) (count : ℕ) (y : ℤ) → n ≤ℤ y → y <ℤ (n +ℤ pos count) → value_at (runs_of same f n count) y ≡ f y
  value_at-runs_of f n zero y low high = absurd (none-between n y low high)
    where
      none-between : (n y : ℤ) → n ≤ℤ y → y <ℤ (n +ℤ pos 0) → ⊥
      none-between n y low high = omega (arith, ints, low, high)
  value_at-runs_of f n (suc count) y low high =
      let behind = runs_of_runs f (n +ℤ pos 1) count in
      let made = extends n (f n) (runs_of same f (n +ℤ pos 1) count) behind.0 behind.1 in
      by_lt_z n y
      (λ more. made.elsewhere y (λ e. apart n y more e) ∙ value_at-runs_of f (n +ℤ pos 1) count y (omega (arith, ints, more)) (omega (arith, ints, high)))
      (λ not_more. let e : y ≡ n = omega (arith, ints, low, not_more) in ap (value_at (runs_of same f n (suc count))) e ∙ made.here ∙ ap f (sym e))
    where
      apart : (n y : ℤ) → n <ℤ y → y ≡ n → ⊥
      apart n y more e = omega (arith, ints, more, e)

  pub value_at-runs_of_above : (f : ℤ → Option V) (n : ℤ) (count : ℕ) (y : ℤ) → (n +ℤ pos count) ≤ℤ y → value_at (runs_of same f n count) y ≡ None
  value_at-runs_of_above f n zero y high = refl
  value_at-runs_of_above f n (suc count) y high =
      let behind = runs_of_runs f (n +ℤ pos 1) count in
      let made = extends n (f n) (runs_of same f (n +ℤ pos 1) count) behind.0 behind.1 in
      made.elsewhere y (λ e. apart n count y high e) ∙ value_at-runs_of_above f (n +ℤ pos 1) count y (omega (arith, ints, high))
    where
      apart : (n : ℤ) (count : ℕ) (y : ℤ) → (n +ℤ pos (suc count)) ≤ℤ y → y ≡ n → ⊥
      apart n count y high e = omega (arith, ints, high, e)
