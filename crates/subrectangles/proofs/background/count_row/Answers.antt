use Rattle.std.proofs.Common.{◌≡◌, ◌+◌, ◌*◌, ◌<◌, ◌≤◌, ◌⊎◌, ℕ, List, get_or, eqb, arith, sym, ap, ◌∙◌, subst}
use Rattle.std.specs.Option.{unwrap_or}
use Rattle.std.specs.HashMap as hash
use Rattle.std.proofs.Math.Nat.{mul-le-mul}
use Rattle.subrectangles.specs.declared.background.Counter.{Counter}
use Rattle.subrectangles.specs.Counted.{count_in, IsBestOf}
use Rattle.subrectangles.specs.Counts.{CountsRun, better_best, same_best, more_of_row}
use Rattle.subrectangles.proofs.background.count_row.Goals as goal
use Rattle.subrectangles.proofs.background.count_row.Goals.{then-is_better, else-is_better}

some_places : (rows n : ℕ) → 0 < rows → 0 < n → 0 < rows * n
some_places rows n a b = let one : 1 * 1 ≤ rows * n = mul-le-mul (let e : 1 ≤ rows = omega arith in e) (let e : 1 ≤ n = omega arith in e) in omega (arith, one)

pub loop-start-preserved : goal.loop-start-preserved
loop-start-preserved c =
    let row : List ℕ = c.args.row.now in
    let s : ℕ = c.loop-start.start in
    let n : ℕ = c.stretch_from-run.result in
    let p : ℕ = get_or row s 0 in
    let places : ℕ = c.args.rows * n in
    let before : ℕ → ℕ = count_in c.loop-start.counter in
    let after : ℕ → ℕ = λ q. unwrap_or (hash.get eqb c.add.new.counts q) 0 in
    let step : CountsRun before after p places = record { itself = c.in_ok-count.ensures.itself ∙ c.in_ok-count.ensures.sum; other = λ q ne. c.in_ok-count.ensures.others q ne } in
    let now : c.in_ok-count.count ≡ before p + places = c.in_ok-count.ensures.sum in
    let some : 0 < places = some_places c.args.rows n c.requires.some c.stretch_from-run.ensures.some in
    let all = λ (q : ℕ).
    more_of_row row s n c.args.rows q (count_in c.args.counter.now q) (before q) c.loop-start-test.true c.stretch_from-run.ensures.within c.stretch_from-run.ensures.same (c.loop-start.invariant.counted q) (after q)
    (λ e. sym (ap after e) ∙ step.itself ∙ ap (λ (t : ℕ). before t + places) e) (λ ne. step.other q ne) in
    record {
      within = c.stretch_from-run.ensures.within;
      counted = λ q. elim c.if-is_better.branch [
        | then-is_better w ↦ ap (λ (k : Counter). count_in k q) w.counter-is ∙ all q
        | else-is_better w ↦ ap (λ (k : Counter). count_in k q) w.counter-is ∙ all q
      ];
      best = elim c.if-is_better.branch [
        | then-is_better w ↦
            subst (λ (k : Counter). IsBestOf (count_in k) k.best k.most) (sym w.counter-is)
            (subst (λ (m : ℕ). IsBestOf after p m) (sym now)
            (better_best before after p places c.loop-start.counter.best c.loop-start.counter.most some step c.loop-start.invariant.best
            (subst (λ (t : ℕ). (c.loop-start.counter.most < t) ⊎ ((c.loop-start.counter.most ≡ t) × (p < c.loop-start.counter.best))) now (c.is_better.ensures.yes w.if-is_better.true))))
        | else-is_better w ↦
            let no = c.is_better.ensures.no w.if-is_better.false in
            subst (λ (k : Counter). IsBestOf (count_in k) k.best k.most) (sym w.counter-is)
            (same_best before after p places c.loop-start.counter.best c.loop-start.counter.most some step c.loop-start.invariant.best
            (omega (arith, no.0, now)) (λ e. no.1 (e ∙ sym now)))
      ];
    }
