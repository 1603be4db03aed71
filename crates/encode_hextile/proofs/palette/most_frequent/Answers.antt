use Rattle.std.proofs.Common.{◌≡◌, ◌≤◌, ◌<◌, ◌+◌, ◌%◌, ℕ, List, get_or, arith, sym, ap, subst, ◌∙◌}
use Rattle.subrectangles.specs.Subrectangles.{times}
use Rattle.encode_hextile.proofs.Palettes.{Loses, loses_more, loses_itself, loses_bound, loses_so_far, best_of_all, times_at}
use Rattle.encode_hextile.proofs.palette.most_frequent.Goals as goal
use Rattle.encode_hextile.proofs.palette.most_frequent.Goals.{then-is_better+then-is_better-2, then-is_better+else-is_better-2, else-is_better}

pub loop-p-init : goal.loop-p-init
loop-p-init c = record {
  count = c.times-most.ensures;
  some = omega (arith, c.times-most.ensures, times_at c.args.pixels.now 0 c.requires.some);
  loses = λ k lt. absurd (omega (arith, lt));
}

pub loop-p-preserved : goal.loop-p-preserved
loop-p-preserved c =
    let ps : List ℕ = c.args.pixels.now in
    let i : ℕ = c.loop-p.p-index in
    let p : ℕ = get_or ps i 0 in
    let before = c.loop-p.invariant in
    let at : get_or c.args.buckets.now c.bucket_of.result 0 ≡ get_or c.args.buckets.now (p % 251) 0 = ap (λ (k : ℕ). get_or c.args.buckets.now k 0) c.bucket_of.ensures.value in
    let bound : times p ps ≤ c.from.result = omega (arith, c.requires.counted p, at, c.from.ensures) in
    elim c.if-is_better.branch [
      | then-is_better+then-is_better-2 w ↦
          let wins = w.is_better-then-is_better.ensures.yes w.if-is_better-2.true in
          record {
            count = w.most-is ∙ w.times-count.ensures ∙ ap (λ (t : ℕ). times t ps) (sym w.best-is);
            some = omega (arith, w.most-is, w.times-count.ensures, times_at ps i c.loop-p-test.true);
            loses = subst (λ (b : ℕ). (k : ℕ) → k < i + 1 → Loses ps b c.if-is_better.most (get_or ps k 0)) (sym w.best-is)
                (subst (λ (m : ℕ). (k : ℕ) → k < i + 1 → Loses ps p m (get_or ps k 0)) (sym w.most-is)
                (loses_so_far ps p w.times-count.result i (λ k lt. loses_more ps c.loop-p.best c.loop-p.most p w.times-count.result (get_or ps k 0) (before.loses k lt) wins)
                (loses_itself ps p w.times-count.result w.times-count.ensures)));
          }
      | then-is_better+else-is_better-2 w ↦
          let lost = w.is_better-then-is_better.ensures.no w.if-is_better-2.false in
          record {
            count = w.most-is ∙ before.count ∙ ap (λ (t : ℕ). times t ps) (sym w.best-is);
            some = omega (arith, w.most-is, before.some);
            loses = subst (λ (b : ℕ). (k : ℕ) → k < i + 1 → Loses ps b c.if-is_better.most (get_or ps k 0)) (sym w.best-is)
                (subst (λ (m : ℕ). (k : ℕ) → k < i + 1 → Loses ps c.loop-p.best m (get_or ps k 0)) (sym w.most-is)
                (loses_so_far ps c.loop-p.best c.loop-p.most i before.loses (loses_bound ps c.loop-p.best c.loop-p.most p w.times-count.result (omega (arith, w.times-count.ensures)) lost)));
          }
      | else-is_better w ↦
          let lost = c.is_better.ensures.no w.if-is_better.false in
          record {
            count = w.most-is ∙ before.count ∙ ap (λ (t : ℕ). times t ps) (sym w.best-is);
            some = omega (arith, w.most-is, before.some);
            loses = subst (λ (b : ℕ). (k : ℕ) → k < i + 1 → Loses ps b c.if-is_better.most (get_or ps k 0)) (sym w.best-is)
                (subst (λ (m : ℕ). (k : ℕ) → k < i + 1 → Loses ps c.loop-p.best m (get_or ps k 0)) (sym w.most-is)
                (loses_so_far ps c.loop-p.best c.loop-p.most i before.loses (loses_bound ps c.loop-p.best c.loop-p.most p c.from.result bound lost)));
          }
    ]

pub returns : goal.returns
returns c =
    best_of_all c.args.pixels.now c.loop-p.best c.loop-p.most c.requires.some c.loop-p.invariant.count
    (λ k lt. c.loop-p.invariant.loses k (omega (arith, lt)))
