use Rattle.std.proofs.Common.{◌≡◌, ℕ, ◌+◌, ◌-◌, get_or, ap, arith, rules}
use Rattle.subrectangles.proofs.Starts.{found_step}
use Rattle.subrectangles.proofs.scan.find_runs_between.Goals as goal

pub loop-x-preserved : goal.loop-x-preserved
loop-x-preserved c = record {
  found = found_step c.args.row.now c.loop-x.starts c.loop-x.count c.loop-x.x c.from-count.result c.loop-x.invariant.found
      (omega (arith, c.loop-x.invariant.found.few, c.loop-x.invariant.found.within, c.loop-x.invariant.len, c.requires.room)) (omega (arith, c.loop-x-test.true, c.requires.inside)) (λ e. rw (c.loop-x.invariant.last, e) at c.from-count.ensures) (λ e. rw (c.loop-x.invariant.last, e) at c.from-count.ensures);
  len = search rules;
  last = ap (λ (k : ℕ). get_or c.args.row.now k 0) (let e : c.loop-x.x ≡ c.loop-x.x + 1 - 1 = omega arith in e);
}
