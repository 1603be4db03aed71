use Rattle.std.proofs.Common.{◌≡◌, length, arith, rules, subst}
use Rattle.subrectangles.specs.Starts.{Found}
use Rattle.subrectangles.proofs.Starts.{found_all}
use Rattle.subrectangles.proofs.scan.find_runs.Goals as goal

pub loop-x-preserved : goal.loop-x-preserved
loop-x-preserved c = record {
  found = c.find_runs_between-count.ensures.found;
  len = search rules;
}

pub returns-clause-runs : goal.returns-clause-runs
returns-clause-runs c =
    found_all c.args.row.now c.loop-x.starts c.loop-x.count
    (subst (Found c.args.row.now c.loop-x.starts c.loop-x.count) (let e : c.loop-x.x ≡ length c.args.row.now = omega (arith, c.loop-x.invariant.found.within) in e) c.loop-x.invariant.found)
    (omega (arith, c.loop-x.invariant.found.few, c.loop-x.invariant.found.within, c.loop-x.invariant.len))
