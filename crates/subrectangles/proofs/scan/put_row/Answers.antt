use Rattle.std.proofs.Common.{flat_map, ◌≡◌, ◌≤◌, ◌<◌, ◌++◌, ℕ, ◌+◌, ◌-◌, List, length, arith, sym, ap, ◌∙◌, get_or, subst, Vec, Global}
use Rattle.subrectangles.specs.Begins.{begins_more, on_err}
use Rattle.subrectangles.specs.Starts.{AreRuns}
use Rattle.subrectangles.specs.Subrectangles.{row_at, stretch, begins_run}
use Rattle.subrectangles.specs.Bytes.{subrectangle_bytes}
use Rattle.subrectangles.specs.Scans.{Step, found_before, scan_step, put_yes, put_no}
use Rattle.subrectangles.specs.Pixels.{pixel_lines}
use Rattle.subrectangles.proofs.scan.put_row.Goals as goal
use Rattle.subrectangles.proofs.scan.put_row.Goals.{in-Some+in_ok-put_subrectangle, in_default}

pub loop-k-preserved : goal.loop-k-preserved
loop-k-preserved c =
    let rows : List (List ℕ) = pixel_lines c.args.pixels.now in
    let row : c.row-row.result.now ≡ row_at rows c.args.y = c.row-row.ensures.row in
    let starts : List ℕ = c.find_runs-count.new.starts in
    let runs : AreRuns (row_at rows c.args.y) starts c.find_runs-count.result = subst (λ (r : List ℕ). AreRuns r starts c.find_runs-count.result) row c.find_runs-count.ensures.runs in
    let x : ℕ = c.from-x.result in
    let n : ℕ = c.from.result - c.from-x.result in
    let grows = runs.inside c.loop-k.k c.loop-k-test.true in
    let here : get_or starts c.loop-k.k 0 ≡ x = omega (arith, c.from-x.ensures) in
    let more : x + n ≡ get_or starts (c.loop-k.k + 1) 0 = omega (arith, c.from-x.ensures, c.from.ensures, grows) in
    let run : n ≡ stretch (row_at rows c.args.y) x =
    omega (arith, more, here, runs.steps c.loop-k.k c.loop-k-test.true, ap (stretch (row_at rows c.args.y)) here) in
    let within : x + n ≤ length (row_at rows c.args.y) = omega (arith, more, runs.within (c.loop-k.k + 1) (omega (arith, c.loop-k-test.true))) in
    let inside : x < length (row_at rows c.args.y) = omega (arith, within, more, here, grows) in
    let step : Step c.args.background rows c.args.y x n = scan_step c.args.background rows c.args.y x n inside run in
    let sb = subrectangle_bytes c.args.format.now in
    let before : c.loop-k.out.items ≡ c.args.out.now.items ++ flat_map sb (found_before c.args.background rows c.args.y x) =
    c.loop-k.invariant.found ∙ ap (λ (k : ℕ). c.args.out.now.items ++ flat_map sb (found_before c.args.background rows c.args.y k)) here in
    let after : c.match-subrectangle_of.out.items ≡ c.args.out.now.items ++ flat_map sb (found_before c.args.background rows c.args.y (x + n)) = elim c.match-subrectangle_of.branch [
      | in-Some+in_ok-put_subrectangle w ↦
          let is = rw w.in-Some.is at c.subrectangle_of.ensures in
          ap (λ (v : Vec ℕ Global). v.items) w.out-is ∙ w.in_ok-put_subrectangle.ensures.ok
          ∙ put_yes sb c.args.out.now.items c.loop-k.out.items c.args.background rows c.args.y x n _ step before is.0 is.1
      | in_default w ↦
          ap (λ (v : Vec ℕ Global). v.items) w.out-is
          ∙ put_no sb c.args.out.now.items c.loop-k.out.items c.args.background rows c.args.y x n step before (rw w.in_default.is at c.subrectangle_of.ensures)
    ] in
    record {
      begins = λ lt. ap (begins_run (row_at rows c.args.y)) (sym more) ∙ step.begins (omega (arith, more, runs.inside (c.loop-k.k + 1) lt, runs.within (c.loop-k.k + 1 + 1) (omega (arith, lt))));
      found = after ∙ ap (λ (k : ℕ). c.args.out.now.items ++ flat_map sb (found_before c.args.background rows c.args.y k)) more;
    }

pub returns-in_err-put_subrectangle-clause-err : goal.returns-in_err-put_subrectangle-clause-err
returns-in_err-put_subrectangle-clause-err c =
    on_err c.from_residual.result _ (begins_more c.args.out.now.items c.loop-k.out.items c.put_subrectangle.new.out.items _ c.loop-k.invariant.found c.in_err-put_subrectangle.ensures.err)
