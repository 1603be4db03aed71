use Rattle.std.proofs.Common.{◌≡◌, ◌∙◌, true, refl, arith, sym}
use Rattle.subrectangles.specs.Subrectangles.{has_run}
use Rattle.subrectangles.proofs.Ends.{Beside, Misfits, part, whole, has_where, has_of, none_where, false_unless, same_tests}
use Rattle.subrectangles.specs.Scans.{unequal}
use Rattle.subrectangles.proofs.scan.has_run.Goals as goal
use Rattle.subrectangles.proofs.scan.has_run.Goals.{After-from-right}

beside : (c : After-from-right) → Beside c.args.row.now c.args.run c.saturating_sub.result c.min.result
beside c = record { some = c.requires.some; inside = c.requires.inside; before = omega (arith, c.saturating_sub.ensures); behind = λ lt. omega (arith, lt, c.min.ensures) }

misfits : (c : After-from-right) → Misfits c.args.row.now c.args.run c.saturating_sub.result c.min.result 0 c.from-last.result c.from-left.result c.from-right.result
misfits c = record {
  first_none = λ e. refl;
  last_none = λ e. rw e at c.from-last.ensures;
  left_none = λ e. rw e at c.from-left.ensures;
  left_other = λ e f. rw (e, f) at c.from-left.ensures;
  left_one = λ e f. rw (e, f) at c.from-left.ensures;
  right_none = λ e. rw e at c.from-right.ensures;
  right_other = λ e f. rw (e, f) at c.from-right.ensures;
  right_one = λ e f. rw (e, f) at c.from-right.ensures;
}

pub returns-then-last-left-eq0 : goal.returns-then-last-left-eq0
returns-then-last-left-eq0 c =
    let d = (goal.at.returns-then-last-left-eq0 c).After-from-right in
    same_tests _ _
    (λ e. has_where c.args.row.now c.args.run c.saturating_sub.result c.min.result 0 c.from-last.result c.from-left.result c.from-right.result (beside d) (misfits d)
    (omega (arith, c.if-last-left-eq0.true)) (part c.args.row.now c.args.run.x c.args.run.w c.args.run.pixel c.requires.inside (c.are_all.ensures.yes e)))
    (λ e. let h = has_of c.args.row.now c.args.run e in
    c.are_all.ensures.no (whole c.args.row.now c.args.run.x c.args.run.w c.args.run.pixel c.requires.inside h.same))

pub returns-else-last-left-eq0 : goal.returns-else-last-left-eq0
returns-else-last-left-eq0 c =
    let d = (goal.at.returns-else-last-left-eq0 c).After-from-right in
    let none : has_run c.args.run c.args.row.now ≡ true → ⊥ =
    λ e. omega (
      arith,
      c.if-last-left-eq0.false,
      none_where c.args.row.now c.args.run c.saturating_sub.result c.min.result 0 c.from-last.result c.from-left.result c.from-right.result (beside d) (misfits d) e,
    ) in
    unequal _ _ (λ e. omega (arith, c.if-last-left-eq0.false, e)) ∙ sym (false_unless _ none)
