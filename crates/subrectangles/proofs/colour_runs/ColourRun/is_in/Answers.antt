use Rattle.std.proofs.Common.{◌≡◌, ◌+◌, ◌-◌, ◌<◌, true, false, length, get_or, sym, ◌∙◌, arith}
use Rattle.std.proofs.lemmas.Bool.{eqb-true, eq-eqb}
use Rattle.pixel_translate.specs.Pixel.{pixel}
use Rattle.subrectangles.proofs.Ends.{same_tests}
use Rattle.subrectangles.proofs.ColourRuns.{none_behind, all_of, has_where}
use Rattle.subrectangles.proofs.colour_runs.ColourRun.is_in.Goals as goal
use Rattle.subrectangles.proofs.colour_runs.ColourRun.is_in.Goals.{else-start-ne0-via-then-start-ne0+else-has, else-start-ne0-via-else-start-ne0}
use Rattle.subrectangles.proofs.colour_runs.ColourRun.is_in.Goals.{else-end-row-via-then-end-row+else-has-2, else-end-row-via-else-end-row}

pub returns-then-has-2 : goal.returns-then-has-2
returns-then-has-2 c =
    let f = pixel c.args.self.now.table.now in
    sym (none_behind f c.args.self.now.run c.args.row.now (omega (arith, c.requires.inside, c.if-end-row.true)) (eqb-true _ _ (sym c.has-then-end-row.ensures ∙ c.if-has-2.true)))

pub returns : goal.returns
returns c =
    let f = pixel c.args.self.now.table.now in
    let r = c.args.self.now.run in
    let left : 0 < r.x → f (get_or c.args.row.now (r.x - 1) 0) ≡ r.pixel → ⊥ = λ lt e. elim c.else-start-ne0.branch [
      | else-start-ne0-via-then-start-ne0+else-has w ↦ let bad : false ≡ true = sym w.if-has.false ∙ w.has-then-start-ne0.ensures ∙ eq-eqb _ _ e in absurd cc
      | else-start-ne0-via-else-start-ne0 w ↦ absurd (omega (arith, lt, w.if-start-ne0.false))
    ] in
    let right : r.x + r.w < length c.args.row.now → f (get_or c.args.row.now (r.x + r.w) 0) ≡ r.pixel → ⊥ = λ lt e. elim c.else-end-row.branch [
      | else-end-row-via-then-end-row+else-has-2 w ↦ let bad : false ≡ true = sym w.if-has-2.false ∙ w.has-then-end-row.ensures ∙ eq-eqb _ _ e in absurd cc
      | else-end-row-via-else-end-row w ↦ absurd (omega (arith, lt, w.if-end-row.false))
    ] in
    same_tests _ _ (λ e. has_where f r c.args.row.now c.args.self.now.some c.requires.inside (c.has_all.ensures.yes e) left right) (λ e. c.has_all.ensures.no (all_of f r c.args.row.now c.requires.inside e))
