use Rattle.std.proofs.Common.{◌≡◌, length, inl, inr, arith, ap, ◌∙◌, sym}
use Rattle.std.proofs.lemmas.Bool.{cases_lt}
use Rattle.subrectangles.specs.Breaks.{breaks}
use Rattle.subrectangles.proofs.breaks.breaks_in.Goals as goal

pub returns : goal.returns
returns c = elim (cases_lt 0 (length c.args.row.now)) [
  | inl some ↦ c.loop-x.invariant.counted ∙ ap (breaks c.args.row.now c.args.above.now) (let e : c.loop-x.x ≡ length c.args.row.now = omega arith in e)
  | inr none ↦
      c.loop-x.invariant.counted ∙ ap (breaks c.args.row.now c.args.above.now) (let e : c.loop-x.x ≡ 1 = omega arith in e)
      ∙ sym (ap (breaks c.args.row.now c.args.above.now) (let e : length c.args.row.now ≡ 0 = omega arith in e))
]
