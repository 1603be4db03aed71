use Rattle.std.proofs.Common.{inl, inr, arith}
use Rattle.std.proofs.lemmas.Bool.{cases_lt}
use Rattle.subrectangles.proofs.Ends.{part}
use Rattle.subrectangles.proofs.scan.blocks_end.Goals as goal

pub loop-x-preserved : goal.loop-x-preserved
loop-x-preserved c = record {
  before = omega arith;
  within = omega arith;
  same = λ k le lt. elim (cases_lt k c.loop-x.x) [
    | inl before ↦ c.loop-x.invariant.same k le before
    | inr after ↦ part c.args.row.now c.loop-x.x 16 c.args.pixel (omega arith) (c.are_all.ensures.yes c.if-not-are_all.false) k after lt
  ];
}
