use Rattle.std.proofs.Common.{◌+◌, ◌∙◌, arith}
use Rattle.std.proofs.Math.Seq.{map-set_same}
use Rattle.framebuffer.specs.Rows.{row_colours}
use Rattle.framebuffer.proofs.RowLemmas.{own_set, stay_set}
use Rattle.framebuffer.proofs.rows.own_rows.Goals as goal

pub returns-in_err-make_own-clause-same : goal.returns-in_err-make_own-clause-same
returns-in_err-make_own-clause-same c =
    map-set_same row_colours c.loop-i.rows c.loop-i.i c.make_own.new.row c.index-rows-i.result c.make_own.ensures.same ∙ c.loop-i.invariant.same

pub loop-i-preserved : goal.loop-i-preserved
loop-i-preserved c = record {
  same = map-set_same row_colours c.loop-i.rows c.loop-i.i c.make_own.new.row c.index-rows-i.result c.make_own.ensures.same ∙ c.loop-i.invariant.same;
  stay = stay_set c.args.rows.now c.loop-i.rows c.loop-i.i c.make_own.new.row c.index-rows-i.result (omega arith) c.loop-i.invariant.stay c.make_own.ensures.stays;
  own = own_set c.loop-i.rows c.args.from (c.loop-i.i + 1) c.loop-i.i c.make_own.new.row (omega arith) (λ k d above below other. c.loop-i.invariant.own k d above (omega arith)) c.in_ok-make_own.ensures.own;
}

pub returns-in_err-make_own-clause-stay : goal.returns-in_err-make_own-clause-stay
returns-in_err-make_own-clause-stay c = stay_set c.args.rows.now c.loop-i.rows c.loop-i.i c.make_own.new.row c.index-rows-i.result (omega arith) c.loop-i.invariant.stay c.make_own.ensures.stays
