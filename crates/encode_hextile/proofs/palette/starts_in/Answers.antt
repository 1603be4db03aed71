use Rattle.std.proofs.Common.{◌≡◌, ℕ, List, inl, inr, length, take, get_or, arith, sym, ap, ◌∙◌}
use Rattle.std.proofs.lemmas.Bool.{cases_lt}
use Rattle.std.proofs.Math.Seq.{take-length}
use Rattle.subrectangles.specs.Subrectangles.{times}
use Rattle.subrectangles.specs.Scans.{found_before}
use Rattle.encode_hextile.proofs.Lists.{starts_same, starts_more}
use Rattle.encode_hextile.proofs.palette.starts_in.Goals as goal
use Rattle.encode_hextile.proofs.palette.starts_in.Goals.{then-starts_at, else-starts_at}

pub loop-x-preserved : goal.loop-x-preserved
loop-x-preserved c = record {
  bound = omega (arith, c.loop-x-test.true);
  few = elim c.if-starts_at.branch [
    | then-starts_at w ↦ omega (arith, w.starts-is, c.loop-x.invariant.few)
    | else-starts_at w ↦ omega (arith, w.starts-is, c.loop-x.invariant.few)
  ];
  begin = λ rows y b lt here above. elim c.if-starts_at.branch [
    | then-starts_at w ↦ omega (
      arith,
      w.starts-is,
      c.loop-x.invariant.begin rows y b lt here above,
      starts_more b rows y c.loop-x.x c.args.row.now here c.loop-x-test.true (c.starts_at.ensures.left w.if-starts_at.true) (λ q. c.starts_at.ensures.top w.if-starts_at.true (ap (λ (r : List ℕ). get_or r c.loop-x.x 0) (sym above) ∙ q)),
    )
    | else-starts_at w ↦ omega (arith, w.starts-is, c.loop-x.invariant.begin rows y b lt here above, starts_same b rows y c.loop-x.x c.args.row.now here c.loop-x-test.true)
  ];
}

pub returns-clause-begin : goal.returns-clause-begin
returns-clause-begin c = λ rows y b lt here above.
    elim (cases_lt 0 (length c.args.row.now)) [
      | inl some ↦
          let end : c.loop-x.x ≡ length c.args.row.now = omega (arith, c.loop-x-test.false, c.loop-x.auto.x-end (omega arith)) in
          omega (arith, c.loop-x.invariant.begin rows y b lt here above, ap (λ (k : ℕ). length (found_before b rows y k)) (end ∙ sym (ap (length {A = ℕ}) here)), ap (λ (k : ℕ). times b (take k c.args.row.now)) end, ap (times b) (take-length c.args.row.now))
      | inr none ↦ omega (arith, c.loop-x.invariant.few, c.loop-x.invariant.bound)
    ]
