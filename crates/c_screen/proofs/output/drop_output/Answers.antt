use Rattle.std.proofs.Common.{ℕ, List, ap, sym, ◌∙◌, arith}
use Rattle.c_screen.proofs.Pieces.{removed}
use Rattle.c_screen.proofs.output.drop_output.Goals as goal

pub loop-i-preserved-then-viewer : goal.loop-i-preserved-then-viewer
loop-i-preserved-then-viewer c =
    let r = removed c.args.viewer c.loop-i.output.items c.remove.new.self.items _ c.loop-i.i _ (omega (c.loop-i-test.true, arith)) (ap (λ (p : ℕ × List ℕ). p.0) (sym c.index.ensures) ∙ (sym c.viewer.ensures ∙ c.if-viewer.true)) c.remove.ensures.items c.loop-i.invariant.same c.loop-i.invariant.kept in
    record { same = r.0; kept = r.1; bound = r.2 }

pub loop-i-preserved-then-viewer-2 : goal.loop-i-preserved-then-viewer-2
loop-i-preserved-then-viewer-2 c =
    let r = removed c.args.viewer c.loop-i.output.items c.remove.new.self.items _ c.loop-i.i _ (omega (c.loop-i-test.true, arith)) (ap (λ (p : ℕ × List ℕ). p.0) (sym c.index.ensures) ∙ (sym c.viewer.ensures ∙ c.if-viewer.true)) c.remove.ensures.items c.loop-i.invariant.same c.loop-i.invariant.kept in
    record { same = r.0; kept = r.1; bound = r.2 }
