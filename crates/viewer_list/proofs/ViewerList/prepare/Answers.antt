use Rattle.std.proofs.Common.{sym, subst, arith, List}
use Rattle.copy_schedule.specs.declared.LogEntry.{LogEntry}
use Rattle.viewer_list.specs.Lagging.{IsBounded, AllFit}
use Rattle.viewer_list.proofs.ViewerList.prepare.Goals as goal
use Rattle.viewer_list.proofs.ViewerList.prepare.Goals.{then-len-self-ge-MOST+in_ok-self-inside, else-len-self-ge-MOST}

pub invariant_of-self : goal.invariant_of-self
invariant_of-self c = record {
  short = subst (λ (es : List LogEntry). IsBounded es c.self.inside.joined) (sym c.in_err-self-inside.ensures.err) c.self.invariant.short;
  each = c.join_entries.ensures.fits;
}

pub invariant_of-self-2 : goal.invariant_of-self-2
invariant_of-self-2 c =
    subst (λ (es : List LogEntry). AllFit es c.if-len-self-ge-MOST.self-inside.joined c.if-len-self-ge-MOST.self-inside.viewers.pairs) (sym c.reserve.ensures.items)
    (elim c.if-len-self-ge-MOST.branch [
      | then-len-self-ge-MOST+in_ok-self-inside w ↦ rw w.self-inside-is (record {
        short = record { within = omega (arith, w.in_ok-self-inside.ensures.len); few = w.in_ok-self-inside.ensures.few; others = omega (arith, w.in_ok-self-inside.ensures.len) };
        each = w.join_entries.ensures.fits;
      })
      | else-len-self-ge-MOST w ↦ rw w.self-inside-is c.self.invariant
    ])
