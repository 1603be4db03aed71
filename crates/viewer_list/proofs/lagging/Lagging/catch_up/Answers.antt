use Rattle.std.proofs.Common.{All, subst, sym}
use Rattle.copy_schedule.specs.Log.{IsCutEntry}
use Rattle.viewer_list.proofs.LagLemmas.{shared_is_cut}
use Rattle.viewer_list.proofs.lagging.Lagging.catch_up.Goals as goal

pub take-requires : goal.take-requires
take-requires c = record { cut = subst (All (IsCutEntry c.args.self.now.viewer.marks.width c.args.self.now.viewer.marks.height)) (sym c.lacked-lacked.ensures) c.requires.cut }

pub take-requires-2 : goal.take-requires-2
take-requires-2 c = record {
  cut =
      subst (All (IsCutEntry c.args.self.now.viewer.marks.width c.args.self.now.viewer.marks.height)) (sym c.deref.ensures.value)
      (shared_is_cut c.args.log.now c.args.self.now c.in_ok-shared.shared c.requires c.in_ok-shared.ensures.shared c.in_ok-shared.ensures.own);
}
