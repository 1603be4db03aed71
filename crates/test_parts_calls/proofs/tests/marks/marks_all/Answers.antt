use Rattle.std.proofs.Common.{sym, subst, All}
use Rattle.copy_schedule.specs.Log.{IsCutEntry}
use Rattle.test_parts_calls.proofs.tests.marks.marks_all.Goals as goal

pub prepare_log-requires-2 : goal.prepare_log-requires-2
prepare_log-requires-2 c = record {
  cut =
      subst (All (IsCutEntry c.args.marks.now.width c.args.marks.now.height)) (sym c.deref.ensures.value)
      (c.in_ok-joined.ensures.cut c.args.marks.now.width c.args.marks.now.height c.requires.cut);
}
