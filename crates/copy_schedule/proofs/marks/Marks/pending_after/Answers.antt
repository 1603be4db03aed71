use Rattle.std.proofs.Common.{◌∙◌, sym, ap, ◌||◌}
use Rattle.std.specs.List.{list_any}
use Rattle.copy_schedule.specs.Log.{logged, draws_asked}
use Rattle.copy_schedule.specs.LogLemmas.{unasked_is_not_pending, asked_logged}
use Rattle.copy_schedule.specs.DrawnLemmas.{pending_after_log}
use Rattle.copy_schedule.proofs.marks.Marks.pending_after.Goals as goal

pub returns-then-pending : goal.returns-then-pending
returns-then-pending c uses =
    c.if-pending.true
    ∙ sym (ap (λ b. b || list_any (draws_asked c.args.self.now) c.args.entries.now) (sym c.pending.ensures ∙ c.if-pending.true))
    ∙ sym (pending_after_log uses c.args.entries.now c.args.self.now)

pub returns-else-pending : goal.returns-else-pending
returns-else-pending c uses =
    c.some_draws_asked.ensures
    ∙ sym (ap (λ b. b || list_any (draws_asked c.args.self.now) c.args.entries.now) (sym c.pending.ensures ∙ c.if-pending.false))
    ∙ sym (pending_after_log uses c.args.entries.now c.args.self.now)

pub returns-then-not-has_asked : goal.returns-then-not-has_asked
returns-then-not-has_asked c uses = sym (unasked_is_not_pending (logged uses c.args.entries.now c.args.self.now) (asked_logged uses c.args.entries.now c.args.self.now ∙ sym c.has_asked.ensures ∙ c.if-not-has_asked.true))
