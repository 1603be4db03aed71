use Rattle.std.proofs.Common.{◌≡◌, List, sym, ap, ◌∙◌, subst}
use Rattle.region.specs.OrderLemmas.{in_order-plain}
use Rattle.scribe.specs.Scribing.{Scribed, Puts}
use Rattle.recorder.specs.Events.{mark_line}
use Rattle.recorder.proofs.Lines.{puts-as, mark-some}
use Rattle.recorder.proofs.recorder.Recorder.put_marked.Goals as goal

pub returns-in-Ok : goal.returns-in-Ok
returns-in-Ok g c =
    let rs = c.args.region.now.list in
    let ls = c.as_slice.result.now in
    let same : ls ≡ rs = c.as_slice.ensures ∙ c.in-Ok.ensures.order ∙ in_order-plain rs in
    puts-as (mark_line ls) (mark_line rs) c.args.self.now c.put_mark_line.new.self (ap mark_line same) c.put_mark_line.ensures

pub returns-in-Err : goal.returns-in-Err
returns-in-Err g c =
    let rs = c.args.region.now.list in
    subst (λ (s : Scribed). Puts (mark_line rs) s c.break_off.new.self) c.self.view_is (c.break_off.ensures.puts (mark_line rs) (mark-some rs))
