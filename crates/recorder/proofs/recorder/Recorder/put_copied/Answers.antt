use Rattle.std.proofs.Common.{◌≡◌, ◌++◌, List, sym, ap, ◌∙◌, subst}
use Rattle.region.specs.declared.Rect.{Rect}
use Rattle.region.specs.OrderLemmas.{in_order-plain}
use Rattle.scribe.specs.Scribing.{Scribed, Puts}
use Rattle.recorder.specs.Events.{copy_line}
use Rattle.recorder.proofs.Lines.{puts-as, copy-some}
use Rattle.recorder.proofs.recorder.Recorder.put_copied.Goals as goal

pub returns-in-Ok : goal.returns-in-Ok
returns-in-Ok g c =
    let rs = c.args.region.now.list in
    let ls = c.as_slice.result.now in
    let dx = c.args.offset.dx in
    let dy = c.args.offset.dy in
    let many = c.args.many.now in
    let same : ls ≡ rs = c.as_slice.ensures ∙ c.in-Ok.ensures.order ∙ in_order-plain rs in
    puts-as (copy_line c.args.one.now many ls dx dy) (copy_line c.args.one.now many rs dx dy) c.args.self.now c.put_copy_line.new.self (ap (λ (l : List Rect). copy_line c.args.one.now many l dx dy) same) c.put_copy_line.ensures

pub returns-in-Err : goal.returns-in-Err
returns-in-Err g c =
    let rs = c.args.region.now.list in
    let one = c.args.one.now in
    let many = c.args.many.now in
    let dx = c.args.offset.dx in
    let dy = c.args.offset.dy in
    subst (λ (s : Scribed). Puts (copy_line one many rs dx dy) s c.break_off.new.self) c.self.view_is (c.break_off.ensures.puts (copy_line one many rs dx dy) (copy-some one many rs dx dy))
