use Rattle.std.proofs.Common.{◌++◌, ◌∙◌, ap, sym, subst}
use Rattle.screen.specs.Frame.{Frame}
use Rattle.source_picture.specs.Bands.{BandView, with_band}
use Rattle.source_picture.specs.Painting.{IsDone, LiesOn}
use Rattle.source_picture.proofs.DoneLemmas.{ok_then}
use Rattle.source_picture.proofs.EventLemmas.{stands_on}
use Rattle.source_picture.proofs.WaitLemmas.{nothing_waits}
use Rattle.source_picture.proofs.painter.Painter.draw_behind.Goals as goal

pub returns-clause-done : goal.returns-clause-done
returns-clause-done c config list fine was lies =
    let step = c.args.step in
    let before = with_band c.args.self.now.band c.args.canvas.now.screen.picture in
    let now = c.draw_now.new.canvas.screen.picture in
    let drawn = c.in_ok-end.ensures.taken config list fine was in
    let stands = stands_on config list c.args.canvas.now c.end.new.canvas c.end.ensures.draws was in
    let L : Frame → Type 0 = λ f. LiesOn step f in
    let P : Frame → Type 0 = λ f. IsDone step f (with_band c.draw_now.new.self.band now) in
    let Q : Frame → Type 0 = λ f. IsDone step c.end.new.canvas.screen.picture f in
    let none = nothing_waits c.draw_now.new.self.band now (ap (λ (b : BandView). b.area.w) c.draw_now.ensures.band ∙ c.in_ok-end.ensures.none) in
    ok_then c.draw_now.result (λ done. subst P drawn (subst Q (sym none) done))
    (c.draw_now.ensures.done config (list ++ stands.0) fine stands.1 (subst L (sym drawn) lies))
