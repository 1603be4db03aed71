use Rattle.std.proofs.Common.{List, ℕ, ◌++◌, sym, subst}
use Rattle.connections.specs.Drawing.{Surface}
use Rattle.source_picture.specs.Bands.{with_band}
use Rattle.source_picture.specs.Mirroring.{SourceView, GoesOnMirroring, IsMirrored}
use Rattle.source_picture.proofs.EventLemmas.{draws_then, stands_on}
use Rattle.source_picture.proofs.ReadLemmas.{view, mirrored_around}
use Rattle.source_picture.proofs.WaitLemmas.{nothing_waits}
use Rattle.source_picture.proofs.source.SourcePicture.draw.Goals as goal

pub returns-clause-mirrored : goal.returns-clause-mirrored
returns-clause-mirrored c config list fine was =
    let first : Surface = c.args.canvas.now in
    let now : Surface = c.draw_share.new.canvas in
    let last : Surface = c.end.new.canvas in
    let piece : List ℕ = c.args.piece.now in
    let rest : List ℕ = c.in_ok-left.left.now in
    let one = c.self.inside in
    let two = c.self-2.inside in
    let before = c.begin.new.self in
    let after = c.end.new.self in
    let stands = stands_on config list first now c.draw_share.ensures.draws was in
    let B : SourceView → Type 0 = λ v. IsMirrored (view one.reader one.asking before.text before.band) piece v rest (with_band before.band first.screen.picture) (with_band v.waiting now.screen.picture) in
    let drawn = subst B (sym c.self-2.view_is) (c.in_ok-left.ensures.mirrored config list fine was) in
    let P : SourceView → Type 0 = λ v. GoesOnMirroring config list v piece (view two.reader two.asking after.text after.band) rest first.screen last.screen in
    subst P c.self.view_is (
      stands_on config list first last (draws_then first now last c.draw_share.ensures.draws c.end.ensures.draws) was,
      mirrored_around one.reader two.reader one.asking two.asking before.text one.painter.text two.painter.text after.text before.band one.painter.band two.painter.band after.band piece rest
          (with_band before.band first.screen.picture) first.screen.picture (with_band two.painter.band now.screen.picture) last.screen.picture
          (sym c.begin.ensures.text) c.end.ensures.text (sym (nothing_waits before.band first.screen.picture c.begin.ensures.none)) (c.in_default.ensures.taken config (list ++ stands.0) fine stands.1) drawn,
    )
