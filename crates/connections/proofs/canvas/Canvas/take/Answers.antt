use Rattle.std.proofs.Common.{refl, ap, ◌∙◌, subst, List}
use Rattle.screen.specs.declared.Event.{Event}
use Rattle.screen.specs.Happening.{AllHappen}
use Rattle.screen.specs.Takes.{Takes, TakesTelling}
use Rattle.screen.specs.TakesLemmas.{takes-taken, takes-so}
use Rattle.connections.specs.Drawing.{Surface}
use Rattle.connections.specs.Recorded.{RecordsMore}
use Rattle.connections.specs.RecordedLemmas.{PutsLines, records-lines}
use Rattle.connections.proofs.Drawing.{draws_taken}
use Rattle.connections.proofs.canvas.Canvas.take.Goals as goal

pub returns-clause-takes : goal.returns-clause-takes
returns-clause-takes c = λ config list fine h.
    subst (λ (x : Surface). Takes c.args.source.now c.args.left c.args.top config list x.screen c.take_told.new.self c.take_told.result) c.self.view_is
    (takes-taken (λ (es : List Event). PutsLines es c.self.inside.recorder c.take_told.new.witness × AllHappen config list es) c.args.source.now c.args.left c.args.top config list c.self.inside.screen c.take_told.new.self c.take_told.result
    (c.take_told.ensures.takes config list fine (ap (λ (x : Surface). x.screen) c.self.view_is ∙ h)))

pub returns-clause-recorded : goal.returns-clause-recorded
returns-clause-recorded c = λ config list fine h.
    let told : List Event → Type 0 = λ (es : List Event). PutsLines es c.self.inside.recorder c.take_told.new.witness × AllHappen config list es in
    subst (λ (x : Surface). TakesTelling (λ es. RecordsMore config list es x.scribed c.take_told.new.witness) c.args.source.now c.args.left c.args.top config list x.screen c.take_told.new.self c.take_told.result) c.self.view_is
    (takes-so told (λ es. RecordsMore config list es c.self.inside.recorder c.take_told.new.witness) c.args.source.now c.args.left c.args.top config list c.self.inside.screen c.take_told.new.self c.take_told.result
    (λ es t. records-lines config list es c.self.inside.recorder c.take_told.new.witness t.1 t.0)
    (c.take_told.ensures.takes config list fine (ap (λ (x : Surface). x.screen) c.self.view_is ∙ h)))

pub returns-clause-draws : goal.returns-clause-draws
returns-clause-draws c = draws_taken c.args.left c.args.top c.args.self.now _ c.self.inside.screen c.self.inside.recorder c.self.inside.has_drawn c.self.inside.has_noticed c.self.view_is c.take_told.ensures.paints refl refl
