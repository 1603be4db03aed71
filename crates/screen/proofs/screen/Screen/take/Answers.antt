use Rattle.std.proofs.Common.{List}
use Rattle.scene.specs.declared.Event.{Event}
use Rattle.screen.specs.Happening.{AllHappen}
use Rattle.screen.specs.TakesLemmas.{takes-taken}
use Rattle.screen.proofs.screen.Screen.take.Goals as goal

pub returns-clause-takes : goal.returns-clause-takes
returns-clause-takes c = λ config list fine stands.
    takes-taken (λ (es : List Event). Unit {0} × AllHappen config list es) c.args.source.now c.args.left c.args.top config list c.args.self.now c.take_told.new.self c.take_told.result (c.take_told.ensures.takes config list fine stands)
