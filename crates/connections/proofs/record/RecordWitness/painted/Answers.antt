use Rattle.screen.specs.declared.Event.TheVariants.{Paint}
use Rattle.connections.specs.RecordedLemmas.{lines-one}
use Rattle.connections.proofs.record.RecordWitness.painted.Goals as goal

pub returns : goal.returns
returns c = lines-one (Paint c.args.rect c.args.colours.now) c.args.self.now c.drew.new.self c.drew.ensures
