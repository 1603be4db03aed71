use Rattle.std.proofs.Common.{ap, inl}
use Rattle.connections.specs.Telling.{inputs_told}
use Rattle.c_server.proofs.Keeping.{visit-kept}
use Rattle.c_server.proofs.gathering.GatheringApplication.came.Goals as goal

pub returns-clause-stands : goal.returns-clause-stands
returns-clause-stands c = λ told h.
    visit-kept (inputs_told told) c.args.self.now.inputs.items c.keep_visit.new.self.inputs.items c.args.self.now.visits.items c.keep_visit.new.self.visits.items _ _ c.args.self.now.lost c.keep_visit.new.self.lost c.coming_of.result
    (ap (λ v. v.items) c.keep_visit.ensures.inputs) c.keep_visit.ensures.kept c.keep_visit.ensures.room (inl (c.args.viewer, c.coming_of.ensures)) h
