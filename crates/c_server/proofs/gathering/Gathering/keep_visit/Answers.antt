use Rattle.std.proofs.Common.{ap}
use Rattle.c_server.proofs.Keeping.{visit-put}
use Rattle.c_server.proofs.gathering.Gathering.keep_visit.Goals as goal

pub returns-clause-kept : goal.returns-clause-kept
returns-clause-kept c = λ fits.
    visit-put c.args.visit c.args.self.now.visits.items c.put_visit-is_put.new.self.visits.items c.count_lost.new.self.visits.items _ c.args.self.now.lost c.put_visit-is_put.new.self.lost c.count_lost.new.self.lost c.put_visit-is_put.result
    c.put_visit-is_put.ensures.few c.put_visit-is_put.ensures.full c.put_visit-is_put.ensures.put c.put_visit-is_put.ensures.refused (ap (λ v. v.items) c.count_lost.ensures.visits) c.put_visit-is_put.ensures.lost c.count_lost.ensures.kept c.count_lost.ensures.lost fits
