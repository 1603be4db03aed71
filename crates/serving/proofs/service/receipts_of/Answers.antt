use Rattle.std.proofs.Common.{◌≡◌, ◌∙◌, map, map-id, rules}
use Rattle.std.proofs.lemmas.Iterator.Consumers.{YieldsList-end}
use Rattle.std.proofs.lemmas.Iterator.Adapters.{YieldsList-from_vec}
use Rattle.serving.specs.Services.{viewer_of}
use Rattle.serving.proofs.Services.{numbered}
use Rattle.serving.proofs.service.receipts_of.Goals as goal

pub returns : goal.returns
returns g c =
    let end = YieldsList-end (YieldsList-from_vec {s = c.into_iter-service-iterator.result} c.args.services.items (search rules) (search rules))
    c.loop-service.yielded c.loop-service.service-iterator c.loop-service.yielded_by c.next.result c.next.new.self c.in-None.is c.next.ensures.steps in
    let same : map (λ r. r.viewer) c.loop-service.receipts.items ≡ map viewer_of c.args.services.items = rw (← end.0, map-id) c.loop-service.invariant in
    numbered c.args.services.items c.loop-service.receipts.items c.requires.order same
