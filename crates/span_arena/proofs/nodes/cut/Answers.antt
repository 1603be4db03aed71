use Rattle.slab.specs.Slab.{get}
use Rattle.span_arena.proofs.CutLemmas.{cut_made}
use Rattle.span_arena.proofs.nodes.cut.Goals as goal

pub returns-clause-cut : goal.returns-clause-cut
returns-clause-cut c = cut_made c.args.nodes.now c.remove-node.new.self (get c.set_next.new.nodes) (get c.set_previous.new.nodes) c.args.at c.remove-node.result c.remove-node.ensures.value c.remove-node.ensures.updates c.set_next.ensures.set c.set_previous.ensures.set
