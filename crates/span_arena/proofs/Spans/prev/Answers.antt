use Rattle.std.proofs.Common.{◌∙◌}
use Rattle.span_arena.proofs.CallLemmas.{shows, has_node, previous_there}
use Rattle.span_arena.proofs.Spans.prev.Goals as goal

pub index-node-requires : goal.index-node-requires
index-node-requires c = has_node c.self.inside.nodes c.args.self.now (shows c.self.inside.nodes c.args.self.now c.self.invariant c.self.view_is) c.at.inside.key c.args.at c.at.view_is c.requires

pub returns : goal.returns
returns c = λ list front back is.
    c.span_id.ensures
    ∙ previous_there c.self.inside.nodes c.args.self.now (shows c.self.inside.nodes c.args.self.now c.self.invariant c.self.view_is) c.at.inside.key list c.args.at c.at.view_is front back is c.index-node.result.now c.index-node.ensures
