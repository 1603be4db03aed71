use Rattle.span_arena.proofs.CallLemmas.{shows, has_node, span_is}
use Rattle.span_arena.proofs.Spans.get.Goals as goal

pub index-requires : goal.index-requires
index-requires c = has_node c.self.inside.nodes c.args.self.now (shows c.self.inside.nodes c.args.self.now c.self.invariant c.self.view_is) c.at.inside.key c.args.at c.at.view_is c.requires

pub returns : goal.returns
returns c = span_is c.self.inside.nodes c.args.self.now (shows c.self.inside.nodes c.args.self.now c.self.invariant c.self.view_is) c.at.inside.key c.args.at c.at.view_is c.requires c.index.result.now c.index.ensures
