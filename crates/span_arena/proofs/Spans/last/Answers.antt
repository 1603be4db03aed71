use Rattle.span_arena.specs.Arena.{ids_of}
use Rattle.span_arena.specs.ViewLemmas.{ids_there}
use Rattle.std.proofs.Common.{◌∙◌}
use Rattle.span_arena.proofs.CallLemmas.{shows, has_head, last_there_of}
use Rattle.span_arena.proofs.Spans.last.Goals as goal

pub index-requires : goal.index-requires
index-requires c = has_head c.self.inside.nodes c.args.self.now (shows c.self.inside.nodes c.args.self.now c.self.invariant c.self.view_is) c.list.inside.key c.args.list c.list.view_is c.requires

pub returns : goal.returns
returns c =
    c.span_id.ensures
    ∙ last_there_of c.self.inside.nodes c.args.self.now (shows c.self.inside.nodes c.args.self.now c.self.invariant c.self.view_is) c.list.inside.key c.args.list c.list.view_is (ids_of c.args.self.now c.args.list) (ids_there c.args.self.now c.args.list c.requires) c.index.result.now c.index.ensures
