use Rattle.span_arena.proofs.CallLemmas.{shows, sound}
use Rattle.span_arena.proofs.Spans.lists_are_sound.Goals as goal

pub returns : goal.returns
returns c = sound c.self.inside.nodes c.args.self.now (shows c.self.inside.nodes c.args.self.now c.self.invariant c.self.view_is)
