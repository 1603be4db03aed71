use Rattle.std.proofs.Common.{◌≡◌}
use Rattle.mirror.specs.Sources.{Sends}
use Rattle.mirror.proofs.source.Source.send.Given as goal

-- so far what was written is what waited
abbrev pub invariant-writes : goal.invariant-writes
invariant-writes g l = record {
  same : l.self ≡ record l.fn.self { stream = l.self.stream; stage = l.self.stage; out = l.self.out };
  sends : Sends (g.S.Write.contents l.fn.self.stream) (g.S.Write.contents l.self.stream) l.fn.self.out.bytes l.self.out.bytes;
}
