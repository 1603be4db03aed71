use Rattle.std.proofs.Common.{◌≡◌, ◌++◌}
use Rattle.picture.proofs.encoded.Growing.grow.Given as goal

-- what is encoded so far and what is left are the same together
abbrev pub invariant-parts : goal.invariant-parts
invariant-parts l = record {
  wanted : l.self.wanted ≡ l.fn.self.wanted;
  bytes : l.self.bytes.items ++ l.self.remaining ≡ l.fn.self.bytes.items ++ l.fn.self.remaining;
}
