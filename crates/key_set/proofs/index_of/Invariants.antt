use Rattle.std.proofs.Common.{◌≡◌, false, take}
use Rattle.key_set.specs.Among.{is_among}
use Rattle.key_set.proofs.index_of.Given as goal

-- the key isn't among those so far
abbrev pub invariant-loop-index : goal.invariant-loop-index
invariant-loop-index l = is_among l.key (take l.index l.keys) ≡ false
