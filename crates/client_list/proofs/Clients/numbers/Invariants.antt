use Rattle.std.proofs.Common.{◌≡◌, ◌-◌, take, length}
use Rattle.std.specs.Prelude.{IfSome}
use Rattle.std.specs.Map.{keys_of}
use Rattle.client_list.specs.Connected.{IsPosition, IsListed, passed}
use Rattle.client_list.proofs.Clients.numbers.Given as goal

-- the numbers of the viewers that were passed
abbrev pub invariant-loop-position : goal.invariant-loop-position
invariant-loop-position g l = record {
  listed : IsListed l.self;
  position : IfSome l.position (IsPosition l.self);
  numbers : l.numbers.items ≡ take (passed l.self l.position) (keys_of l.self.pairs);
}

abbrev pub decreases-loop-position : goal.decreases-loop-position
decreases-loop-position g l = length l.self.positions - passed l.self l.position
