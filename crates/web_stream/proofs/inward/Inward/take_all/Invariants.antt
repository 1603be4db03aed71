use Rattle.std.proofs.Common.{◌≡◌, ◌≤◌, take}
use Rattle.web_stream.specs.Reading.{after, payloads}
use Rattle.web_stream.specs.Standing.{reading_of}
use Rattle.web_stream.proofs.inward.Inward.take_all.Given as goal

-- the payload of the bytes so far stands at the front of the room
abbrev pub invariant-loop-byte : goal.invariant-loop-byte
invariant-loop-byte l = record {
  given : take l.count l.room ≡ payloads (reading_of l.fn.self) (take l.byte-index l.piece);
  now : reading_of l.self ≡ after (reading_of l.fn.self) (take l.byte-index l.piece);
  below : l.count ≤ l.byte-index;
}
