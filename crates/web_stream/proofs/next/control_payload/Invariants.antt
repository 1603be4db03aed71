use Rattle.std.proofs.Common.{◌≡◌, take}
use Rattle.arrayvec.specs.ArrayVec.{array_vec_len}
use Rattle.web_stream.specs.Next.{unmasked}
use Rattle.web_stream.proofs.next.control_payload.Given as goal

abbrev pub invariant-loop-byte : goal.invariant-loop-byte
invariant-loop-byte l = record {
  bytes : l.payload.items ≡ unmasked l.key 0 (take l.byte-index l.masked);
  long : array_vec_len l.payload ≡ l.byte-index;
}
