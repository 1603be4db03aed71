use Rattle.std.proofs.Common.{◌≡◌, ◌++◌, take}
use Rattle.std.specs.Prelude.{flat_map}
use Rattle.updates.specs.Bytes.{notice_bytes}
use Rattle.updates.proofs.notices.put_notices.Given as goal

abbrev pub invariant-loop-notice : goal.invariant-loop-notice
invariant-loop-notice l = l.out.items ≡ l.fn.out.items ++ flat_map notice_bytes (take l.notice-index l.notices)
