use Rattle.std.proofs.Common.{◌≡◌, take}
use Rattle.updates.proofs.notices.Notices.share.Given as goal

abbrev pub invariant-loop-notice : goal.invariant-loop-notice
invariant-loop-notice l = l.shared.items ≡ take l.notice-index l.notice-items
