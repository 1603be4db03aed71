use Rattle.std.proofs.Common.{subst}
use Rattle.framebuffer.specs.Frame.{IsPart}
use Rattle.framebuffer.proofs.FrameLemmas.{is_part}
use Rattle.framebuffer.proofs.frame.Snapshot.width.Goals as goal

pub returns-clause-part : goal.returns-clause-part
returns-clause-part c = subst IsPart c.self.view_is (is_part c.self.inside.left c.self.inside.columns c.self.inside.rows.items c.self.invariant)
