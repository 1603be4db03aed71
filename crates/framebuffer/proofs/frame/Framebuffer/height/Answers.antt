use Rattle.std.proofs.Common.{subst}
use Rattle.framebuffer.specs.Frame.{IsPicture}
use Rattle.framebuffer.proofs.FrameLemmas.{is_picture}
use Rattle.framebuffer.proofs.frame.Framebuffer.height.Goals as goal

pub returns-clause-picture : goal.returns-clause-picture
returns-clause-picture c = subst IsPicture c.self.view_is (is_picture c.self.inside.width c.self.inside.height c.self.inside.rows.items c.self.invariant)
