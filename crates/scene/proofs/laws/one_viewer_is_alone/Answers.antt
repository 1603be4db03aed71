use Rattle.scene.proofs.OnlyOne.{one_viewer-alone}
use Rattle.scene.proofs.laws.one_viewer_is_alone.Goals as goal

pub returns : goal.returns
returns c = one_viewer-alone
