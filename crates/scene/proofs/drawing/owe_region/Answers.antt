use Rattle.std.proofs.Common.{◌≡◌, ℕ, List, subst}
use Rattle.std.specs.Result.{OnOk}
use Rattle.region.specs.Region.{covers}
use Rattle.viewer.specs.Viewer.{KeptViewer}
use Rattle.scene.proofs.Owing.{owed-same}
use Rattle.scene.proofs.drawing.owe_region.Goals as goal

pub owe-requires : goal.owe-requires
owe-requires c = record { whole = λ k d below. (c.requires.sized k d below).whole }

pub returns-clause-ok : goal.returns-clause-ok
returns-clause-ok c =
    subst (λ (ps : List (ℕ × KeptViewer)). OnOk c.owe.result (c.owe.new.viewers.pairs ≡ ps))
    (owed-same c.args.width c.args.height (covers c.args.region.now.list) (covers c.in_ok-cut.cut.list) c.args.viewers.now.pairs c.requires.some_columns c.in_ok-cut.ensures c.requires.sized) c.owe.ensures.ok
