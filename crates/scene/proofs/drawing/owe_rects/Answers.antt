use Rattle.std.proofs.Common.{◌≡◌, ℕ, ℤ, Bool, pos, List, ap, ◌∙◌, subst}
use Rattle.std.specs.Result.{OnOk}
use Rattle.region.specs.Region.{covers}
use Rattle.region.specs.Places.{cut_destination}
use Rattle.framebuffer.specs.Picture.{places_in}
use Rattle.viewer.specs.Viewer.{KeptViewer}
use Rattle.scene.proofs.Owing.{owed-cut}
use Rattle.scene.proofs.drawing.owe_rects.Goals as goal

pub owe-requires : goal.owe-requires
owe-requires c = record { whole = λ k d below. (c.requires.sized k d below).whole }

pub returns-clause-ok : goal.returns-clause-ok
returns-clause-ok c =
    let set : ℤ → ℤ → Bool = places_in c.args.rects.now in
    let cut : covers c.in_ok-region.region.list ≡ cut_destination c.args.width c.args.height set (pos 0, pos 0) = c.in_ok-region.ensures ∙ ap covers c.deref.ensures.value ∙ c.in_ok-pieces.ensures.places in
    subst (λ (ps : List (ℕ × KeptViewer)). OnOk c.owe.result (c.owe.new.viewers.pairs ≡ ps))
    (owed-cut c.args.width c.args.height set (covers c.in_ok-region.region.list) c.args.viewers.now.pairs c.requires.some_columns cut c.requires.sized) c.owe.ensures.ok
