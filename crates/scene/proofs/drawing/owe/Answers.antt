use Rattle.std.proofs.Common.{List, ap, sym}
use Rattle.region.specs.declared.Rect.{Rect}
use Rattle.region.specs.Region.{covers}
use Rattle.scene.proofs.Owing.{unmarked}
use Rattle.scene.proofs.drawing.owe.Goals as goal

pub returns-then-is_empty-clause-ok : goal.returns-then-is_empty-clause-ok
returns-then-is_empty-clause-ok c = sym (unmarked (covers c.args.region.list) c.args.viewers.now.pairs (λ x y. ap (λ (rs : List Rect). covers rs x y) (c.is_empty.ensures.0 c.if-is_empty.true)) c.requires.whole)
