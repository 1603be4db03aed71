use Rattle.std.proofs.Common.{◌&&◌, ◌≡◌, ◌∙◌, Bool, true, false, refl}
use Rattle.region.specs.Region.{covers}
use Rattle.region.proofs.Region.shared_with.Goals as goal

and_turned : (a b : Bool) → (a && b) ≡ (b && a)
and_turned true true = refl
and_turned true false = refl
and_turned false true = refl
and_turned false false = refl

pub returns : goal.returns
returns c = λ x y. c.in_ok-region.ensures x y ∙ and_turned (covers c.args.other.now.list x y) (covers c.args.self.now.list x y)
