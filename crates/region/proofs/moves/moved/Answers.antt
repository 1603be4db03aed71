use Rattle.std.proofs.Common.{rules, refl}
use Rattle.std.specs.Prelude.{FitsSigned, ◌+ℤ◌}
use Rattle.std.specs.Int.{w32}
use Rattle.std.proofs.lemmas.Int.{to_z-of_z}
use Rattle.region.proofs.moves.moved.Goals as goal
use Rattle.region.proofs.RangeLemmas.{moved_fits}

pub returns : goal.returns
returns c =
    let all = moved_fits c.args.dx c.args.dy c.args.rect c.requires in
    let x : FitsSigned w32 c.args.dx = c.ranges.dx in
    let y : FitsSigned w32 c.args.dy = c.ranges.dy in
    let a : FitsSigned w32 c.args.rect.x1 = search rules in
    let b : FitsSigned w32 c.args.rect.y1 = search rules in
    let d : FitsSigned w32 c.args.rect.x2 = search rules in
    let e : FitsSigned w32 c.args.rect.y2 = search rules in
    let left : FitsSigned w32 (c.args.rect.x1 +ℤ c.args.dx) = all.left in
    let top : FitsSigned w32 (c.args.rect.y1 +ℤ c.args.dy) = all.top in
    let right : FitsSigned w32 (c.args.rect.x2 +ℤ c.args.dx) = all.right in
    let bottom : FitsSigned w32 (c.args.rect.y2 +ℤ c.args.dy) = all.bottom in
    simp to_z-of_z refl
