use Rattle.std.proofs.Common.{rules, refl}
use Rattle.std.specs.Prelude.{FitsSigned, ◌-ℤ◌}
use Rattle.std.specs.Int.{w32}
use Rattle.std.proofs.lemmas.Int.{to_z-of_z}
use Rattle.framebuffer.proofs.moves.first_source.Goals as goal

pub returns : goal.returns
returns c =
    let y1 : FitsSigned w32 c.args.piece.y1 = search rules in
    let dy : FitsSigned w32 c.args.offset.1 = search rules in
    let row : FitsSigned w32 (c.args.piece.y1 -ℤ c.args.offset.1) = search rules in
    simp to_z-of_z refl
