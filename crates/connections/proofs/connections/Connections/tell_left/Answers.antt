use Rattle.std.proofs.Common.{[], ◌∷◌, ◌++◌, refl}
use Rattle.std.proofs.lemmas.Result.{err_from_is_err_and}
use Rattle.connections.specs.Telling.{Left, said_by, releases}
use Rattle.connections.specs.TellingLemmas.{told-all, told-cut, told-left, told-then}
use Rattle.connections.proofs.Everyone.{goes-drawn-by}
use Rattle.connections.proofs.connections.Connections.tell_left.Goals as goal

pub returns-in_err-release : goal.returns-in_err-release
returns-in_err-release g c =
    let told = said_by c.args.receipt.viewer (releases c.args.held) in
    let last = Left c.args.receipt ∷ [] in
    let error = err_from_is_err_and c.from_residual.result c.from_residual.ensures.1 in
    record {
      served = goes-drawn-by c.args.self.now c.self.inside.canvas c.release.new.canvas _ _ _ _ _ _ c.self.view_is c.release.ensures.draws;
      told = told-cut g.A.Application.stands c.args.application.now c.release.new.application told last (told ++ last) c.release.result c.from_residual.result error.0 error.1 refl c.release.ensures.told;
    }

pub returns : goal.returns
returns g c =
    let stands = g.A.Application.stands in
    let told = said_by c.args.receipt.viewer (releases c.args.held) in
    let last = Left c.args.receipt ∷ [] in
    let before = c.args.application.now in
    record {
      served = goes-drawn-by c.args.self.now c.self.inside.canvas c.left.new.canvas _ _ _ _ _ _ c.self.view_is (λ config list since drawn. c.left.ensures.draws config list since (c.release.ensures.draws config list since drawn));
      told = told-then stands before c.release.new.application c.left.new.self told last c.left.result (told-all stands before c.release.new.application told c.release.result c.in_ok-release.field-0 c.in_ok-release.was c.release.ensures.told)
          (told-left stands c.release.new.application c.left.new.self c.args.receipt c.left.result c.left.ensures.told c.left.ensures.refused);
    }
