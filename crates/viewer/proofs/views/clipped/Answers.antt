use Rattle.std.proofs.Common.{◌≡◌, ℕ, ◌+◌, ◌∙◌, ap, arith, w32, pos}
use Rattle.std.specs.Prelude.{min}
use Rattle.std.proofs.lemmas.Int.{to_z-of_z, to_z_pos}
use Rattle.viewer.proofs.HearingLemmas.{area_cut}
use Rattle.viewer.proofs.views.clipped.Goals as goal

pub returns : goal.returns
returns c =
    let a = c.args.area in
    let left = to_z-of_z w32 _ (record { sfits = c.from-7.type_inv }) ∙ c.from-7.ensures in
    let top = to_z-of_z w32 _ (record { sfits = c.from-8.type_inv }) ∙ c.from-8.ensures in
    let width : c.min-right.result ≡ min (a.x + a.w) c.args.view.width = cc in
    let height : c.min-bottom.result ≡ min (a.y + a.h) c.args.view.height = cc in
    let right = to_z_pos w32 c.min-right.result (omega arith) ∙ ap (λ (n : ℕ). pos n) width in
    let bottom = to_z_pos w32 c.min-bottom.result (omega arith) ∙ ap (λ (n : ℕ). pos n) height in
    rw (left, top, right, bottom) (area_cut c.args.view.width c.args.view.height a)
