use Rattle.std.proofs.Common.{◌≡◌, ℤ, pos, Bool, ◌&&◌, to_z, w32, arith, ap, ◌∙◌}
use Rattle.std.proofs.lemmas.Int.{ints}
use Rattle.std.proofs.lemmas.Result.{IfOk-weaker}
use Rattle.region.specs.declared.Rect.{Rect}
use Rattle.region.specs.Region.{covers, in_rect}
use Rattle.scene.proofs.Owing.{cut-region}
use Rattle.scene.proofs.drawing.clip_to_screen.Goals as goal

pub returns : goal.returns
returns c =
    let here : ℤ → ℤ → Bool = covers c.args.region.now.list in
    let wide : to_z w32 c.args.width ≡ pos c.args.width = omega (arith, ints, c.requires.columns) in
    let high : to_z w32 c.args.height ≡ pos c.args.height = omega (arith, ints, c.requires.rows) in
    let screen : ℤ → ℤ → Rect = λ a b. record { x1 = pos 0; y1 = pos 0; x2 = a; y2 = b } in
    IfOk-weaker c.intersection.result _ _
    (λ cut is. cut-region c.args.width c.args.height here (covers cut.list)
    (λ x y. is x y ∙ ap (λ (set : ℤ → ℤ → Bool). here x y && set x y) c.region_of_rect-screen.ensures
    ∙ ap (λ a. here x y && in_rect (screen a (to_z w32 c.args.height)) x y) wide ∙ ap (λ b. here x y && in_rect (screen (pos c.args.width) b) x y) high))
    c.intersection.ensures
