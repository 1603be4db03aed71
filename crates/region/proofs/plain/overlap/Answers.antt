use Rattle.std.proofs.Common.{rules, ◌≡◌, ◌∙◌, ap, to_z, of_z}
use Rattle.std.specs.Prelude.{FitsSigned, ℤ}
use Rattle.std.specs.Int.{w32}
use Rattle.std.proofs.lemmas.Int.{to_z-of_z}
use Rattle.region.specs.declared.Rect.{Rect}
use Rattle.region_sets.specs.Strips.{nearer}
use Rattle.region_sets.specs.Walks.{farther}
use Rattle.region.proofs.plain.overlap.Goals as goal

abbrev rect_with : ℤ → ℤ → ℤ → ℤ → Rect
rect_with a b c d = record { x1 = a; y1 = b; x2 = c; y2 = d }

pub returns : goal.returns
returns c =
    let a : FitsSigned w32 c.args.first.x1 = search rules in
    let b : FitsSigned w32 c.args.first.y1 = search rules in
    let d : FitsSigned w32 c.args.first.x2 = search rules in
    let e : FitsSigned w32 c.args.first.y2 = search rules in
    let f : FitsSigned w32 c.args.second.x1 = search rules in
    let g : FitsSigned w32 c.args.second.y1 = search rules in
    let h : FitsSigned w32 c.args.second.x2 = search rules in
    let i : FitsSigned w32 c.args.second.y2 = search rules in
    let j : FitsSigned w32 c.farther.result = search rules in
    let k : FitsSigned w32 c.farther-2.result = search rules in
    let l : FitsSigned w32 c.nearer.result = search rules in
    let m : FitsSigned w32 c.nearer-2.result = search rules in
    let left : c.farther.result ≡ farther c.args.first.x1 c.args.second.x1 =
    c.farther.ensures ∙ ap (λ n. farther n (to_z w32 (of_z w32 c.args.second.x1))) (to_z-of_z w32 c.args.first.x1 a) ∙ ap (λ n. farther c.args.first.x1 n) (to_z-of_z w32 c.args.second.x1 f) in
    let top : c.farther-2.result ≡ farther c.args.first.y1 c.args.second.y1 =
    c.farther-2.ensures ∙ ap (λ n. farther n (to_z w32 (of_z w32 c.args.second.y1))) (to_z-of_z w32 c.args.first.y1 b) ∙ ap (λ n. farther c.args.first.y1 n) (to_z-of_z w32 c.args.second.y1 g) in
    let right : c.nearer.result ≡ nearer c.args.first.x2 c.args.second.x2 =
    c.nearer.ensures ∙ ap (λ n. nearer n (to_z w32 (of_z w32 c.args.second.x2))) (to_z-of_z w32 c.args.first.x2 d) ∙ ap (λ n. nearer c.args.first.x2 n) (to_z-of_z w32 c.args.second.x2 h) in
    let bottom : c.nearer-2.result ≡ nearer c.args.first.y2 c.args.second.y2 =
    c.nearer-2.ensures ∙ ap (λ n. nearer n (to_z w32 (of_z w32 c.args.second.y2))) (to_z-of_z w32 c.args.first.y2 e) ∙ ap (λ n. nearer c.args.first.y2 n) (to_z-of_z w32 c.args.second.y2 i) in
    simp to_z-of_z
    (ap (λ t. rect_with t c.farther-2.result c.nearer.result c.nearer-2.result) left ∙ ap (λ t. rect_with (farther c.args.first.x1 c.args.second.x1) t c.nearer.result c.nearer-2.result) top
    ∙ ap (λ t. rect_with (farther c.args.first.x1 c.args.second.x1) (farther c.args.first.y1 c.args.second.y1) t c.nearer-2.result) right
    ∙ ap (rect_with (farther c.args.first.x1 c.args.second.x1) (farther c.args.first.y1 c.args.second.y1) (nearer c.args.first.x2 c.args.second.x2)) bottom)
