use Rattle.std.proofs.Common.{rules, ◌≡◌, ◌&&◌, ◌∙◌, ap, sym}
use Rattle.std.specs.Prelude.{FitsSigned, int_le}
use Rattle.std.specs.Int.{w32}
use Rattle.std.proofs.lemmas.Int.{to_z-of_z}
use Rattle.region.proofs.plain.holds.Goals as goal

pub returns-then-spans : goal.returns-then-spans
returns-then-spans c =
    let a : FitsSigned w32 c.args.outer.x1 = search rules in
    let b : FitsSigned w32 c.args.outer.y1 = search rules in
    let d : FitsSigned w32 c.args.outer.x2 = search rules in
    let e : FitsSigned w32 c.args.outer.y2 = search rules in
    let f : FitsSigned w32 c.args.inner.x1 = search rules in
    let g : FitsSigned w32 c.args.inner.y1 = search rules in
    let h : FitsSigned w32 c.args.inner.x2 = search rules in
    let i : FitsSigned w32 c.args.inner.y2 = search rules in
    let columns : c.spans.result ≡ (int_le c.args.outer.x1 c.args.inner.x1 && int_le c.args.inner.x2 c.args.outer.x2) = simp to_z-of_z at c.spans.ensures in
    let rows : c.spans-then-spans.result ≡ (int_le c.args.outer.y1 c.args.inner.y1 && int_le c.args.inner.y2 c.args.outer.y2) = simp to_z-of_z at c.spans-then-spans.ensures in
    rows ∙ ap (λ t. t && (int_le c.args.outer.y1 c.args.inner.y1 && int_le c.args.inner.y2 c.args.outer.y2)) (sym c.if-spans.true ∙ columns)
