use Rattle.std.proofs.Common.{rules, ◌≡◌, [], ◌∷◌, to_z, of_z}
use Rattle.std.specs.Prelude.{FitsSigned}
use Rattle.std.specs.Int.{w32}
use Rattle.std.proofs.lemmas.Int.{to_z-of_z}
use Rattle.std.specs.Fmt.{signed_decimal}
use Rattle.recorder.proofs.Lines.{words, pair-as}
use Rattle.recorder.proofs.words.put_corners.Goals as goal

pub returns : goal.returns
returns g c =
    let r = c.args.rect in
    let fits-x1 : FitsSigned w32 c.args.rect.x1 = search rules in
    let x1 : to_z w32 (of_z w32 c.args.rect.x1) ≡ c.args.rect.x1 = simp to_z-of_z in
    let fits-y1 : FitsSigned w32 c.args.rect.y1 = search rules in
    let y1 : to_z w32 (of_z w32 c.args.rect.y1) ≡ c.args.rect.y1 = simp to_z-of_z in
    let fits-x2 : FitsSigned w32 c.args.rect.x2 = search rules in
    let x2 : to_z w32 (of_z w32 c.args.rect.x2) ≡ c.args.rect.x2 = simp to_z-of_z in
    let fits-y2 : FitsSigned w32 c.args.rect.y2 = search rules in
    let y2 : to_z w32 (of_z w32 c.args.rect.y2) ≡ c.args.rect.y2 = simp to_z-of_z in
    words (signed_decimal r.x1 ∷ signed_decimal r.y1 ∷ []) (signed_decimal r.x2 ∷ signed_decimal r.y2 ∷ []) c.args.scribe.now c.put_pair.new.scribe c.put_pair-2.new.scribe
    (pair-as (to_z w32 (of_z w32 r.x1)) (to_z w32 (of_z w32 r.y1)) r.x1 r.y1 c.args.scribe.now c.put_pair.new.scribe x1 y1 c.put_pair.ensures)
    (pair-as (to_z w32 (of_z w32 r.x2)) (to_z w32 (of_z w32 r.y2)) r.x2 r.y2 c.put_pair.new.scribe c.put_pair-2.new.scribe x2 y2 c.put_pair-2.ensures)
