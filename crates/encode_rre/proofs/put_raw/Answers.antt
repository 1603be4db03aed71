use Rattle.std.proofs.Common.{◌≡◌, ℕ, List, ◌+◌, ◌*◌, ◌++◌, take, arith, ap, ◌∙◌, pos}
use Rattle.std.proofs.lemmas.Grind.{flat_map-append}
use Rattle.std.specs.List.{flat_map}
use Rattle.pixel_translate.specs.Pixel.{colour_bytes}
use Rattle.encode_raw.specs.Raw.{head}
use Rattle.subrectangles.specs.Lines.{values_in, lines_in}
use Rattle.subrectangles.specs.Subrectangles.{row_at}
use Rattle.subrectangles.specs.Apart.{row_behind, behind}
use Rattle.encode_rre.proofs.put_raw.Goals as goal

pub loop-y-preserved : goal.loop-y-preserved
loop-y-preserved c =
    let ps : List ℕ = values_in c.args.colours.now in
    let w : ℕ = c.args.colours.now.width in
    let f = colour_bytes c.args.table.now in
    let done : List ℕ = take (c.loop-y.y * w) ps in
    let row : List ℕ = row_at (lines_in c.args.colours.now) c.loop-y.y in
    let more : flat_map f (take ((c.loop-y.y + 1) * w) ps) ≡ flat_map f done ++ flat_map f row =
    ap (flat_map f) (row_behind w c.args.colours.now.height ps c.loop-y.y (omega arith)) ∙ flat_map-append f done row in
    c.in_ok-put_raw_pixels.ensures.ok ∙ ap (λ (t : List ℕ). t ++ flat_map f c.row.result.now) c.loop-y.invariant
    ∙ ap (λ (r : List ℕ). (c.args.out.now.items ++ (head c.args.area (pos 0) ++ flat_map f done)) ++ flat_map f r) c.row.ensures.row
    ∙ behind c.args.out.now.items (head c.args.area (pos 0)) (flat_map f done) (flat_map f row) (flat_map f (take ((c.loop-y.y + 1) * w) ps)) more
