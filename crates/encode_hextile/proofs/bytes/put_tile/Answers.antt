use Rattle.std.proofs.Common.{◌≡◌, ◌++◌, ◌∷◌, ℕ, List, arith, refl, sym, ap, ◌∙◌, length-append}
use Rattle.subrectangles.specs.Subrectangles.{rows_of, background_of, subrectangles}
use Rattle.encode_hextile.specs.declared.TilePixels.TheVariants.{Several}
use Rattle.encode_hextile.specs.Hextile.{Coded, tile, raw_tile, said_bytes, list_bytes}
use Rattle.encode_hextile.proofs.Cuts.{concat_rows}
use Rattle.encode_hextile.proofs.Coding.{tile_long}
use Rattle.encode_hextile.proofs.bytes.put_tile.Goals as goal

pub returns-in_default-clause-next : goal.returns-in_default-clause-next
returns-in_default-clause-next c =
    let f = c.args.format.now in
    let ps : List ℕ = c.args.pixels.now.values.now in
    let rows : List (List ℕ) = rows_of c.args.pixels.now.width c.args.pixels.now.height ps in
    let b : ℕ = background_of ps in
    let noise = rw c.in_default.is at c.palette_of.ensures in
    let is : tile f c.args.carried rows ≡ raw_tile f ps =
    tile_long f c.args.carried rows ps b Several (concat_rows c.args.pixels.now.width c.args.pixels.now.height ps c.args.pixels.now.whole) refl noise.0
    (omega (arith, noise.1, length-append (said_bytes f c.args.carried b Several) (list_bytes f (subrectangles b rows) Several))) in
    sym (ap (λ (t : Coded). t.next) is)

pub returns-in_default-clause-ok : goal.returns-in_default-clause-ok
returns-in_default-clause-ok c =
    let f = c.args.format.now in
    let ps : List ℕ = c.args.pixels.now.values.now in
    let rows : List (List ℕ) = rows_of c.args.pixels.now.width c.args.pixels.now.height ps in
    let b : ℕ = background_of ps in
    let noise = rw c.in_default.is at c.palette_of.ensures in
    let is : tile f c.args.carried rows ≡ raw_tile f ps =
    tile_long f c.args.carried rows ps b Several (concat_rows c.args.pixels.now.width c.args.pixels.now.height ps c.args.pixels.now.whole) refl noise.0
    (omega (arith, noise.1, length-append (said_bytes f c.args.carried b Several) (list_bytes f (subrectangles b rows) Several))) in
    c.in_ok-put_raw.ensures.ok ∙ sym (ap (λ (t : Coded). c.args.out.now.items ++ t.bits ∷ t.bytes) is)
