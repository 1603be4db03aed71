use Rattle.std.proofs.Common.{◌≡◌, ◌+◌, ◌*◌, ℕ, ◌∙◌, length, ap, ap₂, sym, arith}
use Rattle.region.specs.declared.Rect.{Rect}
use Rattle.pixel_translate.specs.declared.Area.{Area}
use Rattle.framebuffer.specs.declared.blocks.Block.{Block}
use Rattle.framebuffer.specs.Blocks.{block_rect}
use Rattle.framebuffer.specs.Picture.{colours_of}
use Rattle.framebuffer.specs.PictureLemmas.{colours_are, colours_long, distance}
use Rattle.updates.specs.Areas.{area_of}
use Rattle.updates.proofs.taking.coloured_of.Goals as goal

columns : (r : Rect) (b : Block) → r ≡ block_rect b → (area_of r).w ≡ b.columns
columns r b e = ap (λ (s : Rect). (area_of s).w) e ∙ distance b.left (b.left + b.columns) (omega arith) ∙ omega arith

rows : (r : Rect) (b : Block) → r ≡ block_rect b → (area_of r).h ≡ b.rows
rows r b e = ap (λ (s : Rect). (area_of s).h) e ∙ distance b.top (b.top + b.rows) (omega arith) ∙ omega arith

pub invariant_of-result : goal.invariant_of-result
invariant_of-result c =
    let b = c.block_within-block.result in
    let wide : c.area_of.result.w ≡ b.columns = ap (λ (a : Area). a.w) c.area_of.ensures ∙ columns c.args.rect b c.block_within-block.ensures.is in
    let high : c.area_of.result.h ≡ b.rows = ap (λ (a : Area). a.h) c.area_of.ensures ∙ rows c.args.rect b c.block_within-block.ensures.is in
    record {
      wide = omega (arith, wide, c.block_within-block.ensures.fits.some_columns);
      high = omega (arith, high, c.block_within-block.ensures.fits.some_rows);
      whole = ap length c.in_ok-colours.ensures.colours ∙ colours_long c.args.picture.now.width b c.args.picture.now.colours ∙ sym (ap₂ (λ (w h : ℕ). w * h) wide high);
    }

pub returns-clause-colours : goal.returns-clause-colours
returns-clause-colours c =
    let w = c.args.picture.now.width in
    let h = c.args.picture.now.height in
    let b = c.block_within-block.result in
    c.in_ok-colours.ensures.colours
    ∙ colours_are w h b c.args.picture.now.colours (omega (arith, c.block_within-block.ensures.fits.wide, c.width.ensures.value)) (omega (arith, c.block_within-block.ensures.fits.high, c.height.ensures.value))
    ∙ ap (colours_of w h c.args.picture.now.colours) (sym c.block_within-block.ensures.is)
