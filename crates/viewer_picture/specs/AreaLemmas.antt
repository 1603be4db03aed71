-- A block's rectangle as an area.
use Rattle.std.proofs.Common.{◌≡◌, ◌+◌, pos, refl, ◌∙◌, arith}
use Rattle.std.specs.Prelude.{nat_abs, ◌-ℤ◌}
use Rattle.framebuffer.specs.declared.blocks.Block.{Block}
use Rattle.framebuffer.specs.Blocks.{block_rect}
use Rattle.framebuffer.specs.PictureLemmas.{distance}
use Rattle.updates.specs.Areas.{area_of}

pub area_is : (b : Block) → area_of (block_rect b) ≡ record { x = b.left; y = b.top; w = b.columns; h = b.rows }
area_is b =
    let wide : nat_abs (pos (b.left + b.columns) -ℤ pos b.left) ≡ b.columns = distance b.left (b.left + b.columns) (omega arith) ∙ omega arith in
    let high : nat_abs (pos (b.top + b.rows) -ℤ pos b.top) ≡ b.rows = distance b.top (b.top + b.rows) (omega arith) ∙ omega arith in
    rw (wide, high) refl
