-- Rectangles whose colours may be replaced.
use Rattle.std.specs.Prelude.{◌≡◌, ℕ, length, None, ◌+◌, ◌*◌, ◌≤◌, List}
use Rattle.region.specs.declared.Rect.{Rect}
use Rattle.framebuffer.specs.declared.blocks.Block.{Block}
use Rattle.framebuffer.specs.Blocks.{block_rect}
use Rattle.scene.specs.Alone.{pixels_refusal}

-- the block of a rectangle of a screen with its corners in order, and with as many colours as places
pub record IsChecked (w h : ℕ) (r : Rect) (colours : List ℕ) (b : Block) : Type 0 where
  pub refusal : pixels_refusal w h r colours ≡ None
  pub is : r ≡ block_rect b
  pub wide : b.left + b.columns ≤ w
  pub high : b.top + b.rows ≤ h
  pub whole : length colours ≡ b.rows * b.columns
