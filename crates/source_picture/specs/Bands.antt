-- Small areas that lie side by side, and are taken into a picture together.
use Rattle.std.specs.Prelude.{◌≡◌, ℕ, ◌+◌, ◌-◌, ◌<◌, ◌≤◌, ◌==◌, if◌then◌else◌, List, [], length}
use Rattle.pixel_translate.specs.declared.Area.{Area}
use Rattle.source_pixels.specs.declared.formats.SourceFormat.TheVariants as kind
use Rattle.source_pixels.specs.Formats.{server_format}
use Rattle.source_pixels.specs.Source.{Source}
use Rattle.screen.specs.Frame.{Frame}
use Rattle.screen.specs.Taken.{taken}

-- where a band lies, and its rows of 2048 pixels of four bytes
pub record BandView : Type 0 where
  pub area : Area
  pub bytes : List ℕ

abbrev pub no_band : BandView
no_band = record { area = record { x = 0; y = 0; w = 0; h = 0 }; bytes = [] }

pub record IsBand (b : BandView) : Type 0 where
  pub wide : b.area.w ≤ 2048
  pub high : b.area.h ≤ 16
  pub room : 0 < b.area.w → length b.bytes ≡ 131072

-- 7.7.4: no larger than a tile
pub record IsSmall (a : Area) : Type 0 where
  pub wide : a.w ≤ 16
  pub high : a.h ≤ 16

-- an area, counted from a band's corner
abbrev pub beside : (band area : Area) → Area
beside band area = record area { x = area.x - band.x; y = area.y - band.y }

-- an area lies in a band, or goes on with all of its rows to the right
pub record GoesOnWith (band area : Area) : Type 0 where
  pub left : band.x ≤ area.x
  pub top : band.y ≤ area.y
  pub bottom : area.y + area.h ≤ band.y + band.h
  pub joined : area.x ≤ band.x + band.w
  pub right : area.x + area.w ≤ band.x + 2048
  pub from_top : band.x + band.w < area.x + area.w → area.y ≡ band.y
  pub to_bottom : band.x + band.w < area.x + area.w → area.h ≡ band.h

-- an area's pixels in the server's format, whose rows begin a stride of bytes behind the one above
abbrev pub rows_of : Area → (bytes : List ℕ) (stride : ℕ) → Source
rows_of a bytes stride = record { width = a.w; height = a.h; stride = stride; bytes = bytes; format = kind.TrueColour server_format }

-- a picture, once the pixels of a band that wait are taken into it
abbrev pub with_band : BandView → Frame → Frame
with_band b f = if b.area.w == 0 then f else taken (rows_of b.area b.bytes 8192) b.area.x b.area.y f
