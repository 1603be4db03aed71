-- What a viewer keeps, and what it shows.
use Rattle.std.specs.Prelude.{ℕ, Bool, true, false, ◌∷◌, List, slice_index_or, is_some, if◌then◌else◌, Option, None, option_map}
use Rattle.pixel_translate.specs.declared.Area.{Area}
use Rattle.pixel_translate.specs.declared.PixelFormat.{PixelFormat}
use Rattle.pixel_translate.specs.Pixel.{area_bytes, format_bytes}
use Rattle.rfb_viewer.specs.declared.fault.Fault.{Fault}
use Rattle.rfb_viewer.specs.declared.stages.Reading.{Reading}
use Rattle.rfb_viewer.specs.Canvas.{Dots, dot_at, filled}
use Rattle.rfb_viewer.specs.Read.{block_of}

pub record View : Type 0 where
  pub canvas : Dots
  pub reading : Reading
  -- how many bytes of the group that comes are there
  pub kept : ℕ
  pub fault : Option Fault
  -- the entries of the colour map that were set
  pub map : List (Option (ℕ × ℕ × ℕ))

-- a place of a viewer that was told a fault shows nothing
abbrev pub shown_at : View → ℕ → ℕ → Option (PixelFormat × ℕ)
shown_at v x y = if is_some v.fault then None else option_map (λ d. (d.format, d.pixel)) (dot_at v.canvas x y)

-- 7.6.2: an entry of the colour map of a viewer that was told no fault; a viewer that was told one has none
abbrev pub mapped_at : View → ℕ → Option (ℕ × ℕ × ℕ)
mapped_at v entry = if is_some v.fault then None else slice_index_or v.map entry None

-- 7.5.3
abbrev pub request_bytes : Area → Bool → List ℕ
request_bytes a incremental = 3 ∷ (if incremental then 1 else 0) ∷ area_bytes a

-- what a place shows once an area is asked for
abbrev pub shown_behind_request : View → Area → Bool → ℕ → ℕ → Option (PixelFormat × ℕ)
shown_behind_request v a true x y = shown_at v x y
shown_behind_request v a false x y = if is_some v.fault then None else option_map (λ d. (d.format, d.pixel)) (filled v.canvas (block_of a) None x y)

-- 7.5.1
abbrev pub set_format_bytes : PixelFormat → List ℕ
set_format_bytes f = 0 ∷ 0 ∷ 0 ∷ 0 ∷ format_bytes f
