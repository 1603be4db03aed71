-- How a viewer reads on from each place of what a server says, by RFC 6143 sections 7.6 and 7.7 alone: the pictures are those of
-- `viewer_picture`, and each rest of a message is read over what is shown.
use Rattle.std.specs.Prelude.{◌≡◌, ℕ, zero, suc, ℤ, pos, ◌+◌, ◌-◌, ◌*◌, ◌≤◌, min, nat_le, Bool, ◌&&◌, if◌then◌else◌, List, [], ◌∷◌, ◌++◌, map, flat_map, length, slice_index, Option, None, Some}
use Rattle.std.specs.List.{range_with_len}
use Rattle.std.specs.Int.{div_ceil}
use Rattle.pixel_translate.specs.declared.Area.{Area}
use Rattle.pixel_translate.specs.Pixel.{server_format}
use Rattle.messages.specs.Grammar.{desktop_size}
use Rattle.encode_raw.specs.Reading.{◌>>=◌, bytes_at, pixels_at, Shown, is_inside, patched}
use Rattle.subrectangles.specs.declared.Subrectangle.{Subrectangle}
use Rattle.subrectangles.specs.Reading.{subrectangle_at, rre_at}
use Rattle.encode_hextile.specs.declared.Carried.{Carried}
use Rattle.encode_hextile.specs.Tiles.{Tile, tiles_in}
use Rattle.encode_hextile.specs.Hextile.{nothing}
use Rattle.encode_hextile.specs.Reading.{tile_at}
use Rattle.encode_hextile.specs.Reading as hextile
use Rattle.viewer_picture.specs.Messages.{Agreed, Display, ColourMap, copy_at, data_at, written, rectangles_at, entries_at, messages_in}
use Rattle.server_reader.specs.declared.stage.Size.{Size}
use Rattle.server_reader.specs.declared.stage.Rectangle.{Rectangle}
use Rattle.server_reader.specs.declared.stage.TileAt.{TileAt}
use Rattle.server_reader.specs.declared.stage.Behind.{Behind}
use Rattle.server_reader.specs.declared.stage.Behind.TheVariants as behind
use Rattle.server_reader.specs.declared.stage.Stage.{Stage}
use Rattle.server_reader.specs.declared.stage.Stage.TheVariants as stage
use Rattle.server_reader.specs.declared.stage.State.{State}

-- 7.5.2: what was listed besides Raw: CopyRect, RRE, Hextile and DesktopSize
abbrev pub listed : List ℤ
listed = pos 1 ∷ pos 2 ∷ pos 5 ∷ desktop_size ∷ []

-- what a viewer goes by: the picture's size, and what was asked for
abbrev pub agreed : Size → Agreed
agreed size = record { width = size.width; height = size.height; format = server_format; listed = listed }

abbrev pub display : Size → Shown → ColourMap → Display
display size shown colours = record { agreed = agreed size; shown = shown; colours = colours }

-- ---- pixels

-- an area shows one pixel
abbrev pub filled : Area → (pixel : ℕ) → Shown → Shown
filled a pixel shown = patched server_format a (λ x y. pixel) shown

-- 7.7.1: which pixel of an area a place shows
abbrev pub index_in : Area → (x y : ℕ) → ℕ
index_in a x y = (y - a.y) * a.w + (x - a.x)

-- 7.7.1: the pixels of an area but for the first ones, over what is shown
abbrev pub over : Area → (before : ℕ) → List ℕ → Shown → Shown
over a before pixels shown x y =
    if is_inside a x y && nat_le before (index_in a x y) then Some (record { format = server_format; pixel = slice_index pixels (index_in a x y - before) })
    else shown x y

abbrev pub pixels_onto : Area → (before : ℕ) → Shown → List ℕ → Option (Shown × List ℕ)
pixels_onto a before shown bytes = do
  pixels ← pixels_at server_format (a.w * a.h - before) bytes
  Some (over a before pixels.0 shown, pixels.1)

-- ---- subrectangles

-- 7.7.3, 7.7.4: what of a subrectangle lies in an area, from whose corner it is counted
abbrev pub part_of : Area → (part : Area) → Area
part_of a s = record { x = a.x + min s.x a.w; y = a.y + min s.y a.h; w = min s.w (a.w - s.x); h = min s.h (a.h - s.y) }

abbrev pub places_of : Subrectangle → Area
places_of s = record { x = s.x; y = s.y; w = s.w; h = s.h }

-- 7.7.3: so many subrectangles, one after the other
unfoldable pub rre_parts_onto : Area → ℕ → Shown → List ℕ → Option (Shown × List ℕ)
rre_parts_onto a zero shown bytes = Some (shown, bytes)
rre_parts_onto a (suc n) shown bytes = do
  s ← subrectangle_at server_format bytes
  rre_parts_onto a n (filled (part_of a (places_of s.0)) (s.0).pixel shown) s.1

-- 7.7.4: the same of a tile
unfoldable pub tile_parts_onto : Area → (coloured : Bool) → (foreground : Option ℕ) → ℕ → Shown → List ℕ → Option (Shown × List ℕ)
tile_parts_onto a coloured foreground zero shown bytes = Some (shown, bytes)
tile_parts_onto a coloured foreground (suc n) shown bytes = do
  s ← hextile.subrectangle_at server_format coloured foreground bytes
  tile_parts_onto a coloured foreground n (filled (part_of a (places_of s.0)) (s.0).pixel shown) s.1

-- ---- tiles

-- 7.7.4: the places of a tile; the last of a row or a column may be smaller
abbrev pub tile_area : Area → Tile → Area
tile_area a t = record { x = a.x + 16 * t.column; y = a.y + 16 * t.row; w = min 16 (a.w - 16 * t.column); h = min 16 (a.h - 16 * t.row) }

-- 7.7.4: tiles one after the other
unfoldable pub tiles_onto : Area → List Tile → Carried → Shown → List ℕ → Option (Shown × List ℕ)
tiles_onto a [] carried shown bytes = Some (shown, bytes)
tiles_onto a (t ∷ ts) carried shown bytes = do
  read ← tile_at server_format (tile_area a t).w (tile_area a t).h carried bytes
  tiles_onto a ts (read.0).next (patched server_format (tile_area a t) (read.0).patch shown) read.1

abbrev pub tile_of : TileAt → Tile
tile_of t = record { column = t.column; row = t.row }

-- 7.7.4: the tiles behind it: those of its row of tiles, then those of the rows of tiles below
abbrev pub tiles_right : (width : ℕ) → (row column : ℕ) → List Tile
tiles_right w row column = map (λ i. record { column = i; row = row }) (range_with_len column (div_ceil w 16 - column))

abbrev pub tiles_below : (width height : ℕ) → (row : ℕ) → List Tile
tiles_below w h row = flat_map (tiles_in w) (range_with_len row (div_ceil h 16 - row))

abbrev pub tiles_behind : TileAt → List Tile
tiles_behind t = tiles_right t.rectangle.area.w t.row (t.column + 1) ++ tiles_below t.rectangle.area.w t.rectangle.area.h (t.row + 1)

-- 7.7.4: what a tile leaves to the next. Where the subrectangles have pixels of their own there is no foreground.
abbrev pub left_by : (coloured : Bool) → Carried → Carried
left_by coloured own = record { background = own.background; foreground = if coloured then None else own.foreground }

-- ---- what is left of a message

-- 7.6.1: the rectangles behind one that was read
abbrev pub rectangles_behind : ℕ → Display → Option (Shown × List ℕ) → Option (Display × List ℕ)
rectangles_behind n d read = do
  r ← read
  rectangles_at n (record d { shown = r.0 }) r.1

-- 7.7.4: the tiles behind one that was read, and the rectangles behind those
abbrev pub tiles_at_behind : TileAt → Carried → Display → Option (Shown × List ℕ) → Option (Display × List ℕ)
tiles_at_behind t carried d read = do
  r ← read
  rectangles_behind t.rectangle.behind d (tiles_onto t.rectangle.area (tiles_behind t) carried r.0 r.1)

abbrev pub pixels_behind : Behind → Display → Option (Shown × List ℕ) → Option (Display × List ℕ)
pixels_behind (behind.Rectangles n) d read = rectangles_behind n d read
pixels_behind (behind.Tile t) d read = tiles_at_behind t nothing d read

-- 7.7.1: all pixels of an area
abbrev pub pixels_rest : Area → Behind → Display → List ℕ → Option (Display × List ℕ)
pixels_rest a b d bytes = pixels_behind b d (pixels_onto a 0 d.shown bytes)

-- an area but for its first rows
abbrev pub rows_below : Area → ℕ → Area
rows_below a rows = record a { y = a.y + rows; h = a.h - rows }

-- 7.6.2: so many entries of the colour map, from one on
abbrev pub entries_rest : ℕ → (first : ℕ) → Display → List ℕ → Option (Display × List ℕ)
entries_rest n first d bytes = do
  r ← entries_at n first d.colours bytes
  Some (record d { colours = r.0 }, r.1)

-- 7.6: what is left of a message
abbrev pub rest_of : Stage → Display → List ℕ → Option (Display × List ℕ)
rest_of stage.Message d bytes = Some (d, bytes)
rest_of stage.UpdateEnd d bytes = Some (d, bytes)
rest_of (stage.Rectangle n) d bytes = rectangles_at (suc n) d bytes
rest_of (stage.Pixels rows) d bytes = pixels_behind rows.behind d (pixels_onto rows.area rows.column d.shown bytes)
rest_of (stage.Source r) d bytes = rectangles_behind r.behind d (copy_at d.agreed r.area d.shown bytes)
rest_of (stage.Rre r) d bytes = rectangles_behind r.behind d (written server_format r.area d.shown (rre_at server_format bytes))
rest_of (stage.RreParts p) d bytes = rectangles_behind p.rectangle.behind d (rre_parts_onto p.rectangle.area p.left d.shown bytes)
rest_of (stage.Tile t) d bytes = rectangles_behind t.rectangle.behind d (tiles_onto t.rectangle.area (tile_of t ∷ tiles_behind t) t.carried d.shown bytes)
rest_of (stage.TileParts p) d bytes =
    tiles_at_behind p.tile (left_by p.coloured p.tile.carried) d
    (tile_parts_onto (tile_area p.tile.rectangle.area (tile_of p.tile)) p.coloured p.tile.carried.foreground p.left d.shown bytes)
rest_of (stage.MapEntries e) d bytes = entries_rest e.left e.next d bytes
rest_of (stage.Faulted fault) d bytes = None

-- 7.7: a rectangle's data comes there, by its encoding, and then the rectangles behind
abbrev pub IsDataStage : Rectangle → (encoding : ℤ) → Stage → Type 0
IsDataStage r encoding at = (size : Size) (shown : Shown) (colours : ColourMap) (bytes : List ℕ) → rest_of at (display size shown colours) bytes
    ≡ rectangles_behind r.behind (display size shown colours) (data_at (agreed size) r.area shown encoding bytes)

-- Where a reading stands: what was read, what that shows, and the bytes to come.
pub record Point : Type 0 where
  pub state : State
  pub shown : Shown
  pub colours : ColourMap
  pub bytes : List ℕ

-- 7.6: the rest of a text, which shows nothing, then that of a message, then messages up to the end of the bytes, at most so many
abbrev pub reads : (most : ℕ) → Point → Option Display
reads n p = do
  text ← bytes_at p.state.text p.bytes
  r ← rest_of p.state.stage (display p.state.size p.shown p.colours) text.1
  messages_in n r.0 r.1

-- two points of one reading: from either the same is read
pub record Same (n : ℕ) (p q : Point) : Type 0 where
  pub left : ℕ
  pub room : length q.bytes ≤ left
  pub is : reads n p ≡ reads left q
