-- The head of a tile is a turn.
use Rattle.std.proofs.Common.{◌≡◌, ℕ, zero, suc, ◌+◌, ◌-◌, ◌<◌, Bool, true, false, cond, List, [], ◌∷◌, ◌++◌, length, slice_index, Option, None, Some, refl, sym, ap, ◌∙◌, arith}
use Rattle.std.specs.Prelude.{if◌then◌else◌}
use Rattle.std.specs.Int.{w8}
use Rattle.pixel_translate.specs.declared.Area.{Area}
use Rattle.pixel_translate.specs.Pixel.{server_format}
use Rattle.encode_raw.specs.Reading.{◌>>=◌, number_at, raw_at, Shown, Patch, patched}
use Rattle.subrectangles.specs.declared.Subrectangle.{Subrectangle}
use Rattle.subrectangles.specs.Reading.{painted}
use Rattle.encode_hextile.specs.declared.Carried.{Carried}
use Rattle.encode_hextile.specs.Hextile.{nothing}
use Rattle.encode_hextile.specs.Reading.{has_bit, specified_at, subrectangle_at, subrectangles_at, TileRead, raw_tile_at, coded_tile_at}
use Rattle.viewer_picture.specs.Messages.{Display, written}
use Rattle.server_reader.specs.declared.stage.Behind.TheVariants as behind
use Rattle.server_reader.specs.declared.stage.Size.{Size}
use Rattle.server_reader.specs.declared.stage.TileAt.{TileAt}
use Rattle.server_reader.specs.declared.stage.Stage.{Stage}
use Rattle.server_reader.specs.declared.stage.Stage.TheVariants as stage
use Rattle.server_reader.specs.declared.step.Step.TheVariants as step
use Rattle.server_reader.specs.Groups.{pixel_in, part_length, tile_length, own_pixels, part_count}
use Rattle.server_reader.specs.Stages.{display, filled, part_of, places_of, tile_area, tile_of, tile_parts_onto, tiles_behind, tiles_onto, left_by, rectangles_behind, tiles_at_behind, pixels_rest, rest_of}
use Rattle.server_reader.specs.Steps.{state_at, IsTurn, IsRefused}
use Rattle.server_reader.proofs.StepLemmas.{turn_by, refused_by}
use Rattle.server_reader.proofs.RunLemmas.{raw_begins}
use Rattle.server_reader.proofs.RectangleTurns.{one_part}

abbrev area_of : TileAt → Area
area_of t = tile_area t.rectangle.area (tile_of t)

-- a tile that was read over what is shown, and the tiles and rectangles behind it
then_tiles : TileAt → Display → Option (TileRead × List ℕ) → Option (Display × List ℕ)
then_tiles t d read =
    rectangles_behind t.rectangle.behind d
    (read >>= λ (r : TileRead × List ℕ). tiles_onto t.rectangle.area (tiles_behind t) (r.0).next (patched server_format (area_of t) (r.0).patch d.shown) r.1)

-- by its bits
by_bits : TileAt → Display → (raw : Bool) → (bits : ℕ) → List ℕ → Option (Display × List ℕ)
by_bits t d raw bits bytes = then_tiles t d (cond raw (raw_tile_at server_format (area_of t).w (area_of t).h bytes) (coded_tile_at server_format t.carried bits bytes))

bits_read : (t : TileAt) (d : Display) (bits : ℕ) (bytes : List ℕ) → rest_of (stage.Tile t) d (bits ∷ bytes) ≡ by_bits t d (has_bit bits 0) bits bytes
unfolding tiles_onto then_tiles by_bits
bits_read t d bits bytes = refl

-- ---- a raw tile

raw_onto : (t : TileAt) (d : Display) (o : Option (Patch × List ℕ))
    → then_tiles t d (o >>= λ (p : Patch × List ℕ). Some (record { patch = p.0; next = nothing }, p.1)) ≡ tiles_at_behind t nothing d (written server_format (area_of t) d.shown o)
unfolding then_tiles
raw_onto t d None = refl
raw_onto t d (Some p) = refl

pub raw_tile_turn : (size : Size) (t : TileAt) (head : List ℕ) (after : Stage) → has_bit (slice_index head 0) 0 ≡ true → length head ≡ 1
    → ((d : Display) (later : List ℕ) → rest_of after d later ≡ pixels_rest (area_of t) (behind.Tile t) d later)
    → IsTurn (state_at size (stage.Tile t)) head (record { state = state_at size after; step = step.Head })
unfolding by_bits
raw_tile_turn size t (bits ∷ []) after raw long rest =
    turn_by size (stage.Tile t) after (bits ∷ []) step.Head (λ shown colours later.
    bits_read t (display size shown colours) bits later
    ∙ ap (λ b. by_bits t (display size shown colours) b bits later) raw
    ∙ raw_onto t (display size shown colours) (raw_at server_format (area_of t).w (area_of t).h later)
    ∙ ap (tiles_at_behind t nothing (display size shown colours)) (sym (raw_begins (area_of t) shown later))
    ∙ sym (rest (display size shown colours) later))
raw_tile_turn size t _ after raw long rest = absurd (omega (arith, long))

-- ---- any other tile

-- 7.7.4: a tile by its bits
coded_with : (background foreground listed coloured : Bool) → Carried → List ℕ → Option (TileRead × List ℕ)
coded_with c1 c2 c3 c4 carried bytes = do
  background ← specified_at server_format c1 carried.background bytes
  b ← background.0
  foreground ← specified_at server_format c2 carried.foreground background.1
  count ← if c3 then number_at w8 foreground.1 else Some (0, foreground.1)
  patch ← subrectangles_at server_format c4 foreground.0 count.0 (λ x y. b) count.1
  Some (record { patch = patch.0; next = record { background = Some b; foreground = if c4 then None else foreground.0 } }, patch.1)

-- its subrectangles over its background
parts_with : (coloured : Bool) → (pixel : ℕ) → (foreground : Option ℕ) → ℕ → List ℕ → Option (TileRead × List ℕ)
parts_with c4 pixel foreground count bytes = do
  patch ← subrectangles_at server_format c4 foreground count (λ x y. pixel) bytes
  Some (record { patch = patch.0; next = record { background = Some pixel; foreground = if c4 then None else foreground } }, patch.1)

coded_by : (coloured : Bool) → Carried → ℕ → List ℕ → Option (TileRead × List ℕ)
coded_by c4 own count bytes = own.background >>= λ (pixel : ℕ). parts_with c4 pixel own.foreground count bytes

abbrev own_by : (background foreground : Bool) → Carried → (head : List ℕ) → Carried
own_by c1 c2 carried head = record {
  background = if c1 then Some (pixel_in head 1) else carried.background;
  foreground = if c2 then Some (pixel_in head (1 + part_length c1 4)) else carried.foreground;
}

abbrev count_by : (listed : Bool) → (head : List ℕ) → ℕ
count_by c3 head = if c3 then slice_index head (length head - 1) else 0

-- what a head of this length says
head_read : (c1 c2 c3 c4 : Bool) (carried : Carried) (bits : ℕ) (rest later : List ℕ) → length rest ≡ part_length c1 4 + part_length c2 4 + part_length c3 1
    → coded_with c1 c2 c3 c4 carried (rest ++ later) ≡ coded_by c4 (own_by c1 c2 carried (bits ∷ rest)) (count_by c3 (bits ∷ rest)) later
unfolding coded_with coded_by parts_with
head_read true true true c4 carried bits (a ∷ b ∷ c ∷ e ∷ f ∷ g ∷ h ∷ i ∷ n ∷ []) later long = refl
head_read true true true c4 carried bits _ later long = absurd (omega (arith, long))
head_read true true false c4 carried bits (a ∷ b ∷ c ∷ e ∷ f ∷ g ∷ h ∷ i ∷ []) later long = refl
head_read true true false c4 carried bits _ later long = absurd (omega (arith, long))
head_read true false true c4 carried bits (a ∷ b ∷ c ∷ e ∷ n ∷ []) later long = refl
head_read true false true c4 carried bits _ later long = absurd (omega (arith, long))
head_read true false false c4 carried bits (a ∷ b ∷ c ∷ e ∷ []) later long = refl
head_read true false false c4 carried bits _ later long = absurd (omega (arith, long))
head_read false true true c4 carried bits (f ∷ g ∷ h ∷ i ∷ n ∷ []) later long = refl
head_read false true true c4 carried bits _ later long = absurd (omega (arith, long))
head_read false true false c4 carried bits (f ∷ g ∷ h ∷ i ∷ []) later long = refl
head_read false true false c4 carried bits _ later long = absurd (omega (arith, long))
head_read false false true c4 carried bits (n ∷ []) later long = refl
head_read false false true c4 carried bits _ later long = absurd (omega (arith, long))
head_read false false false c4 carried bits [] later long = refl
head_read false false false c4 carried bits (n ∷ rest) later long = absurd (omega (arith, long))

-- subrectangles painted onto a patch are painted onto what is shown
parts_onto : (a : Area) (coloured : Bool) (foreground : Option ℕ) (n : ℕ) (patch : Patch) (shown : Shown) (bytes : List ℕ)
    → written server_format a shown (subrectangles_at server_format coloured foreground n patch bytes) ≡ tile_parts_onto a coloured foreground n (patched server_format a patch shown) bytes
unfolding subrectangles_at tile_parts_onto
parts_onto a coloured foreground zero patch shown bytes = refl
parts_onto a coloured foreground (suc n) patch shown bytes =
    by (λ inner more. parts_onto a coloured foreground n inner shown more) (subrectangle_at server_format coloured foreground bytes)
  where
    by : ((inner : Patch) (more : List ℕ) → written server_format a shown (subrectangles_at server_format coloured foreground n inner more)
        ≡ tile_parts_onto a coloured foreground n (patched server_format a inner shown) more)
        → (o : Option (Subrectangle × List ℕ)) → written server_format a shown (o >>= λ (s : Subrectangle × List ℕ). subrectangles_at server_format coloured foreground n (painted s.0 patch) s.1)
        ≡ (o >>= λ (s : Subrectangle × List ℕ). tile_parts_onto a coloured foreground n (filled (part_of a (places_of s.0)) (s.0).pixel (patched server_format a patch shown)) s.1)
    by others None = refl
    by others (Some s) =
        others (painted s.0 patch) s.1
        ∙ ap (λ (t : Shown). tile_parts_onto a coloured foreground n t s.1) (one_part a s.0 patch shown)

patch_onto : (t : TileAt) (d : Display) (next : Carried) (o : Option (Patch × List ℕ))
    → then_tiles t d (o >>= λ (p : Patch × List ℕ). Some (record { patch = p.0; next = next }, p.1)) ≡ tiles_at_behind t next d (written server_format (area_of t) d.shown o)
unfolding then_tiles
patch_onto t d next None = refl
patch_onto t d next (Some p) = refl

-- a tile by its head, with the subrectangles to come
coded_read : (t : TileAt) (d : Display) (bits : ℕ) (rest later : List ℕ) → has_bit bits 0 ≡ false
    → length rest ≡ part_length (has_bit bits 1) 4 + part_length (has_bit bits 2) 4 + part_length (has_bit bits 3) 1
    → rest_of (stage.Tile t) d (bits ∷ rest ++ later)
    ≡ then_tiles t d (coded_by (has_bit bits 4) (own_pixels t.carried (bits ∷ rest)) (count_by (has_bit bits 3) (bits ∷ rest)) later)
unfolding by_bits coded_with
coded_read t d bits rest later coded long =
    bits_read t d bits (rest ++ later)
    ∙ ap (λ b. by_bits t d b bits (rest ++ later)) coded
    ∙ ap (then_tiles t d) (head_read (has_bit bits 1) (has_bit bits 2) (has_bit bits 3) (has_bit bits 4) t.carried bits rest later long)

-- with a background: all of the tile shows it
pub coded_tile_turn : (size : Size) (t : TileAt) (bits : ℕ) (rest : List ℕ) (after : Stage) (pixel : ℕ) → has_bit bits 0 ≡ false
    → length rest ≡ part_length (has_bit bits 1) 4 + part_length (has_bit bits 2) 4 + part_length (has_bit bits 3) 1
    → (own_pixels t.carried (bits ∷ rest)).background ≡ Some pixel
    → ((d : Display) (later : List ℕ) → rest_of after d later ≡ tiles_at_behind t (left_by (has_bit bits 4) (own_pixels t.carried (bits ∷ rest))) d
    (tile_parts_onto (area_of t) (has_bit bits 4) (own_pixels t.carried (bits ∷ rest)).foreground (count_by (has_bit bits 3) (bits ∷ rest)) d.shown later))
    → IsTurn (state_at size (stage.Tile t)) (bits ∷ rest) (record { state = state_at size after; step = step.Fill (area_of t) pixel })
unfolding coded_by parts_with
coded_tile_turn size t bits rest after pixel coded long background next =
    let own : Carried = own_pixels t.carried (bits ∷ rest) in
    let coloured : Bool = has_bit bits 4 in
    let count : ℕ = count_by (has_bit bits 3) (bits ∷ rest) in
    let left : Option ℕ = if coloured then None else own.foreground in
    turn_by size (stage.Tile t) after (bits ∷ rest) (step.Fill (area_of t) pixel) (λ shown colours later.
    let d : Display = display size shown colours in
    coded_read t d bits rest later coded long
    ∙ ap (λ (o : Option ℕ). then_tiles t d (o >>= λ (p : ℕ). parts_with coloured p own.foreground count later)) background
    ∙ patch_onto t d (record { background = Some pixel; foreground = left }) (subrectangles_at server_format coloured own.foreground count (λ x y. pixel) later)
    ∙ ap (tiles_at_behind t (record { background = Some pixel; foreground = left }) d) (parts_onto (area_of t) coloured own.foreground count (λ x y. pixel) shown later)
    ∙ ap (λ (o : Option ℕ). tiles_at_behind t (record { background = o; foreground = left }) d (tile_parts_onto (area_of t) coloured own.foreground count (filled (area_of t) pixel shown) later)) (sym background)
    ∙ sym (next (display size (filled (area_of t) pixel shown) colours) later))

-- without one
pub no_background : (size : Size) (t : TileAt) (bits : ℕ) (rest : List ℕ) → has_bit bits 0 ≡ false
    → length rest ≡ part_length (has_bit bits 1) 4 + part_length (has_bit bits 2) 4 + part_length (has_bit bits 3) 1
    → (own_pixels t.carried (bits ∷ rest)).background ≡ None → IsRefused (state_at size (stage.Tile t)) (bits ∷ rest)
unfolding then_tiles coded_by
no_background size t bits rest coded long none =
    refused_by size (stage.Tile t) (bits ∷ rest) (λ shown colours later.
    coded_read t (display size shown colours) bits rest later coded long
    ∙ ap (λ (o : Option ℕ). then_tiles t (display size shown colours) (o >>= λ (p : ℕ). parts_with (has_bit bits 4) p (own_pixels t.carried (bits ∷ rest)).foreground (count_by (has_bit bits 3) (bits ∷ rest)) later)) none)

-- with subrectangles that have no pixel
no_parts : (n : ℕ) (patch : Patch) (bytes : List ℕ) → subrectangles_at server_format false None (suc n) patch bytes ≡ None
unfolding subrectangles_at
no_parts n patch bytes = refl

pub no_pixel : (size : Size) (t : TileAt) (bits : ℕ) (rest : List ℕ) (pixel left : ℕ) → has_bit bits 0 ≡ false
    → length rest ≡ part_length (has_bit bits 1) 4 + part_length (has_bit bits 2) 4 + part_length (has_bit bits 3) 1
    → (own_pixels t.carried (bits ∷ rest)).background ≡ Some pixel → has_bit bits 4 ≡ false → (own_pixels t.carried (bits ∷ rest)).foreground ≡ None
    → count_by (has_bit bits 3) (bits ∷ rest) ≡ suc left → IsRefused (state_at size (stage.Tile t)) (bits ∷ rest)
unfolding then_tiles coded_by parts_with
no_pixel size t bits rest pixel left coded long background plain none some =
    let own : Carried = own_pixels t.carried (bits ∷ rest) in
    let count : ℕ = count_by (has_bit bits 3) (bits ∷ rest) in
    refused_by size (stage.Tile t) (bits ∷ rest) (λ shown colours later.
    let d : Display = display size shown colours in
    coded_read t d bits rest later coded long
    ∙ ap (λ (o : Option ℕ). then_tiles t d (o >>= λ (p : ℕ). parts_with (has_bit bits 4) p own.foreground count later)) background
    ∙ ap (λ c. then_tiles t d (parts_with c pixel own.foreground count later)) plain
    ∙ ap (λ (o : Option ℕ). then_tiles t d (parts_with false pixel o count later)) none
    ∙ ap (λ n. then_tiles t d (parts_with false pixel None n later)) some
    ∙ ap (λ (o : Option (Patch × List ℕ)). then_tiles t d (o >>= λ (p : Patch × List ℕ). Some (record { patch = p.0; next = record { background = Some pixel; foreground = None } }, p.1))) (no_parts left (λ x y. pixel) later))

-- ---- by the first byte of the head

-- how many bytes are behind it
rest_long : (bits : ℕ) (rest : List ℕ) → has_bit bits 0 ≡ false → length (bits ∷ rest) ≡ tile_length bits
    → length rest ≡ part_length (has_bit bits 1) 4 + part_length (has_bit bits 2) 4 + part_length (has_bit bits 3) 1
rest_long bits rest coded long =
    let all : ℕ = 1 + part_length (has_bit bits 1) 4 + part_length (has_bit bits 2) 4 + part_length (has_bit bits 3) 1 in
    let e : tile_length bits ≡ all = ap (λ b. if b then 1 else all) coded in
    omega (arith, long, e)

pub tile_turn : (size : Size) (t : TileAt) (head : List ℕ) (after : Stage) (pixel left : ℕ) → has_bit (slice_index head 0) 0 ≡ false → length head ≡ tile_length (slice_index head 0)
    → (own_pixels t.carried head).background ≡ Some pixel → left ≡ part_count head
    → ((d : Display) (later : List ℕ) → rest_of after d later ≡ tiles_at_behind t (left_by (has_bit (slice_index head 0) 4) (own_pixels t.carried head)) d
    (tile_parts_onto (area_of t) (has_bit (slice_index head 0) 4) (own_pixels t.carried head).foreground left d.shown later))
    → IsTurn (state_at size (stage.Tile t)) head (record { state = state_at size after; step = step.Fill (area_of t) pixel })
tile_turn size t [] after pixel left coded long background is next = absurd (omega (arith, long))
tile_turn size t (bits ∷ rest) after pixel left coded long background is next =
    let own : Carried = own_pixels t.carried (bits ∷ rest) in
    coded_tile_turn size t bits rest after pixel coded (rest_long bits rest coded long) background (λ d later.
    next d later
    ∙ ap (λ n. tiles_at_behind t (left_by (has_bit bits 4) own) d (tile_parts_onto (area_of t) (has_bit bits 4) own.foreground n d.shown later)) is)

pub tile_without_background : (size : Size) (t : TileAt) (head : List ℕ) → has_bit (slice_index head 0) 0 ≡ false → length head ≡ tile_length (slice_index head 0)
    → (own_pixels t.carried head).background ≡ None → IsRefused (state_at size (stage.Tile t)) head
tile_without_background size t [] coded long none = absurd (omega (arith, long))
tile_without_background size t (bits ∷ rest) coded long none = no_background size t bits rest coded (rest_long bits rest coded long) none

pub tile_without_foreground : (size : Size) (t : TileAt) (head : List ℕ) (pixel left : ℕ) → has_bit (slice_index head 0) 0 ≡ false → length head ≡ tile_length (slice_index head 0)
    → (own_pixels t.carried head).background ≡ Some pixel → has_bit (slice_index head 0) 4 ≡ false → (own_pixels t.carried head).foreground ≡ None
    → left ≡ part_count head → 0 < left → IsRefused (state_at size (stage.Tile t)) head
tile_without_foreground size t [] pixel left coded long background plain none is some = absurd (omega (arith, long))
tile_without_foreground size t (bits ∷ rest) pixel left coded long background plain none is some =
    no_pixel size t bits rest pixel (left - 1) coded (rest_long bits rest coded long) background plain none (omega (arith, is, some))

pub raw_turn : (size : Size) (t : TileAt) (head : List ℕ) (after : Stage) → has_bit (slice_index head 0) 0 ≡ true → length head ≡ tile_length (slice_index head 0)
    → ((d : Display) (later : List ℕ) → rest_of after d later ≡ pixels_rest (area_of t) (behind.Tile t) d later)
    → IsTurn (state_at size (stage.Tile t)) head (record { state = state_at size after; step = step.Head })
raw_turn size t head after raw long rest =
    let bits : ℕ = slice_index head 0 in
    raw_tile_turn size t head after raw
    (long ∙ ap (λ b. if b then 1 else 1 + part_length (has_bit bits 1) 4 + part_length (has_bit bits 2) 4 + part_length (has_bit bits 3) 1) raw) rest
