-- Subrectangles of a tile are turns.
use Rattle.std.proofs.Common.{◌≡◌, ℕ, suc, ◌+◌, Bool, true, false, List, [], ◌∷◌, ◌++◌, length, slice_index, Option, None, Some, sym, ap, ◌∙◌, arith}
use Rattle.pixel_translate.specs.declared.Area.{Area}
use Rattle.pixel_translate.specs.Pixel.{server_format}
use Rattle.encode_raw.specs.Reading.{◌>>=◌}
use Rattle.subrectangles.specs.declared.Subrectangle.{Subrectangle}
use Rattle.encode_hextile.specs.Reading.{subrectangle_at}
use Rattle.viewer_picture.specs.Messages.{Display}
use Rattle.server_reader.specs.declared.stage.Size.{Size}
use Rattle.server_reader.specs.declared.stage.TileAt.{TileAt}
use Rattle.server_reader.specs.declared.stage.TileParts.{TileParts}
use Rattle.server_reader.specs.declared.stage.Stage.{Stage}
use Rattle.server_reader.specs.declared.stage.Stage.TheVariants as stage
use Rattle.server_reader.specs.declared.step.Step.TheVariants as step
use Rattle.server_reader.specs.Groups.{pixel_in, part_in}
use Rattle.server_reader.specs.Stages.{display, filled, part_of, places_of, tile_area, tile_of, tile_parts_onto, left_by, tiles_at_behind, rest_of}
use Rattle.server_reader.specs.Steps.{state_at, IsTurn, IsRefused}
use Rattle.server_reader.proofs.StepLemmas.{turn_by, refused_by}

abbrev pub area_of : TileParts → Area
area_of p = tile_area p.tile.rectangle.area (tile_of p.tile)

-- what is left of the update, with so many subrectangles to come
abbrev pub with_parts : TileParts → ℕ → Display → List ℕ → Option (Display × List ℕ)
with_parts p left d bytes =
    tiles_at_behind p.tile (left_by p.coloured p.tile.carried) d (tile_parts_onto (area_of p) p.coloured p.tile.carried.foreground left d.shown bytes)

-- a subrectangle that was read, and those behind it
behind_one : TileParts → ℕ → Display → Option (Subrectangle × List ℕ) → Option (Display × List ℕ)
behind_one p left d read =
    tiles_at_behind p.tile (left_by p.coloured p.tile.carried) d
    (read >>= λ (s : Subrectangle × List ℕ).
    tile_parts_onto (area_of p) p.coloured p.tile.carried.foreground left (filled (part_of (area_of p) (places_of s.0)) (s.0).pixel d.shown) s.1)

one_read : (p : TileParts) (left : ℕ) (d : Display) (bytes : List ℕ) → left + 1 ≡ p.left
    → rest_of (stage.TileParts p) d bytes ≡ behind_one p left d (subrectangle_at server_format p.coloured p.tile.carried.foreground bytes)
unfolding behind_one tile_parts_onto
one_read p left d bytes e = ap (λ n. with_parts p n d bytes) (let one : p.left ≡ suc left = omega (arith, e) in one)

-- with a pixel of its own
pub coloured_turn : (size : Size) (p : TileParts) (bytes : List ℕ) (after : Stage) (left : ℕ) → p.coloured ≡ true → length bytes ≡ 6 → left + 1 ≡ p.left
    → ((d : Display) (later : List ℕ) → rest_of after d later ≡ with_parts p left d later)
    → IsTurn (state_at size (stage.TileParts p)) bytes
    (record { state = state_at size after; step = step.Fill (part_of (area_of p) (part_in (slice_index bytes 4) (slice_index bytes 5))) (pixel_in bytes 0) })
unfolding behind_one
coloured_turn size p (a ∷ b ∷ c ∷ e ∷ f ∷ g ∷ []) after left own long is-left rest =
    let all : List ℕ = a ∷ b ∷ c ∷ e ∷ f ∷ g ∷ [] in
    turn_by size (stage.TileParts p) after all (step.Fill (part_of (area_of p) (part_in f g)) (pixel_in all 0)) (λ shown colours later.
    one_read p left (display size shown colours) (all ++ later) is-left
    ∙ ap (λ t. behind_one p left (display size shown colours) (subrectangle_at server_format t p.tile.carried.foreground (all ++ later))) own
    ∙ sym (rest (display size (filled (part_of (area_of p) (part_in f g)) (pixel_in all 0) shown) colours) later))
coloured_turn size p _ after left own long is-left rest = absurd (omega (arith, long))

-- of the foreground
pub plain_turn : (size : Size) (p : TileParts) (bytes : List ℕ) (after : Stage) (left pixel : ℕ) → p.coloured ≡ false → p.tile.carried.foreground ≡ Some pixel → length bytes ≡ 2 → left + 1 ≡ p.left
    → ((d : Display) (later : List ℕ) → rest_of after d later ≡ with_parts p left d later)
    → IsTurn (state_at size (stage.TileParts p)) bytes
    (record { state = state_at size after; step = step.Fill (part_of (area_of p) (part_in (slice_index bytes 0) (slice_index bytes 1))) pixel })
unfolding behind_one
plain_turn size p (f ∷ g ∷ []) after left pixel plain carried long is-left rest =
    turn_by size (stage.TileParts p) after (f ∷ g ∷ []) (step.Fill (part_of (area_of p) (part_in f g)) pixel) (λ shown colours later.
    one_read p left (display size shown colours) (f ∷ g ∷ later) is-left
    ∙ ap (λ t. behind_one p left (display size shown colours) (subrectangle_at server_format t p.tile.carried.foreground (f ∷ g ∷ later))) plain
    ∙ ap (λ (o : Option ℕ). behind_one p left (display size shown colours) (subrectangle_at server_format false o (f ∷ g ∷ later))) carried
    ∙ sym (rest (display size (filled (part_of (area_of p) (part_in f g)) pixel shown) colours) later))
plain_turn size p _ after left pixel plain carried long is-left rest = absurd (omega (arith, long))

-- without either
pub no_foreground : (size : Size) (p : TileParts) (bytes : List ℕ) (left : ℕ) → p.coloured ≡ false → p.tile.carried.foreground ≡ None → left + 1 ≡ p.left
    → IsRefused (state_at size (stage.TileParts p)) bytes
unfolding behind_one
no_foreground size p bytes left plain none is-left =
    refused_by size (stage.TileParts p) bytes (λ shown colours later.
    one_read p left (display size shown colours) (bytes ++ later) is-left
    ∙ ap (λ t. behind_one p left (display size shown colours) (subrectangle_at server_format t p.tile.carried.foreground (bytes ++ later))) plain
    ∙ ap (λ (o : Option ℕ). behind_one p left (display size shown colours) (subrectangle_at server_format false o (bytes ++ later))) none)

-- no subrectangles are to come: the tiles behind
pub no_parts_left : (t : TileAt) (coloured : Bool) (left : ℕ) (d : Display) (bytes : List ℕ) → left ≡ 0
    → tiles_at_behind t (left_by coloured t.carried) d (Some (d.shown, bytes))
    ≡ tiles_at_behind t (left_by coloured t.carried) d (tile_parts_onto (tile_area t.rectangle.area (tile_of t)) coloured t.carried.foreground left d.shown bytes)
unfolding tile_parts_onto
no_parts_left t coloured left d bytes e =
    ap (λ n. tiles_at_behind t (left_by coloured t.carried) d (tile_parts_onto (tile_area t.rectangle.area (tile_of t)) coloured t.carried.foreground n d.shown bytes)) (sym e)
