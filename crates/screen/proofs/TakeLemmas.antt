-- A screen behind paints of what differs.
use Rattle.std.proofs.Common.{◌≡◌, ℕ, ◌<◌, List, ◌++◌, None, length, map, get_or, take, sym, ◌∙◌, ap, subst, arith}
use Rattle.std.specs.Prelude.{All, ◌⊎◌}
use Rattle.std.proofs.lemmas.List.{get_or-take, get_or-map, length-take, length-map}
use Rattle.framebuffer.specs.Frame.{Frame, IsPicture}
use Rattle.scene.specs.declared.Config.{Config}
use Rattle.scene.specs.declared.ScreenError.{ScreenError}
use Rattle.scene.specs.declared.ScreenError.TheVariants.{OutOfMemory}
use Rattle.scene.specs.declared.Event.{Event}
use Rattle.scene.specs.Alone.{config_refusal, pixels_refusal}
use Rattle.screen.specs.State.{State, state}
use Rattle.source_pixels.specs.declared.bands.Band.{Band}
use Rattle.source_pixels.specs.declared.pieces.Piece.{Piece}
use Rattle.source_pixels.specs.declared.pieces.Differences.{Differences}
use Rattle.source_pixels.specs.Parts.{Part}
use Rattle.source_pixels.specs.Source.{Source, source_refusal}
use Rattle.source_pixels.specs.Differences.{columns_beside, rows_beside, AreDifferences, IsPiece}
use Rattle.source_pixels.specs.Bands.{IsBand}
use Rattle.source_pixels.specs.Gathering.{piece_of}
use Rattle.screen.specs.Taken.{part_from, painted, taken, piece_rect, colour_on}
use Rattle.screen.specs.Paints.{paints_of}
use Rattle.screen.specs.Takes.{IsPartlyTaken}
use Rattle.screen.proofs.PaintedLemmas.{painted_is_taken, painted_size, partly}
use Rattle.screen.proofs.EventLemmas.{picture_whole, pictures-painted, piece_accepted}

-- the picture behind some of the paints
pub picture_behind : (s : Source) (left top : ℕ) (config : Config) (list : List Event) (old new : State) (qs : List Piece) → old ≡ state config list → All (IsPiece s (part_from old.picture left top)) qs
    → new ≡ state config (list ++ paints_of left top qs) → new.picture ≡ painted left top qs old.picture
picture_behind s left top config list old new qs stands pieces events =
    ap (λ (o : State). o.picture) events
    ∙ pictures-painted config list s old.picture left top qs pieces (sym (ap (λ (o : State). o.picture.width) stands)) (sym (ap (λ (o : State). o.picture.height) stands))
    ∙ ap (painted left top qs) (sym (ap (λ (o : State). o.picture) stands))

-- all of them take the source in
pub picture_taken : (s : Source) (left top : ℕ) (config : Config) (list : List Event) (old new : State) (d : Differences) → source_refusal s ≡ None → config_refusal config ≡ None → old ≡ state config list
    → AreDifferences s (part_from old.picture left top) d → new ≡ state config (list ++ paints_of left top d.pieces) → new.picture ≡ taken s left top old.picture
picture_taken s left top config list old new d accepted fine stands differ events =
    picture_behind s left top config list old new d.pieces stands differ.pieces events
    ∙ painted_is_taken s old.picture left top d accepted (subst IsPicture (sym (ap (λ (o : State). o.picture) stands)) (picture_whole config list fine)) differ

-- some of them take a part of it in
pub partly_taken : (s : Source) (left top : ℕ) (config : Config) (list : List Event) (old new : State) (qs : List Piece) (error : ScreenError) → source_refusal s ≡ None → old ≡ state config list
    → All (IsPiece s (part_from old.picture left top)) qs → new ≡ state config (list ++ paints_of left top qs) → error ≡ OutOfMemory → IsPartlyTaken s left top config list old new error
partly_taken s left top config list old new qs error accepted stands pieces events memory = record {
  memory = memory;
  pieces = qs;
  events = events;
  places = λ x y wide high.
      subst (λ (f : Frame). (colour_on f x y ≡ colour_on old.picture x y) ⊎ (colour_on f x y ≡ colour_on (taken s left top old.picture) x y))
      (sym (picture_behind s left top config list old new qs stands pieces events))
      (partly s (part_from old.picture left top) left top qs old.picture x y accepted pieces wide high);
}

-- the same, where something holds of what was painted
pub partly_told : (told : List Event → Type 0) (s : Source) (left top : ℕ) (config : Config) (list : List Event) (old new : State) (qs : List Piece) (error : ScreenError) → source_refusal s ≡ None → old ≡ state config list
    → All (IsPiece s (part_from old.picture left top)) qs → new ≡ state config (list ++ paints_of left top qs) → error ≡ OutOfMemory → told (paints_of left top qs)
    → (taken : IsPartlyTaken s left top config list old new error) × told (paints_of left top taken.pieces)
unfolding partly_taken
partly_told told s left top config list old new qs error accepted stands pieces events memory holds = (partly_taken s left top config list old new qs error accepted stands pieces events memory, holds)

-- no further piece is refused
pub accepted_behind : (s : Source) (left top : ℕ) (config : Config) (list : List Event) (old now : State) (qs : List Piece) (q : Piece) → old ≡ state config list → All (IsPiece s (part_from old.picture left top)) qs
    → now ≡ state config (list ++ paints_of left top qs) → IsPiece s (part_from old.picture left top) q → pixels_refusal now.picture.width now.picture.height (piece_rect left top q) q.colours ≡ None
accepted_behind s left top config list old now qs q stands pieces events piece =
    ap (λ n. pixels_refusal n now.picture.height (piece_rect left top q) q.colours) (ap (λ (f : Frame). f.width) here ∙ (painted_size left top qs old.picture).0)
    ∙ ap (λ n. pixels_refusal old.picture.width n (piece_rect left top q) q.colours) (ap (λ (f : Frame). f.height) here ∙ (painted_size left top qs old.picture).1)
    ∙ piece_accepted s old.picture left top q piece
  where
    here : now.picture ≡ painted left top qs old.picture
    here = picture_behind s left top config list old now qs stands pieces events

-- the first pieces
pub first_pieces : (s : Source) (p : Part) (n : ℕ) (qs : List Piece) → All (IsPiece s p) qs → All (IsPiece s p) (take n qs)
first_pieces s p n qs pieces k d below =
    let long = length-take n qs in
    subst (IsPiece s p) (sym (get_or-take n qs k d (omega arith))) (pieces k d (omega arith))

-- the place of a piece's band
pub band_placed : (s : Source) (p : Part) (bands : List Band) (k : ℕ) (b : Band) → All (IsPiece s p) (map (piece_of s) bands) → k < length bands → b ≡ get_or bands k b
    → IsPiece s p (piece_of s b) × IsBand (columns_beside s p) 0 (rows_beside s p) b
band_placed s p bands k b pieces below here =
    let piece : IsPiece s p (piece_of s b) =
    subst (IsPiece s p) (get_or-map (piece_of s) bands k b (piece_of s b) below ∙ ap (piece_of s) (sym here)) (pieces k (piece_of s b) (let long = length-map bands (piece_of s) in omega arith)) in
    let a = piece.some_columns in let c = piece.some_rows in let d = piece.wide in let e = piece.high in
    (piece, record { some_columns = omega arith; wide = omega arith; some_rows = omega arith; low = omega arith; high = omega arith })
