-- Rows of a program's pixels that are taken, some after others.
use Rattle.std.proofs.Common.{◌≡◌, ℕ, ◌+◌, ◌-◌, ◌≤◌, List, [], ◌++◌, None, map, take, sym, ◌∙◌, ap, subst, append-nil, arith}
use Rattle.std.specs.Prelude.{min}
use Rattle.std.proofs.lemmas.List.{append_assoc, map-append}
use Rattle.std.proofs.lemmas.List.Elements.{All-append}
use Rattle.region.specs.Places.{longest_side}
use Rattle.framebuffer.specs.Frame.{Frame, IsPicture}
use Rattle.scene.specs.declared.Config.{Config}
use Rattle.scene.specs.declared.ScreenError.{ScreenError}
use Rattle.scene.specs.declared.ScreenError.TheVariants.{OutOfMemory}
use Rattle.scene.specs.declared.Event.{Event}
use Rattle.scene.specs.Alone.{config_refusal}
use Rattle.screen.specs.State.{State, state}
use Rattle.source_pixels.specs.declared.bands.Band.{Band}
use Rattle.source_pixels.specs.declared.pieces.Piece.{Piece}
use Rattle.source_pixels.specs.Source.{Source, source_refusal}
use Rattle.source_pixels.specs.Differences.{rows_beside, IsPiece, AreDifferences}
use Rattle.source_pixels.specs.Gathering.{AreGathered, piece_of}
use Rattle.source_pixels.specs.GatheredLemmas.{gathered_none, gathered_append, are_pieces, pieces_above, differences_are}
use Rattle.screen.specs.Taken.{part_from, painted}
use Rattle.screen.specs.Paints.{paint_of, paints_of}
use Rattle.screen.specs.Takes.{IsTaken, IsPartlyTaken}
use Rattle.screen.proofs.PaintedLemmas.{painted_size, found_before}
use Rattle.screen.proofs.EventLemmas.{picture_whole}
use Rattle.screen.proofs.TakeLemmas.{picture_behind, picture_taken, partly_told, first_pieces}

-- the rows above row y are taken: the screen stands for its events with the paints of what differed there behind them, of which something holds besides
pub record AreRowsTaken (told : List Event → Type 0) (s : Source) (left top : ℕ) (config : Config) (list : List Event) (old now : State) (y places : ℕ) : Type 0 where
  pub bands : List Band
  pub beside : y ≤ rows_beside s (part_from old.picture left top)
  pub gathered : AreGathered s (part_from old.picture left top) 0 y bands places
  pub events : now ≡ state config (list ++ paints_of left top (map (piece_of s) bands))
  pub holds : told (paints_of left top (map (piece_of s) bands))

pub no_rows : (told : List Event → Type 0) (s : Source) (left top : ℕ) (config : Config) (list : List Event) (old : State) → old ≡ state config list → told [] → AreRowsTaken told s left top config list old old 0 0
no_rows told s left top config list old stands none = record {
  bands = [];
  beside = omega arith;
  gathered = gathered_none s (part_from old.picture left top) 0;
  events = stands ∙ ap (state config) (sym (append-nil list));
  holds = none;
}

-- paints behind others
pub paints_append : (list : List Event) (left top : ℕ) (qs rs : List Piece) → (list ++ paints_of left top qs) ++ paints_of left top rs ≡ list ++ paints_of left top (qs ++ rs)
paints_append list left top qs rs =
    append_assoc list (paints_of left top qs) (paints_of left top rs) ∙ ap (λ (l : List Event). list ++ l) (sym (map-append (paint_of left top) qs rs))

-- what holds of paints and those behind them
pub paints_both : (holds : List Event → Type 0) (left top : ℕ) (qs rs : List Piece) → holds (paints_of left top qs ++ paints_of left top rs) → holds (paints_of left top (qs ++ rs))
paints_both holds left top qs rs h = subst holds (sym (map-append (paint_of left top) qs rs)) h

pub paints_bands : (holds : List Event → Type 0) (s : Source) (left top : ℕ) (above below : List Band) → holds (paints_of left top (map (piece_of s) above) ++ paints_of left top (map (piece_of s) below)) → holds (paints_of left top (map (piece_of s) (above ++ below)))
paints_bands holds s left top above below h =
    subst (λ (l : List Piece). holds (paints_of left top l)) (sym (map-append (piece_of s) above below)) (paints_both holds left top (map (piece_of s) above) (map (piece_of s) below) h)

-- what is painted of the rows so far
rows_painted : (told : List Event → Type 0) (s : Source) (left top : ℕ) (config : Config) (list : List Event) (old now : State) (y places : ℕ) → old ≡ state config list → (h : AreRowsTaken told s left top config list old now y places)
    → now.picture ≡ painted left top (map (piece_of s) h.bands) old.picture
rows_painted told s left top config list old now y places stands h =
    picture_behind s left top config list old now (map (piece_of s) h.bands) stands (are_pieces s (part_from old.picture left top) 0 y h.bands h.beside h.gathered.are_bands.each) h.events

-- as many rows lie beside the picture
same_rows : (told : List Event → Type 0) (s : Source) (left top : ℕ) (config : Config) (list : List Event) (old now : State) (y places : ℕ) → old ≡ state config list → AreRowsTaken told s left top config list old now y places
    → rows_beside s (part_from now.picture left top) ≡ rows_beside s (part_from old.picture left top)
same_rows told s left top config list old now y places stands h =
    ap (λ (f : Frame). rows_beside s (part_from f left top)) (rows_painted told s left top config list old now y places stands h)
    ∙ ap (λ n. min s.height (min n longest_side - top)) (painted_size left top (map (piece_of s) h.bands) old.picture).1

-- what is found in the rows below is what differed there before
pub found_below : (told : List Event → Type 0) (s : Source) (left top : ℕ) (config : Config) (list : List Event) (old now : State) (y places end : ℕ) (found : List Band) (n : ℕ) → config_refusal config ≡ None → old ≡ state config list
    → AreRowsTaken told s left top config list old now y places → y ≤ end → end ≤ rows_beside s (part_from now.picture left top) → AreGathered s (part_from now.picture left top) y end found n
    → (end ≤ rows_beside s (part_from old.picture left top)) × AreGathered s (part_from old.picture left top) y end found n
found_below told s left top config list old now y places end found n fine stands h ordered low g =
    let same = same_rows told s left top config list old now y places stands h in
    let low' : end ≤ rows_beside s (part_from old.picture left top) = omega arith in
    let picture : IsPicture old.picture = subst IsPicture (sym (ap (λ (o : State). o.picture) stands)) (picture_whole config list fine) in (
      low',
      found_before s old.picture left top (map (piece_of s) h.bands) y end found n picture ordered low' (pieces_above s _ 0 y h.bands h.gathered.are_bands.each)
          (subst (λ (f : Frame). AreGathered s (part_from f left top) y end found n) (rows_painted told s left top config list old now y places stands h) g),
    )

-- the rows below are taken too
pub rows_more : (told telling : List Event → Type 0) (s : Source) (left top : ℕ) (config : Config) (list : List Event) (old now new : State) (y places end : ℕ) (found : List Band) (n : ℕ) → config_refusal config ≡ None → old ≡ state config list
    → (h : AreRowsTaken told s left top config list old now y places) → y ≤ end → end ≤ rows_beside s (part_from now.picture left top) → AreGathered s (part_from now.picture left top) y end found n
    → new ≡ state config ((list ++ paints_of left top (map (piece_of s) h.bands)) ++ paints_of left top (map (piece_of s) found)) → telling (paints_of left top (map (piece_of s) (h.bands ++ found))) → AreRowsTaken telling s left top config list old new end (places + n)
rows_more told telling s left top config list old now new y places end found n fine stands h ordered low g events holds =
    let below = found_below told s left top config list old now y places end found n fine stands h ordered low g in
    record {
      bands = h.bands ++ found;
      beside = below.0;
      gathered = gathered_append s (part_from old.picture left top) 0 y end h.bands found places n (omega arith) ordered h.gathered below.1;
      events = events ∙ ap (state config) (paints_append list left top (map (piece_of s) h.bands) (map (piece_of s) found) ∙ ap (λ (l : List Piece). list ++ paints_of left top l) (sym (map-append (piece_of s) h.bands found)));
      holds = holds;
    }

-- want of memory before the rows below are painted
pub rows_alone : (told : List Event → Type 0) (s : Source) (left top : ℕ) (config : Config) (list : List Event) (old now : State) (y places : ℕ) (error : ScreenError) → source_refusal s ≡ None → old ≡ state config list
    → AreRowsTaken told s left top config list old now y places → error ≡ OutOfMemory → (taken : IsPartlyTaken s left top config list old now error) × told (paints_of left top taken.pieces)
rows_alone told s left top config list old now y places error accepted stands h memory =
    partly_told told s left top config list old now (map (piece_of s) h.bands) error accepted stands (are_pieces s (part_from old.picture left top) 0 y h.bands h.beside h.gathered.are_bands.each) h.events memory h.holds

-- and while they are
pub rows_partly : (told telling : List Event → Type 0) (s : Source) (left top : ℕ) (config : Config) (list : List Event) (old now new : State) (y places end : ℕ) (found : List Band) (n count : ℕ) (error : ScreenError) → source_refusal s ≡ None
    → config_refusal config ≡ None → old ≡ state config list → (h : AreRowsTaken told s left top config list old now y places) → y ≤ end → end ≤ rows_beside s (part_from now.picture left top)
    → AreGathered s (part_from now.picture left top) y end found n → error ≡ OutOfMemory
    → new ≡ state config ((list ++ paints_of left top (map (piece_of s) h.bands)) ++ paints_of left top (take count (map (piece_of s) found))) → telling (paints_of left top (map (piece_of s) h.bands ++ take count (map (piece_of s) found)))
    → (taken : IsPartlyTaken s left top config list old new error) × telling (paints_of left top taken.pieces)
rows_partly told telling s left top config list old now new y places end found n count error accepted fine stands h ordered low g memory events holds =
    let below = found_below told s left top config list old now y places end found n fine stands h ordered low g in
    let p = part_from old.picture left top in
    partly_told telling s left top config list old new (map (piece_of s) h.bands ++ take count (map (piece_of s) found)) error accepted stands
    (All-append (IsPiece s p) (map (piece_of s) h.bands) (take count (map (piece_of s) found)) (are_pieces s p 0 y h.bands h.beside h.gathered.are_bands.each)
    (first_pieces s p count (map (piece_of s) found) (are_pieces s p y end found below.0 below.1.are_bands.each)))
    (events ∙ ap (state config) (paints_append list left top (map (piece_of s) h.bands) (take count (map (piece_of s) found)))) memory holds

-- all rows are taken
pub rows_all : (told : List Event → Type 0) (s : Source) (left top : ℕ) (config : Config) (list : List Event) (old now : State) (y places : ℕ) → source_refusal s ≡ None → config_refusal config ≡ None → old ≡ state config list
    → AreRowsTaken told s left top config list old now y places → rows_beside s (part_from now.picture left top) ≤ y → (taken : IsTaken s left top config list old now places) × told (paints_of left top taken.pieces)
rows_all told s left top config list old now y places accepted fine stands h last =
    let p = part_from old.picture left top in
    let same = same_rows told s left top config list old now y places stands h in
    let beside = h.beside in
    let whole : y ≡ rows_beside s p = omega arith in
    let all : AreDifferences s p (record { pieces = map (piece_of s) h.bands; places = places }) = differences_are s p h.bands places (subst (λ n. AreGathered s p 0 n h.bands places) whole h.gathered) in (
      record {
        pieces = map (piece_of s) h.bands;
        differences = all;
        events = h.events;
        picture = picture_taken s left top config list old now (record { pieces = map (piece_of s) h.bands; places = places }) accepted fine stands all h.events;
      },
      h.holds,
    )
