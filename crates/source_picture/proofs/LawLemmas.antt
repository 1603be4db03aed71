-- What is drawn since a ServerInit.
use Rattle.std.proofs.Common.{◌≡◌, ℕ, List, [], ◌++◌, length, None, ◌∙◌, arith}
use Rattle.encode_raw.specs.Reading.{Shown}
use Rattle.viewer_picture.specs.Messages.{ColourMap, nothing_shown, nothing_mapped, messages_at}
use Rattle.server_reader.specs.declared.stage.Size.{Size}
use Rattle.server_reader.specs.Stages.{display}
use Rattle.server_reader.specs.Steps.{View, ReadingPoint, GoesOn}
use Rattle.server_reader.specs.Readings.{start, ReadsAsTheRfc}
use Rattle.server_reader.specs.ReadingPointLemmas.{goes_on_itself, goes_on_through, goes_on_with}
use Rattle.screen.specs.Frame.{Frame}
use Rattle.source_picture.specs.Mirroring.{SourceView, shown_behind, colours_behind, IsMirrored, GivesNoReading, HasMirrored, MirrorsAsTheRfc}

abbrev reading_point : View → Shown → ColourMap → List ℕ → ReadingPoint
reading_point view shown colours left = record { view = view; shown = shown; colours = colours; left = left }

-- the bytes so far, and a further piece of them
behind : (size : Size) (bytes piece : List ℕ) (view : SourceView) (picture : Frame) (h : HasMirrored size bytes view picture)
    → GoesOn (start size nothing_shown nothing_mapped (bytes ++ piece)) (reading_point view.reader h.shown h.colours piece)
behind size bytes piece view picture h = goes_on_with (start size nothing_shown nothing_mapped bytes) (reading_point view.reader h.shown h.colours []) piece h.read

mirrored_more : (size : Size) (bytes piece : List ℕ) (before after : SourceView) (old new : Frame) → HasMirrored size bytes before old → IsMirrored before piece after [] old new
    → HasMirrored size (bytes ++ piece) after new
mirrored_more size bytes piece before after old new h m = record {
  shown = shown_behind m.steps h.shown;
  colours = colours_behind m.steps h.colours;
  read = goes_on_through (start size nothing_shown nothing_mapped (bytes ++ piece)) (reading_point before.reader h.shown h.colours piece)
      (reading_point after.reader (shown_behind m.steps h.shown) (colours_behind m.steps h.colours) []) (behind size bytes piece before old h) (m.read.goes h.shown h.colours);
  mirrors = m.mirrors h.shown h.mirrors;
}

refused : (size : Size) (bytes piece : List ℕ) (view : SourceView) (picture : Frame) → HasMirrored size bytes view picture → GivesNoReading view.reader piece
    → (later : List ℕ) → messages_at (display size nothing_shown nothing_mapped) (bytes ++ piece ++ later) ≡ None
refused size bytes piece view picture h none later =
    let same = behind size bytes piece view picture h later (length (bytes ++ piece ++ later)) (omega arith) in
    same.is ∙ none h.shown h.colours later same.left same.room

pub law : ReadsAsTheRfc → MirrorsAsTheRfc
law reads = record {
  begins = λ width height picture wide high. record {
    shown = nothing_shown;
    colours = nothing_mapped;
    read = goes_on_itself (start (record { width = width; height = height }) nothing_shown nothing_mapped []);
    mirrors = record { wide = wide; high = high; colours = λ x y left top. tt };
  };
  drawn = mirrored_more;
  shows = λ size bytes view picture h whole. record {
    now = view.reader.state.size;
    shown = h.shown;
    colours = h.colours;
    read = reads.shows (record { size = size; first = nothing_shown; map = nothing_mapped; view = view.reader; shown = h.shown; colours = h.colours }) bytes h.read whole;
    wide = h.mirrors.wide;
    high = h.mirrors.high;
    mirrored = h.mirrors.colours;
  };
  refuses = refused;
}
