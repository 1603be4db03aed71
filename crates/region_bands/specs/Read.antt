-- What a reader still has to read.
use Rattle.std.specs.Prelude.{List, [], ◌∷◌, Option, Some, None}
use Rattle.region_bands.specs.declared.Interval.{Interval}
use Rattle.region_bands.specs.declared.Rows.{Rows}
use Rattle.region_bands.specs.declared.reader.LoneBand.{LoneBand}
use Rattle.region_bands.specs.declared.reader.Source.{Source}
use Rattle.region_bands.specs.declared.reader.Source.TheVariants.{Spans, Lone}
use Rattle.region_bands.specs.Bands.{Band, Reading, band_with}

-- the interval, if there is one
abbrev pub list_of_option : {X : Type 0} → Option X → List X
list_of_option None = []
list_of_option (Some x) = x ∷ []

-- the band that has these rows, if there are any, and one interval
abbrev pub lone_bands : Option Rows → Interval → List Band
lone_bands None columns = []
lone_bands (Some rows) columns = band_with rows (columns ∷ []) ∷ []

abbrev pub lone_reading : LoneBand → Reading
lone_reading l = record { bands = lone_bands l.rows l.columns; left = list_of_option l.left }

abbrev pub reading_in : Source → Reading
reading_in (Spans r) = r
reading_in (Lone l) = lone_reading l
