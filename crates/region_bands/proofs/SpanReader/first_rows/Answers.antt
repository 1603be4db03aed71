use Rattle.std.proofs.Common.{rules, ap, refl, List, ◌∙◌}
use Rattle.std.specs.Prelude.{FitsSigned, slice_get}
use Rattle.std.specs.Option.{option_map}
use Rattle.std.specs.Int.{w32}
use Rattle.std.proofs.lemmas.Int.{to_z-of_z}
use Rattle.region_bands.specs.Bands.{Band, rows_of}
use Rattle.region_bands.specs.Held.{view_of}
use Rattle.region_bands.proofs.CallLemmas.{gap_live, gap_rows, read_bands}
use Rattle.region_bands.proofs.SpanReader.first_rows.Goals as goal

pub get-span-requires : goal.get-span-requires
get-span-requires c = gap_live c.self.inside.spans.now c.self.inside.lists c.self.inside.gap c.self.inside.left (view_of c.self.inside.spans.now c.self.inside.lists c.self.inside.gap c.self.inside.left) c.self.invariant refl c.in_ok-self.field-0 c.in_ok-self.was

pub returns : goal.returns
returns c =
    let start : FitsSigned w32 c.get-span.result.start = search rules in
    let stop : FitsSigned w32 c.get-span.result.stop = search rules in
    simp to_z-of_z
    (gap_rows c.self.inside.spans.now c.self.inside.lists c.self.inside.gap c.self.inside.left (view_of c.self.inside.spans.now c.self.inside.lists c.self.inside.gap c.self.inside.left) c.self.invariant refl c.in_ok-self.field-0 c.in_ok-self.was c.get-span.result c.get-span.ensures
    ∙ ap (λ (l : List Band). option_map rows_of (slice_get l 0)) (read_bands c.self.inside.spans.now c.self.inside.lists c.self.inside.gap c.self.inside.left c.args.self.now c.self.view_is))
