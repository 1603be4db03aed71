use Rattle.std.proofs.Common.{◌≡◌, length, sym, ◌∙◌, ap, arith}
use Rattle.source_pixels.specs.Source.{Source, source_refusal}
use Rattle.source_pixels.specs.SourceLemmas.{places_fit}
use Rattle.source_pixels.proofs.source.PixelSource.width.Goals as goal

pub returns-clause-few : goal.returns-clause-few
returns-clause-few c =
    let s = c.args.self.now in
    let same : length c.self.inside.bytes.now ≡ length s.bytes = ap (λ (t : Source). length t.bytes) c.self.view_is in
    omega (arith, places_fit s (sym (ap source_refusal c.self.view_is) ∙ c.self.invariant), c.self.told.0)
