use Rattle.std.proofs.Common.{◌≡◌, length, sym, ◌∙◌, ap, arith}
use Rattle.std.proofs.lemmas.Nat.{mul-le}
use Rattle.source_pixels.specs.Source.{Source, source_refusal}
use Rattle.source_pixels.specs.SourceLemmas.{places_fit}
use Rattle.source_pixels.proofs.source.PixelSource.band_places.Goals as goal

pub overflow_mul-result : goal.overflow_mul-result
overflow_mul-result c =
    let s = c.args.self.now in
    let same : length c.self.inside.bytes.now ≡ length s.bytes = ap (λ (t : Source). length t.bytes) c.self.view_is in
    let all = places_fit s (sym (ap source_refusal c.self.view_is) ∙ c.self.invariant) in
    let part = mul-le c.saturating_sub-2.result c.saturating_sub.result s.width s.height (omega arith) (omega arith) in
    omega (arith, all, part, c.self.told.0)
