-- What holds of pixels that are accepted.
use Rattle.std.proofs.Common.{◌≡◌, ℕ, ◌+◌, ◌-◌, ◌*◌, ◌/◌, ◌^◌, ◌<◌, ◌≤◌, zero, suc, Bool, true, false, cond, List, length, slice_index, Option, Some, None, refl, ◌∙◌, ap, subst, eqb, arith}
use Rattle.std.proofs.Math.Nat.{mod-lt, mul-suc, mul_comm}
use Rattle.std.proofs.lemmas.Bool.{and_parts, leb-true, ltb-false, ne_eqb, cond-false}
use Rattle.std.proofs.lemmas.Nat.{mul-le, and_le_r, div_below}
use Rattle.pixel_translate.specs.declared.Component.{Component}
use Rattle.source_pixels.specs.declared.formats.BytesPerPixel.{BytesPerPixel}
use Rattle.source_pixels.specs.declared.formats.BytesPerPixel.TheVariants.{One, Two, Three, Four}
use Rattle.source_pixels.specs.declared.formats.SourceFormat.{SourceFormat}
use Rattle.source_pixels.specs.declared.formats.SourceFormat.TheVariants as kind
use Rattle.source_pixels.specs.declared.errors.SourceError.{SourceError}
use Rattle.source_pixels.specs.declared.errors.SourceError.TheVariants.{BadComponent}
use Rattle.source_pixels.specs.Formats.{byte_count, pixel_size, colour_of, value_in, scaled, are_fitting, number_of}
use Rattle.source_pixels.specs.Source.{Source, colour_at, pixel_at, format_refusal, layout_refusal, bytes_needed, first_refusal, source_refusal}

pub record IsLaid (s : Source) : Type 0 where
  pub format : format_refusal s.format ≡ None
  pub row : s.width * pixel_size s.format ≤ s.stride
  pub enough : bytes_needed (s.width * pixel_size s.format) s.stride s.height ≤ length s.bytes

first_none : (a b : Option SourceError) → first_refusal a b ≡ None → (a ≡ None) × (b ≡ None)
first_none None b e = (refl, e)
first_none (Some x) b e = absurd cc

unrefused : (b : Bool) (e : SourceError) (o : Option SourceError) → cond b (Some e) o ≡ None → (b ≡ false) × (o ≡ None)
unrefused true e o h = absurd cc
unrefused false e o h = (refl, h)

pub laid : (s : Source) → source_refusal s ≡ None → IsLaid s
laid s accepted =
    let parts = first_none (format_refusal s.format) (layout_refusal (s.width * pixel_size s.format) s) accepted in
    let first = unrefused _ _ _ parts.1 in
    let second = unrefused _ _ _ first.1 in
    record { format = parts.0; row = ltb-false _ _ first.0; enough = ltb-false _ _ second.0 }

some_bytes : (f : SourceFormat) → 1 ≤ pixel_size f
some_bytes (kind.TrueColour f) = by f.bytes
  where
    by : (b : BytesPerPixel) → 1 ≤ byte_count b
    by One = omega arith
    by Two = omega arith
    by Three = omega arith
    by Four = omega arith
some_bytes (kind.Table table) = omega arith

-- there are as many bytes as places, at least
pub places_fit : (s : Source) → source_refusal s ≡ None → s.width * s.height ≤ length s.bytes
places_fit s accepted = by s.height (laid s accepted).enough
  where
    by : (h : ℕ) → bytes_needed (s.width * pixel_size s.format) s.stride h ≤ length s.bytes → s.width * h ≤ length s.bytes
    by zero enough = omega arith
    by (suc h) enough =
        let row = (laid s accepted).row in
        let wide : s.width * 1 ≤ s.width * pixel_size s.format = mul-le s.width 1 s.width (pixel_size s.format) (omega arith) (some_bytes s.format) in
        let tall : s.width * h ≤ s.stride * h = mul-le s.width h s.stride h (omega arith) (omega arith) in
        let more : s.width * suc h ≡ s.width * h + s.width = mul-suc s.width h in
        let enough' : (suc h - 1) * s.stride + s.width * pixel_size s.format ≤ length s.bytes =
        subst (λ n. n ≤ length s.bytes) (cond-false (eqb (suc h) 0) 0 ((suc h - 1) * s.stride + s.width * pixel_size s.format) (ne_eqb (suc h) 0 (λ e. absurd (omega arith)))) enough in
        let above : (suc h - 1) * s.stride ≡ s.stride * h = ap (λ n. n * s.stride) (let e : suc h - 1 ≡ h = omega arith in e) ∙ mul_comm h s.stride in
        omega arith

-- a component's value is one byte
scaled_small : (c : Component) (number : ℕ) → 1 ≤ c.max → scaled c (value_in c number) < 256
scaled_small c number some =
    let most = and_le_r (number / 2 ^ c.shift) c.max in
    div_below (value_in c number * 255 + c.max / 2) c.max 256 (omega arith) (omega arith)

-- the colours of pixels that are accepted have an empty top byte
pub colour_small : (s : Source) → source_refusal s ≡ None → (x y : ℕ) → colour_at s x y < 2 ^ 24
colour_small s accepted x y = by s.format (laid s accepted).format (pixel_at s x y)
  where
    by : (f : SourceFormat) → format_refusal f ≡ None → (bytes : List ℕ) → colour_of f bytes < 2 ^ 24
    by (kind.TrueColour f) fine bytes =
        let parts = and_parts _ _ (fitting (are_fitting f) fine) in
        let first = and_parts _ _ parts.0 in
        let red = scaled_small f.red (number_of f.big_endian bytes) (leb-true _ _ (and_parts _ _ first.0).0) in
        let green = scaled_small f.green (number_of f.big_endian bytes) (leb-true _ _ (and_parts _ _ first.1).0) in
        let blue = scaled_small f.blue (number_of f.big_endian bytes) (leb-true _ _ (and_parts _ _ parts.1).0) in
        omega arith
      where
        fitting : (b : Bool) → cond b None (Some BadComponent) ≡ None → b ≡ true
        fitting true h = refl
        fitting false h = absurd cc
    by (kind.Table table) fine bytes = mod-lt (slice_index table.now (slice_index bytes 0)) (omega arith)
