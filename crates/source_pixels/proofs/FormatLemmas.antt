-- Components that fit.
use Rattle.std.proofs.Common.{◌≡◌, ℕ, ◌-◌, ◌*◌, ◌^◌, ◌≤◌, true, arith}
use Rattle.std.proofs.lemmas.Bool.{and_parts, and_from, ltb-true, lt-ltb}
use Rattle.std.proofs.Math.Nat.{pow-le-pow_right}
use Rattle.pixel_translate.specs.declared.Component.{Component}
use Rattle.source_pixels.specs.declared.formats.BytesPerPixel.{BytesPerPixel}
use Rattle.source_pixels.specs.declared.formats.BytesPerPixel.TheVariants.{One, Two, Three, Four}
use Rattle.source_pixels.specs.declared.formats.TrueColour.{TrueColour}
use Rattle.source_pixels.specs.Formats.{byte_count, fits, are_fitting}

at_most_four : (b : BytesPerPixel) → byte_count b ≤ 4
at_most_four One = omega arith
at_most_four Two = omega arith
at_most_four Three = omega arith
at_most_four Four = omega arith

-- what fits in few bits fits in more
fits_wider : (bits : ℕ) (c : Component) → bits ≤ 32 → fits bits c ≡ true → fits 32 c ≡ true
fits_wider bits c narrow fitting =
    let parts = and_parts _ _ fitting in
    let small = ltb-true _ _ parts.1 in
    let more : 2 ^ (bits - c.shift) ≤ 2 ^ (32 - c.shift) = pow-le-pow_right {n = 2} (omega arith) {i = bits - c.shift} {j = 32 - c.shift} (omega arith) in
    and_from _ _ parts.0 (lt-ltb c.max (2 ^ (32 - c.shift)) (omega arith))

pub record AllFit (f : TrueColour) : Type 0 where
  pub red : fits 32 f.red ≡ true
  pub green : fits 32 f.green ≡ true
  pub blue : fits 32 f.blue ≡ true

pub all_fit : (f : TrueColour) → are_fitting f ≡ true → AllFit f
all_fit f fitting =
    let narrow : 8 * byte_count f.bytes ≤ 32 = omega (arith, at_most_four f.bytes) in
    let parts = and_parts _ _ fitting in
    let first = and_parts _ _ parts.0 in
    record {
      red = fits_wider (8 * byte_count f.bytes) f.red narrow first.0;
      green = fits_wider (8 * byte_count f.bytes) f.green narrow first.1;
      blue = fits_wider (8 * byte_count f.bytes) f.blue narrow parts.1;
    }
