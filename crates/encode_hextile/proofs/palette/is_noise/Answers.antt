use Rattle.std.proofs.Common.{◌≡◌, ◌≤◌, ◌+◌, ◌*◌, ◌%◌, ℕ, List, length, arith, ap}
use Rattle.std.proofs.lemmas.Bool.{leb-true}
use Rattle.pixel_translate.specs.Pixel.{bytes_per_pixel}
use Rattle.subrectangles.specs.Subrectangles.{rows_of, times, subrectangles}
use Rattle.encode_hextile.proofs.Lists.{noise_long}
use Rattle.encode_hextile.proofs.palette.is_noise.Goals as goal

pub returns : goal.returns
returns c = λ e b.
    let f = c.args.format.now in
    let ps : List ℕ = c.args.pixels.now.values.now in
    let long = leb-true _ _ e in
    let bound : times b ps ≤ c.fullest.result = omega (arith, c.requires.counted b, c.fullest.ensures (b % 251) (omega arith)) in
    let raw : length ps * c.bytes_per_pixel-pixel_len.result ≡ length ps * bytes_per_pixel f = ap (λ (p : ℕ). length ps * p) c.bytes_per_pixel-pixel_len.ensures in
    noise_long f (subrectangles b (rows_of c.args.pixels.now.width c.args.pixels.now.height ps)) (length ps * bytes_per_pixel f) c.starts_of-starts.result c.from.result (times b ps) c.saturating_sub-others.result
    (c.bytes_per_pixel-pixel_len.result + 2) (omega (arith, c.bytes_per_pixel-pixel_len.ensures)) (omega (arith, c.saturating_sub-others.ensures)) (c.starts_of-starts.ensures.begin b)
    (omega (arith, bound, c.from.ensures)) (omega (arith, long, raw))
