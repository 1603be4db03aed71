-- In the server's format a colour's pixel is the colour.
use Rattle.std.proofs.Common.{◌≡◌, ℕ, ◌+◌, ◌*◌, ◌/◌, ◌%◌, ◌^◌, ◌<◌, bit_or, ap, ◌∙◌, arith}
use Rattle.std.proofs.Math.Nat.{mod-eq_of_lt}
use Rattle.std.proofs.lemmas.Nat.{or_shifted}
use Rattle.pixel_translate.specs.declared.BitsPerPixel.TheVariants.{ThirtyTwo}
use Rattle.pixel_translate.specs.declared.PixelFormat.{PixelFormat}
use Rattle.pixel_translate.specs.Pixel.{component, pixel, server_format, red_of, green_of, blue_of, green_in, blue_in, IsItself, AreThemselves}

-- a component with 256 values is as it was, in its place
in_place : (value shift : ℕ) → value < 256 → value * 2 ^ shift < 2 ^ 32 → component ThirtyTwo (record { max = 255; shift = shift }) value ≡ value * 2 ^ shift
in_place value shift small fits =
    let scaled : (value * 255 + 127) / 255 ≡ value = omega arith in
    ap (λ n. n * 2 ^ shift % 2 ^ 32) scaled ∙ mod-eq_of_lt fits

pub server_pixel : IsItself
server_pixel colour =
    let r : ℕ = red_of colour in
    let g : ℕ = green_of colour in
    let b : ℕ = blue_of colour in
    let r-small : r < 256 = omega arith in
    let g-small : g < 256 = omega arith in
    let b-small : b < 256 = omega arith in
    ap (λ n. bit_or (bit_or n (component ThirtyTwo (green_in server_format.pixels) g)) (component ThirtyTwo (blue_in server_format.pixels) b)) (in_place r 16 r-small (omega arith))
    ∙ ap (λ n. bit_or (bit_or (r * 2 ^ 16) n) (component ThirtyTwo (blue_in server_format.pixels) b)) (in_place g 8 g-small (omega arith))
    ∙ ap (λ n. bit_or (bit_or (r * 2 ^ 16) (g * 2 ^ 8)) n) (in_place b 0 b-small (omega arith) ∙ omega arith)
    ∙ ap (λ n. bit_or n b) (or_shifted r 16 (g * 2 ^ 8) (omega arith) ∙ (let e : r * 2 ^ 16 + g * 2 ^ 8 ≡ (r * 2 ^ 8 + g) * 2 ^ 8 = omega arith in e))
    ∙ or_shifted (r * 2 ^ 8 + g) 8 b b-small
    ∙ omega arith

pub same_components : AreThemselves
same_components f colour same = ap (λ (g : PixelFormat). pixel g colour) same ∙ server_pixel colour
