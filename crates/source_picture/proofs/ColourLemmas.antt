-- The colours of pixels in the server's own format.
use Rattle.std.proofs.Common.{◌≡◌, ℕ, zero, suc, ◌+◌, ◌*◌, ◌/◌, ◌%◌, ◌^◌, ◌<◌, List, [], ◌∷◌, take, drop, refl, ap, ◌∙◌, arith}
use Rattle.std.specs.Prelude.{slice_index, replicate}
use Rattle.std.specs.Int.{w32, from_le_bytes, to_le_bytes}
use Rattle.std.specs.List.{flat_map}
use Rattle.std.proofs.lemmas.Grind.{common_steps}
use Rattle.std.proofs.lemmas.Nat.{and_mask, from_le_bytes-to_le_bytes_4}
use Rattle.std.proofs.lemmas.List.{get_or-drop}
use Rattle.source_pixels.specs.declared.formats.SourceFormat.TheVariants as kind
use Rattle.source_pixels.specs.Formats.{little, true_colour, colour_of, server_format}
use Rattle.server_reader.specs.Groups.{pixel_in}
use Rattle.server_reader.specs.Pictures as reader

-- the number in the first four bytes
first_four : (bytes : List ℕ) → little (take 4 bytes) ≡ slice_index bytes 0 + 256 * (slice_index bytes 1 + 256 * (slice_index bytes 2 + 256 * slice_index bytes 3))
first_four [] = refl
first_four (a ∷ []) = omega arith
first_four (a ∷ b ∷ []) = omega arith
first_four (a ∷ b ∷ c ∷ []) = omega arith
first_four (a ∷ b ∷ c ∷ d ∷ rest) = omega arith

-- a component of 0 to 255 is not scaled
whole : (n : ℕ) → (n * 255 + 127) / 255 ≡ n
whole n = omega arith

-- a pixel's number has its colour but for the top byte
direct : (n : ℕ) → true_colour server_format n ≡ n % 2 ^ 24
direct n =
    let red = and_mask (n / 2 ^ 16) 8 in
    let green = and_mask (n / 2 ^ 8) 8 in
    let blue = and_mask (n / 2 ^ 0) 8 in
    grind (arith, common_steps, red, green, blue)

pub pixel_colour : (bytes : List ℕ) (k : ℕ) → colour_of (kind.TrueColour server_format) (take 4 (drop k bytes)) ≡ reader.colour_of (pixel_in bytes k)
pixel_colour bytes k =
    direct (little (take 4 (drop k bytes)))
    ∙ ap (λ n. n % 2 ^ 24) (first_four (drop k bytes) ∙ same)
  where
    at : (i : ℕ) → slice_index (drop k bytes) i ≡ slice_index bytes (k + i)
    at i = get_or-drop k bytes i 0

    first : slice_index (drop k bytes) 0 ≡ slice_index bytes k
    first = at 0 ∙ ap (slice_index bytes) (let e : k + 0 ≡ k = omega arith in e)

    same : slice_index (drop k bytes) 0 + 256 * (slice_index (drop k bytes) 1 + 256 * (slice_index (drop k bytes) 2 + 256 * slice_index (drop k bytes) 3)) ≡ pixel_in bytes k
    same = omega (arith, first, at 1, at 2, at 3)

-- ---- a pixel over and over

further : (l : List ℕ) (a b c d m : ℕ) → slice_index (a ∷ b ∷ c ∷ d ∷ l) (4 + m) ≡ slice_index l m
further l a b c d m = ap (slice_index (a ∷ b ∷ c ∷ d ∷ l)) (let e : 4 + m ≡ suc (suc (suc (suc m))) = omega arith in e)

pixel_further : (l : List ℕ) (a b c d m : ℕ) → pixel_in (a ∷ b ∷ c ∷ d ∷ l) (4 + m) ≡ pixel_in l m
pixel_further l a b c d m =
    let one : slice_index (a ∷ b ∷ c ∷ d ∷ l) (4 + m + 1) ≡ slice_index l (m + 1) = ap (slice_index (a ∷ b ∷ c ∷ d ∷ l)) (let e : 4 + m + 1 ≡ 4 + (m + 1) = omega arith in e) ∙ further l a b c d (m + 1) in
    let two : slice_index (a ∷ b ∷ c ∷ d ∷ l) (4 + m + 2) ≡ slice_index l (m + 2) = ap (slice_index (a ∷ b ∷ c ∷ d ∷ l)) (let e : 4 + m + 2 ≡ 4 + (m + 2) = omega arith in e) ∙ further l a b c d (m + 2) in
    let three : slice_index (a ∷ b ∷ c ∷ d ∷ l) (4 + m + 3) ≡ slice_index l (m + 3) = ap (slice_index (a ∷ b ∷ c ∷ d ∷ l)) (let e : 4 + m + 3 ≡ 4 + (m + 3) = omega arith in e) ∙ further l a b c d (m + 3) in
    omega (arith, further l a b c d m, one, two, three)

four_bytes : (a b c d n k : ℕ) → k < n → pixel_in (flat_map (λ x. x) (replicate n (a ∷ b ∷ c ∷ d ∷ []))) (4 * k) ≡ from_le_bytes w32 (a ∷ b ∷ c ∷ d ∷ [])
four_bytes a b c d zero k less = absurd (omega (arith, less))
four_bytes a b c d (suc n) zero less = refl
four_bytes a b c d (suc n) (suc k) less =
    ap (pixel_in (flat_map (λ x. x) (replicate (suc n) (a ∷ b ∷ c ∷ d ∷ [])))) (let e : 4 * suc k ≡ 4 + 4 * k = omega arith in e)
    ∙ pixel_further (flat_map (λ x. x) (replicate n (a ∷ b ∷ c ∷ d ∷ []))) a b c d (4 * k)
    ∙ four_bytes a b c d n k (omega (arith, less))

pub repeated : (pixel n k : ℕ) → pixel < 2 ^ 32 → k < n → pixel_in (flat_map (λ x. x) (replicate n (to_le_bytes w32 pixel))) (4 * k) ≡ pixel
repeated pixel n k small less = four_bytes _ _ _ _ n k less ∙ from_le_bytes-to_le_bytes_4 pixel small
