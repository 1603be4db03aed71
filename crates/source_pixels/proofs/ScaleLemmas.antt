-- To divide by a factor.
use Rattle.std.proofs.Common.{◌≡◌, ℕ, ◌+◌, ◌-◌, ◌*◌, ◌/◌, ◌%◌, ◌^◌, ◌<◌, ◌≤◌, true, bit_and, sym, ◌∙◌, ap, subst, ⊎_elim, arith}
use Rattle.std.proofs.Math.Nat.{mod-lt}
use Rattle.std.proofs.lemmas.Bool.{cases_lt, and_parts, leb-true}
use Rattle.std.proofs.lemmas.Nat.{mul-le, div-mul-add, div_below, div-add-mod', and_le_r}
use Rattle.pixel_translate.specs.declared.Component.{Component}
use Rattle.source_pixels.specs.Formats.{fits, scaled, value_in}

-- what is left over is small: K is 2 ^ 48, a its quotient by d and b + c the rest and what d has above it
rest_small : (K a b c q r t : ℕ) → K ≡ a * (b + c) + b → b + c ≡ r + 1 + t → q ≤ 255 → b + c < 65536 → 2 ^ 32 ≤ K → 65536 * 16777216 ≤ K → q * c + r * (a + 1) < K
rest_small K a b c q r t whole parts small narrow large larger =
    let few : q * c ≤ 255 * c = mul-le q c 255 c small (omega arith) in
    let enough : 16777216 ≤ a + 1 = ⊎_elim
    (λ under. absurd (let m : a * (b + c) ≤ 16777214 * 65535 = mul-le a (b + c) 16777214 65535 (omega arith) (omega arith) in omega arith)) (λ h. h) (cases_lt (a + 1) 16777216) in
    let product : (b + c) * (a + 1) ≡ r * (a + 1) + (a + 1) + t * (a + 1) = ap (λ n. n * (a + 1)) parts ∙ omega arith in
    let product' : (b + c) * (a + 1) ≡ a * (b + c) + (b + c) = omega arith in
    omega arith

by_parts : (K a b c q r : ℕ) → K ≡ a * (b + c) + b → (q * (b + c) + r) * (a + 1) ≡ q * K + (q * c + r * (a + 1))
by_parts K a b c q r whole = let e : q * K ≡ q * (a * (b + c) + b) = ap (λ n. q * n) whole in rw e (omega arith)

-- to multiply by the factor and shift is to divide
pub by_factor : (d n : ℕ) → 0 < d → d < 65536 → n < 256 * d → n * (2 ^ 48 / d + 1) / 2 ^ 48 ≡ n / d
by_factor d n some narrow small =
    ap (λ m. m / 2 ^ 48) (ap (λ m. m * (a + 1)) whole ∙ by_parts (2 ^ 48) a b c q r parts)
    ∙ div-mul-add q (2 ^ 48) (q * c + r * (a + 1)) (rest_small (2 ^ 48) a b c q r (d - r - 1) parts (omega (arith, d_is, r_small)) (omega (arith, q_small)) (omega (arith, d_is)) (omega arith) (omega arith))
  where
    a : ℕ
    a = 2 ^ 48 / d

    b : ℕ
    b = 2 ^ 48 % d

    c : ℕ
    c = d - b

    q : ℕ
    q = n / d

    r : ℕ
    r = n % d

    b_small : b < d
    b_small = mod-lt (2 ^ 48) some

    r_small : r < d
    r_small = mod-lt n some

    d_is : d ≡ b + c
    d_is = omega (arith, b_small)

    parts : 2 ^ 48 ≡ a * (b + c) + b
    parts = sym (div-add-mod' (2 ^ 48) d) ∙ ap (λ m. a * m + b) d_is

    whole : n ≡ q * (b + c) + r
    whole = sym (div-add-mod' n d) ∙ ap (λ m. q * m + r) d_is

    q_small : q < 256
    q_small = div_below n d 256 some small

-- the greatest number that is divided, times the factor, fits
pub product_fits : (d n : ℕ) → 0 < d → d < 65536 → n < 256 * d → n * (2 ^ 48 / d + 1) < 2 ^ 64
product_fits d n some narrow small =
    let whole = div-add-mod' (2 ^ 48) d in
    let most : n * (2 ^ 48 / d + 1) ≤ (256 * d) * (2 ^ 48 / d + 1) = mul-le n (2 ^ 48 / d + 1) (256 * d) (2 ^ 48 / d + 1) (omega arith) (omega arith) in
    let parts : (256 * d) * (2 ^ 48 / d + 1) ≡ 256 * (2 ^ 48 / d * d) + 256 * d = omega arith in
    omega arith

-- a value of a component, to the nearest, is below 256 times the component's greatest
pub nearest_below : (max value : ℕ) → 1 ≤ max → value ≤ max → value * 255 + max / 2 < 256 * max
nearest_below max value some small = omega arith

-- what is multiplied: a value of a component, scaled but not divided yet
pub record IsScaled (at : Component) (number value max factor : ℕ) : Type 0 where
  pub fits : (value * 255 + max / 2) * factor < 2 ^ 64
  pub is : (value * 255 + max / 2) * factor / 2 ^ 48 ≡ scaled at (value_in at number)
  pub small : (value * 255 + max / 2) * factor / 2 ^ 48 < 256

pub value_scaled : (at : Component) (number value mask max factor : ℕ) → fits 32 at ≡ true → at.max < 65536 → max ≡ at.max → mask ≡ at.max → value ≡ bit_and (number / 2 ^ at.shift) mask → factor ≡ 2 ^ 48 / at.max + 1
    → IsScaled at number value max factor
value_scaled at number value mask max factor fitting narrow max_is mask_is value_is factor_is = record {
  fits = subst (λ n. n * factor < 2 ^ 64) (sym top) (subst (λ n. top_is * n < 2 ^ 64) (sym factor_is) (product_fits at.max top_is some narrow below));
  is = quotient;
  small = subst (λ n. n < 256) (sym quotient) (div_below top_is at.max 256 some below);
}
  where
    some : 1 ≤ at.max
    some = leb-true _ _ (and_parts _ _ fitting).0

    same : value ≡ value_in at number
    same = value_is ∙ ap (bit_and (number / 2 ^ at.shift)) mask_is

    top_is : ℕ
    top_is = value_in at number * 255 + at.max / 2

    top : value * 255 + max / 2 ≡ value_in at number * 255 + at.max / 2
    top = ap (λ n. n * 255 + max / 2) same ∙ ap (λ n. value_in at number * 255 + n / 2) max_is

    below : top_is < 256 * at.max
    below = nearest_below at.max (value_in at number) some (and_le_r (number / 2 ^ at.shift) at.max)

    quotient : (value * 255 + max / 2) * factor / 2 ^ 48 ≡ scaled at (value_in at number)
    quotient = ap (λ n. n * factor / 2 ^ 48) top ∙ ap (λ n. top_is * n / 2 ^ 48) factor_is ∙ by_factor at.max top_is some narrow below
