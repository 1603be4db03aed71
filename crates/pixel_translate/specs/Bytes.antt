-- Pixels that a function gives for values, as bytes.
use Rattle.std.specs.Prelude.{◌≡◌, ℕ, ◌^◌, ◌<◌, List}
use Rattle.pixel_translate.specs.declared.PixelFormat.{PixelFormat}
use Rattle.pixel_translate.specs.Pixel.{pixel_bytes}

-- whatever a call answers at a value of 32 bits is that value's number
abbrev pub Gives : (ℕ → ℕ → Type 0) → (ℕ → ℕ) → Type 0
Gives answers number = (value result : ℕ) → value < 2 ^ 32 → answers value result → result ≡ number value

-- 7.4: the bytes of a value's number
abbrev pub bytes_by : PixelFormat → (ℕ → ℕ) → ℕ → List ℕ
bytes_by f number value = pixel_bytes f (number value)
