-- Colours that are their own pixels.
use Rattle.std.proofs.Common.{◌≡◌, ℕ, suc, ◌^◌, ◌<◌, ◌≤◌, List, [], ◌∷◌, length, map, get_or, refl, sym, ap, ◌∙◌, arith}
use Rattle.std.proofs.Math.Nat.{mod-eq_of_lt}
use Rattle.pixel_translate.specs.declared.PixelFormat.{PixelFormat}
use Rattle.pixel_translate.specs.Pixel.{pixel, HasServerComponents, AreThemselves}

itself : AreThemselves → (f : PixelFormat) → HasServerComponents f
    → (colour : ℕ) → colour < 2 ^ 24 → pixel f colour ≡ colour
itself law f e colour lt = law f colour e ∙ mod-eq_of_lt lt

each_same : (f : ℕ → ℕ) (xs : List ℕ) → ((k : ℕ) → k < length xs → f (get_or xs k 0) ≡ get_or xs k 0) → xs ≡ map f xs
each_same f [] same = refl
each_same f (x ∷ xs) same = ap (λ (y : ℕ). y ∷ xs) (sym (same 0 (omega arith))) ∙ ap (λ (ys : List ℕ). f x ∷ ys) (each_same f xs (λ k lt. same (suc k) (omega (arith, lt))))

pub themselves : AreThemselves → (f : PixelFormat) (colours : List ℕ) (top : ℕ)
    → HasServerComponents f
    → top < 2 ^ 24 → ((k : ℕ) → k < length colours → get_or colours k 0 ≤ top) → colours ≡ map (pixel f) colours
themselves law f colours top e lt below = each_same (pixel f) colours (λ k inside. itself law f e (get_or colours k 0) (omega (arith, lt, below k inside)))
