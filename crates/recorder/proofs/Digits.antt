-- Arrays that are filled from the start.
use Rattle.std.proofs.Common.{◌≡◌, ◌+◌, ◌*◌, ◌<◌, ℕ, suc, arith, List, [], ◌∷◌, ◌++◌, length, get_or, take, slice_set, refl, sym, ap, ◌∙◌, append_assoc, append-nil}
use Rattle.std.specs.Prelude.{flat_map}
use Rattle.std.proofs.Math.Seq.{take-suc}
use Rattle.std.proofs.lemmas.List.{length-set}
use Rattle.std.proofs.lemmas.List.Concat.{flat_map-append}
use Rattle.std.proofs.lemmas.Grind.{take-set_at}
use Rattle.recorder.specs.Words.{hex, hex_byte, colour_bytes}

-- one more element behind the first so many
take-next : (l before : List ℕ) (n m x : ℕ) → m ≡ n + 1 → n < length l → take n l ≡ before → take m (slice_set l n x) ≡ before ++ x ∷ []
take-next l before n m x is fits h = take-set_at l n m x is fits ∙ ap (λ (k : List ℕ). k ++ x ∷ []) h

-- what stands for the first so many, and for one more
flat_map-next : (f : ℕ → List ℕ) (xs : List ℕ) (k : ℕ) → k < length xs → flat_map f (take (k + 1) xs) ≡ flat_map f (take k xs) ++ f (get_or xs k 0)
flat_map-next f xs k below =
    ap (λ (n : ℕ). flat_map f (take n xs)) (let e : k + 1 ≡ suc k = omega arith in e) ∙ ap (flat_map f) (take-suc xs k 0 below) ∙ flat_map-append f (take k xs) (get_or xs k 0 ∷ [])
    ∙ ap (λ (l : List ℕ). flat_map f (take k xs) ++ l) (append-nil (f (get_or xs k 0)))

-- the digits of one byte more
pub two-more : (digits bytes : List ℕ) (at x y : ℕ) → at < length bytes → 2 * at + 1 < length digits → x ∷ y ∷ [] ≡ hex_byte (get_or bytes at 0) → take (2 * at) digits ≡ hex (take at bytes)
    → take (2 * (at + 1)) (slice_set (slice_set digits (2 * at) x) (2 * at + 1) y) ≡ hex (take (at + 1) bytes)
two-more digits bytes at x y below fits is h =
    let long : length (slice_set digits (2 * at) x) ≡ length digits = length-set digits (2 * at) x in
    let first = take-next digits (hex (take at bytes)) (2 * at) (2 * at + 1) x refl (omega arith) h in
    let second = take-next (slice_set digits (2 * at) x) (hex (take at bytes) ++ x ∷ []) (2 * at + 1) (2 * (at + 1)) y (omega arith) (omega (arith, long)) first in
    second ∙ append_assoc (hex (take at bytes)) (x ∷ []) (y ∷ []) ∙ ap (λ (l : List ℕ). hex (take at bytes) ++ l) is ∙ sym (flat_map-next hex_byte bytes at below)

-- the bytes of one colour more
pub three-more : (bytes colours : List ℕ) (at x y z : ℕ) → at < length colours → 3 * at + 2 < length bytes → x ∷ y ∷ z ∷ [] ≡ colour_bytes (get_or colours at 0) → take (3 * at) bytes ≡ flat_map colour_bytes (take at colours)
    → take (3 * (at + 1)) (slice_set (slice_set (slice_set bytes (3 * at) x) (3 * at + 1) y) (3 * at + 2) z) ≡ flat_map colour_bytes (take (at + 1) colours)
three-more bytes colours at x y z below fits is h =
    let before = flat_map colour_bytes (take at colours) in
    let one = slice_set bytes (3 * at) x in
    let two = slice_set one (3 * at + 1) y in
    let long-1 : length one ≡ length bytes = length-set bytes (3 * at) x in
    let long-2 : length two ≡ length one = length-set one (3 * at + 1) y in
    let first = take-next bytes before (3 * at) (3 * at + 1) x refl (omega arith) h in
    let second = take-next one (before ++ x ∷ []) (3 * at + 1) (3 * at + 2) y (omega arith) (omega (arith, long-1)) first in
    let third = take-next two ((before ++ x ∷ []) ++ y ∷ []) (3 * at + 2) (3 * (at + 1)) z (omega arith) (omega (arith, long-1, long-2)) second in
    third ∙ append_assoc (before ++ x ∷ []) (y ∷ []) (z ∷ []) ∙ append_assoc before (x ∷ []) (y ∷ z ∷ []) ∙ ap (λ (l : List ℕ). before ++ l) is ∙ sym (flat_map-next colour_bytes colours at below)
