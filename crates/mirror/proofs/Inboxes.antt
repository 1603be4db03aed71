-- What is left of bytes that came.
use Rattle.std.proofs.Common.{◌≡◌, ℕ, ◌+◌, ◌-◌, ◌≤◌, List, length, take, drop, refl, arith}
use Rattle.std.proofs.lemmas.List.{drop-take, drop-drop, length-take}

-- behind the first `count` of the bytes from a place on below another are those from the place behind them on
pub forgotten : (start end count : ℕ) (room : List ℕ) → count ≤ length (take (end - start) (drop start room))
    → take (end - (start + count)) (drop (start + count) room) ≡ drop count (take (end - start) (drop start room))
forgotten start end count room few =
    let within : count ≤ end - start = omega (arith, length-take (end - start) (drop start room)) in
    let split : end - start ≡ count + (end - (start + count)) = omega arith in
    rw split (rw (drop-take count (end - (start + count)) (drop start room), drop-drop count start room) refl)
