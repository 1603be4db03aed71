-- Pixels written a piece at a time.
use Rattle.std.proofs.Common.{◌≡◌, ℕ, ◌+◌, ◌-◌, ◌≤◌, List, ◌++◌, take, drop, sym, ap, ◌∙◌, arith, append_assoc}
use Rattle.std.specs.List.{flat_map}
use Rattle.std.proofs.Math.Seq.{take-add}
use Rattle.std.proofs.lemmas.Grind.{flat_map-append}

-- one piece more
pub piece_more : (f : ℕ → List ℕ) (old now new colours : List ℕ) (from end : ℕ) → from ≤ end → now ≡ old ++ flat_map f (take from colours)
    → new ≡ now ++ flat_map f (take (end - from) (drop from colours)) → new ≡ old ++ flat_map f (take end colours)
piece_more f old now new colours from end le before here =
    let done : List ℕ = take from colours in
    let piece : List ℕ = take (end - from) (drop from colours) in
    let at : from + (end - from) ≡ end = omega arith in
    let all : done ++ piece ≡ take end colours = sym (take-add from (end - from) colours) ∙ ap (λ (n : ℕ). take n colours) at in
    here ∙ ap (λ (t : List ℕ). t ++ flat_map f piece) before ∙ append_assoc old (flat_map f done) (flat_map f piece)
    ∙ ap (λ (t : List ℕ). old ++ t) (sym (flat_map-append f done piece) ∙ ap (flat_map f) all)
