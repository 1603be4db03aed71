-- A row written place by place, and piece by piece.
use Rattle.std.proofs.Common.{◌≡◌, ℕ, ◌+◌, ◌-◌, ◌<◌, ◌≤◌, ◌&&◌, Bool, true, false, not, eqb, inl, inr, List, [], ◌∷◌, ◌++◌, length, map, take, drop, set, get_or, sym, ap, ◌∙◌, refl, arith, append_assoc}
use Rattle.std.proofs.lemmas.Bool.Decides.{eqb_tells}
use Rattle.std.proofs.Math.Seq.{take-add}
use Rattle.std.proofs.lemmas.List.{take_more_set, map_more, map-append}
use Rattle.subrectangles.specs.Scans.{unequal}
use mir.Val.{bool_byte}

-- one place more
pub put_more : (f : ℕ → ℕ) (row now : List ℕ) (x v : ℕ) → x < length row → x < length now → take x now ≡ map f (take x row) → v ≡ f (get_or row x 0)
    → take (x + 1) (set now x v) ≡ map f (take (x + 1) row)
put_more f row now x v inside room before here =
    take_more_set now x v room ∙ ap (λ (t : List ℕ). t ++ v ∷ []) before ∙ ap (λ (n : ℕ). map f (take x row) ++ n ∷ []) here ∙ sym (map_more f row x 0 inside)

pub byte_small : (t : Bool) → bool_byte t ≤ 1
byte_small true = omega arith
byte_small false = omega arith

-- what is no third and not the first of two is the second
pub other_of : (r one other : ℕ) → bool_byte (not (eqb r one) && not (eqb r other)) ≡ 0 → (r ≡ one → ⊥) → r ≡ other
other_of r one other none ne =
    elim (eqb_tells r other) [
      | inl q ↦ q.1
      | inr q ↦ let third : bool_byte (not (eqb r one) && not (eqb r other)) ≡ 1 = rw (unequal r one ne, q.0) refl in absurd (omega (arith, third, none))
    ]

-- one piece more
pub piece_more : (f : ℕ → ℕ) (old now new row : List ℕ) (from end : ℕ) → from ≤ end → now ≡ old ++ map f (take from row)
    → new ≡ now ++ map f (take (end - from) (drop from row)) → new ≡ old ++ map f (take end row)
piece_more f old now new row from end le before here =
    let done : List ℕ = take from row in
    let piece : List ℕ = take (end - from) (drop from row) in
    let at : from + (end - from) ≡ end = omega arith in
    let all : done ++ piece ≡ take end row = sym (take-add from (end - from) row) ∙ ap (λ (n : ℕ). take n row) at in
    here ∙ ap (λ (t : List ℕ). t ++ map f piece) before ∙ append_assoc old (map f done) (map f piece)
    ∙ ap (λ (t : List ℕ). old ++ t) (sym (map-append f done piece) ∙ ap (map f) all)
