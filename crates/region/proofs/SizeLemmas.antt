-- Which of two lists of bands is the shorter one.
use Rattle.std.proofs.Common.{◌≡◌, ◌≢◌, ℕ, ◌+◌, ◌<◌, Bool, true, false, List, [], ◌∷◌, length, refl, sym, ◌∙◌, ap, arith, Option}
use Rattle.std.specs.Prelude.{IsTrue, ◌↔◌, not, slice_get}
use Rattle.std.specs.Option.{option_map, is_some}
use Rattle.region_bands.specs.declared.Rows.{Rows}
use Rattle.region_bands.specs.Bands.{Band, Reading, rows_of, reading}

pub some_left : (bs : List Band) (found : Option Rows) (t : Bool) → found ≡ option_map rows_of (slice_get bs 0) → t ≡ is_some found → t ≡ true → (first : Band) × (rest : List Band) × (bs ≡ first ∷ rest)
some_left [] found t e f g = absurd (let clash : true ≡ false = sym g ∙ f ∙ ap is_some e in cc)
some_left (b ∷ rest) found t e f g = (b, rest, refl)

pub is_left : (bs : List Band) (found : Option Rows) (t : Bool) → found ≡ option_map rows_of (slice_get bs 0) → t ≡ is_some found → t ≡ true → bs ≢ []
is_left bs found t e f g none = let there = some_left bs found t e f g in absurd (let clash : [] ≡ there.0 ∷ there.1 = sym none ∙ there.2 in cc)

pub none_left : (bs : List Band) (found : Option Rows) (t : Bool) → found ≡ option_map rows_of (slice_get bs 0) → t ≡ is_some found → t ≡ false → bs ≡ []
none_left [] found t e f g = refl
none_left (b ∷ rest) found t e f g = absurd (let clash : true ≡ false = sym (ap is_some e) ∙ sym f ∙ g in cc)

-- so many bands are read of the one list as of the other
abbrev pub ReadAlike : Reading → Reading → Reading → Reading → Type 0
ReadAlike old_a old_b a b = length a.bands + length old_b.bands ≡ length b.bands + length old_a.bands

pub alike_more : (old_a old_b a b next_a next_b : Reading) → ReadAlike old_a old_b a b → (first : Band) (rest : List Band) → a.bands ≡ first ∷ rest → (second : Band) (others : List Band) → b.bands ≡ second ∷ others → next_a ≡ reading rest → next_b ≡ reading others
    → ReadAlike old_a old_b next_a next_b × (length next_a.bands < length a.bands)
alike_more old_a old_b a b next_a next_b alike first rest is second others is' e f =
    let one : length next_a.bands ≡ length rest = ap (λ (u : Reading). length u.bands) e in
    let other : length next_b.bands ≡ length others = ap (λ (u : Reading). length u.bands) f in
    (omega (arith, alike, one, other, ap length is, ap length is'), omega (arith, one, ap length is))

pub not_fewer : (old_a old_b a b : Reading) → ReadAlike old_a old_b a b → b.bands ≡ [] → IsTrue false ↔ (length old_a.bands < length old_b.bands)
not_fewer old_a old_b a b alike none = ((λ i. absurd (cc)), (λ less. absurd (no (length a.bands) (length old_a.bands) (length old_b.bands) (omega (arith, alike, ap length none)) less)))
  where
    no : (n p q : ℕ) → n + q ≡ p → p < q → ⊥
    no n p q e less = omega (arith, e, less)

pub whether_fewer : (old_a old_b a b : Reading) (found : Option Rows) (t : Bool) → ReadAlike old_a old_b a b → a.bands ≡ [] → found ≡ option_map rows_of (slice_get b.bands 0) → t ≡ is_some found → IsTrue t ↔ (length old_a.bands < length old_b.bands)
whether_fewer old_a old_b a b found t alike none e f = go b.bands refl t (f ∙ ap is_some e)
  where
    go : (bs : List Band) → b.bands ≡ bs → (t : Bool) → t ≡ is_some (option_map rows_of (slice_get b.bands 0)) → IsTrue t ↔ (length old_a.bands < length old_b.bands)
    go [] is t g = let same : t ≡ false = g ∙ ap (λ l. is_some (option_map rows_of (slice_get l 0))) is in
        ((λ i. absurd (let yes : true ≡ false = truth t i same in cc)), (λ less. absurd (no (length old_a.bands) (length old_b.bands) (omega (arith, alike, ap length none, ap length is)) less)))
      where
        truth : (t : Bool) → IsTrue t → t ≡ false → true ≡ false
        truth true i e = e
        truth false i e = absurd (cc)

        no : (p q : ℕ) → q ≡ p → p < q → ⊥
        no p q e less = omega (arith, e, less)
    go (c ∷ rest) is t g = let same : t ≡ true = g ∙ ap (λ l. is_some (option_map rows_of (slice_get l 0))) is in
        ((λ i. omega (arith, alike, ap length none, ap length is)), (λ less. truth t same))
      where
        truth : (t : Bool) → t ≡ true → IsTrue t
        truth true e = refl
        truth false e = absurd (cc)

-- what `is_none` says of a reading
pub not_none : (found : Option Rows) (t : Bool) → is_some found ≡ not t → t ≡ false → true ≡ is_some found
not_none found t e f = sym (e ∙ ap not f)

pub is_none : (found : Option Rows) (t : Bool) → is_some found ≡ not t → t ≡ true → false ≡ is_some found
is_none found t e f = sym (e ∙ ap not f)
