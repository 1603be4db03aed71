-- The orders of a canonical list, band by band.
use Rattle.std.proofs.Common.{◌≡◌, ◌≢◌, Bool, true, false, cond, List, [], ◌∷◌, ◌++◌, reverse, refl, sym, ◌∙◌, ap}
use Rattle.std.specs.Prelude.{ℤ, flat_map}
use Rattle.std.specs.Ordering.{int_eq}
use Rattle.std.specs.List.{AllByRecursion}
use Rattle.std.proofs.lemmas.List.{append-nil, append_assoc, reverse-append, reverse-reverse}
use Rattle.std.proofs.lemmas.Bool.Decides.{Decides-int_eq}
use Rattle.region.specs.declared.Rect.{Rect}
use Rattle.region.specs.Region.{beside, by_band, in_order}

-- the rectangles that begin in row y
abbrev pub BeginIn : ℤ → List Rect → Type 0
BeginIn y rs = AllByRecursion (λ r. r.y1 ≡ y) rs

-- the first does not
abbrev pub BeginsElsewhere : ℤ → List Rect → Type 0
BeginsElsewhere y [] = Unit {0}
BeginsElsewhere y (r ∷ rs) = r.y1 ≢ y

false-unless : (a b : ℤ) → a ≢ b → int_eq b a ≡ false
false-unless a b apart = go (int_eq b a) refl
  where
    go : (t : Bool) → int_eq b a ≡ t → t ≡ false
    go true e = absurd (apart (sym ((Decides-int_eq b a).0 e)))
    go false e = refl

-- a list's first band begins with its first rectangle
record StartsWith (q : Rect) (lines : List (List Rect)) : Type 0 where
  rest : List Rect
  others : List (List Rect)
  is : lines ≡ (q ∷ rest) ∷ others

first_band : (q : Rect) (lines : List (List Rect)) → StartsWith q (beside q lines)
first_band q [] = record { rest = []; others = []; is = refl }
first_band q ([] ∷ lines) = record { rest = []; others = lines; is = refl }
first_band q ((p ∷ ps) ∷ lines) = elim (int_eq q.y1 p.y1) as (λ t. StartsWith q (cond t ((q ∷ p ∷ ps) ∷ lines) ((q ∷ []) ∷ (p ∷ ps) ∷ lines))) [
  | true ↦ record { rest = p ∷ ps; others = lines; is = refl }
  | false ↦ record { rest = []; others = (p ∷ ps) ∷ lines; is = refl }
]

-- a rectangle before those of other rows is a band of its own
beside-other : (r : Rect) (rs : List Rect) → BeginsElsewhere r.y1 rs → by_band (r ∷ rs) ≡ (r ∷ []) ∷ by_band rs
beside-other r [] other = refl
beside-other r (q ∷ qs) other =
    let start = first_band q (by_band qs) in
    ap (beside r) start.is ∙ ap (λ t. cond t ((r ∷ q ∷ start.rest) ∷ start.others) ((r ∷ []) ∷ (q ∷ start.rest) ∷ start.others)) (false-unless q.y1 r.y1 other) ∙ ap (λ lines. (r ∷ []) ∷ lines) (sym start.is)

-- rectangles that begin in one row, before those of other rows, are a band
pub by_band-band : (r : Rect) (band rest : List Rect) → BeginIn r.y1 band → BeginsElsewhere r.y1 rest → by_band (r ∷ band ++ rest) ≡ (r ∷ band) ∷ by_band rest
by_band-band r [] rest same other = beside-other r rest other
by_band-band r (b ∷ band) rest same other =
    ap (beside r) (by_band-band b band rest (in_row b.y1 band (sym same.0) same.1) (elsewhere rest other))
    ∙ ap (λ t. cond t ((r ∷ b ∷ band) ∷ by_band rest) ((r ∷ []) ∷ (b ∷ band) ∷ by_band rest)) ((Decides-int_eq r.y1 b.y1).1 (sym same.0))
  where
    in_row : (y : ℤ) (band : List Rect) → r.y1 ≡ y → BeginIn r.y1 band → BeginIn y band
    in_row y [] e h = tt
    in_row y (c ∷ band) e h = (h.0 ∙ e, in_row y band e h.1)

    elsewhere : (rest : List Rect) → BeginsElsewhere r.y1 rest → BeginsElsewhere b.y1 rest
    elsewhere [] h = tt
    elsewhere (q ∷ rest) h = λ e. h (e ∙ same.0)

-- the bands together are the list
join : (r : Rect) (lines : List (List Rect)) → flat_map (λ g. g) (beside r lines) ≡ r ∷ flat_map (λ g. g) lines
join r [] = refl
join r ([] ∷ lines) = refl
join r ((q ∷ qs) ∷ lines) = elim (int_eq r.y1 q.y1) as (λ t. flat_map (λ g. g) (cond t ((r ∷ q ∷ qs) ∷ lines) ((r ∷ []) ∷ (q ∷ qs) ∷ lines)) ≡ r ∷ (q ∷ qs) ++ flat_map (λ g. g) lines) [
  | true ↦ refl
  | false ↦ refl
]

pub by_band-joined : (rs : List Rect) → flat_map (λ g. g) (by_band rs) ≡ rs
by_band-joined [] = refl
by_band-joined (r ∷ rs) = join r (by_band rs) ∙ ap (λ l. r ∷ l) (by_band-joined rs)

pub flat_map-append : {X Y : Type 0} (f : X → List Y) (xs ys : List X) → flat_map f (xs ++ ys) ≡ flat_map f xs ++ flat_map f ys
flat_map-append f [] ys = refl
flat_map-append f (x ∷ xs) ys = ap (λ l. f x ++ l) (flat_map-append f xs ys) ∙ sym (append_assoc (f x) (flat_map f xs) (flat_map f ys))

-- the reverse of lists joined
reverse-flat_map : {X Y : Type 0} (f : X → List Y) (xs : List X) → reverse (flat_map f xs) ≡ flat_map (λ x. reverse (f x)) (reverse xs)
reverse-flat_map f [] = refl
reverse-flat_map f (x ∷ xs) =
    reverse-append (f x) (flat_map f xs)
    ∙ ap (λ l. l ++ reverse (f x)) (reverse-flat_map f xs)
    ∙ ap (λ l. flat_map (λ x. reverse (f x)) (reverse xs) ++ l) (sym (append-nil (reverse (f x))))
    ∙ sym (flat_map-append (λ x. reverse (f x)) (reverse xs) (x ∷ []))
    ∙ ap (flat_map (λ x. reverse (f x))) (sym (reverse-append (x ∷ []) xs))

flat_map-same : {X Y : Type 0} (f g : X → List Y) (xs : List X) → ((x : X) → f x ≡ g x) → flat_map f xs ≡ flat_map g xs
flat_map-same f g [] same = refl
flat_map-same f g (x ∷ xs) same = ap (λ l. l ++ flat_map f xs) (same x) ∙ ap (λ l. g x ++ l) (flat_map-same f g xs same)

-- the orders, from each band reversed and the whole reversed
pub in_order-plain : (rs : List Rect) → in_order false false rs ≡ rs
in_order-plain rs = by_band-joined rs

pub in_order-both : (rs : List Rect) → in_order true true rs ≡ reverse rs
in_order-both rs = sym (reverse-flat_map (λ g. g) (by_band rs)) ∙ ap reverse (by_band-joined rs)

pub in_order-bands : (rs : List Rect) → in_order false true rs ≡ reverse (in_order true false rs)
in_order-bands rs = sym (reverse-flat_map reverse (by_band rs) ∙ flat_map-same (λ g. reverse (reverse g)) (λ g. g) (reverse (by_band rs)) reverse-reverse)
