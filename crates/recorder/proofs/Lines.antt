-- Words and lines, put piece by piece.
use Rattle.std.proofs.Common.{◌≡◌, ◌≢◌, ◌+◌, ◌<◌, ℕ, suc, arith, List, [], ◌∷◌, ◌++◌, length, get_or, take, Option, Some, None, false, refl, sym, ap, ◌∙◌, subst, append-nil, ℤ}
use Rattle.std.proofs.Math.Seq.{take-suc}
use Rattle.region.specs.declared.Rect.{Rect}
use Rattle.region.specs.RegionView.{only}
use Rattle.std.specs.Prelude.{flat_map, codes, unwrap_or, ◌+ℤ◌, neg_ℤ}
use Rattle.std.specs.Fmt.{signed_decimal}
use Rattle.std.proofs.lemmas.List.Concat.{flat_map-append}
use Rattle.scribe.specs.Scribing.{Scribed, IsScribed, Puts}
use Rattle.scribe.specs.ScribingLemmas.{puts-nothing, puts-then, scribed-new}
use Rattle.recorder.specs.Words.{hex, hex_byte, colour_bytes, colour_digits, spaced, corner_words}
use Rattle.recorder.specs.Events.{line_of, mark_line, copy_line, offset_words}

pub puts-as : (a b : List ℕ) (s t : Scribed) → a ≡ b → Puts a s t → Puts b s t
puts-as a b s t is h = subst (λ (l : List ℕ). Puts l s t) is h

-- a word behind a blank
pub word : (w : List ℕ) (r s t : Scribed) → Puts (codes " ") r s → Puts w s t → Puts (spaced (w ∷ [])) r t
word w r s t blank h = puts-as (32 ∷ w) (spaced (w ∷ [])) r t (sym (append-nil (32 ∷ w))) (puts-then (codes " ") w r s t blank h)

-- words behind words
pub words : (v w : List (List ℕ)) (r s t : Scribed) → Puts (spaced v) r s → Puts (spaced w) s t → Puts (spaced (v ++ w)) r t
words v w r s t a b = puts-as (spaced v ++ spaced w) (spaced (v ++ w)) r t (sym (flat_map-append (λ (x : List ℕ). 32 ∷ x) v w)) (puts-then (spaced v) (spaced w) r s t a b)

-- a line
pub line : (command : List ℕ) (ws : List (List ℕ)) (r s t u : Scribed) → Puts command r s → Puts (spaced ws) s t → Puts (codes "\n") t u → Puts (line_of command ws) r u
line command ws r s t u a b c = puts-then command (spaced ws ++ codes "\n") r s u a (puts-then (spaced ws) (codes "\n") s t u b c)

-- a line of a command alone
pub bare-line : (command : List ℕ) (r s t : Scribed) → Puts command r s → Puts (codes "\n") s t → Puts (line_of command []) r t
bare-line command r s t a c = line command [] r s s t a (puts-nothing s) c

take-more : {X : Type 0} (xs : List X) (k : ℕ) (d : X) → k < length xs → take (k + 1) xs ≡ take k xs ++ get_or xs k d ∷ []
take-more xs k d below = ap (λ (n : ℕ). take n xs) (let e : k + 1 ≡ suc k = omega arith in e) ∙ take-suc xs k d below

-- what is put for a few of a list, behind the others before them
pub few-more : {X : Type 0} (f : X → List ℕ) (done few : List X) (r s t : Scribed) → Puts (flat_map f done) r s → Puts (flat_map f few) s t → Puts (flat_map f (done ++ few)) r t
few-more f done few r s t a b = puts-as (flat_map f done ++ flat_map f few) (flat_map f (done ++ few)) r t (sym (flat_map-append f done few)) (puts-then (flat_map f done) (flat_map f few) r s t a b)

-- colours' digits are those of their bytes
pub hex-colours : (cs : List ℕ) → hex (flat_map colour_bytes cs) ≡ flat_map colour_digits cs
hex-colours [] = refl
hex-colours (c ∷ cs) = flat_map-append hex_byte (colour_bytes c) (flat_map colour_bytes cs) ∙ ap (λ (l : List ℕ). colour_digits c ++ l) (hex-colours cs)

-- a line has its end
line-some : (command rest : List ℕ) → command ++ (rest ++ codes "\n") ≢ []
line-some (b ∷ command) rest = λ is. absurd cc
line-some [] (b ∷ rest) = λ is. absurd cc
line-some [] [] = λ is. absurd cc

pub mark-some : (rs : List Rect) → mark_line rs ≢ []
mark-some [] = line-some (codes "marks") []
mark-some (r ∷ []) = line-some (codes "mark") (spaced (corner_words r))
mark-some (r ∷ q ∷ rs) = line-some (codes "marks") (spaced (flat_map corner_words (r ∷ q ∷ rs)))

pub copy-some : (one many : List ℕ) (rs : List Rect) (dx dy : ℤ) → copy_line one many rs dx dy ≢ []
copy-some one many [] dx dy = line-some many (spaced (offset_words dx dy))
copy-some one many (r ∷ []) dx dy = line-some one (spaced (corner_words r ++ offset_words dx dy))
copy-some one many (r ∷ q ∷ rs) dx dy = line-some many (spaced (flat_map corner_words (r ∷ q ∷ rs) ++ offset_words dx dy))

-- a region's line
pub mark-one : (rs : List Rect) (r : Rect) → Some r ≡ only rs → mark_line (r ∷ []) ≡ mark_line rs
mark-one [] r is = absurd cc
mark-one (q ∷ []) r is = ap (λ (x : Rect). mark_line (x ∷ [])) (ap (λ (o : Option Rect). unwrap_or o q) is)
mark-one (q ∷ p ∷ rs) r is = absurd cc

pub mark-many : (rs : List Rect) → None ≡ only rs → line_of (codes "marks") (flat_map corner_words rs) ≡ mark_line rs
mark-many [] is = refl
mark-many (q ∷ []) is = absurd cc
mark-many (q ∷ p ∷ rs) is = refl

pub copy-one : (one many : List ℕ) (rs : List Rect) (r : Rect) (dx dy : ℤ) → Some r ≡ only rs → line_of one (corner_words r ++ offset_words dx dy) ≡ copy_line one many rs dx dy
copy-one one many [] r dx dy is = absurd cc
copy-one one many (q ∷ []) r dx dy is = ap (λ (x : Rect). line_of one (corner_words x ++ offset_words dx dy)) (ap (λ (o : Option Rect). unwrap_or o q) is)
copy-one one many (q ∷ p ∷ rs) r dx dy is = absurd cc

pub copy-many : (one many : List ℕ) (rs : List Rect) (dx dy : ℤ) → None ≡ only rs → line_of many (flat_map corner_words rs ++ offset_words dx dy) ≡ copy_line one many rs dx dy
copy-many one many [] dx dy is = refl
copy-many one many (q ∷ []) dx dy is = absurd cc
copy-many one many (q ∷ p ∷ rs) dx dy is = refl

-- the first so many rectangles, and one more
pub more-rects : (xs : List Rect) (d : Rect) (k : ℕ) (r s t : Scribed) → k < length xs → Puts (spaced (flat_map corner_words (take k xs))) r s → Puts (spaced (corner_words (get_or xs k d))) s t
    → Puts (spaced (flat_map corner_words (take (k + 1) xs))) r t
more-rects xs d k r s t below a b =
    subst (λ (l : List (List ℕ)). Puts (spaced l) r t)
    (ap (λ (l : List (List ℕ)). flat_map corner_words (take k xs) ++ l) (sym (append-nil (corner_words (get_or xs k d)))) ∙ sym (flat_map-append corner_words (take k xs) (get_or xs k d ∷ [])) ∙ ap (flat_map corner_words) (sym (take-more xs k d below)))
    (words (flat_map corner_words (take k xs)) (corner_words (get_or xs k d)) r s t a b)

-- what is put first
pub from-nothing : (held : Option (List ℕ)) (text : List ℕ) (s t : Scribed) → s ≡ record { held = held; waiting = []; broken = false } → Puts text s t → IsScribed held text t
from-nothing held text s t is puts = puts held [] (subst (IsScribed held []) (sym is) (scribed-new held))

-- two numbers, and how far it is between two, by other terms for these
pub pair-as : (a b x y : ℤ) (s t : Scribed) → a ≡ x → b ≡ y → Puts (spaced (signed_decimal a ∷ signed_decimal b ∷ [])) s t → Puts (spaced (signed_decimal x ∷ signed_decimal y ∷ [])) s t
pair-as a b x y s t e f h = subst (λ (v : ℤ). Puts (spaced (signed_decimal x ∷ signed_decimal v ∷ [])) s t) f (subst (λ (u : ℤ). Puts (spaced (signed_decimal u ∷ signed_decimal b ∷ [])) s t) e h)

pub distance-as : (a b x y : ℤ) (s t : Scribed) → a ≡ x → b ≡ y → Puts (spaced (signed_decimal (b +ℤ neg_ℤ a) ∷ [])) s t → Puts (spaced (signed_decimal (y +ℤ neg_ℤ x) ∷ [])) s t
distance-as a b x y s t e f h = subst (λ (v : ℤ). Puts (spaced (signed_decimal (v +ℤ neg_ℤ x) ∷ [])) s t) f (subst (λ (u : ℤ). Puts (spaced (signed_decimal (b +ℤ neg_ℤ u) ∷ [])) s t) e h)
