-- Tiles read onto what is shown are tiles read onto a patch.
use Rattle.std.proofs.Common.{◌≡◌, ℕ, zero, suc, ◌+◌, ◌-◌, ◌*◌, ◌/◌, ◌%◌, ◌<◌, ◌≤◌, Bool, true, false, cond, ◌&&◌, ◌||◌, eqb, List, [], ◌∷◌, ◌++◌, map, Option, None, Some, refl, sym, ap, ◌∙◌, arith, ◌⊎◌, inl, inr}
use Rattle.std.specs.List.{list_any, range_with_len, flat_map}
use Rattle.std.specs.Int.{div_ceil}
use Rattle.std.proofs.lemmas.Bool.{and_parts, eqb-true, eq-eqb, cases_lt}
use Rattle.std.proofs.lemmas.Bool.Decides.{nat_tests}
use mathlib.Core.Path.{fun_ext}
use Rattle.pixel_translate.specs.declared.Area.{Area}
use Rattle.pixel_translate.specs.Pixel.{server_format}
use Rattle.encode_raw.specs.Reading.{◌>>=◌, Dot, Shown, Patch, is_inside, patched}
use Rattle.encode_hextile.specs.declared.Carried.{Carried}
use Rattle.encode_hextile.specs.Hextile.{nothing}
use Rattle.encode_hextile.specs.Tiles.{Tile, tiles_in, tiles_of}
use Rattle.encode_hextile.specs.Reading.{TileRead, tile_at, tiles_at, with_tile, hextile_at}
use Rattle.viewer_picture.specs.Messages.{Display, written}
use Rattle.server_reader.specs.declared.stage.Rectangle.{Rectangle}
use Rattle.server_reader.specs.Stages.{tile_area, tiles_right, tiles_below, tiles_onto, rectangles_behind}
use Rattle.server_reader.proofs.RowLemmas.{is_at}
use Rattle.server_reader.proofs.TileLemmas.{below_more}

abbrev dot : ℕ → Option Dot
dot pixel = Some (record { format = server_format; pixel = pixel })

abbrev in_tiles : Area → List Tile → (x y : ℕ) → Bool
in_tiles a ts x y = list_any (λ t. is_inside (tile_area a t) x y) ts

-- they differ at places of tiles alone
abbrev SameBut : Area → List Tile → Shown → Shown → Type 0
SameBut a ts first second = (x y : ℕ) → in_tiles a ts x y ≡ false → first x y ≡ second x y

-- ---- a tile of a rectangle

module _ (a : Area) (t : Tile) (inner patch : Patch) (shown changed : Shown) (x y : ℕ) where
  abbrev X : ℕ
  X = x - a.x

  abbrev Y : ℕ
  Y = y - a.y

  abbrev is_here : Bool
  is_here = eqb (X / 16) t.column && eqb (Y / 16) t.row

  there : is_inside (tile_area a t) x y ≡ true → patched server_format a (with_tile t inner patch) shown x y ≡ patched server_format (tile_area a t) inner changed x y
  there e =
      let at = is_at (tile_area a t) x y e in
      let column : X / 16 ≡ t.column = omega (arith, at.left, at.right) in
      let row : Y / 16 ≡ t.row = omega (arith, at.top, at.bottom) in
      let inside : is_inside a x y ≡ true = grind (arith, nat_tests, at.left, at.right, at.top, at.bottom) in
      let left : X % 16 ≡ x - (a.x + 16 * t.column) = omega (arith, at.left, at.right) in
      let top : Y % 16 ≡ y - (a.y + 16 * t.row) = omega (arith, at.top, at.bottom) in
      ap (λ b. cond b (dot (cond is_here (inner (X % 16) (Y % 16)) (patch X Y))) (shown x y)) inside
      ∙ ap (λ b. dot (cond (b && eqb (Y / 16) t.row) (inner (X % 16) (Y % 16)) (patch X Y))) (eq-eqb _ _ column)
      ∙ ap (λ b. dot (cond b (inner (X % 16) (Y % 16)) (patch X Y))) (eq-eqb _ _ row)
      ∙ ap (λ n. dot (inner n (Y % 16))) left
      ∙ ap (λ n. dot (inner (x - (a.x + 16 * t.column)) n)) top
      ∙ sym (ap (λ b. cond b (dot (inner (x - (a.x + 16 * t.column)) (y - (a.y + 16 * t.row)))) (changed x y)) e)

  elsewhere : is_inside (tile_area a t) x y ≡ false → patched server_format a patch shown x y ≡ changed x y
      → patched server_format a (with_tile t inner patch) shown x y ≡ patched server_format (tile_area a t) inner changed x y
  elsewhere e same =
      by (is_inside a x y) refl
      ∙ same
      ∙ sym (ap (λ b. cond b (dot (inner (x - (a.x + 16 * t.column)) (y - (a.y + 16 * t.row)))) (changed x y)) e)
    where
      not_here : is_inside a x y ≡ true → (h : Bool) → is_here ≡ h → is_here ≡ false
      not_here inside false h = h
      not_here inside true h =
          let parts = and_parts _ _ h in
          let at = is_at a x y inside in
          let column : X / 16 ≡ t.column = eqb-true _ _ parts.0 in
          let row : Y / 16 ≡ t.row = eqb-true _ _ parts.1 in
          let wrong : is_inside (tile_area a t) x y ≡ true = grind (arith, nat_tests, at.left, at.right, at.top, at.bottom, column, row) in
          absurd (let no : true ≡ false = sym wrong ∙ e in cc)

      by : (b : Bool) → is_inside a x y ≡ b → cond (is_inside a x y) (dot (cond is_here (inner (X % 16) (Y % 16)) (patch X Y))) (shown x y)
          ≡ cond (is_inside a x y) (dot (patch X Y)) (shown x y)
      by true inside = ap (λ h. cond (is_inside a x y) (dot (cond h (inner (X % 16) (Y % 16)) (patch X Y))) (shown x y)) (not_here inside is_here refl)
      by false outside =
          ap (λ b. cond b (dot (cond is_here (inner (X % 16) (Y % 16)) (patch X Y))) (shown x y)) outside
          ∙ sym (ap (λ b. cond b (dot (patch X Y)) (shown x y)) outside)

one_more : (a : Area) (t : Tile) (ts : List Tile) (inner patch : Patch) (shown changed : Shown) → SameBut a (t ∷ ts) (patched server_format a patch shown) changed
    → SameBut a ts (patched server_format a (with_tile t inner patch) shown) (patched server_format (tile_area a t) inner changed)
one_more a t ts inner patch shown changed same x y out = by (is_inside (tile_area a t) x y) refl
  where
    by : (b : Bool) → is_inside (tile_area a t) x y ≡ b → patched server_format a (with_tile t inner patch) shown x y ≡ patched server_format (tile_area a t) inner changed x y
    by true e = there a t inner patch shown changed x y e
    by false e = elsewhere a t inner patch shown changed x y e (same x y (ap (λ b. b || in_tiles a ts x y) e ∙ out))

tiles_agree : (a : Area) (ts : List Tile) (carried : Carried) (patch : Patch) (shown changed : Shown) (bytes : List ℕ) → SameBut a ts (patched server_format a patch shown) changed
    → written server_format a shown (tiles_at server_format a.w a.h ts carried patch bytes) ≡ tiles_onto a ts carried changed bytes
unfolding tiles_onto
tiles_agree a [] carried patch shown changed bytes same =
    let pair : Shown → Option (Shown × List ℕ) = λ s. Some (s, bytes) in
    ap pair (fun_ext (λ x. fun_ext (λ y. same x y refl)))
tiles_agree a (t ∷ ts) carried patch shown changed bytes same =
    by (λ r. tiles_agree a ts (r.0).next (with_tile t (r.0).patch patch) shown (patched server_format (tile_area a t) (r.0).patch changed) r.1 (one_more a t ts (r.0).patch patch shown changed same))
    (tile_at server_format (tile_area a t).w (tile_area a t).h carried bytes)
  where
    by : ((r : TileRead × List ℕ) → written server_format a shown (tiles_at server_format a.w a.h ts (r.0).next (with_tile t (r.0).patch patch) r.1)
        ≡ tiles_onto a ts (r.0).next (patched server_format (tile_area a t) (r.0).patch changed) r.1)
        → (o : Option (TileRead × List ℕ))
        → written server_format a shown (o >>= λ (r : TileRead × List ℕ). tiles_at server_format a.w a.h ts (r.0).next (with_tile t (r.0).patch patch) r.1)
        ≡ (o >>= λ (r : TileRead × List ℕ). tiles_onto a ts (r.0).next (patched server_format (tile_area a t) (r.0).patch changed) r.1)
    by others None = refl
    by others (Some r) = others r

-- ---- each place is in a tile

or-right : (a b : Bool) → b ≡ true → (a || b) ≡ true
or-right true b e = refl
or-right false b e = e

any_in_range : (q : Tile → Bool) (f : ℕ → Tile) (from n k : ℕ) → from ≤ k → k < from + n → q (f k) ≡ true → list_any q (map f (range_with_len from n)) ≡ true
any_in_range q f from zero k low high e = absurd (omega (arith, low, high))
any_in_range q f from (suc n) k low high e = elim (cases_lt from k) [
  | inl above ↦ or-right (q (f from)) (list_any q (map f (range_with_len (from + 1) n))) (any_in_range q f (from + 1) n k (omega (arith, above)) (omega (arith, high)) e)
  | inr same ↦ ap (λ b. b || list_any q (map f (range_with_len (from + 1) n))) (ap (λ m. q (f m)) (let one : from ≡ k = omega (arith, low, same) in one) ∙ e)
]

any_left : (q : Tile → Bool) (xs ys : List Tile) → list_any q xs ≡ true → list_any q (xs ++ ys) ≡ true
any_left q [] ys e = absurd cc
any_left q (x ∷ xs) ys e = by (any_left q xs ys) (q x) refl
  where
    by : (list_any q xs ≡ true → list_any q (xs ++ ys) ≡ true) → (b : Bool) → q x ≡ b → (q x || list_any q (xs ++ ys)) ≡ true
    by others true h = ap (λ b. b || list_any q (xs ++ ys)) h
    by others false h = or-right (q x) (list_any q (xs ++ ys)) (others (sym (ap (λ b. b || list_any q xs) h) ∙ e))

any_right : (q : Tile → Bool) (xs ys : List Tile) → list_any q ys ≡ true → list_any q (xs ++ ys) ≡ true
any_right q [] ys e = e
any_right q (x ∷ xs) ys e = or-right (q x) (list_any q (xs ++ ys)) (any_right q xs ys e)

any_in_rows : (q : Tile → Bool) (g : ℕ → List Tile) (from n k : ℕ) → from ≤ k → k < from + n → list_any q (g k) ≡ true → list_any q (flat_map g (range_with_len from n)) ≡ true
any_in_rows q g from zero k low high e = absurd (omega (arith, low, high))
any_in_rows q g from (suc n) k low high e = elim (cases_lt from k) [
  | inl above ↦ any_right q (g from) (flat_map g (range_with_len (from + 1) n)) (any_in_rows q g (from + 1) n k (omega (arith, above)) (omega (arith, high)) e)
  | inr same ↦ any_left q (g from) (flat_map g (range_with_len (from + 1) n)) (ap (λ m. list_any q (g m)) (let one : from ≡ k = omega (arith, low, same) in one) ∙ e)
]

covered : (a : Area) (x y : ℕ) → is_inside a x y ≡ true → in_tiles a (tiles_of a.w a.h) x y ≡ true
covered a x y e =
    let at = is_at a x y e in
    let column : ℕ = (x - a.x) / 16 in
    let row : ℕ = (y - a.y) / 16 in
    let q : Tile → Bool = λ t. is_inside (tile_area a t) x y in
    let here : q (record { column = column; row = row }) ≡ true = grind (arith, nat_tests, at.left, at.right, at.top, at.bottom) in
    let columns : column < 0 + div_ceil a.w 16 = omega (arith, at.left, at.right) in
    let rows : row < 0 + div_ceil a.h 16 = omega (arith, at.top, at.bottom) in
    any_in_rows q (tiles_in a.w) 0 (div_ceil a.h 16) row (omega arith) rows
    (any_in_range q (λ i. record { column = i; row = row }) 0 (div_ceil a.w 16) column (omega arith) columns here)

-- 7.7.4: a rectangle in Hextile, onto what is shown
pub hextile_onto : (a : Area) (shown : Shown) (bytes : List ℕ) → written server_format a shown (hextile_at server_format a.w a.h bytes) ≡ tiles_onto a (tiles_of a.w a.h) nothing shown bytes
hextile_onto a shown bytes = tiles_agree a (tiles_of a.w a.h) nothing (λ x y. 0) shown shown bytes (λ x y out. by x y out (is_inside a x y) refl)
  where
    by : (x y : ℕ) → in_tiles a (tiles_of a.w a.h) x y ≡ false → (b : Bool) → is_inside a x y ≡ b → patched server_format a (λ i j. 0) shown x y ≡ shown x y
    by x y out true e = absurd (let no : true ≡ false = sym (covered a x y e) ∙ out in cc)
    by x y out false e = ap (λ b. cond b (dot 0) (shown x y)) e

-- the first of a rectangle's tiles, and those behind it
pub first_of_tiles : (r : Rectangle) (carried : Carried) (d : Display) (bytes : List ℕ) → 0 < r.area.w → 0 < r.area.h → carried ≡ nothing
    → rectangles_behind r.behind d (tiles_onto r.area (record { column = 0; row = 0 } ∷ (tiles_right r.area.w 0 1 ++ tiles_below r.area.w r.area.h 1)) carried d.shown bytes)
    ≡ rectangles_behind r.behind d (written server_format r.area d.shown (hextile_at server_format r.area.w r.area.h bytes))
first_of_tiles r carried d bytes wide high none =
    let a : Area = r.area in
    let onto : List Tile → Carried → Option (Display × List ℕ) = λ ts carried. rectangles_behind r.behind d (tiles_onto a ts carried d.shown bytes) in
    let all : div_ceil a.h 16 - 0 ≡ div_ceil a.h 16 = omega arith in
    ap (onto (record { column = 0; row = 0 } ∷ (tiles_right a.w 0 1 ++ tiles_below a.w a.h 1))) none
    ∙ ap (λ (ts : List Tile). onto ts nothing) (sym (below_more a.w a.h 0 high wide))
    ∙ ap (λ n. onto (flat_map (tiles_in a.w) (range_with_len 0 n)) nothing) all
    ∙ ap (rectangles_behind r.behind d) (sym (hextile_onto a d.shown bytes))

-- a rectangle without places has no tiles
pub no_tiles : (a : Area) (shown : Shown) (bytes : List ℕ) → (a.w ≡ 0) ⊎ (a.h ≡ 0) → written server_format a shown (hextile_at server_format a.w a.h bytes) ≡ Some (shown, bytes)
unfolding tiles_onto
no_tiles a shown bytes empty = hextile_onto a shown bytes ∙ ap (λ (ts : List Tile). tiles_onto a ts nothing shown bytes) (none empty)
  where
    no_row : (rows : List ℕ) → a.w ≡ 0 → flat_map (tiles_in a.w) rows ≡ []
    no_row [] e = refl
    no_row (j ∷ rows) e =
        ap (λ n. map (λ i. record { column = i; row = j }) (range_with_len 0 (div_ceil n 16)) ++ flat_map (tiles_in a.w) rows) e ∙ no_row rows e

    none : (a.w ≡ 0) ⊎ (a.h ≡ 0) → tiles_of a.w a.h ≡ []
    none (inl e) = no_row (range_with_len 0 (div_ceil a.h 16)) e
    none (inr e) = ap (λ n. flat_map (tiles_in a.w) (range_with_len 0 (div_ceil n 16))) e
