-- Whether rectangles leave the range of coordinates where they are moved, and bands that don't.
use Rattle.std.proofs.Common.{rules, ◌≡◌, ◌≢◌, ◌<◌, length, Bool, true, false, ◌&&◌, List, [], ◌∷◌, map, refl, sym, ◌∙◌, ap, subst, arith, Option, Some, None}
use Rattle.std.specs.Prelude.{ℤ, ◌+ℤ◌, ◌||◌, not, slice_get, FitsSigned}
use Rattle.std.specs.Int.{w32}
use Rattle.std.specs.Option.{option_map}
use Rattle.std.specs.List.{AllByRecursion}
use Rattle.std.proofs.lemmas.List.Folds.{list_any-append}
use Rattle.std.proofs.lemmas.Option.{same_Some}
use Rattle.region.specs.declared.Rect.{Rect}
use Rattle.region.specs.RegionView.{coordinate, in_range, moved_rect, leaves_range}
use Rattle.region_bands.specs.declared.Interval.{Interval}
use Rattle.region_bands.specs.declared.Rows.{Rows}
use Rattle.region_bands.specs.Bands.{Band, Reading, reading, rows_of, first_row}
use Rattle.region_sets.specs.Sets.{AreBands, IsBand}
use Rattle.region_sets.specs.Moves.{IsMovableInterval, AreMovableRows, IsMovable}
use Rattle.region.specs.Rects.{rect_of, rects_of_band, rects_in}
use Rattle.region.proofs.ListLemmas.{first_there, none_there, left_is}

-- what was read of a row stays in the range
pub record RowStays (dx dy : ℤ) (rows : Rows) (start now : Reading) : Type 0 where
  pub same : now ≡ record start { left = now.left }
  pub stays : leaves_range dx dy (map (rect_of rows) start.left) ≡ leaves_range dx dy (map (rect_of rows) now.left)

-- the bands that were read stay in the range
pub record BandsStay (dx dy : ℤ) (start now : Reading) : Type 0 where
  pub begun : now ≡ reading now.bands
  pub stays : leaves_range dx dy (rects_in start.bands) ≡ leaves_range dx dy (rects_in now.bands)

abbrev pub both_stay : ℤ → ℤ → ℤ → Bool
both_stay from to by = coordinate (from +ℤ by) && coordinate (to +ℤ by)

pub in_sides : (dx dy : ℤ) (rows : Rows) (i : Interval) → in_range (moved_rect dx dy (rect_of rows i)) ≡ (both_stay rows.top rows.bottom dy && both_stay i.from i.to dx)
in_sides dx dy rows i = go (coordinate (i.from +ℤ dx)) (coordinate (rows.top +ℤ dy)) (coordinate (i.to +ℤ dx)) (coordinate (rows.bottom +ℤ dy))
  where
    go : (a b c d : Bool) → ((a && b) && (c && d)) ≡ ((b && d) && (a && c))
    go true true true true = refl
    go true true true false = refl
    go true true false true = refl
    go true true false false = refl
    go true false c d = refl
    go false true true true = refl
    go false true true false = refl
    go false true false true = refl
    go false true false false = refl
    go false false c d = refl

pub row_more : (dx dy : ℤ) (rows : Rows) (start now after : Reading) → RowStays dx dy rows start now → (i : Interval) (found : Option Interval) → found ≡ slice_get now.left 0 → found ≡ Some i
    → not (in_range (moved_rect dx dy (rect_of rows i))) ≡ false → ((f : Interval) (rest : List Interval) → now.left ≡ f ∷ rest → after ≡ record now { left = rest })
    → RowStays dx dy rows start after × (length after.left < length now.left)
row_more dx dy rows start now after h i found e some stays skip = (
  record {
    same = past ∙ ap (left_is there.0) h.same ∙ ap (λ l. left_is l start) (sym (ap (λ r. r.left) past));
    stays = h.stays ∙ ap (λ l. leaves_range dx dy (map (rect_of rows) l)) there.1 ∙ ap (λ b. b || leaves_range dx dy (map (rect_of rows) there.0)) stays ∙ ap (λ r. leaves_range dx dy (map (rect_of rows) r.left)) (sym past);
  },
  subst (λ r. length r.left < length now.left) (sym past) (subst (λ l. length there.0 < length l) (sym there.1) (omega arith)),
)
  where
    there : (rest : List Interval) × (now.left ≡ i ∷ rest)
    there = first_there now.left i (sym e ∙ some)

    past : after ≡ record now { left = there.0 }
    past = skip i there.0 there.1

pub row_leaves : (dx dy : ℤ) (rows : Rows) (start now : Reading) → RowStays dx dy rows start now → (i : Interval) (found : Option Interval) → found ≡ slice_get now.left 0 → found ≡ Some i
    → not (in_range (moved_rect dx dy (rect_of rows i))) ≡ true → true ≡ leaves_range dx dy (map (rect_of rows) start.left)
row_leaves dx dy rows start now h i found e some leaves =
    let there = first_there now.left i (sym e ∙ some) in
    sym (h.stays ∙ ap (λ l. leaves_range dx dy (map (rect_of rows) l)) there.1 ∙ ap (λ b. b || leaves_range dx dy (map (rect_of rows) there.0)) leaves)

pub row_all : (dx dy : ℤ) (rows : Rows) (start now : Reading) → RowStays dx dy rows start now → (found : Option Interval) → found ≡ slice_get now.left 0 → found ≡ None → false ≡ leaves_range dx dy (map (rect_of rows) start.left)
row_all dx dy rows start now h found e none = sym (h.stays ∙ ap (λ l. leaves_range dx dy (map (rect_of rows) l)) (none_there now.left (sym e ∙ none)))

pub bands_on : (dx dy : ℤ) (start now passed after : Reading) → BandsStay dx dy start now → (rows : Rows) (found : Option Rows) → found ≡ option_map rows_of (slice_get now.bands 0) → found ≡ Some rows
    → false ≡ leaves_range dx dy (map (rect_of rows) now.left) → passed ≡ record now { left = passed.left } → ((f : Band) (rest : List Band) → passed.bands ≡ f ∷ rest → after ≡ reading rest)
    → BandsStay dx dy start after × (length after.bands < length now.bands)
bands_on dx dy start now passed after h rows found e some stays read advance = go now.bands refl
  where
    go : (bands : List Band) → now.bands ≡ bands → BandsStay dx dy start after × (length after.bands < length now.bands)
    go [] none = absurd (let no : None ≡ Some rows = sym (e ∙ ap (λ l. option_map rows_of (slice_get l 0)) none) ∙ some in cc)
    go (b ∷ rest) is = (
      record {
        begun = past ∙ ap reading (sym (ap (λ r. r.bands) past));
        stays = h.stays ∙ ap (λ l. leaves_range dx dy (rects_in l)) is ∙ list_any-append (λ r. not (in_range (moved_rect dx dy r))) (rects_of_band b) (rects_in rest)
            ∙ ap (λ t. t || leaves_range dx dy (rects_in rest)) (sym (stays ∙ ap (leaves_range dx dy) row)) ∙ ap (λ r. leaves_range dx dy (rects_in r.bands)) (sym past);
      },
      subst (λ r. length r.bands < length now.bands) (sym past) (subst (λ l. length rest < length l) (sym is) (omega arith)),
    )
      where
        past : after ≡ reading rest
        past = advance b rest (ap (λ r. r.bands) read ∙ is)

        same : rows ≡ rows_of b
        same = sym (same_Some (rows_of b) rows (sym (e ∙ ap (λ l. option_map rows_of (slice_get l 0)) is) ∙ some))

        row : map (rect_of rows) now.left ≡ rects_of_band b
        row = ap (λ r. map (rect_of rows) r.left) h.begun ∙ ap (λ l. map (rect_of rows) (first_row l)) is ∙ ap (λ r. map (rect_of r) b.row) same

-- ---- bands that stay in the range can be moved

fits : (x : ℤ) → coordinate x ≡ true → FitsSigned w32 x
fits x e = search rules

none_of : (a b : Bool) → (a || b) ≡ false → (a ≡ false) × (b ≡ false)
none_of false b e = (refl, e)
none_of true b e = absurd (cc)

both_of : (a b : Bool) → (a && b) ≡ true → (a ≡ true) × (b ≡ true)
both_of true b e = (refl, e)
both_of false b e = absurd (cc)

-- a rectangle that stays in the range has ends that are numbers of 32 bits there
pub record FitMoved (dx dy : ℤ) (r : Rect) : Type 0 where
  pub left : FitsSigned w32 (r.x1 +ℤ dx)
  pub top : FitsSigned w32 (r.y1 +ℤ dy)
  pub right : FitsSigned w32 (r.x2 +ℤ dx)
  pub bottom : FitsSigned w32 (r.y2 +ℤ dy)

pub moved_fits : (dx dy : ℤ) (r : Rect) → in_range (moved_rect dx dy r) ≡ true → FitMoved dx dy r
moved_fits dx dy r e =
    let parts = both_of (coordinate (r.x1 +ℤ dx) && coordinate (r.y1 +ℤ dy)) (coordinate (r.x2 +ℤ dx) && coordinate (r.y2 +ℤ dy)) e in
    let low = both_of (coordinate (r.x1 +ℤ dx)) (coordinate (r.y1 +ℤ dy)) parts.0 in
    let high = both_of (coordinate (r.x2 +ℤ dx)) (coordinate (r.y2 +ℤ dy)) parts.1 in
    record { left = fits (r.x1 +ℤ dx) low.0; top = fits (r.y1 +ℤ dy) low.1; right = fits (r.x2 +ℤ dx) high.0; bottom = fits (r.y2 +ℤ dy) high.1 }

so_true : (a : Bool) → not a ≡ false → a ≡ true
so_true true e = refl
so_true false e = absurd (cc)

-- a rectangle that stays
record Stays (dx dy : ℤ) (rows : Rows) (i : Interval) : Type 0 where
  moves : AreMovableRows dy rows
  ends : IsMovableInterval dx i

one_stays : (dx dy : ℤ) (rows : Rows) (i : Interval) → not (in_range (moved_rect dx dy (rect_of rows i))) ≡ false → Stays dx dy rows i
one_stays dx dy rows i e =
    let all = both_of (both_stay rows.top rows.bottom dy) (both_stay i.from i.to dx) (sym (in_sides dx dy rows i) ∙ so_true (in_range (moved_rect dx dy (rect_of rows i))) e) in
    let high = both_of (coordinate (rows.top +ℤ dy)) (coordinate (rows.bottom +ℤ dy)) all.0 in
    let wide = both_of (coordinate (i.from +ℤ dx)) (coordinate (i.to +ℤ dx)) all.1 in
    record {
      moves = record { top = fits (rows.top +ℤ dy) high.0; bottom = fits (rows.bottom +ℤ dy) high.1 };
      ends = record { from = fits (i.from +ℤ dx) wide.0; to = fits (i.to +ℤ dx) wide.1 };
    }

row_movable : (dx dy : ℤ) (rows : Rows) (row : List Interval) → leaves_range dx dy (map (rect_of rows) row) ≡ false → AllByRecursion (IsMovableInterval dx) row
row_movable dx dy rows [] e = tt
row_movable dx dy rows (i ∷ row) e =
    let parts = none_of (not (in_range (moved_rect dx dy (rect_of rows i)))) (leaves_range dx dy (map (rect_of rows) row)) e in
    ((one_stays dx dy rows i parts.0).ends, row_movable dx dy rows row parts.1)

rows_movable : (dx dy : ℤ) (rows : Rows) (row : List Interval) → row ≢ [] → leaves_range dx dy (map (rect_of rows) row) ≡ false → AreMovableRows dy rows
rows_movable dx dy rows [] some e = absurd (some refl)
rows_movable dx dy rows (i ∷ row) some e = (one_stays dx dy rows i (none_of (not (in_range (moved_rect dx dy (rect_of rows i)))) (leaves_range dx dy (map (rect_of rows) row)) e).0).moves

band_movable : (dx dy : ℤ) (b : Band) → IsBand b → leaves_range dx dy (rects_of_band b) ≡ false → IsMovable dx dy b
band_movable dx dy b h e = record { rows = rows_movable dx dy (rows_of b) b.row h.columns e; row = row_movable dx dy (rows_of b) b.row e }

pub bands_movable : (dx dy : ℤ) (bands : List Band) → AreBands bands → leaves_range dx dy (rects_in bands) ≡ false → AllByRecursion (IsMovable dx dy) bands
bands_movable dx dy [] h e = tt
bands_movable dx dy (b ∷ []) h e =
    let parts = none_of (leaves_range dx dy (rects_of_band b)) (leaves_range dx dy (rects_in [])) (sym (list_any-append (λ r. not (in_range (moved_rect dx dy r))) (rects_of_band b) (rects_in [])) ∙ e) in
    (band_movable dx dy b h parts.0, tt)
bands_movable dx dy (b ∷ c ∷ rest) h e =
    let parts = none_of (leaves_range dx dy (rects_of_band b)) (leaves_range dx dy (rects_in (c ∷ rest))) (sym (list_any-append (λ r. not (in_range (moved_rect dx dy r))) (rects_of_band b) (rects_in (c ∷ rest))) ∙ e) in
    (band_movable dx dy b h.0 parts.0, bands_movable dx dy (c ∷ rest) h.2 parts.1)
