-- Rows of pixels that are translated, and those of the colours.
use Rattle.std.proofs.Common.{◌≡◌, ℕ, suc, ◌*◌, ◌+◌, ◌-◌, ◌<◌, ◌≤◌, List, Option, None, Some, OnSome, Bor, Vec, Global, subst, length, map, take, drop, refl, sym, ap, ◌∙◌, arith}
use Rattle.std.proofs.Math.Nat.{suc-mul, mul_comm, mul-le-mul_right}
use Rattle.std.proofs.lemmas.List.{length-drop, length-take-le, length-map, take-map, drop-map}
use Rattle.pixel_translate.specs.declared.PixelFormat.{PixelFormat}
use Rattle.std.specs.Vec.{with_items}
use Rattle.pixel_translate.specs.Pixel.{pixel}
use Rattle.subrectangles.specs.declared.lines.Lines.{Lines}
use Rattle.subrectangles.specs.declared.translated.Pixels.{Pixels}
use Rattle.subrectangles.specs.declared.translated.TwoRows.{TwoRows}
use Rattle.subrectangles.specs.Lines.{values_in, lines_in}
use Rattle.subrectangles.specs.Pixels.{translated, pixels_in, pixel_lines, translated_lines, HasRoom, HasRow, HaveRoom, HasRows, whole}
use Rattle.subrectangles.specs.Subrectangles.{rows_of, row_at}
use Rattle.subrectangles.specs.Scans.{row_is}

pub on_some_map : {A : Type 0} (o : Option A) (P Q : Type 0) → (P → Q) → OnSome o P → OnSome o Q
on_some_map None P Q f h = tt
on_some_map (Some x) P Q f h = f h

-- a row translated is the row of what was translated
pub row_map : (f : ℕ → ℕ) (w h : ℕ) (vs : List ℕ) (y : ℕ) → y < h → row_at (rows_of w h (map f vs)) y ≡ map f (row_at (rows_of w h vs) y)
row_map f w h vs y lt =
    row_is w h (map f vs) y lt ∙ ap (take w) (drop-map f (y * w) vs) ∙ take-map f w (drop (y * w) vs) ∙ ap (map f) (sym (row_is w h vs y lt))

row_of : (table : Option (Bor PixelFormat)) (w h : ℕ) (vs : List ℕ) (y : ℕ) → y < h → row_at (rows_of w h (translated table vs)) y ≡ translated table (row_at (rows_of w h vs) y)
row_of None w h vs y lt = refl
row_of (Some table) w h vs y lt = row_map _ w h vs y lt

-- rows of the same colours have the same pixels
pub same_rows : (p : Pixels) (y z : ℕ) → y < p.colours.height → z < p.colours.height → row_at (lines_in p.colours) y ≡ row_at (lines_in p.colours) z
    → row_at (pixel_lines p) y ≡ row_at (pixel_lines p) z
same_rows p y z inside within e =
    row_of p.table p.colours.width p.colours.height (values_in p.colours) y inside ∙ ap (translated p.table) e
    ∙ sym (row_of p.table p.colours.width p.colours.height (values_in p.colours) z within)

pub length_of_row : (w h : ℕ) (vs : List ℕ) (y : ℕ) → length vs ≡ w * h → y < h → length (row_at (rows_of w h vs) y) ≡ w
length_of_row w h vs y all lt =
    let more : suc y * w ≤ h * w = mul-le-mul_right w lt in
    ap (length {A = ℕ}) (row_is w h vs y lt)
    ∙ length-take-le w (drop (y * w) vs) (omega (arith, length-drop (y * w) vs, more, all, suc-mul y w, mul_comm w h))

row_length : (p : Pixels) (y : ℕ) → y < p.colours.height → length (row_at (pixel_lines p) y) ≡ p.colours.width
row_length p y lt = length_of_row p.colours.width p.colours.height (pixels_in p) y (whole p) lt

-- the same of rows that are translated
pub translated_length : (format : PixelFormat) (l : Lines) (y : ℕ) → y < l.height → length (row_at (translated_lines format l) y) ≡ l.width
translated_length format l y lt = length_of_row l.width l.height (map (pixel format) (values_in l)) y (length-map (values_in l) (pixel format) ∙ l.whole) lt

-- places that have a row have room for one
pub room_of : (p : Pixels) (y : ℕ) (places : List ℕ) → y < p.colours.height → HasRow p y places → HasRoom p places
room_of p y places lt = on_some_map p.table (places ≡ row_at (pixel_lines p) y) (length places ≡ p.colours.width) (λ e. ap (length {A = ℕ}) e ∙ row_length p y lt)

pub have_room : (p : Pixels) (y : ℕ) (rows : TwoRows) → y < p.colours.height → HasRows p y rows → HaveRoom p rows
have_room p y rows lt h = record {
  row = room_of p y rows.row.items lt h.row;
  above = room_of p (y - 1) rows.above.items (omega (arith, lt)) h.above;
}

-- the row above the next one is this one
pub next_rows : (p : Pixels) (y : ℕ) (rows : TwoRows) → HasRows p y rows → HasRows p (y + 1 - 1) rows
next_rows p y rows = subst (λ (n : ℕ). HasRows p n rows) (let e : y ≡ y + 1 - 1 = omega arith in e)

-- places written as a slice are as many as before
pub still_room : (p : Pixels) (v : Vec ℕ Global) (ws : List ℕ) → HasRoom p v.items → HasRoom p (with_items v ws).items
still_room p v ws = on_some_map p.table (length v.items ≡ p.colours.width) (length (with_items v ws).items ≡ p.colours.width) (λ e. sym (with_items v ws).ok.0 ∙ v.ok.0 ∙ e)
