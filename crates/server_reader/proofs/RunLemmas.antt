-- Runs of pixels, read onto a picture.
use Rattle.std.proofs.Common.{◌≡◌, ℕ, zero, suc, ◌+◌, ◌-◌, ◌*◌, ◌<◌, ◌≤◌, List, [], ◌++◌, length, Option, None, Some, refl, sym, ap, ◌∙◌, arith, ◌⊎◌, inl, inr}
use Rattle.std.proofs.Math.Nat.{mul_comm, mul-add, zero-mul}
use Rattle.std.proofs.lemmas.Nat.{mul-le}
use mathlib.Core.Path.{fun_ext}
use Rattle.pixel_translate.specs.declared.Area.{Area}
use Rattle.pixel_translate.specs.Pixel.{server_format}
use Rattle.encode_raw.specs.Reading.{◌>>=◌, pixels_at, raw_at, Shown, patched, row_by_row}
use Rattle.encode_raw.specs.Back.{same_patched}
use Rattle.viewer_picture.specs.Messages.{Display, written}
use Rattle.server_reader.specs.declared.stage.Behind.{Behind}
use Rattle.server_reader.specs.declared.stage.Behind.TheVariants as behind
use Rattle.server_reader.specs.declared.stage.PixelRows.{PixelRows}
use Rattle.server_reader.specs.declared.stage.Size.{Size}
use Rattle.server_reader.specs.declared.stage.Stage.{Stage}
use Rattle.server_reader.specs.declared.stage.Stage.TheVariants as stage
use Rattle.server_reader.specs.declared.step.Step.TheVariants as step
use Rattle.server_reader.specs.Groups.{pixel_in}
use Rattle.server_reader.specs.Stages.{filled, over, pixels_onto, pixels_behind, pixels_rest, rows_below, rest_of, display}
use Rattle.server_reader.specs.Steps.{rows_in, state_at, GoesOnAs, IsTurn}
use Rattle.server_reader.specs.Runs.{IsWholeRows, IsRowPart}
use Rattle.server_reader.proofs.ByteLemmas.{Front, front_pixels, pixels_go_on}
use Rattle.server_reader.proofs.RowLemmas.{all_over, none_over, rows_go_on, part_goes_on, row_ends}
use Rattle.server_reader.proofs.StepLemmas.{turn_by}

abbrev pair : Shown → List ℕ → Option (Shown × List ℕ)
pair shown bytes = Some (shown, bytes)

-- the first pixels change what is shown, and the others are read over that
onto_by : (a b : Area) (before after : ℕ) (shown changed : Shown) (front more : List ℕ) (m k : ℕ) → a.w * a.h - before ≡ m + k → k ≡ b.w * b.h - after
    → (read : Front m front more) → ((others : List ℕ) → over a before (read.pixels ++ others) shown ≡ over b after others changed)
    → pixels_onto a before shown (front ++ more) ≡ pixels_onto b after changed more
onto_by a b before after shown changed front more m k all left read same =
    ap (λ (o : Option (List ℕ × List ℕ)). o >>= λ (p : List ℕ × List ℕ). pair (over a before p.0 shown) p.1) (pixels_go_on (a.w * a.h - before) m k front more all read)
    ∙ by (pixels_at server_format k more)
    ∙ ap (λ (n : ℕ). pixels_at server_format n more >>= λ (q : List ℕ × List ℕ). pair (over b after q.0 changed) q.1) left
  where
    by : (o : Option (List ℕ × List ℕ)) → ((o >>= λ (q : List ℕ × List ℕ). Some (read.pixels ++ q.0, q.1)) >>= λ (p : List ℕ × List ℕ). pair (over a before p.0 shown) p.1)
        ≡ (o >>= λ (q : List ℕ × List ℕ). pair (over b after q.0 changed) q.1)
    by None = refl
    by (Some q) = ap (λ (s : Shown). pair s q.1) (same q.0)

onto_rows : (a : Area) (rows : ℕ) (shown : Shown) (front more : List ℕ) → rows ≤ a.h → length front ≡ 4 * (a.w * rows)
    → pixels_onto a 0 shown (front ++ more) ≡ pixels_onto (rows_below a rows) 0 (patched server_format (record a { h = rows }) (rows_in a.w front) shown) more
onto_rows a rows shown front more inside long =
    let read = front_pixels (a.w * rows) front more long in
    let turn : a.w * rows ≡ rows * a.w = mul_comm a.w rows in
    let high : a.h ≡ rows + (a.h - rows) = omega (arith, inside) in
    let sum : a.w * a.h ≡ a.w * rows + a.w * (a.h - rows) = ap (λ n. a.w * n) high ∙ mul-add a.w rows (a.h - rows) in
    onto_by a (rows_below a rows) 0 0 shown (patched server_format (record a { h = rows }) (rows_in a.w front) shown) front more (a.w * rows) (a.w * (a.h - rows)) (omega (arith, sum)) (omega arith) read
    (λ others. rows_go_on a rows read.pixels others front shown inside (read.long ∙ turn) (λ k few. read.at k (omega (arith, few, turn))))

onto_part : (a : Area) (column width : ℕ) (shown : Shown) (front more : List ℕ) → 0 < a.h → column + width ≤ a.w → length front ≡ 4 * width
    → pixels_onto a column shown (front ++ more)
    ≡ pixels_onto a (column + width) (patched server_format (record { x = a.x + column; y = a.y; w = width; h = 1 }) (rows_in width front) shown) more
onto_part a column width shown front more high fits long =
    let read = front_pixels width front more long in
    let some : a.w * 1 ≤ a.w * a.h = mul-le a.w 1 a.w a.h (omega arith) (omega (arith, high)) in
    onto_by a a column (column + width) shown (patched server_format (record { x = a.x + column; y = a.y; w = width; h = 1 }) (rows_in width front) shown) front more width (a.w * a.h - (column + width))
    (omega (arith, some, fits)) refl read (λ others. part_goes_on a column width read.pixels others front shown high read.long read.at fits)

onto_end : (a : Area) (shown : Shown) (more : List ℕ) → 0 < a.h → pixels_onto a a.w shown more ≡ pixels_onto (rows_below a 1) 0 shown more
onto_end a shown more high =
    let one : a.h ≡ 1 + (a.h - 1) = omega (arith, high) in
    let sum : a.w * a.h ≡ a.w * 1 + a.w * (a.h - 1) = ap (λ n. a.w * n) one ∙ mul-add a.w 1 (a.h - 1) in
    let left : a.w * a.h - a.w ≡ a.w * (a.h - 1) - 0 = omega (arith, sum) in
    ap (λ (n : ℕ). pixels_at server_format n more >>= λ (p : List ℕ × List ℕ). pair (over a a.w p.0 shown) p.1) left
    ∙ by (pixels_at server_format (a.w * (a.h - 1) - 0) more)
  where
    by : (o : Option (List ℕ × List ℕ)) → (o >>= λ (p : List ℕ × List ℕ). pair (over a a.w p.0 shown) p.1) ≡ (o >>= λ (p : List ℕ × List ℕ). pair (over (rows_below a 1) 0 p.0 shown) p.1)
    by None = refl
    by (Some p) = ap (λ (s : Shown). pair s p.1) (row_ends a p.0 shown)

-- ---- what comes next behind a run

same_behind : (b : Behind) (d : Display) (shown : Shown) (o : Option (Shown × List ℕ)) → pixels_behind b d o ≡ pixels_behind b (record d { shown = shown }) o
same_behind (behind.Rectangles n) d shown o = refl
same_behind (behind.Tile t) d shown o = refl

abbrev shows_run : Area → List ℕ → Shown → Shown
shows_run run front shown = patched server_format run (rows_in run.w front) shown

-- behind whole rows
pub rows_run : (rows : PixelRows) (run : Area) (after : Stage) → IsWholeRows rows run
    → ((d : Display) (bytes : List ℕ) → rest_of after d bytes ≡ pixels_rest (rows_below rows.area run.h) rows.behind d bytes)
    → (front : List ℕ) → length front ≡ 4 * (run.w * run.h) → GoesOnAs (stage.Pixels rows) front (λ shown. shows_run run front shown) after
rows_run rows run after is next front long d later =
    let a : Area = rows.area in
    let wide : run.w ≡ a.w = ap (λ (r : Area). r.w) is.place in
    let count : length front ≡ 4 * (a.w * run.h) = long ∙ ap (λ n. 4 * (n * run.h)) wide in
    let same : shows_run (record a { h = run.h }) front d.shown ≡ shows_run run front d.shown = ap (λ (r : Area). shows_run r front d.shown) (sym is.place) in
    ap (λ c. pixels_behind rows.behind d (pixels_onto a c d.shown (front ++ later))) is.begun
    ∙ ap (pixels_behind rows.behind d) (onto_rows a run.h d.shown front later is.inside count)
    ∙ ap (λ (s : Shown). pixels_behind rows.behind d (pixels_onto (rows_below a run.h) 0 s later)) same
    ∙ same_behind rows.behind d (shows_run run front d.shown) (pixels_onto (rows_below a run.h) 0 (shows_run run front d.shown) later)
    ∙ sym (next (record d { shown = shows_run run front d.shown }) later)

-- behind a part of a row: the row goes on
pub part_run : (rows : PixelRows) (run : Area) → IsRowPart rows run → (front : List ℕ) → length front ≡ 4 * (run.w * run.h) → (d : Display) (later : List ℕ)
    → rest_of (stage.Pixels rows) d (front ++ later)
    ≡ pixels_behind rows.behind (record d { shown = shows_run run front d.shown }) (pixels_onto rows.area (rows.column + run.w) (shows_run run front d.shown) later)
part_run rows run is front long d later =
    let a : Area = rows.area in
    let part : Area = record { x = a.x + rows.column; y = a.y; w = run.w; h = 1 } in
    let high : run.h ≡ 1 = ap (λ (r : Area). r.h) is.place in
    let count : length front ≡ 4 * run.w = long ∙ ap (λ n. 4 * (run.w * n)) high ∙ omega arith in
    let same : shows_run part front d.shown ≡ shows_run run front d.shown = ap (λ (r : Area). shows_run r front d.shown) (sym is.place) in
    ap (pixels_behind rows.behind d) (onto_part a rows.column run.w d.shown front later rows.high is.inside count)
    ∙ ap (λ (s : Shown). pixels_behind rows.behind d (pixels_onto a (rows.column + run.w) s later)) same
    ∙ same_behind rows.behind d (shows_run run front d.shown) (pixels_onto a (rows.column + run.w) (shows_run run front d.shown) later)

-- behind the last part of a row
pub last_run : (rows : PixelRows) (run : Area) (after : Stage) → IsRowPart rows run → rows.column + run.w ≡ rows.area.w
    → ((d : Display) (bytes : List ℕ) → rest_of after d bytes ≡ pixels_rest (rows_below rows.area run.h) rows.behind d bytes)
    → (front : List ℕ) → length front ≡ 4 * (run.w * run.h) → GoesOnAs (stage.Pixels rows) front (λ shown. shows_run run front shown) after
last_run rows run after is whole next front long d later =
    let a : Area = rows.area in
    let part : Area = record { x = a.x + rows.column; y = a.y; w = run.w; h = 1 } in
    let high : run.h ≡ 1 = ap (λ (r : Area). r.h) is.place in
    let count : length front ≡ 4 * run.w = long ∙ ap (λ n. 4 * (run.w * n)) high ∙ omega arith in
    let same : shows_run part front d.shown ≡ shows_run run front d.shown = ap (λ (r : Area). shows_run r front d.shown) (sym is.place) in
    ap (pixels_behind rows.behind d) (onto_part a rows.column run.w d.shown front later rows.high is.inside count)
    ∙ ap (λ (s : Shown). pixels_behind rows.behind d (pixels_onto a (rows.column + run.w) s later)) same
    ∙ ap (λ c. pixels_behind rows.behind d (pixels_onto a c (shows_run run front d.shown) later)) whole
    ∙ ap (pixels_behind rows.behind d) (onto_end a (shows_run run front d.shown) later rows.high)
    ∙ same_behind rows.behind d (shows_run run front d.shown) (pixels_onto (rows_below a 1) 0 (shows_run run front d.shown) later)
    ∙ ap (λ n. pixels_rest (rows_below a n) rows.behind (record d { shown = shows_run run front d.shown }) later) (sym high)
    ∙ sym (next (record d { shown = shows_run run front d.shown }) later)

-- ---- where pixels begin

-- an area without places has no pixels
pub no_pixels : (a : Area) (b : Behind) (d : Display) (bytes : List ℕ) → (a.w ≡ 0) ⊎ (a.h ≡ 0) → pixels_behind b d (Some (d.shown, bytes)) ≡ pixels_rest a b d bytes
unfolding pixels_at
no_pixels a b d bytes empty =
    ap (λ (s : Shown). pixels_behind b d (pair s bytes)) (sym (none_over a 0 [] d.shown empty))
    ∙ ap (λ (n : ℕ). pixels_behind b d (pixels_at server_format n bytes >>= λ (p : List ℕ × List ℕ). pair (over a 0 p.0 d.shown) p.1)) (sym none)
  where
    none : a.w * a.h - 0 ≡ 0
    none = elim empty [
      | inl e ↦ let zero_rows : a.w * a.h ≡ 0 = ap (λ n. n * a.h) e ∙ zero-mul a.h in omega (arith, zero_rows)
      | inr e ↦ let zero_rows : a.w * a.h ≡ 0 = ap (λ n. a.w * n) e ∙ mul_comm a.w 0 ∙ zero-mul a.w in omega (arith, zero_rows)
    ]

-- Raw is all pixels of its area
pub raw_begins : (a : Area) (shown : Shown) (bytes : List ℕ) → pixels_onto a 0 shown bytes ≡ written server_format a shown (raw_at server_format a.w a.h bytes)
raw_begins a shown bytes =
    ap (λ (n : ℕ). pixels_at server_format n bytes >>= λ (p : List ℕ × List ℕ). pair (over a 0 p.0 shown) p.1) (let e : a.w * a.h - 0 ≡ a.w * a.h = omega arith in e)
    ∙ by (pixels_at server_format (a.w * a.h) bytes)
  where
    by : (o : Option (List ℕ × List ℕ)) → (o >>= λ (p : List ℕ × List ℕ). pair (over a 0 p.0 shown) p.1)
        ≡ written server_format a shown (o >>= λ (p : List ℕ × List ℕ). Some (row_by_row a.w p.0, p.1))
    by None = refl
    by (Some p) = ap (λ (s : Shown). pair s p.1) (sym (all_over a p.0 shown))

-- ---- one pixel

-- a run of one place
pub pixel_turn : (size : Size) (rows : PixelRows) (run : Area) (after : Stage) (bytes : List ℕ) (pixel : ℕ) → length bytes ≡ 4 → run.w ≡ 1 → run.h ≡ 1 → pixel ≡ pixel_in bytes 0
    → GoesOnAs (stage.Pixels rows) bytes (λ shown. shows_run run bytes shown) after
    → IsTurn (state_at size (stage.Pixels rows)) bytes (record { state = state_at size after; step = step.Fill run pixel })
pixel_turn size rows run after bytes pixel long wide high is goes =
    turn_by size (stage.Pixels rows) after bytes (step.Fill run pixel)
    (λ shown colours later. goes (display size shown colours) later ∙ ap (λ (s : Shown). rest_of after (display size s colours) later) (one shown))
  where
    one : (shown : Shown) → shows_run run bytes shown ≡ filled run pixel shown
    one shown = fun_ext (λ x. fun_ext (λ y. same_patched server_format run (rows_in run.w bytes) (λ i j. pixel) shown (λ i j left top. at i j left top) x y))
      where
        at : (i j : ℕ) → i < run.w → j < run.h → rows_in run.w bytes i j ≡ pixel
        at i j left top =
            let none : j ≡ 0 = omega (arith, top, high) in
            let no_rows : j * run.w ≡ 0 = ap (λ n. n * run.w) none ∙ zero-mul run.w in
            let zero_place : 4 * (j * run.w + i) ≡ 0 = omega (arith, no_rows, left, wide) in
            ap (pixel_in bytes) zero_place ∙ sym is

-- a run of at most one place has one column and one row
pub one_wide : (w h : ℕ) → 0 < w * h → w * h ≤ 1 → w ≡ 1
one_wide zero h some few = absurd (let none : zero * h ≡ 0 = zero-mul h in omega (arith, some, none))
one_wide (suc zero) h some few = refl
one_wide (suc (suc w)) zero some few = absurd (let none : suc (suc w) * 0 ≡ 0 = mul_comm (suc (suc w)) 0 ∙ zero-mul (suc (suc w)) in omega (arith, some, none))
one_wide (suc (suc w)) (suc h) some few = absurd (let more : 2 * 1 ≤ suc (suc w) * suc h = mul-le 2 1 (suc (suc w)) (suc h) (omega arith) (omega arith) in omega (arith, more, few))

pub one_high : (w h : ℕ) → 0 < w * h → w * h ≤ 1 → h ≡ 1
one_high w h some few = one_wide h w (omega (arith, some, mul_comm w h)) (omega (arith, few, mul_comm w h))

-- whole rows end at the last column
pub wide_rows : (rows : PixelRows) (run : Area) → IsWholeRows rows run → rows.column + run.w ≡ rows.area.w
wide_rows rows run whole = let wide : run.w ≡ rows.area.w = ap (λ (r : Area). r.w) whole.place in omega (arith, whole.begun, wide)
