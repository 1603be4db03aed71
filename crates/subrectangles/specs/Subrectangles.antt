-- The background of a rectangle and its subrectangles, of RFC 6143 section 7.7.3. A pixel is a number, and a
-- rectangle the list of its rows.
use Rattle.std.specs.Prelude.{◌≡◌, ◌≢◌, ◌↔◌, ℕ, zero, suc, ◌+◌, ◌<◌, ◌≤◌, Bool, ◌&&◌, ◌||◌, not, ◌==◌, nat_lt, if◌then◌else◌, List, [], ◌∷◌, length, take, drop, map, flat_map, filter, count_by, ◌-◌, slice_index, slice_index_or, Contains, AllPairs, ◌⊎◌}
use Rattle.std.specs.List.{prefix_len, range_with_len}
use Rattle.subrectangles.specs.declared.Subrectangle.{Subrectangle}
use Rattle.subrectangles.specs.declared.scan.Run.{Run}

-- the rows of a rectangle whose pixels stand row by row, each of w pixels
unfoldable pub rows_of : ℕ → ℕ → List ℕ → List (List ℕ)
rows_of w zero pixels = []
rows_of w (suc h) pixels = take w pixels ∷ rows_of w h (drop w pixels)

-- how often a pixel stands there
abbrev pub times : ℕ → List ℕ → ℕ
times p pixels = count_by (λ q. q == p) pixels

-- 7.7.3: the background is the most frequent pixel, of several the smallest
pub record IsBackground (pixels : List ℕ) (b : ℕ) : Type 0 where
  pub stands_there : 0 < times b pixels
  pub most_frequent : (p : ℕ) → times p pixels ≤ times b pixels
  pub smallest : (p : ℕ) → times p pixels ≡ times b pixels → b ≤ p

-- 7.7.3: the better background of two pixels
abbrev pub better : (pixels : List ℕ) → (one other : ℕ) → ℕ
better pixels p q = if nat_lt (times q pixels) (times p pixels) || ((times p pixels == times q pixels) && nat_lt p q) then p else q

-- the best of a pixel and those of a list
abbrev pub best : List ℕ → ℕ → List ℕ → ℕ
best pixels p [] = p
best pixels p (q ∷ qs) = better pixels p (best pixels q qs)

abbrev pub background_of : List ℕ → ℕ
background_of [] = 0
background_of (p ∷ ps) = best (p ∷ ps) p ps

abbrev pub run_of : Subrectangle → Run
run_of s = record { x = s.x; w = s.w; pixel = s.pixel }

-- the row at y, and its pixel at x
abbrev pub row_at : List (List ℕ) → ℕ → List ℕ
row_at rows y = slice_index_or rows y []

abbrev pub pixel_in : (rows : List (List ℕ)) → (x y : ℕ) → ℕ
pixel_in rows x y = slice_index (row_at rows y) x

-- row y has the run: its pixels are one, and those beside it are others
pub record HasRun (rows : List (List ℕ)) (y : ℕ) (r : Run) : Type 0 where
  pub row : y < length rows
  pub some : 0 < r.w
  pub inside : r.x + r.w ≤ length (row_at rows y)
  pub same : (x : ℕ) → r.x ≤ x → x < r.x + r.w → pixel_in rows x y ≡ r.pixel
  pub left : (x : ℕ) → x + 1 ≡ r.x → pixel_in rows x y ≢ r.pixel
  pub right : r.x + r.w < length (row_at rows y) → pixel_in rows (r.x + r.w) y ≢ r.pixel

-- 7.7.3: a subrectangle over the background b: a run that the rows from y to y + h - 1 have, and not the rows beside them
pub record IsSubrectangle (rows : List (List ℕ)) (b : ℕ) (s : Subrectangle) : Type 0 where
  pub high : 0 < s.h
  pub other : s.pixel ≢ b
  pub rows_have : (y : ℕ) → s.y ≤ y → y < s.y + s.h → HasRun rows y (run_of s)
  pub above : (y : ℕ) → y + 1 ≡ s.y → HasRun rows y (run_of s) → ⊥
  pub below : HasRun rows (s.y + s.h) (run_of s) → ⊥

-- ---- the same, as a list that computes: at each place, the subrectangle that begins there

-- how many pixels are the same from x on
abbrev pub stretch : (row : List ℕ) → (x : ℕ) → ℕ
stretch row x = prefix_len (λ p. p == slice_index row x) (drop x row)

-- a run begins at x: a pixel stands there, and none or another before it
abbrev pub begins_run : List ℕ → ℕ → Bool
begins_run row x = nat_lt x (length row) && ((x == 0) || not (slice_index row (x - 1) == slice_index row x))

abbrev pub has_run : Run → List ℕ → Bool
has_run r row = begins_run row r.x && (slice_index row r.x == r.pixel) && (stretch row r.x == r.w)

abbrev pub run_at : List ℕ → ℕ → Run
run_at row x = record { x = x; w = stretch row x; pixel = slice_index row x }

-- the row above has the run too
abbrev pub is_above : List (List ℕ) → ℕ → Run → Bool
is_above rows y r = nat_lt 0 y && has_run r (row_at rows (y - 1))

-- a subrectangle begins at (x, y) where a run does that is not of the background and not in the row above
abbrev pub begins_subrectangle : ℕ → List (List ℕ) → ℕ → ℕ → Bool
begins_subrectangle b rows y x =
    begins_run (row_at rows y) x && not (pixel_in rows x y == b) && not (is_above rows y (run_at (row_at rows y) x))

-- it goes on as long as the rows have that run
abbrev pub subrectangle_from : List (List ℕ) → ℕ → ℕ → Subrectangle
subrectangle_from rows y x =
    let r = run_at (row_at rows y) x in
    record { x = x; y = y; w = r.w; h = prefix_len (has_run r) (drop y rows); pixel = r.pixel }

-- the subrectangles that begin in a row, by x; all of them, by y and then by x
abbrev pub subrectangles_in : ℕ → List (List ℕ) → ℕ → List Subrectangle
subrectangles_in b rows y = map (subrectangle_from rows y) (filter (begins_subrectangle b rows y) (range_with_len 0 (length (row_at rows y))))

abbrev pub subrectangles : ℕ → List (List ℕ) → List Subrectangle
subrectangles b rows = flat_map (subrectangles_in b rows) (range_with_len 0 (length rows))

-- ---- that both are one

-- by y, then by x
abbrev pub IsBefore : Subrectangle → Subrectangle → Type 0
IsBefore s t = (s.y < t.y) ⊎ ((s.y ≡ t.y) × (s.x < t.x))

-- the list has the subrectangles and nothing else
abbrev pub ListsTheSubrectangles : Type 0
ListsTheSubrectangles = (rows : List (List ℕ)) (b : ℕ) (s : Subrectangle) → Contains (subrectangles b rows) s ↔ IsSubrectangle rows b s

-- and has them in order, so each once
abbrev pub ListsInOrder : Type 0
ListsInOrder = (rows : List (List ℕ)) (b : ℕ) → AllPairs IsBefore (subrectangles b rows)

abbrev pub FindsTheBackground : Type 0
FindsTheBackground = (pixels : List ℕ) → 0 < length pixels → IsBackground pixels (background_of pixels)
