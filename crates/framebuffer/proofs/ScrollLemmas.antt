-- Moves of whole rows.
use Rattle.std.proofs.Common.{◌≡◌, ℕ, ℤ, pos, ◌+◌, ◌-◌, ◌*◌, ◌<◌, ◌≤◌, true, false, cond, ◌&&◌, ◌||◌, List, [], ◌∷◌, ◌++◌, length, get_or, take, drop, map, All, sym, ap, ◌∙◌, arith, rules, inl, inr, mul_comm, length-append}
use Rattle.std.specs.Prelude.{◌-ℤ◌, nat_abs, nat_le, nat_lt}
use Rattle.std.proofs.Math.Nat.{mul-le-mul_right}
use Rattle.std.proofs.lemmas.Bool.Decides.{nat_tests, leb_tells}
use Rattle.std.proofs.lemmas.Int.{ints}
use Rattle.std.proofs.lemmas.List.{places, length-take-le, length-drop, length-map}
use Rattle.std.specs.List.{take-map, drop-map}
use Rattle.std.proofs.lemmas.List.Elements.{All-drop}
use Rattle.region.specs.declared.Rect.{Rect}
use Rattle.region.specs.Region.{in_rect, covers, on_screen}
use Rattle.region.specs.Places.{IsOnScreen, source_rect}
use Rattle.region.specs.PlaceLemmas.{number}
use Rattle.framebuffer.specs.declared.blocks.Block.{Block}
use Rattle.framebuffer.specs.declared.rows.Row.{Row}
use Rattle.framebuffer.specs.Blocks.{block_rect}
use Rattle.framebuffer.specs.Picture.{colour_at, moved_colours}
use Rattle.framebuffer.specs.Moves.{colour_moved, rows_copied}
use Rattle.framebuffer.specs.Rows.{row_colours, colours_of_rows, IsOfWidth}
use Rattle.framebuffer.specs.PictureLemmas.{moved_is}
use Rattle.framebuffer.proofs.RowLemmas.{copied, flat_same, flat_put, flat_take, flat_drop}
use borrow.Rule.Slice.PartMut.{put_mid}

by_lt : {P : Type 0} (a b : ℕ) → (a < b → P) → (b ≤ a → P) → P
by_lt a b less not_less = elim (leb_tells b a) [ inl h ↦ not_less h.1 | inr h ↦ less h.1 ]

-- a rectangle's rows are all of a picture's from a to before b, and their sources start in row s
pub record AreRowsOf (w h : ℕ) (r : Rect) (by : ℤ × ℤ) (a b s : ℕ) : Type 0 where
  pub left : r.x1 ≡ pos 0
  pub right : r.x2 ≡ pos w
  pub top : r.y1 ≡ pos a
  pub bottom : r.y2 ≡ pos b
  pub upright : by.0 ≡ pos 0
  pub source : r.y1 -ℤ by.1 ≡ pos s
  pub some : a < b
  pub high : b ≤ h
  pub source_high : s + (b - a) ≤ h

pub rows_of : (w h : ℕ) (r : Rect) (by : ℤ × ℤ) → IsOnScreen w h r → IsOnScreen w h (source_rect by r) → r.x1 ≡ pos 0 → r.x2 ≡ pos w → by.0 ≡ pos 0 → AreRowsOf w h r by (nat_abs r.y1) (nat_abs r.y2) (nat_abs (r.y1 -ℤ by.1))
rows_of w h r by inside source left right upright = record {
  left = left;
  right = right;
  top = sym (number r.y1 inside.top);
  bottom = sym (number r.y2 (omega (arith, ints, inside.top, inside.rows)));
  upright = upright;
  source = sym (number (r.y1 -ℤ by.1) source.top);
  some = omega (arith, ints, inside.top, inside.rows);
  high = omega (arith, ints, inside.top, inside.rows, inside.bottom);
  source_high = omega (arith, ints, inside.top, inside.rows, source.top, source.bottom);
}

module _ (w h : ℕ) (r : Rect) (by : ℤ × ℤ) (a b s : ℕ) (old : List ℕ) (some : 0 < w) (size : length old ≡ w * h) (are : AreRowsOf w h r by a b s) where
  covered : (y x : ℕ) → x < w → covers (r ∷ []) (pos x) (pos y) ≡ (nat_le a y && nat_lt y b)
  covered y x left = rw (are.left, are.right, are.top, are.bottom) (same left)
    where
      same : x < w → (in_rect (record { x1 = pos 0; y1 = pos a; x2 = pos w; y2 = pos b }) (pos x) (pos y) || false) ≡ (nat_le a y && nat_lt y b)
      same left = grind (arith, nat_tests)

  fits_to : a * w + (b - a) * w ≤ length old
  fits_to =
      let high = are.high in
      let below = are.some in
      let up : (a + (b - a)) * w ≤ h * w = mul-le-mul_right w (omega arith) in
      omega (arith, up, size, mul_comm w h)

  fits_from : s * w + (b - a) * w ≤ length old
  fits_from =
      let high = are.source_high in
      let up : (s + (b - a)) * w ≤ h * w = mul-le-mul_right w high in
      omega (arith, up, size, mul_comm w h)

  part_size : length (take ((b - a) * w) (drop (s * w) old)) ≡ (b - a) * w
  part_size = length-take-le ((b - a) * w) (drop (s * w) old) (omega (arith, length-drop (s * w) old, fits_from))

  part_at : (j : ℕ) → j < (b - a) * w → get_or (take ((b - a) * w) (drop (s * w) old)) j 0 ≡ get_or old (s * w + j) 0
  part_at j below = at ((b - a) * w) (s * w) below
    where
      at : (m t : ℕ) → j < m → get_or (take m (drop t old)) j 0 ≡ get_or old (t + j) 0
      at m t below = search (rules, places)

  -- the colour of a place whose row is moved
  source_colour : (y x : ℕ) → x < w → a ≤ y → y < b → colour_at w h old (pos x -ℤ by.0) (pos y -ℤ by.1) ≡ get_or old (s * w + (y * w + x - a * w)) 0
  source_colour y x left above below =
      let up = are.upright in
      let top = are.top in
      let first = are.source in
      let high = are.source_high in
      let column : pos x -ℤ by.0 ≡ pos x = omega (arith, ints, up) in
      let row : pos y -ℤ by.1 ≡ pos (s + (y - a)) = omega (arith, ints, top, first, above) in
      let parts : y ≡ a + (y - a) = omega arith in
      let e : y * w ≡ a * w + (y - a) * w = ap (λ k. k * w) parts ∙ omega arith in
      ap (λ z. colour_at w h old z (pos y -ℤ by.1)) column
      ∙ ap (λ z. colour_at w h old (pos x) z) row
      ∙ ap (λ v. cond v (get_or old ((s + (y - a)) * w + x) 0) 0) (on_it (s + (y - a)) (omega arith))
      ∙ ap (λ k. get_or old k 0) (let g : (s + (y - a)) * w + x ≡ s * w + (y * w + x - a * w) = omega (arith, e) in g)
    where
      on_it : (t : ℕ) → t < h → on_screen w h (pos x) (pos t) ≡ true
      on_it t high = grind (arith, nat_tests, left)

  abbrev now : List ℕ
  now = rows_copied w s a (b - a) old

  each : (k : ℕ) → get_or now k 0 ≡ cond (nat_le (a * w) k && nat_lt k (a * w + (b - a) * w)) (get_or old (s * w + (k - a * w)) 0) (get_or old k 0)
  each k =
      ap (λ m. get_or (take (a * w) old ++ (take ((b - a) * w) (drop (s * w) old) ++ drop m (drop (a * w) old))) k 0) (sym part_size)
      ∙ copied old (take ((b - a) * w) (drop (s * w) old)) (a * w) (s * w) ((b - a) * w) k part_size fits_to part_at

  place_moved : (y x : ℕ) → y < h → x < w → get_or now (y * w + x) 0 ≡ colour_moved w h (r ∷ []) by (λ row. true) old y x
  place_moved y x high left =
      each (y * w + x)
      ∙ by_lt y a
      (λ above. let up : (y + 1) * w ≤ a * w = mul-le-mul_right w (omega arith) in stays (outside (a * w) ((b - a) * w) (y * w + x) (λ from. absurd (omega (arith, up, left)))) (none_above above))
      (λ from. by_lt y b
      (λ below. let up : a * w ≤ y * w = mul-le-mul_right w from in
      let to : (y + 1) * w ≤ (a + (b - a)) * w = mul-le-mul_right w (omega arith) in
      ap (λ t. cond t (get_or old (s * w + (y * w + x - a * w)) 0) (get_or old (y * w + x) 0)) (within (a * w) ((b - a) * w) (y * w + x) (omega (arith, up)) (omega (arith, to, left)))
      ∙ sym (source_colour y x left from below)
      ∙ sym (ap (λ t. cond t (colour_at w h old (pos x -ℤ by.0) (pos y -ℤ by.1)) (get_or old (y * w + x) 0)) (covered y x left ∙ these from below)))
      (λ past. let some_rows = are.some in
      let up : (a + (b - a)) * w ≤ y * w = mul-le-mul_right w (omega arith) in stays (outside (a * w) ((b - a) * w) (y * w + x) (λ in_front. omega (arith, up))) (none_below past)))
    where
      outside : (t m k : ℕ) → (t ≤ k → t + m ≤ k) → (nat_le t k && nat_lt k (t + m)) ≡ false
      outside t m k past = by_lt k t (λ less. before t m k less) (λ more. behind t m k (past more))
        where
          before : (t m k : ℕ) → k < t → (nat_le t k && nat_lt k (t + m)) ≡ false
          before t m k less = grind (arith, nat_tests)

          behind : (t m k : ℕ) → t + m ≤ k → (nat_le t k && nat_lt k (t + m)) ≡ false
          behind t m k more = grind (arith, nat_tests)

      within : (t m k : ℕ) → t ≤ k → k < t + m → (nat_le t k && nat_lt k (t + m)) ≡ true
      within t m k from to = grind (arith, nat_tests)

      none_above : y < a → (nat_le a y && nat_lt y b) ≡ false
      none_above above = grind (arith, nat_tests)

      none_below : b ≤ y → (nat_le a y && nat_lt y b) ≡ false
      none_below past = grind (arith, nat_tests)

      these : a ≤ y → y < b → (nat_le a y && nat_lt y b) ≡ true
      these from below = grind (arith, nat_tests)

      stays : (nat_le (a * w) (y * w + x) && nat_lt (y * w + x) (a * w + (b - a) * w)) ≡ false → (nat_le a y && nat_lt y b) ≡ false
          → cond (nat_le (a * w) (y * w + x) && nat_lt (y * w + x) (a * w + (b - a) * w)) (get_or old (s * w + (y * w + x - a * w)) 0) (get_or old (y * w + x) 0) ≡ colour_moved w h (r ∷ []) by (λ row. true) old y x
      stays out none =
          ap (λ t. cond t (get_or old (s * w + (y * w + x - a * w)) 0) (get_or old (y * w + x) 0)) out
          ∙ sym (ap (λ t. cond t (colour_at w h old (pos x -ℤ by.0) (pos y -ℤ by.1)) (get_or old (y * w + x) 0)) (covered y x left ∙ none))

  now_size : length now ≡ length old
  now_size =
      length-append (take (a * w) old) (take ((b - a) * w) (drop (s * w) old) ++ drop ((b - a) * w) (drop (a * w) old))
      ∙ omega (arith, length-append (take ((b - a) * w) (drop (s * w) old)) (drop ((b - a) * w) (drop (a * w) old)), length-take-le (a * w) old (omega (arith, fits_to)), part_size, length-drop ((b - a) * w) (drop (a * w) old), length-drop (a * w) old, fits_to)

  -- rows that were copied have moved
  pub rows_moved : rows_copied w s a (b - a) old ≡ moved_colours w h (covers (r ∷ [])) by old
  rows_moved = moved_is w h (r ∷ []) by old now some size now_size place_moved

-- rows with the colours of others are put in the place of as many
pub rows_shared : (w : ℕ) (old mid others : List Row) (from to count : ℕ) → All (IsOfWidth w) old → from + count ≤ length old → to + count ≤ length old → map row_colours mid ≡ map row_colours old → map row_colours others ≡ take count (drop from (map row_colours old))
    → All (IsOfWidth w) mid → length others ≡ count
    → colours_of_rows (take to mid ++ (others ++ drop (to + length others) mid)) ≡ rows_copied w from to count (colours_of_rows old)
rows_shared w old mid others from to count long fits_from fits_to same are wide size =
    let these = take count (drop from old) in
    let is : map row_colours others ≡ map row_colours these = are ∙ ap (take count) (drop-map row_colours from old) ∙ take-map row_colours count (drop from old) in
    let many : length mid ≡ length old = sym (length-map mid row_colours) ∙ ap length same ∙ length-map old row_colours in
    flat_put row_colours w mid others to wide (omega (arith, size, many, fits_to))
    ∙ ap (λ l. put_mid (to * w) (length others * w) l (colours_of_rows others)) (flat_same row_colours w mid old same)
    ∙ ap (λ n. put_mid (to * w) (n * w) (colours_of_rows old) (colours_of_rows others)) size
    ∙ ap (put_mid (to * w) (count * w) (colours_of_rows old))
    (flat_same row_colours w others these is
    ∙ flat_take row_colours w (drop from old) count (All-drop (IsOfWidth w) from old long) (omega (arith, length-drop from old, fits_from))
    ∙ ap (take (count * w)) (flat_drop row_colours w old from long (omega (arith, fits_from))))

-- so are they for a rectangle and its block
pub scroll_moves : (w h s : ℕ) (r : Rect) (b : Block) (by : ℤ × ℤ) (old : List ℕ) → 0 < w → length old ≡ w * h → IsOnScreen w h r → IsOnScreen w h (source_rect by r) → r.x1 ≡ pos 0 → r.x2 ≡ pos w → by.0 ≡ pos 0
    → r ≡ block_rect b → s ≡ nat_abs (r.y1 -ℤ by.1) → rows_copied w s b.top b.rows old ≡ moved_colours w h (covers (r ∷ [])) by old
scroll_moves w h s r b by old some size inside source left right upright is from =
    let top : nat_abs r.y1 ≡ b.top = ap (λ (q : Rect). nat_abs q.y1) is in
    let bottom : nat_abs r.y2 ≡ b.top + b.rows = ap (λ (q : Rect). nat_abs q.y2) is in
    ap (λ n. rows_copied w n b.top b.rows old) from
    ∙ ap (λ n. rows_copied w (nat_abs (r.y1 -ℤ by.1)) n b.rows old) (sym top)
    ∙ ap (λ n. rows_copied w (nat_abs (r.y1 -ℤ by.1)) (nat_abs r.y1) n old) (let e : b.rows ≡ nat_abs r.y2 - nat_abs r.y1 = omega (arith, top, bottom) in e)
    ∙ rows_moved w h r by (nat_abs r.y1) (nat_abs r.y2) (nat_abs (r.y1 -ℤ by.1)) old some size (rows_of w h r by inside source left right upright)
