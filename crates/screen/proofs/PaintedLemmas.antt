-- Rectangles of a source that are painted on a picture.
use Rattle.std.proofs.Common.{◌≡◌, ℕ, zero, suc, ◌+◌, ◌-◌, ◌*◌, ◌/◌, ◌%◌, ◌^◌, ◌<◌, ◌≤◌, true, false, cond, List, [], ◌∷◌, length, map, take, drop, get_or, slice_index, None, refl, sym, ◌∙◌, ap, ⊎_elim, inl, inr, arith}
use Rattle.std.specs.Prelude.{◌⊎◌, All, min, pos, ◌-ℤ◌, nat_abs}
use Rattle.std.proofs.Math.Nat.{mod-eq_of_lt, mod-lt, mul_comm}
use Rattle.std.proofs.lemmas.Int.{ints}
use Rattle.std.proofs.lemmas.Bool.{and_parts, and_from, ltb-true, leb-true, lt-ltb, le-leb, cases_Bool, both_ways, false_from_ne_true}
use Rattle.std.proofs.lemmas.Nat.{mul-le, mul-add-lt, div-mul-add, mod-mul-add}
use Rattle.std.proofs.lemmas.List.{get_or-take, get_or-drop, length-take, length-drop}
use Rattle.std.proofs.lemmas.List.FromFn.{fill_by_all, length-map-range_with_len, get_or-map-range_with_len}
use Rattle.std.specs.List.{range_with_len}
use Rattle.region.specs.Region.{in_rect, on_screen}
use Rattle.region.specs.Places.{longest_side}
use Rattle.region.specs.PlaceLemmas.{row_below, on_screen-number, at_place-number, by_place-numbers, value_on}
use Rattle.framebuffer.specs.Frame.{Frame, IsPicture}
use Rattle.framebuffer.specs.Picture.{written, colour_at, colour_in}
use Rattle.source_pixels.specs.declared.bands.Band.{Band}
use Rattle.source_pixels.specs.declared.pieces.Piece.{Piece}
use Rattle.source_pixels.specs.declared.pieces.Differences.{Differences}
use Rattle.source_pixels.specs.Parts.{Part}
use Rattle.source_pixels.specs.Source.{Source, source_refusal}
use Rattle.source_pixels.specs.Source as source
use Rattle.source_pixels.specs.SourceLemmas.{colour_small}
use Rattle.source_pixels.specs.Differences.{is_in_piece, columns_beside, rows_beside, row_beside, IsPiece, AreDifferences}
use Rattle.source_pixels.specs.Gathering.{AreGathered}
use Rattle.source_pixels.specs.GatheredLemmas.{gathered_beside}
use Rattle.screen.specs.Taken.{rect_at, taken, part_from, piece_rect, painted, colour_on}

-- ---- places of a rectangle

pub record IsInside (left top columns rows x y : ℕ) : Type 0 where
  pub left_in : left ≤ x
  pub right_in : x < left + columns
  pub top_in : top ≤ y
  pub bottom_in : y < top + rows

pub rect_inside : (left top columns rows x y : ℕ) → in_rect (rect_at left top columns rows) (pos x) (pos y) ≡ true → IsInside left top columns rows x y
rect_inside left top columns rows x y e =
    let parts = and_parts _ _ e in
    let first = and_parts _ _ parts.0 in
    let second = and_parts _ _ first.0 in
    record { left_in = leb-true _ _ second.0; right_in = ltb-true _ _ second.1; top_in = leb-true _ _ first.1; bottom_in = ltb-true _ _ parts.1 }

pub inside_rect : (left top columns rows x y : ℕ) → IsInside left top columns rows x y → in_rect (rect_at left top columns rows) (pos x) (pos y) ≡ true
inside_rect left top columns rows x y h =
    and_from _ _ (and_from _ _ (and_from _ _ (le-leb left x h.left_in) (lt-ltb x (left + columns) h.right_in)) (le-leb top y h.top_in)) (lt-ltb y (top + rows) h.bottom_in)

distance : (a b : ℕ) → a ≤ b → nat_abs (pos b -ℤ pos a) ≡ b - a
distance a b h = omega (arith, ints)

-- the colour of a piece's place is the source's
piece_colour : (s : Source) (p : Part) (left top : ℕ) (q : Piece) → source_refusal s ≡ None → IsPiece s p q → (x y : ℕ) → IsInside (left + q.left) (top + q.top) q.columns q.rows x y
    → colour_in (piece_rect left top q) q.colours (pos x) (pos y) % 2 ^ 24 ≡ source.colour_at s (x - left) (y - top)
piece_colour s p left top q accepted h x y inside =
    let a = inside.left_in in let b = inside.right_in in let c = inside.top_in in let d = inside.bottom_in in
    let i : ℕ = x - (left + q.left) in
    let j : ℕ = y - (top + q.top) in
    let narrow : i < q.columns = omega arith in
    let low : j < q.rows = omega arith in
    let columns : nat_abs (pos (left + q.left + q.columns) -ℤ pos (left + q.left)) ≡ q.columns = distance (left + q.left) (left + q.left + q.columns) (omega arith) ∙ omega arith in
    let index : nat_abs (pos y -ℤ pos (top + q.top)) * nat_abs (pos (left + q.left + q.columns) -ℤ pos (left + q.left)) + nat_abs (pos x -ℤ pos (left + q.left)) ≡ j * q.columns + i =
    ap (λ n. n * nat_abs (pos (left + q.left + q.columns) -ℤ pos (left + q.left)) + nat_abs (pos x -ℤ pos (left + q.left))) (distance (top + q.top) y c)
    ∙ ap (λ n. j * n + nat_abs (pos x -ℤ pos (left + q.left))) columns
    ∙ ap (λ n. j * q.columns + n) (distance (left + q.left) x a) in
    ap (λ n. get_or q.colours n 0 % 2 ^ 24) index
    ∙ ap (λ (l : List ℕ). get_or l (j * q.columns + i) 0 % 2 ^ 24) h.colours
    ∙ ap (λ n. n % 2 ^ 24) (get_or-map-range_with_len (λ k. source.colour_at s (q.left + k % q.columns) (q.top + k / q.columns)) 0 (q.rows * q.columns) (j * q.columns + i) (j * q.columns + i) 0
    (let e = mul_comm q.columns q.rows in let m = mul-add-lt j q.columns i q.rows low narrow in omega arith) (omega arith))
    ∙ mod-eq_of_lt (colour_small s accepted (q.left + (j * q.columns + i) % q.columns) (q.top + (j * q.columns + i) / q.columns))
    ∙ ap (λ n. source.colour_at s (q.left + n) (q.top + (j * q.columns + i) / q.columns)) (mod-mul-add j q.columns i narrow)
    ∙ ap (λ n. source.colour_at s (q.left + i) (q.top + n)) (div-mul-add j q.columns i narrow)
    ∙ ap (λ n. source.colour_at s n (q.top + j)) (let e : q.left + i ≡ x - left = omega arith in e)
    ∙ ap (λ n. source.colour_at s (x - left) n) (let e : q.top + j ≡ y - top = omega arith in e)

-- ---- what is painted, by place

-- a place has the source's colour
pub record HasSource (s : Source) (left top x y colour : ℕ) : Type 0 where
  pub right_of : left ≤ x
  pub below : top ≤ y
  pub in_columns : x - left < s.width
  pub in_rows : y - top < s.height
  pub is : colour ≡ source.colour_at s (x - left) (y - top)

-- or it is as it was, and in none of the pieces
pub record IsKept (left top : ℕ) (qs : List Piece) (x y was colour : ℕ) : Type 0 where
  pub out : All (λ q. in_rect (piece_rect left top q) (pos x) (pos y) ≡ false) qs
  pub is : colour ≡ was

all_cons : {X : Type 0} (P : X → Type 0) (x : X) (xs : List X) → P x → All P xs → All P (x ∷ xs)
all_cons P x xs here rest zero d below = here
all_cons P x xs here rest (suc k) d below = rest k d (omega arith)

abbrev paint_one : Frame → ℕ → ℕ → Piece → Frame
paint_one f left top q = record f { colours = written f.width f.height (piece_rect left top q) q.colours f.colours }

-- a place of the picture behind one piece
one_at : (left top : ℕ) (q : Piece) (f : Frame) (x y : ℕ) → on_screen f.width f.height (pos x) (pos y) ≡ true
    → colour_on (paint_one f left top q) x y ≡ cond (in_rect (piece_rect left top q) (pos x) (pos y)) (colour_in (piece_rect left top q) q.colours (pos x) (pos y) % 2 ^ 24) (colour_on f x y)
one_at left top q f x y on =
    value_on 0 f.width f.height (λ x y. cond (in_rect (piece_rect left top q) x y) (colour_in (piece_rect left top q) q.colours x y % 2 ^ 24) (colour_at f.width f.height f.colours x y)) (pos x) (pos y) on

pub painted_at : (s : Source) (p : Part) (left top : ℕ) (qs : List Piece) (f : Frame) (x y : ℕ) → source_refusal s ≡ None → All (IsPiece s p) qs → on_screen f.width f.height (pos x) (pos y) ≡ true
    → HasSource s left top x y (colour_on (painted left top qs f) x y) ⊎ IsKept left top qs x y (colour_on f x y) (colour_on (painted left top qs f) x y)
painted_at s p left top [] f x y accepted pieces on = inr (record { out = λ k d below. absurd (omega arith); is = refl })
painted_at s p left top (q ∷ qs) f x y accepted pieces on =
    ⊎_elim inl
    (λ kept. ⊎_elim
    (λ covered.
    let inside = rect_inside (left + q.left) (top + q.top) q.columns q.rows x y covered in
    let first = pieces 0 q (omega arith) in
    let wide = first.wide in let high = first.high in
    let a = inside.left_in in let b = inside.right_in in let c = inside.top_in in let d = inside.bottom_in in
    inl (record {
      right_of = omega arith;
      below = omega arith;
      in_columns = omega arith;
      in_rows = omega arith;
      is = kept.is ∙ one_at left top q f x y on ∙ ap (λ t. cond t (colour_in (piece_rect left top q) q.colours (pos x) (pos y) % 2 ^ 24) (colour_on f x y)) covered ∙ piece_colour s p left top q accepted first x y inside;
    }))
    (λ outside. inr (record {
      out = all_cons (λ r. in_rect (piece_rect left top r) (pos x) (pos y) ≡ false) q qs outside kept.out;
      is = kept.is ∙ one_at left top q f x y on ∙ ap (λ t. cond t (colour_in (piece_rect left top q) q.colours (pos x) (pos y) % 2 ^ 24) (colour_on f x y)) outside;
    }))
    (cases_Bool (in_rect (piece_rect left top q) (pos x) (pos y))))
    (painted_at s p left top qs (paint_one f left top q) x y accepted (λ k d below. pieces (suc k) d (omega arith)) on)

-- ---- a picture into which the source is taken

pub painted_size : (left top : ℕ) (qs : List Piece) (f : Frame) → ((painted left top qs f).width ≡ f.width) × ((painted left top qs f).height ≡ f.height)
painted_size left top [] f = (refl, refl)
painted_size left top (q ∷ qs) f = painted_size left top qs (paint_one f left top q)

pub painted_long : (left top : ℕ) (qs : List Piece) (f : Frame) → length f.colours ≡ f.width * f.height → length (painted left top qs f).colours ≡ f.width * f.height
painted_long left top [] f long = long
painted_long left top (q ∷ qs) f long =
    painted_long left top qs (paint_one f left top q)
    (length-map-range_with_len (λ i. cond (in_rect (piece_rect left top q) (pos (i % f.width)) (pos (i / f.width))) (colour_in (piece_rect left top q) q.colours (pos (i % f.width)) (pos (i / f.width)) % 2 ^ 24)
    (colour_at f.width f.height f.colours (pos (i % f.width)) (pos (i / f.width)))) 0 (f.width * f.height))

-- a place on a picture has a number
colour_number : (f : Frame) (x y : ℕ) → on_screen f.width f.height (pos x) (pos y) ≡ true → colour_on f x y ≡ get_or f.colours (y * f.width + x) 0
colour_number f x y on = ap (λ b. cond b (get_or f.colours (y * f.width + x) 0) 0) on

-- the row of a picture beside a source's row
pub beside_long : (s : Source) (f : Frame) (left top j : ℕ) → IsPicture f → top + j < f.height → length (row_beside s (part_from f left top) j) ≡ columns_beside s (part_from f left top)
beside_long s f left top j picture below =
    let places = picture.places in let few = picture.columns in
    let m = mul-le (top + j + 1) f.width f.height f.width (omega arith) (omega arith) in
    let more : (top + j + 1) * f.width ≡ (top + j) * f.width + f.width = omega arith in
    let e = mul_comm f.height f.width in
    let a = length-drop ((top + j) * f.width) f.colours in
    let b = length-take f.width (drop ((top + j) * f.width) f.colours) in
    let c = length-drop left (take f.width (drop ((top + j) * f.width) f.colours)) in
    let d = length-take (columns_beside s (part_from f left top)) (drop left (take f.width (drop ((top + j) * f.width) f.colours))) in
    omega arith

beside_colour : (s : Source) (f : Frame) (left top x y : ℕ) → left ≤ x → top ≤ y → x < f.width → x - left < columns_beside s (part_from f left top)
    → slice_index (row_beside s (part_from f left top) (y - top)) (x - left) ≡ get_or f.colours (y * f.width + x) 0
beside_colour s f left top x y right low wide narrow =
    get_or-take (columns_beside s (part_from f left top)) (drop left (take f.width (drop ((top + (y - top)) * f.width) f.colours))) (x - left) 0 narrow
    ∙ get_or-drop left (take f.width (drop ((top + (y - top)) * f.width) f.colours)) (x - left) 0
    ∙ get_or-take f.width (drop ((top + (y - top)) * f.width) f.colours) (left + (x - left)) 0 (omega arith)
    ∙ get_or-drop ((top + (y - top)) * f.width) f.colours (left + (x - left)) 0
    ∙ ap (λ n. get_or f.colours (n * f.width + (left + (x - left))) 0) (let e : top + (y - top) ≡ y = omega arith in e)
    ∙ ap (λ n. get_or f.colours (y * f.width + n) 0) (let e : left + (x - left) ≡ x = omega arith in e)

-- a place in none of the painted pieces is in none of the source's
outside_pieces : (left top x y : ℕ) (qs : List Piece) → left ≤ x → top ≤ y → All (λ q. in_rect (piece_rect left top q) (pos x) (pos y) ≡ false) qs → All (λ q. is_in_piece q (x - left) (y - top) ≡ false) qs
outside_pieces left top x y qs right low out k d below =
    let q : Piece = get_or qs k d in
    false_from_ne_true (is_in_piece q (x - left) (y - top)) (λ e.
    let parts = and_parts _ _ e in
    let columns = and_parts _ _ parts.0 in
    let rows = and_parts _ _ parts.1 in
    let a = leb-true q.left (x - left) columns.0 in
    let b = ltb-true (x - left) (q.left + q.columns) columns.1 in
    let c = leb-true q.top (y - top) rows.0 in
    let h = ltb-true (y - top) (q.top + q.rows) rows.1 in
    both_ways _ (out k d below) (inside_rect (left + q.left) (top + q.top) q.columns q.rows x y (record { left_in = omega arith; right_in = omega arith; top_in = omega arith; bottom_in = omega arith })))

frame_is : (g f : Frame) (colours : List ℕ) → g.width ≡ f.width → g.height ≡ f.height → g.colours ≡ colours → g ≡ record f { colours = colours }
frame_is g f colours wide high same =
    let frame : ℕ → ℕ → List ℕ → Frame = λ w h l. record { width = w; height = h; colours = l } in
    ap (λ w. frame w g.height g.colours) wide ∙ ap (λ h. frame f.width h g.colours) high ∙ ap (frame f.width f.height) same

module _ (s : Source) (f : Frame) (left top : ℕ) (d : Differences) (accepted : source_refusal s ≡ None) (picture : IsPicture f) (differ : AreDifferences s (part_from f left top) d) where
  after : Frame
  after = painted left top d.pieces f

  value : ℕ → ℕ → ℕ
  value x y =
      cond (in_rect (rect_at left top s.width s.height) (pos x) (pos y)) (source.colour_at s (nat_abs (pos x -ℤ pos left)) (nat_abs (pos y -ℤ pos top))) (colour_on f x y)

  source_value : (x y : ℕ) → IsInside left top s.width s.height x y → value x y ≡ source.colour_at s (x - left) (y - top)
  unfolding value
  source_value x y inside =
      ap (λ b. cond b (source.colour_at s (nat_abs (pos x -ℤ pos left)) (nat_abs (pos y -ℤ pos top))) (colour_on f x y)) (inside_rect left top s.width s.height x y inside)
      ∙ ap (λ n. source.colour_at s n (nat_abs (pos y -ℤ pos top))) (distance left x inside.left_in)
      ∙ ap (source.colour_at s (x - left)) (distance top y inside.top_in)

  other_value : (x y : ℕ) → in_rect (rect_at left top s.width s.height) (pos x) (pos y) ≡ false → value x y ≡ colour_on f x y
  unfolding value
  other_value x y out = ap (λ b. cond b (source.colour_at s (nat_abs (pos x -ℤ pos left)) (nat_abs (pos y -ℤ pos top))) (colour_on f x y)) out

  -- a place of the source that is in none of the pieces had its colour
  same_before : (x y : ℕ) → x < f.width → y < f.height → on_screen f.width f.height (pos x) (pos y) ≡ true → IsInside left top s.width s.height x y
      → All (λ q. in_rect (piece_rect left top q) (pos x) (pos y) ≡ false) d.pieces → source.colour_at s (x - left) (y - top) ≡ colour_on f x y
  same_before x y wide high on inside out =
      let a = inside.left_in in let b = inside.right_in in let c = inside.top_in in let e = inside.bottom_in in
      let few = picture.columns in let few' = picture.rows in
      let narrow : x - left < columns_beside s (part_from f left top) = omega arith in
      let low : y - top < rows_beside s (part_from f left top) = omega arith in
      let long = beside_long s f left top (y - top) picture (omega arith) in
      differ.whole (x - left) (y - top) low (omega arith) (outside_pieces left top x y d.pieces a c out)
      ∙ beside_colour s f left top x y a c wide narrow ∙ sym (colour_number f x y on)

  placed : (x y : ℕ) → x < f.width → y < f.height → on_screen f.width f.height (pos x) (pos y) ≡ true → colour_on after x y ≡ value x y
  unfolding after
  placed x y wide high on =
      ⊎_elim
      (λ has. let a = has.right_of in let b = has.below in let c = has.in_columns in let e = has.in_rows in
      has.is ∙ sym (source_value x y (record { left_in = a; right_in = omega arith; top_in = b; bottom_in = omega arith })))
      (λ kept. kept.is ∙ ⊎_elim
      (λ covered. let inside = rect_inside left top s.width s.height x y covered in sym (source_value x y inside ∙ same_before x y wide high on inside kept.out))
      (λ out. sym (other_value x y out))
      (cases_Bool (in_rect (rect_at left top s.width s.height) (pos x) (pos y))))
      (painted_at s (part_from f left top) left top d.pieces f x y accepted differ.pieces on)

  -- painting what differs takes the source in
  pub painted_is_taken : painted left top d.pieces f ≡ taken s left top f
  unfolding value after
  painted_is_taken =
      let size = painted_size left top d.pieces f in
      let some = picture.some_columns in
      frame_is after f (taken s left top f).colours size.0 size.1
      (by_place-numbers 0 f.width f.height
      (λ x y. cond (in_rect (rect_at left top s.width s.height) x y) (source.colour_at s (nat_abs (x -ℤ pos left)) (nat_abs (y -ℤ pos top))) (colour_at f.width f.height f.colours x y))
      after.colours (painted_long left top d.pieces f picture.places)
      (λ k below.
      sym (at_place-number 0 f.width f.height after.colours k some below)
      ∙ sym (ap (λ n. colour_at n after.height after.colours (pos (k % f.width)) (pos (k / f.width))) size.0 ∙ ap (λ n. colour_at f.width n after.colours (pos (k % f.width)) (pos (k / f.width))) size.1)
      ∙ placed (k % f.width) (k / f.width) (mod-lt k some) (row_below f.width f.height k some below) (on_screen-number f.width f.height k some below)))

-- a place that has the source's colour has it in the picture that is wanted
pub has_wanted : (s : Source) (f : Frame) (left top x y colour : ℕ) → on_screen f.width f.height (pos x) (pos y) ≡ true → HasSource s left top x y colour → colour ≡ colour_on (taken s left top f) x y
has_wanted s f left top x y colour on has =
    let a = has.right_of in let b = has.below in let c = has.in_columns in let e = has.in_rows in
    has.is
    ∙ sym (value_on 0 f.width f.height
    (λ x y. cond (in_rect (rect_at left top s.width s.height) x y) (source.colour_at s (nat_abs (x -ℤ pos left)) (nat_abs (y -ℤ pos top))) (colour_at f.width f.height f.colours x y)) (pos x) (pos y) on
    ∙ ap (λ b. cond b (source.colour_at s (nat_abs (pos x -ℤ pos left)) (nat_abs (pos y -ℤ pos top))) (colour_on f x y))
    (inside_rect left top s.width s.height x y (record { left_in = a; right_in = omega arith; top_in = b; bottom_in = omega arith }))
    ∙ ap (λ n. source.colour_at s n (nat_abs (pos y -ℤ pos top))) (distance left x a)
    ∙ ap (source.colour_at s (x - left)) (distance top y b))

pub on_picture : (w h x y : ℕ) → x < w → y < h → on_screen w h (pos x) (pos y) ≡ true
on_picture w h x y wide high = and_from _ _ (and_from _ _ (and_from _ _ (le-leb 0 x (omega arith)) (lt-ltb x w wide)) (le-leb 0 y (omega arith))) (lt-ltb y h high)

-- behind some of the pieces each place is as it was, or as it is to be
pub partly : (s : Source) (p : Part) (left top : ℕ) (qs : List Piece) (f : Frame) (x y : ℕ) → source_refusal s ≡ None → All (IsPiece s p) qs → x < f.width → y < f.height
    → (colour_on (painted left top qs f) x y ≡ colour_on f x y) ⊎ (colour_on (painted left top qs f) x y ≡ colour_on (taken s left top f) x y)
partly s p left top qs f x y accepted pieces wide high =
    let on = on_picture f.width f.height x y wide high in
    ⊎_elim (λ has. inr (has_wanted s f left top x y (colour_on (painted left top qs f) x y) on has)) (λ kept. inl kept.is) (painted_at s p left top qs f x y accepted pieces on)

-- ---- rows below what is painted

kept_below : (left top : ℕ) (qs : List Piece) (f : Frame) (x y : ℕ) → on_screen f.width f.height (pos x) (pos y) ≡ true → All (λ q. top + (q.top + q.rows) ≤ y) qs
    → colour_on (painted left top qs f) x y ≡ colour_on f x y
kept_below left top [] f x y on above = refl
kept_below left top (q ∷ qs) f x y on above =
    kept_below left top qs (paint_one f left top q) x y on (λ k d below. above (suc k) d (omega arith))
    ∙ one_at left top q f x y on
    ∙ ap (λ t. cond t (colour_in (piece_rect left top q) q.colours (pos x) (pos y) % 2 ^ 24) (colour_on f x y))
    (false_from_ne_true (in_rect (piece_rect left top q) (pos x) (pos y)) (λ covered.
    let b = (rect_inside (left + q.left) (top + q.top) q.columns q.rows x y covered).bottom_in in
    let a = above 0 q (omega arith) in
    omega arith))

row_long : (w h n : ℕ) (l : List ℕ) → length l ≡ w * h → n < h → length (take w (drop (n * w) l)) ≡ w
row_long w h n l long below =
    let m = mul-le (n + 1) w h w (omega arith) (omega arith) in
    let more : (n + 1) * w ≡ n * w + w = omega arith in
    let e = mul_comm h w in
    let a = length-drop (n * w) l in
    let b = length-take w (drop (n * w) l) in
    omega arith

-- a row of a picture below what is painted is as it was
pub row_kept : (left top : ℕ) (qs : List Piece) (f : Frame) (y : ℕ) → IsPicture f → top + y < f.height → All (λ q. q.top + q.rows ≤ y) qs
    → (part_from (painted left top qs f) left top).row y ≡ (part_from f left top).row y
row_kept left top qs f y picture low above =
    ap (λ w. drop left (take w (drop (n * w) after.colours))) size.0 ∙ ap (drop left) (now ∙ sym before)
  where
    n : ℕ
    n = top + y

    after : Frame
    after = painted left top qs f

    size : (after.width ≡ f.width) × (after.height ≡ f.height)
    size = painted_size left top qs f

    long : length after.colours ≡ f.width * f.height
    long = painted_long left top qs f picture.places

    here : (k : ℕ) → k < f.width → get_or after.colours (n * f.width + k) 0 ≡ get_or f.colours (n * f.width + k) 0
    here k below =
        let wide = size.0 in let high = size.1 in
        sym (ap (λ w. get_or after.colours (n * w + k) 0) size.0)
        ∙ sym (colour_number after k n (on_picture after.width after.height k n (omega arith) (omega arith)))
        ∙ kept_below left top qs f k n (on_picture f.width f.height k n below low) (λ i d inside. let a = above i d inside in omega arith)
        ∙ colour_number f k n (on_picture f.width f.height k n below low)

    now : take f.width (drop (n * f.width) after.colours) ≡ map (λ k. get_or f.colours (n * f.width + k) 0) (range_with_len 0 f.width)
    now = fill_by_all (λ k. get_or f.colours (n * f.width + k) 0) (take f.width (drop (n * f.width) after.colours)) f.width 0 (row_long f.width f.height n after.colours long low)
        (λ k below. get_or-take f.width (drop (n * f.width) after.colours) k 0 below ∙ get_or-drop (n * f.width) after.colours k 0 ∙ here k below)

    before : take f.width (drop (n * f.width) f.colours) ≡ map (λ k. get_or f.colours (n * f.width + k) 0) (range_with_len 0 f.width)
    before = fill_by_all (λ k. get_or f.colours (n * f.width + k) 0) (take f.width (drop (n * f.width) f.colours)) f.width 0 (row_long f.width f.height n f.colours picture.places low)
        (λ k below. get_or-take f.width (drop (n * f.width) f.colours) k 0 below ∙ get_or-drop (n * f.width) f.colours k 0)

-- what is found in rows below what is painted is what differed before
pub found_before : (s : Source) (f : Frame) (left top : ℕ) (qs : List Piece) (start y : ℕ) (bands : List Band) (places : ℕ) → IsPicture f → start ≤ y → y ≤ rows_beside s (part_from f left top) → All (λ q. q.top + q.rows ≤ start) qs
    → AreGathered s (part_from (painted left top qs f) left top) start y bands places → AreGathered s (part_from f left top) start y bands places
found_before s f left top qs start y bands places picture ordered low above =
    gathered_beside s (part_from (painted left top qs f) left top) (part_from f left top) start y bands places ordered
    (ap (λ w. min w longest_side - left) (painted_size left top qs f).0)
    (λ r behind before. row_kept left top qs f r picture (omega arith) (λ k d inside. let a = above k d inside in omega arith))
