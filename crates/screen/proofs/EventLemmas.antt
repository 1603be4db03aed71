-- Pictures behind events.
use Rattle.std.proofs.Common.{◌≡◌, ℕ, suc, ◌+◌, ◌*◌, ◌<◌, Bool, true, false, cond, not, List, [], ◌∷◌, ◌++◌, length, take, get_or, eqb, Option, Some, None, refl, sym, ◌∙◌, ap, arith}
use Rattle.std.specs.Prelude.{filter, pos, nat_abs, ◌-ℤ◌, All}
use Rattle.std.proofs.lemmas.Int.{ints}
use Rattle.std.proofs.lemmas.Bool.{and_parts, and_from, leb-true, le-leb, eq-eqb}
use Rattle.std.proofs.lemmas.List.{append_assoc, append-nil, length-replicate, map_more}
use Rattle.std.proofs.lemmas.List.FromFn.{length-map-range_with_len}
use Rattle.region.specs.declared.Rect.{Rect}
use Rattle.framebuffer.specs.Frame.{Frame, IsPicture, blank_frame}
use Rattle.source_pixels.specs.declared.pieces.Piece.{Piece}
use Rattle.source_pixels.specs.Source.{Source}
use Rattle.source_pixels.specs.Differences.{IsPiece}
use Rattle.scene.specs.declared.Config.{Config}
use Rattle.scene.specs.declared.ScreenError.{ScreenError}
use Rattle.scene.specs.declared.ScreenError.TheVariants as refusals
use Rattle.scene.specs.declared.Event.{Event}
use Rattle.scene.specs.declared.Event.TheVariants.{Write, Paint, Mark, ScheduleCopy, DoCopy, Bell, CutText, Resize, Connect, Hear, Cut, Close}
use Rattle.viewer.specs.Viewer.{Viewer}
use Rattle.scene.specs.Alone.{One, at_size, step, after, draw_step, own_step, owner_of, drawing_refusal, pixels_refusal, is_size, is_within, drawn, empty_screen, config_refusal}
use Rattle.scene.specs.Answers.{is_drawing, picture_of}
use Rattle.screen.specs.Taken.{part_from, piece_rect, painted}
use Rattle.screen.specs.Paints.{paint_of, paints_of}

-- ---- each picture is one

sized : (w h : ℕ) → is_size w h ≡ true → IsPicture (blank_frame w h)
sized w h e =
    let a = and_parts _ _ e in
    let b = and_parts _ _ a.0 in
    let c = and_parts _ _ b.0 in
    let d = and_parts _ _ c.0 in
    record { some_columns = leb-true _ _ d.0; columns = leb-true _ _ d.1; some_rows = leb-true _ _ c.1; rows = leb-true _ _ b.1; places = length-replicate (w * h) 0 }

unless : (b : Bool) (e : ScreenError) (o : Option ScreenError) → cond (not b) (Some e) o ≡ None → b ≡ true
unless true e o h = refl
unless false e o h = absurd cc

where_sized : (b : Bool) (e : ScreenError) → cond b None (Some e) ≡ None → b ≡ true
where_sized true e h = refl
where_sized false e h = absurd cc

-- other colours, as many
recoloured : (f : Frame) (colours : List ℕ) → IsPicture f → length colours ≡ f.width * f.height → IsPicture (record f { colours = colours })
recoloured f colours h long = record { some_columns = h.some_columns; columns = h.columns; some_rows = h.some_rows; rows = h.rows; places = long }

drawn_picture : (c : Config) (e : Event) (f : Frame) → drawing_refusal c e ≡ None → IsPicture f → IsPicture (drawn e f)
drawn_picture c (Write r colours) f fine h = recoloured f _ h (length-map-range_with_len _ 0 (f.width * f.height))
drawn_picture c (Paint r colours) f fine h = recoloured f _ h (length-map-range_with_len _ 0 (f.width * f.height))
drawn_picture c (DoCopy rects dx dy) f fine h = recoloured f _ h (length-map-range_with_len _ 0 (f.width * f.height))
drawn_picture c (Resize w k) f fine h = sized w k (where_sized (is_size w k) refusals.BadSize fine)
drawn_picture c (Mark rects) f fine h = h
drawn_picture c (ScheduleCopy rects dx dy) f fine h = h
drawn_picture c Bell f fine h = h
drawn_picture c (CutText text) f fine h = h
drawn_picture c (Connect v) f fine h = h
drawn_picture c (Hear v piece) f fine h = h
drawn_picture c (Cut v) f fine h = h
drawn_picture c (Close v) f fine h = h

drawing_step : (c : Config) (e : Event) (s : One) (o : Option ScreenError) → drawing_refusal c e ≡ o → IsPicture s.picture → IsPicture ((draw_step c e s o).0).picture
drawing_step c e s None fine h = drawn_picture c e s.picture fine h
drawing_step c e s (Some refusal) fine h = h

own_picture : (c : Config) (e : Event) (s : One) (v : Option (Viewer (List ℕ))) → IsPicture s.picture → IsPicture ((own_step c e s v).0).picture
own_picture c (Connect n) s None h = h
own_picture c (Connect n) s (Some v) h = h
own_picture c (Hear n piece) s None h = h
own_picture c (Hear n piece) s (Some v) h = h
own_picture c (Cut n) s None h = h
own_picture c (Cut n) s (Some v) h = h
own_picture c (Close n) s None h = h
own_picture c (Close n) s (Some v) h = h
own_picture c (Write r colours) s v h = h
own_picture c (Paint r colours) s v h = h
own_picture c (DoCopy rects dx dy) s v h = h
own_picture c (Resize w k) s v h = h
own_picture c (Mark rects) s v h = h
own_picture c (ScheduleCopy rects dx dy) s v h = h
own_picture c Bell s v h = h
own_picture c (CutText text) s v h = h

step_picture : (c : Config) (e : Event) (s : One) → IsPicture s.picture → IsPicture ((step c e s).0).picture
step_picture c (Connect n) s h = own_picture (at_size s.picture c) (Connect n) s s.viewer h
step_picture c (Hear n piece) s h = own_picture (at_size s.picture c) (Hear n piece) s s.viewer h
step_picture c (Cut n) s h = own_picture (at_size s.picture c) (Cut n) s s.viewer h
step_picture c (Close n) s h = own_picture (at_size s.picture c) (Close n) s s.viewer h
step_picture c (Write r colours) s h = drawing_step (at_size s.picture c) (Write r colours) s _ refl h
step_picture c (Paint r colours) s h = drawing_step (at_size s.picture c) (Paint r colours) s _ refl h
step_picture c (DoCopy rects dx dy) s h = drawing_step (at_size s.picture c) (DoCopy rects dx dy) s _ refl h
step_picture c (Resize w k) s h = drawing_step (at_size s.picture c) (Resize w k) s _ refl h
step_picture c (Mark rects) s h = drawing_step (at_size s.picture c) (Mark rects) s _ refl h
step_picture c (ScheduleCopy rects dx dy) s h = drawing_step (at_size s.picture c) (ScheduleCopy rects dx dy) s _ refl h
step_picture c Bell s h = drawing_step (at_size s.picture c) Bell s _ refl h
step_picture c (CutText text) s h = drawing_step (at_size s.picture c) (CutText text) s _ refl h

after_picture : (c : Config) (es : List Event) (s : One) → IsPicture s.picture → IsPicture (after c es s).picture
after_picture c [] s h = h
after_picture c (e ∷ es) s h = after_picture c es ((step c e s).0) (step_picture c e s h)

-- what a screen with a configuration within its limits shows, whatever happened
pub picture_whole : (c : Config) (es : List Event) → config_refusal c ≡ None → IsPicture (picture_of c es)
picture_whole c es fine = after_picture c (filter (λ e. is_drawing (owner_of e)) es) (empty_screen c) (sized c.width c.height (unless _ refusals.BadSize _ fine))

-- ---- paints

after-append : (c : Config) (es : List Event) (e : Event) (s : One) → after c (es ++ e ∷ []) s ≡ (step c e (after c es s)).0
after-append c [] e s = refl
after-append c (a ∷ es) e s = after-append c es e (step c a s).0

drawings-paint : (r : Rect) (colours : List ℕ) (es : List Event)
    → filter (λ e. is_drawing (owner_of e)) (es ++ Paint r colours ∷ []) ≡ filter (λ e. is_drawing (owner_of e)) es ++ Paint r colours ∷ []
drawings-paint r colours [] = refl
drawings-paint r colours (a ∷ es) = elim (is_drawing (owner_of a))
    as (λ b. cond b (a ∷ filter (λ e. is_drawing (owner_of e)) (es ++ Paint r colours ∷ [])) (filter (λ e. is_drawing (owner_of e)) (es ++ Paint r colours ∷ []))
    ≡ cond b (a ∷ filter (λ e. is_drawing (owner_of e)) es) (filter (λ e. is_drawing (owner_of e)) es) ++ Paint r colours ∷ []) [
      | true ↦ ap (λ l. a ∷ l) (drawings-paint r colours es)
      | false ↦ drawings-paint r colours es
    ]

-- one more paint that is not refused
pub picture-paint : (c : Config) (es : List Event) (r : Rect) (colours : List ℕ) → pixels_refusal (picture_of c es).width (picture_of c es).height r colours ≡ None
    → picture_of c (es ++ Paint r colours ∷ []) ≡ drawn (Paint r colours) (picture_of c es)
picture-paint c es r colours fine =
    ap (λ l. (after c l (empty_screen c)).picture) (drawings-paint r colours es)
    ∙ ap (λ (s : One). s.picture) (after-append c (filter (λ e. is_drawing (owner_of e)) es) (Paint r colours) (empty_screen c))
    ∙ ap (λ o. ((draw_step (at_size (picture_of c es) c) (Paint r colours) (after c (filter (λ e. is_drawing (owner_of e)) es) (empty_screen c)) o).0).picture) fine

distance : (a n : ℕ) → nat_abs (pos (a + n) -ℤ pos a) ≡ n
distance a n = omega (arith, ints)

-- a piece of what differs is accepted
pub piece_accepted : (s : Source) (f : Frame) (left top : ℕ) (q : Piece) → IsPiece s (part_from f left top) q → pixels_refusal f.width f.height (piece_rect left top q) q.colours ≡ None
piece_accepted s f left top q h =
    ap (λ b. cond (not b) (Some refusals.BadRect) (cond (not (eqb (length q.colours) (nat_abs (pos (left + q.left + q.columns) -ℤ pos (left + q.left)) * nat_abs (pos (top + q.top + q.rows) -ℤ pos (top + q.top))))) (Some refusals.BadPixelCount) None)) inside
    ∙ ap (λ b. cond (not b) (Some refusals.BadPixelCount) None) (eq-eqb (length q.colours) _ long)
  where
    inside : is_within f.width f.height (piece_rect left top q) ≡ true
    inside =
        let a = h.wide in let b = h.high in let c = h.some_columns in let d = h.some_rows in
        and_from _ _
        (and_from _ _ (and_from _ _ (le-leb 0 (left + q.left) (omega arith)) (le-leb (left + q.left) (left + q.left + q.columns) (omega arith))) (le-leb (left + q.left + q.columns) f.width (omega arith)))
        (and_from _ _ (and_from _ _ (le-leb 0 (top + q.top) (omega arith)) (le-leb (top + q.top) (top + q.top + q.rows) (omega arith))) (le-leb (top + q.top + q.rows) f.height (omega arith)))

    long : length q.colours ≡ nat_abs (pos (left + q.left + q.columns) -ℤ pos (left + q.left)) * nat_abs (pos (top + q.top + q.rows) -ℤ pos (top + q.top))
    long =
        ap length h.colours ∙ length-map-range_with_len _ 0 (q.rows * q.columns)
        ∙ (let e : q.rows * q.columns ≡ q.columns * q.rows = omega arith in e)
        ∙ sym (ap (λ n. n * nat_abs (pos (top + q.top + q.rows) -ℤ pos (top + q.top))) (distance (left + q.left) q.columns) ∙ ap (λ n. q.columns * n) (distance (top + q.top) q.rows))

-- a frame's size is kept by paints
same_size : (s : Source) (f g : Frame) (left top : ℕ) (q : Piece) → g.width ≡ f.width → g.height ≡ f.height → IsPiece s (part_from f left top) q → pixels_refusal g.width g.height (piece_rect left top q) q.colours ≡ None
same_size s f g left top q wide high h =
    ap (λ n. pixels_refusal n g.height (piece_rect left top q) q.colours) wide ∙ ap (λ n. pixels_refusal f.width n (piece_rect left top q) q.colours) high ∙ piece_accepted s f left top q h

-- paints of what differs, behind other events
pub pictures-painted : (c : Config) (list : List Event) (s : Source) (f : Frame) (left top : ℕ) (qs : List Piece) → All (IsPiece s (part_from f left top)) qs → (picture_of c list).width ≡ f.width → (picture_of c list).height ≡ f.height
    → picture_of c (list ++ paints_of left top qs) ≡ painted left top qs (picture_of c list)
pictures-painted c list s f left top [] pieces wide high = ap (picture_of c) (append-nil list)
pictures-painted c list s f left top (q ∷ qs) pieces wide high =
    let one = picture-paint c list (piece_rect left top q) q.colours (same_size s f (picture_of c list) left top q wide high (pieces 0 q (omega arith))) in
    ap (picture_of c) (sym (append_assoc list (paint_of left top q ∷ []) (paints_of left top qs)))
    ∙ pictures-painted c (list ++ paint_of left top q ∷ []) s f left top qs (λ k d below. pieces (suc k) d (omega arith)) (ap (λ (g : Frame). g.width) one ∙ wide) (ap (λ (g : Frame). g.height) one ∙ high)
    ∙ ap (painted left top qs) one

-- one more of them
pub paints-taken : (left top : ℕ) (qs : List Piece) (i : ℕ) (d : Piece) → i < length qs → paints_of left top (take i qs) ++ paint_of left top (get_or qs i d) ∷ [] ≡ paints_of left top (take (i + 1) qs)
paints-taken left top qs i d below = sym (map_more (paint_of left top) qs i d below)

-- and behind a list
pub paints-more : (list : List Event) (left top : ℕ) (qs : List Piece) (i : ℕ) (d : Piece) → i < length qs
    → (list ++ paints_of left top (take i qs)) ++ paint_of left top (get_or qs i d) ∷ [] ≡ list ++ paints_of left top (take (i + 1) qs)
paints-more list left top qs i d below =
    append_assoc list (paints_of left top (take i qs)) (paint_of left top (get_or qs i d) ∷ []) ∙ ap (λ (l : List Event). list ++ l) (sym (map_more (paint_of left top) qs i d below))
