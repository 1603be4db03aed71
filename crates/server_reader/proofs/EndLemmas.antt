-- What is left of a message can be read to its end: some bytes give a reading.
use Rattle.std.proofs.Common.{◌≡◌, ℕ, zero, suc, pos, ◌+◌, ◌-◌, ◌*◌, Bool, true, false, cond, List, [], ◌∷◌, ◌++◌, length, Option, None, Some, refl, sym, ap, subst, ◌∙◌, arith, append_assoc, append-nil}
use Rattle.std.specs.Prelude.{◌==◌, IsSome}
use Rattle.std.proofs.lemmas.Bool.Decides.{nat_tests}
use Rattle.pixel_translate.specs.declared.Area.{Area}
use Rattle.pixel_translate.specs.Pixel.{server_format}
use Rattle.encode_raw.specs.Reading.{◌>>=◌, bytes_at, pixels_at, Shown, patched, row_by_row, shown_after_copy}
use Rattle.subrectangles.specs.Reading.{rre_at, subrectangles_at}
use Rattle.encode_hextile.specs.declared.Carried.{Carried}
use Rattle.encode_hextile.specs.Tiles.{Tile}
use Rattle.encode_hextile.specs.Hextile.{nothing}
use Rattle.encode_hextile.specs.Reading as hextile
use Rattle.viewer_picture.specs.Messages.{Display, ColourMap, is_in_picture, written, copy_at, next_at, rectangles_at, entries_at, messages_in, messages_at}
use Rattle.server_reader.specs.declared.stage.Size.{Size}
use Rattle.server_reader.specs.declared.stage.TileAt.{TileAt}
use Rattle.server_reader.specs.declared.stage.Behind.{Behind}
use Rattle.server_reader.specs.declared.stage.Behind.TheVariants as behind
use Rattle.server_reader.specs.declared.stage.Stage.{Stage}
use Rattle.server_reader.specs.declared.stage.Stage.TheVariants as stage
use Rattle.server_reader.specs.Stages.{agreed, display, over, pixels_onto, filled, part_of, rre_parts_onto, tile_area, tile_parts_onto, tiles_onto, tile_of, tiles_behind, left_by, rectangles_behind, tiles_at_behind, pixels_behind, rest_of}
use Rattle.server_reader.specs.OnPicture.{IsOn, StageIsOn}
use Rattle.server_reader.specs.Steps.{IsView, ReadingPoint, GoesOn, is_faulted}
use Rattle.server_reader.specs.Readings.{start}
use Rattle.server_reader.proofs.RectangleTurns.{next_known}

-- some bytes are read, whatever follows
record Ends (A : Type 0) (read : List ℕ → Option (A × List ℕ)) : Type 0 where
  pub front : List ℕ
  pub value : A
  pub is : (later : List ℕ) → read (front ++ later) ≡ Some (value, later)

-- and then others
both : {A B : Type 0} (read : List ℕ → Option (A × List ℕ)) (next : A → List ℕ → Option (B × List ℕ)) (first : Ends A read) → Ends B (next first.value)
    → Ends B (λ bytes. read bytes >>= λ (r : A × List ℕ). next r.0 r.1)
both {A} {B} read next first second = record {
  front = first.front ++ second.front;
  value = second.value;
  is = λ later.
      ap (λ (l : List ℕ). read l >>= λ (r : A × List ℕ). next r.0 r.1) (append_assoc first.front second.front later)
      ∙ ap (λ (o : Option (A × List ℕ)). o >>= λ (r : A × List ℕ). next r.0 r.1) (first.is (second.front ++ later))
      ∙ second.is later;
}

-- no bytes
at_once : {A : Type 0} (value : A) → Ends A (λ bytes. Some (value, bytes))
at_once value = record { front = []; value = value; is = λ later. refl }

-- ---- rectangles

abbrev nowhere : Area
nowhere = record { x = 0; y = 0; w = 0; h = 0 }

-- 7.7.1: a rectangle without places, in Raw
one_rectangle : (size : Size) (shown : Shown) (colours : ColourMap) → Ends Display (next_at (display size shown colours))
unfolding pixels_at
one_rectangle size shown colours =
    let head : List ℕ = 0 ∷ 0 ∷ 0 ∷ 0 ∷ 0 ∷ 0 ∷ 0 ∷ 0 ∷ 0 ∷ 0 ∷ 0 ∷ 0 ∷ [] in
    let d : Display = display size shown colours in
    record {
      front = head;
      value = display size (patched server_format nowhere (row_by_row 0 []) shown) colours;
      is = λ later. next_known d (head ++ later) later nowhere (pos 0) refl (inside size) refl refl;
    }
  where
    inside : (size : Size) → is_in_picture (agreed size) nowhere ≡ true
    inside size = grind (arith, nat_tests)

rectangles : (size : Size) (n : ℕ) (shown : Shown) (colours : ColourMap) → Ends Display (rectangles_at n (display size shown colours))
unfolding rectangles_at one_rectangle
rectangles size zero shown colours = at_once (display size shown colours)
rectangles size (suc n) shown colours =
    both (next_at (display size shown colours)) (λ (d : Display) bytes. rectangles_at n d bytes) (one_rectangle size shown colours)
    (rectangles size n (patched server_format nowhere (row_by_row 0 []) shown) colours)

-- those behind one
behind_one : (size : Size) (n : ℕ) (shown : Shown) (colours : ColourMap) (read : List ℕ → Option (Shown × List ℕ)) → Ends Shown read
    → Ends Display (λ bytes. rectangles_behind n (display size shown colours) (read bytes))
behind_one size n shown colours read first =
    both read (λ (s : Shown) bytes. rectangles_at n (display size s colours) bytes) first (rectangles size n first.value colours)

-- ---- pixels

pixels : (n : ℕ) → Ends (List ℕ) (pixels_at server_format n)
unfolding pixels_at
pixels zero = at_once []
pixels (suc n) =
    let others = pixels n in
    record {
      front = 0 ∷ 0 ∷ 0 ∷ 0 ∷ others.front;
      value = 0 ∷ others.value;
      is = λ later. ap (λ (o : Option (List ℕ × List ℕ)). o >>= λ (r : List ℕ × List ℕ). Some (0 ∷ r.0, r.1)) (others.is later);
    }

pixels_shown : (a : Area) (before : ℕ) (shown : Shown) → Ends Shown (pixels_onto a before shown)
pixels_shown a before shown =
    both (pixels_at server_format (a.w * a.h - before)) (λ (p : List ℕ) bytes. Some (over a before p shown, bytes)) (pixels (a.w * a.h - before))
    (at_once (over a before (pixels (a.w * a.h - before)).value shown))

-- ---- subrectangles

rre_parts : (a : Area) (n : ℕ) (shown : Shown) → Ends Shown (rre_parts_onto a n shown)
unfolding rre_parts_onto
rre_parts a zero shown = at_once shown
rre_parts a (suc n) shown =
    let others = rre_parts a n (filled (part_of a nowhere) 0 shown) in
    record { front = 0 ∷ 0 ∷ 0 ∷ 0 ∷ 0 ∷ 0 ∷ 0 ∷ 0 ∷ 0 ∷ 0 ∷ 0 ∷ 0 ∷ others.front; value = others.value; is = λ later. others.is later }

-- 7.7.3: a background alone
rre : (a : Area) (shown : Shown) → Ends Shown (λ bytes. written server_format a shown (rre_at server_format bytes))
unfolding subrectangles_at
rre a shown = record { front = 0 ∷ 0 ∷ 0 ∷ 0 ∷ 0 ∷ 0 ∷ 0 ∷ 0 ∷ []; value = patched server_format a (λ x y. 0) shown; is = λ later. refl }

abbrev dot_part : Area
dot_part = record { x = 0; y = 0; w = 1; h = 1 }

tile_parts : (a : Area) (coloured : Bool) (foreground : Option ℕ) (n : ℕ) (shown : Shown) → (coloured ≡ false → IsSome foreground) → Ends Shown (tile_parts_onto a coloured foreground n shown)
unfolding tile_parts_onto
tile_parts a coloured foreground zero shown has = at_once shown
tile_parts a true foreground (suc n) shown has =
    let others = tile_parts a true foreground n (filled (part_of a dot_part) 0 shown) has in
    record { front = 0 ∷ 0 ∷ 0 ∷ 0 ∷ 0 ∷ 0 ∷ others.front; value = others.value; is = λ later. others.is later }
tile_parts a false (Some p) (suc n) shown has =
    let others = tile_parts a false (Some p) n (filled (part_of a dot_part) p shown) has in
    record { front = 0 ∷ 0 ∷ others.front; value = others.value; is = λ later. others.is later }
tile_parts a false None (suc n) shown has = absurd (let no : false ≡ true = has refl in cc)

-- ---- tiles

-- 7.7.4: a tile of a background
tiles : (a : Area) (ts : List Tile) (carried : Carried) (shown : Shown) → Ends Shown (tiles_onto a ts carried shown)
unfolding tiles_onto hextile.subrectangles_at
tiles a [] carried shown = at_once shown
tiles a (t ∷ ts) carried shown =
    let others = tiles a ts (record { background = Some 0; foreground = carried.foreground }) (patched server_format (tile_area a t) (λ x y. 0) shown) in
    record { front = 2 ∷ 0 ∷ 0 ∷ 0 ∷ 0 ∷ others.front; value = others.value; is = λ later. others.is later }

behind_tile : (size : Size) (t : TileAt) (carried : Carried) (shown : Shown) (colours : ColourMap) (read : List ℕ → Option (Shown × List ℕ)) → Ends Shown read
    → Ends Display (λ bytes. tiles_at_behind t carried (display size shown colours) (read bytes))
behind_tile size t carried shown colours read first =
    both read (λ (s : Shown) bytes. rectangles_behind t.rectangle.behind (display size shown colours) (tiles_onto t.rectangle.area (tiles_behind t) carried s bytes)) first
    (behind_one size t.rectangle.behind shown colours (tiles_onto t.rectangle.area (tiles_behind t) carried first.value) (tiles t.rectangle.area (tiles_behind t) carried first.value))

behind_pixels : (size : Size) (b : Behind) (shown : Shown) (colours : ColourMap) (read : List ℕ → Option (Shown × List ℕ)) → Ends Shown read
    → Ends Display (λ bytes. pixels_behind b (display size shown colours) (read bytes))
behind_pixels size (behind.Rectangles n) shown colours read first = behind_one size n shown colours read first
behind_pixels size (behind.Tile t) shown colours read first = behind_tile size t nothing shown colours read first

-- ---- a copy

-- 7.7.2: of the picture's first places
copy : (size : Size) (a : Area) (shown : Shown) → IsOn size a → Ends Shown (copy_at (agreed size) a shown)
copy size a shown on =
    let inside : is_in_picture (agreed size) (record a { x = 0; y = 0 }) ≡ true = grind (arith, nat_tests, on.right, on.bottom) in
    record {
      front = 0 ∷ 0 ∷ 0 ∷ 0 ∷ [];
      value = shown_after_copy a 0 0 shown;
      is = λ later. ap (λ b. cond b (Some (shown_after_copy a 0 0 shown, later)) None) inside;
    }

-- ---- the colour map

entries : (n first : ℕ) (colours : ColourMap) → Ends ColourMap (entries_at n first colours)
unfolding entries_at
entries zero first colours = at_once colours
entries (suc n) first colours =
    let others = entries n (first + 1) (λ entry. cond (entry == first) (Some (0, 0, 0)) (colours entry)) in
    record { front = 0 ∷ 0 ∷ 0 ∷ 0 ∷ 0 ∷ 0 ∷ others.front; value = others.value; is = λ later. others.is later }

-- ---- stages

ends : (size : Size) (at : Stage) (shown : Shown) (colours : ColourMap) → StageIsOn size at → is_faulted at ≡ false → Ends Display (rest_of at (display size shown colours))
ends size stage.Message shown colours on sound = at_once (display size shown colours)
ends size stage.UpdateEnd shown colours on sound = at_once (display size shown colours)
ends size (stage.Rectangle n) shown colours on sound = rectangles size (suc n) shown colours
ends size (stage.Pixels rows) shown colours on sound = behind_pixels size rows.behind shown colours (pixels_onto rows.area rows.column shown) (pixels_shown rows.area rows.column shown)
ends size (stage.Source r) shown colours on sound = behind_one size r.behind shown colours (copy_at (agreed size) r.area shown) (copy size r.area shown on)
ends size (stage.Rre r) shown colours on sound = behind_one size r.behind shown colours (λ bytes. written server_format r.area shown (rre_at server_format bytes)) (rre r.area shown)
ends size (stage.RreParts p) shown colours on sound =
    behind_one size p.rectangle.behind shown colours (rre_parts_onto p.rectangle.area p.left shown) (rre_parts p.rectangle.area p.left shown)
ends size (stage.Tile t) shown colours on sound =
    let ts : List Tile = tile_of t ∷ tiles_behind t in
    behind_one size t.rectangle.behind shown colours (tiles_onto t.rectangle.area ts t.carried shown) (tiles t.rectangle.area ts t.carried shown)
ends size (stage.TileParts p) shown colours on sound =
    let a : Area = tile_area p.tile.rectangle.area (tile_of p.tile) in
    behind_tile size p.tile (left_by p.coloured p.tile.carried) shown colours (tile_parts_onto a p.coloured p.tile.carried.foreground p.left shown)
    (tile_parts a p.coloured p.tile.carried.foreground p.left shown p.pixel)
ends size (stage.MapEntries e) shown colours on sound =
    let first = entries e.left e.next colours in
    both (entries_at e.left e.next colours) (λ (c : ColourMap) bytes. Some (display size shown c, bytes)) first (at_once (display size shown first.value))
ends size (stage.Faulted fault) shown colours on sound = absurd cc

-- 7.6.4: so many bytes of a text
text : (n : ℕ) → Ends (List ℕ) (bytes_at n)
text zero = at_once []
text (suc n) =
    let others = text n in
    record {
      front = 0 ∷ others.front;
      value = 0 ∷ others.value;
      is = λ later. ap (λ (o : Option (List ℕ × List ℕ)). o >>= λ (r : List ℕ × List ℕ). Some (0 ∷ r.0, r.1)) (others.is later);
    }

no_more : (n : ℕ) (d : Display) → messages_in n d [] ≡ Some d
unfolding messages_in
no_more zero d = refl
no_more (suc n) d = refl

in_turn : {A B C : Type 0} (o : Option A) (f : A → Option B) (g : B → Option C) → (o >>= λ (x : A). f x >>= g) ≡ ((o >>= f) >>= g)
in_turn None f g = refl
in_turn (Some x) f g = refl

pub some_reading : (size : Size) (shown : Shown) (colours : ColourMap) (bytes : List ℕ) (s : ReadingPoint) → GoesOn (start size shown colours bytes) s → IsView s.view → s.view.held ≡ [] → s.left ≡ []
    → is_faulted s.view.state.stage ≡ false → (later : List ℕ) × IsSome (messages_at (display size shown colours) (bytes ++ later))
some_reading size shown colours bytes s goes is none_held none_left sound =
    let rest = ends s.view.state.size s.view.state.stage s.shown s.colours is.on sound in
    let all = both (bytes_at s.view.state.text) (λ (t : List ℕ) more. rest_of s.view.state.stage (display s.view.state.size s.shown s.colours) more) (text s.view.state.text) rest in
    let same = goes all.front (length (bytes ++ all.front)) (omega arith) in
    let behind : List ℕ → Option Display = λ more. bytes_at s.view.state.text more >>= λ (t : List ℕ × List ℕ). rest_of s.view.state.stage (display s.view.state.size s.shown s.colours) t.1
    >>= λ (r : Display × List ℕ). messages_in same.left r.0 r.1 in
    let whole : s.view.held ++ (s.left ++ all.front) ≡ all.front ++ [] =
    ap (λ (h : List ℕ). h ++ (s.left ++ all.front)) none_held ∙ ap (λ (l : List ℕ). l ++ all.front) none_left ∙ sym (append-nil all.front) in
    let read : messages_at (display size shown colours) (bytes ++ all.front) ≡ Some all.value =
    same.is ∙ ap behind whole
    ∙ in_turn (bytes_at s.view.state.text (all.front ++ [])) (λ t. rest_of s.view.state.stage (display s.view.state.size s.shown s.colours) t.1) (λ r. messages_in same.left r.0 r.1)
    ∙ ap (λ (o : Option (Display × List ℕ)). o >>= λ (r : Display × List ℕ). messages_in same.left r.0 r.1) (all.is [])
    ∙ no_more same.left all.value in
    (all.front, subst (λ (o : Option Display). IsSome o) (sym read) refl)
