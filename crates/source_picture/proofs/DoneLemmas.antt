-- What the calls of a step do to a picture.
use Rattle.std.proofs.Common.{◌≡◌, ℕ, ◌+◌, ◌-◌, ◌*◌, ◌≤◌, ◌<◌, nat_lt, Bool, true, false, cond, List, [], ◌∷◌, ◌++◌, length, take, drop, Option, Some, None, Result, Ok, Err, refl, sym, ap, subst, ◌∙◌, arith}
use Rattle.std.specs.Prelude.{ℤ, pos, ◌-ℤ◌, ◌==◌, slice_index, MatchOption, OnOk, FitsSigned}
use Rattle.std.specs.Int.{w32}
use Rattle.std.proofs.lemmas.Int.{ints, to_z-of_z}
use mir.Val.{to_z, of_z}
use Rattle.std.proofs.lemmas.Bool.Decides.{nat_tests}
use Rattle.std.proofs.lemmas.List.{get_or-drop}
use Rattle.pixel_translate.specs.declared.Area.{Area}
use Rattle.region.specs.declared.Rect.{Rect}
use Rattle.source_pixels.specs.declared.formats.TrueColour.{TrueColour}
use Rattle.source_pixels.specs.declared.formats.SourceFormat.{SourceFormat}
use Rattle.source_pixels.specs.declared.formats.SourceFormat.TheVariants as kind
use Rattle.source_pixels.specs.declared.errors.SourceError.{SourceError}
use Rattle.source_pixels.specs.declared.errors.SourceError.TheVariants.{StrideTooShort, TooFewBytes}
use Rattle.source_pixels.specs.Formats.{pixel_size, colour_of, server_format}
use Rattle.source_pixels.specs.Source.{Source, layout_refusal, bytes_needed, source_refusal}
use Rattle.screen.specs.declared.Config.{Config}
use Rattle.screen.specs.declared.Event.{Event}
use Rattle.screen.specs.declared.Event.TheVariants.{DoCopy, Resize}
use Rattle.screen.specs.declared.ScreenError.{ScreenError}
use Rattle.screen.specs.Frame.{Frame}
use Rattle.screen.specs.Picture.{copied_colours, places_in}
use Rattle.screen.specs.Alone.{size_refusal}
use Rattle.screen.specs.Refusals.{Refuses}
use Rattle.screen.specs.State.{State, state}
use Rattle.screen.specs.Taken.{taken}
use Rattle.screen.specs.Takes.{Takes}
use Rattle.server_reader.specs.Steps.{rows_in}
use Rattle.server_reader.specs.Pictures as reader
use Rattle.source_picture.specs.Bands.{rows_of}
use Rattle.source_picture.specs.Painting.{with_pixels, with_pixel, with_copy, IsPainted, HasSize, IsOnFrame}
use Rattle.source_picture.proofs.ColourLemmas.{pixel_colour}
use Rattle.source_picture.proofs.PaintLemmas.{taken_to, rect_of, copied}
use Rattle.source_picture.proofs.EventLemmas.{copy_drawn, size_drawn}

-- ---- a source of pixels

rows_long : (w h : ℕ) → h * (4 * w) + w * 4 ≡ 4 * (w * (h + 1))
rows_long w h = omega arith

rows_enough : (w h len : ℕ) → 0 < h → 4 * (w * h) ≤ len → (h - 1) * (4 * w) + w * 4 ≤ len
rows_enough w h len some enough =
    let whole : h - 1 + 1 ≡ h = omega (arith, some) in
    let e : (h - 1) * (4 * w) + w * 4 ≡ 4 * (w * h) = rows_long w (h - 1) ∙ ap (λ n. 4 * (w * n)) whole in
    omega (arith, e, enough)

no_rows : (b : Bool) (n len : ℕ) → (b ≡ false → n ≤ len) → cond b 0 n ≤ len
no_rows true n len h = omega arith
no_rows false n len h = h refl

not_zero : (h : ℕ) → (h == 0) ≡ false → 0 < h
not_zero h e = grind (arith, nat_tests)

fitting_layout : (w h len : ℕ) → 4 * (w * h) ≤ len → bytes_needed (w * 4) (4 * w) h ≤ len
fitting_layout w h len enough = no_rows (h == 0) ((h - 1) * (4 * w) + w * 4) len (λ e. rows_enough w h len (not_zero h e) enough)

no_layout : (w h : ℕ) (bytes : List ℕ) (format : SourceFormat) → 4 * (w * h) ≤ length bytes
    → layout_refusal (w * 4) (record { width = w; height = h; stride = 4 * w; bytes = bytes; format = format }) ≡ None
no_layout w h bytes format enough = choose (w * 4) (4 * w) (length bytes) (bytes_needed (w * 4) (4 * w) h) (omega arith) (fitting_layout w h (length bytes) enough)
  where
    choose : (row stride len need : ℕ) → row ≤ stride → need ≤ len → cond (nat_lt stride row) (Some StrideTooShort) (cond (nat_lt len need) (Some TooFewBytes) None) ≡ None
    choose row stride len need a b = grind (arith, nat_tests)

-- four bytes for each place are enough
pub pixels_fit : (a : Area) (bytes : List ℕ) (stride : ℕ) → stride ≡ 4 * a.w → length bytes ≡ 4 * (a.w * a.h) → source_refusal (rows_of a bytes stride) ≡ None
pixels_fit a bytes stride is all =
    let P : ℕ → Type 0 = λ n. source_refusal (rows_of a bytes n) ≡ None in
    subst P (sym is) (no_layout a.w a.h bytes (kind.TrueColour server_format) (omega (arith, all)))

-- a band's bytes are enough
pub band_fits : (a : Area) (bytes : List ℕ) → a.w ≤ 2048 → a.h ≤ 16 → length bytes ≡ 131072 → source_refusal (rows_of a bytes 8192) ≡ None
band_fits a bytes wide high long = choose (a.w * 4) (length bytes) (bytes_needed (a.w * 4) 8192 a.h) (omega (arith, wide)) (no_rows (a.h == 0) ((a.h - 1) * 8192 + a.w * 4) (length bytes) (λ e. omega (arith, wide, high, long)))
  where
    choose : (row len need : ℕ) → row ≤ 8192 → need ≤ len → cond (nat_lt 8192 row) (Some StrideTooShort) (cond (nat_lt len need) (Some TooFewBytes) None) ≡ None
    choose row len need a b = grind (arith, nat_tests)

pub accepted : (s : Source) (r : Result Source SourceError) → source_refusal s ≡ None → MatchOption (source_refusal s) (r ≡ Ok s) (λ e. r ≡ Err e) → r ≡ Ok s
accepted s r none h = let P : Option SourceError → Type 0 = λ o. MatchOption o (r ≡ Ok s) (λ e. r ≡ Err e) in subst P none h

made : (o : Option SourceError) (s given : Source) (r : Result Source SourceError) → MatchOption o (r ≡ Ok s) (λ e. r ≡ Err e) → r ≡ Ok given → given ≡ s
made None s given r h is = cc
made (Some e) s given r h is = absurd cc

pub source_is : (s given : Source) (r : Result Source SourceError) → MatchOption (source_refusal s) (r ≡ Ok s) (λ e. r ≡ Err e) → r ≡ Ok given → given ≡ s
source_is s given r h is = made (source_refusal s) s given r h is

-- ---- what is taken

pub taken_ok : (s : Source) (left top : ℕ) (c : Config) (list : List Event) (old new : State) (r : Result ℕ ScreenError) (places : ℕ) → Takes s left top c list old new r → r ≡ Ok places
    → new.picture ≡ taken s left top old.picture
taken_ok s left top c list old new r places h is = let P : Result ℕ ScreenError → Type 0 = λ o. Takes s left top c list old new o in (subst P is h).picture

-- a source at a place
pub taken_is : (a : Area) (given s : Source) (left top : ℕ) (old new : Frame) → given ≡ s → left ≡ a.x → top ≡ a.y → new ≡ taken given left top old → new ≡ taken s a.x a.y old
taken_is a given s left top old new is across down new_is = new_is ∙ ap (λ q. taken q left top old) is ∙ ap (λ n. taken s n top old) across ∙ ap (λ n. taken s a.x n old) down

pub taken_at : (a : Area) (given s : Source) (left top : ℕ) (old new : Frame) (change : reader.Picture → reader.Picture) → given ≡ s → left ≡ a.x → top ≡ a.y → new ≡ taken given left top old
    → IsPainted change old (taken s a.x a.y old) → IsPainted change old new
taken_at a given s left top old new change is across down new_is painted =
    let P : Frame → Type 0 = λ f. IsPainted change old f in
    subst P (sym (taken_is a given s left top old new is across down new_is)) painted

-- pixels by the numbers that are passed
pub rows_are : (a : Area) (bytes : List ℕ) (stride w h : ℕ) (f : TrueColour) → w ≡ a.w → h ≡ a.h → f ≡ server_format
    → record { width = w; height = h; stride = stride; bytes = bytes; format = kind.TrueColour f } ≡ rows_of a bytes stride
rows_are a bytes stride w h f wide high is =
    let by_width : ℕ → Source = λ n. record { width = n; height = h; stride = stride; bytes = bytes; format = kind.TrueColour f } in
    let by_height : ℕ → Source = λ n. record { width = a.w; height = n; stride = stride; bytes = bytes; format = kind.TrueColour f } in
    let by_format : TrueColour → Source = λ g. record { width = a.w; height = a.h; stride = stride; bytes = bytes; format = kind.TrueColour g } in
    ap by_width wide ∙ ap by_height high ∙ ap by_format is

pub pixels_painted : (a : Area) (bytes : List ℕ) (stride : ℕ) (old new : Frame) → stride ≡ 4 * a.w → new ≡ taken (rows_of a bytes stride) a.x a.y old → IsPainted (with_pixels a bytes) old new
pixels_painted a bytes stride old new is taken_so =
    let P : Frame → Type 0 = λ f. IsPainted (with_pixels a bytes) old f in
    subst P (sym taken_so)
    (taken_to (rows_of a bytes stride) a (λ x y. reader.colour_of (rows_in a.w bytes x y)) old refl refl
    (λ x y left top. ap (λ k. colour_of (kind.TrueColour server_format) (take 4 (drop k bytes))) (place x y) ∙ pixel_colour bytes (4 * (y * a.w + x))))
  where
    place : (x y : ℕ) → y * stride + x * 4 ≡ 4 * (y * a.w + x)
    place x y = ap (λ n. y * n + x * 4) is ∙ omega arith

-- what follows of a step that was done
pub ok_then : {X E A B : Type 0} (r : Result X E) → (A → B) → OnOk r A → OnOk r B
ok_then (Ok x) then it = then it
ok_then (Err e) then it = tt

first_of : (bytes : List ℕ) → slice_index (take 1 bytes) 0 ≡ slice_index bytes 0
first_of [] = refl
first_of (b ∷ bytes) = refl

-- zeros, each of which has one colour
pub pixel_painted : (a : Area) (pixel : ℕ) (zeros : List ℕ) (w h : ℕ) (format : SourceFormat) (old : Frame) → w ≡ a.w → h ≡ a.h → ((k : ℕ) → slice_index zeros k ≡ 0) → pixel_size format ≡ 1
    → ((bytes : List ℕ) → slice_index bytes 0 ≡ 0 → colour_of format bytes ≡ reader.colour_of pixel)
    → IsPainted (with_pixel a pixel) old (taken (record { width = w; height = h; stride = w; bytes = zeros; format = format }) a.x a.y old)
pixel_painted a pixel zeros w h format old wide high none one colour =
    taken_to (record { width = w; height = h; stride = w; bytes = zeros; format = format }) a (λ x y. reader.colour_of pixel) old wide high (λ x y left top. each (y * w + x * pixel_size format))
  where
    zero_at : (k : ℕ) → slice_index (take 1 (drop k zeros)) 0 ≡ 0
    zero_at k = first_of (drop k zeros) ∙ get_or-drop k zeros 0 0 ∙ none (k + 0)

    each : (k : ℕ) → colour_of format (take (pixel_size format) (drop k zeros)) ≡ reader.colour_of pixel
    each k = colour (take (pixel_size format) (drop k zeros)) (ap (λ n. slice_index (take n (drop k zeros)) 0) one ∙ zero_at k)

-- ---- drawing calls

pub copy_done : {X : Type 0} (c : Config) (list : List Event) (a : Area) (from_x from_y : ℕ) (r : Rect) (dx dy : ℤ) (old new : State) (done : Result X ScreenError) → r ≡ rect_of a
    → dx ≡ pos a.x -ℤ pos from_x → dy ≡ pos a.y -ℤ pos from_y → old ≡ state c list → OnOk done (new ≡ state c (list ++ DoCopy (r ∷ []) dx dy ∷ []))
    → IsOnFrame a.x a.y a.w a.h old.picture → IsOnFrame from_x from_y a.w a.h old.picture → OnOk done (IsPainted (with_copy a from_x from_y) old.picture new.picture)
copy_done c list a from_x from_y r dx dy old new (Ok x) is across down was now there here =
    let e = copy_drawn c list (r ∷ []) dx dy old new (Ok x) was now in
    let P : Frame → Type 0 = λ f. IsPainted (with_copy a from_x from_y) old.picture f in
    let Q : Rect → Type 0 = λ q. IsPainted (with_copy a from_x from_y) old.picture (record old.picture { colours = copied_colours old.picture.width old.picture.height (places_in (q ∷ [])) (dx, dy) old.picture.colours }) in
    subst P (sym e) (subst Q (sym is) (copied a from_x from_y old.picture dx dy across down there here))
copy_done c list a from_x from_y r dx dy old new (Err e) is across down was now there here = tt

pub size_done : {X : Type 0} (c : Config) (list : List Event) (w h aw ah : ℕ) (old new : State) (done : Result X ScreenError) → w ≡ aw → h ≡ ah → old ≡ state c list
    → OnOk done (new ≡ state c (list ++ Resize w h ∷ [])) → Refuses done (size_refusal w h) → OnOk done (HasSize aw ah new.picture)
size_done c list w h aw ah old new (Ok x) wide high was now fine =
    let e = size_drawn c list w h old new (Ok x) was now fine in
    record { wide = ap (λ (f : Frame). f.width) e ∙ wide; high = ap (λ (f : Frame). f.height) e ∙ high }
size_done c list w h aw ah old new (Err e) wide high was now fine = tt

-- ---- numbers of 32 bits with a sign

fits_pos : (n : ℕ) → n < 131072 → FitsSigned w32 (pos n)
fits_pos n small = omega (arith, ints, small)

fits_apart : (a b : ℕ) → a < 65536 → b < 65536 → FitsSigned w32 (pos a -ℤ pos b)
fits_apart a b first second = grind (arith, ints)

pub as_pos : (v : ℤ) (n : ℕ) → v ≡ pos n → n < 131072 → to_z w32 (of_z w32 v) ≡ pos n
as_pos v n e small = ap (λ u. to_z w32 (of_z w32 u)) e ∙ to_z-of_z w32 (pos n) (fits_pos n small)

pub as_apart : (v : ℤ) (a b : ℕ) → v ≡ pos a -ℤ pos b → a < 65536 → b < 65536 → to_z w32 (of_z w32 v) ≡ pos a -ℤ pos b
as_apart v a b e first second = ap (λ u. to_z w32 (of_z w32 u)) e ∙ to_z-of_z w32 (pos a -ℤ pos b) (fits_apart a b first second)
