-- The heads of rectangles, a copy, RRE and a new size are turns.
use Rattle.std.proofs.Common.{◌≡◌, ℕ, ℤ, zero, suc, ◌+◌, ◌-◌, ◌^◌, ◌<◌, Fits, Bool, true, false, cond, ◌&&◌, List, [], ◌∷◌, ◌++◌, length, slice_index, Option, None, Some, refl, sym, ap, subst, ◌∙◌, arith}
use Rattle.std.proofs.lemmas.Bool.Decides.{nat_tests, Decides-int_eq}
use Rattle.std.specs.Int.{w8, w32, cast_signed, cast_unsigned}
use Rattle.std.proofs.lemmas.Int.{of_z-to_z}
use Rattle.std.proofs.lemmas.List.{length-append}
use mathlib.Core.Path.{fun_ext}
use Rattle.pixel_translate.specs.declared.Area.{Area}
use Rattle.pixel_translate.specs.Pixel.{server_format, be16_at, be32_at}
use Rattle.messages.specs.Grammar.{desktop_size, is_desktop_size}
use Rattle.encode_raw.specs.Reading.{◌>>=◌, Head, head_at, Dot, Shown, Patch, is_inside, patched, shown_after_copy}
use Rattle.subrectangles.specs.declared.Subrectangle.{Subrectangle}
use Rattle.subrectangles.specs.Reading.{subrectangle_at, painted, subrectangles_at}
use Rattle.viewer_picture.specs.Messages.{Display, ColourMap, is_in_picture, may_come, data_at, written, with_size, next_by, next_at, rectangles_at, messages_in}
use Rattle.server_reader.specs.declared.stage.Size.{Size}
use Rattle.server_reader.specs.declared.stage.Rectangle.{Rectangle}
use Rattle.server_reader.specs.declared.stage.RreParts.{RreParts}
use Rattle.server_reader.specs.declared.stage.Stage.{Stage}
use Rattle.server_reader.specs.declared.stage.Stage.TheVariants as stage
use Rattle.server_reader.specs.declared.step.Step.TheVariants as step
use Rattle.server_reader.specs.Groups.{pixel_in, area_in, encoding_in}
use Rattle.server_reader.specs.Stages.{agreed, display, filled, part_of, places_of, rre_parts_onto, rectangles_behind, rest_of}
use Rattle.server_reader.specs.Steps.{state_at, IsTurn, IsRefused}
use Rattle.server_reader.proofs.StepLemmas.{turn_by, refused_by}

-- ---- a rectangle's head

abbrev by_head : Display → Head × List ℕ → Option (Shown × List ℕ)
by_head d r = cond (is_in_picture d.agreed r.0.area && may_come d.agreed.listed r.0.encoding) (data_at d.agreed r.0.area d.shown r.0.encoding r.1) None

abbrev size_by : Display → Head × List ℕ → Option (Display × List ℕ)
size_by d r = cond (is_desktop_size r.0.encoding && may_come d.agreed.listed desktop_size) (Some (with_size r.0.area d, r.1)) None

-- a picture's rectangle that was read, and its display
abbrev pub shows : Display → Option (Shown × List ℕ) → Option (Display × List ℕ)
shows d read = read >>= λ (r : Shown × List ℕ). Some (record d { shown = r.0 }, r.1)

module _ (d : Display) (bytes later : List ℕ) (a : Area) (e : ℤ) (head : head_at bytes ≡ Some (record { area = a; encoding = e }, later)) where
  no_size : is_desktop_size e ≡ false → (head_at bytes >>= size_by d) ≡ None
  no_size other =
      ap (λ (o : Option (Head × List ℕ)). o >>= size_by d) head
      ∙ ap (λ b. cond (b && may_come d.agreed.listed desktop_size) (Some (with_size a d, later)) None) other

  by_read : (o : Option (Shown × List ℕ)) → is_desktop_size e ≡ false → next_by d bytes o ≡ shows d o
  by_read None other = no_size other
  by_read (Some r) other = refl

  -- 7.6.1: a rectangle of the picture, in an encoding that may come
  pub next_known : is_in_picture d.agreed a ≡ true → may_come d.agreed.listed e ≡ true → is_desktop_size e ≡ false → next_at d bytes ≡ shows d (data_at d.agreed a d.shown e later)
  next_known inside comes other =
      by_read (head_at bytes >>= by_head d) other
      ∙ ap (λ (o : Option (Head × List ℕ)). shows d (o >>= by_head d)) head
      ∙ ap (λ b. shows d (cond (b && may_come d.agreed.listed e) (data_at d.agreed a d.shown e later) None)) inside
      ∙ ap (λ b. shows d (cond b (data_at d.agreed a d.shown e later) None)) comes

  next_none : (is_in_picture d.agreed a && may_come d.agreed.listed e) ≡ false → is_desktop_size e ≡ false → next_at d bytes ≡ None
  next_none not_there other =
      by_read (head_at bytes >>= by_head d) other
      ∙ ap (λ (o : Option (Head × List ℕ)). shows d (o >>= by_head d)) head
      ∙ ap (λ b. shows d (cond b (data_at d.agreed a d.shown e later) None)) not_there

  -- 7.8.2: a new size
  next_size : e ≡ desktop_size → may_come d.agreed.listed desktop_size ≡ true → next_at d bytes ≡ Some (with_size a d, later)
  next_size is comes =
      ap (next_by d bytes)
      (ap (λ (o : Option (Head × List ℕ)). o >>= by_head d) head
      ∙ ap (λ z. cond (is_in_picture d.agreed a && may_come d.agreed.listed z) (data_at d.agreed a d.shown z later) None) is
      ∙ neither (is_in_picture d.agreed a && may_come d.agreed.listed desktop_size) None)
      ∙ ap (λ (o : Option (Head × List ℕ)). o >>= size_by d) head
      ∙ ap (λ z. cond (is_desktop_size z && may_come d.agreed.listed desktop_size) (Some (with_size a d, later)) None) is
      ∙ ap (λ b. cond b (Some (with_size a d, later)) None) comes
    where
      neither : (b : Bool) (o : Option (Shown × List ℕ)) → cond b o o ≡ o
      neither true o = refl
      neither false o = refl

-- the head in the first twelve bytes
head_of : (head later : List ℕ) → length head ≡ 12 → head_at (head ++ later) ≡ Some (record { area = area_in head 0; encoding = encoding_in head }, later)
head_of (a ∷ b ∷ c ∷ d ∷ e ∷ f ∷ g ∷ h ∷ i ∷ j ∷ k ∷ l ∷ []) later long = refl
head_of _ later long = absurd (omega (arith, long))

abbrev then_rectangles : ℕ → Option (Display × List ℕ) → Option (Display × List ℕ)
then_rectangles n o = o >>= λ (r : Display × List ℕ). rectangles_at n r.0 r.1

shows_then : (n : ℕ) (d : Display) (o : Option (Shown × List ℕ)) → then_rectangles n (shows d o) ≡ rectangles_behind n d o
shows_then n d None = refl
shows_then n d (Some r) = refl

pub rectangle_turn : (size : Size) (behind : ℕ) (head : List ℕ) (after : Stage) → length head ≡ 12 → is_in_picture (agreed size) (area_in head 0) ≡ true
    → may_come (agreed size).listed (encoding_in head) ≡ true → is_desktop_size (encoding_in head) ≡ false
    → ((shown : Shown) (colours : ColourMap) (later : List ℕ) → rest_of after (display size shown colours) later
    ≡ rectangles_behind behind (display size shown colours) (data_at (agreed size) (area_in head 0) shown (encoding_in head) later))
    → IsTurn (state_at size (stage.Rectangle behind)) head (record { state = state_at size after; step = step.Head })
unfolding rectangles_at
rectangle_turn size behind head after long inside comes other rest =
    turn_by size (stage.Rectangle behind) after head step.Head (λ shown colours later.
    ap (then_rectangles behind) (next_known (display size shown colours) (head ++ later) later (area_in head 0) (encoding_in head) (head_of head later long) inside comes other)
    ∙ shows_then behind (display size shown colours) (data_at (agreed size) (area_in head 0) shown (encoding_in head) later)
    ∙ sym (rest shown colours later))

pub rectangle_refused : (size : Size) (behind : ℕ) (head : List ℕ) → length head ≡ 12 → (is_in_picture (agreed size) (area_in head 0) && may_come (agreed size).listed (encoding_in head)) ≡ false
    → is_desktop_size (encoding_in head) ≡ false → IsRefused (state_at size (stage.Rectangle behind)) head
unfolding rectangles_at
rectangle_refused size behind head long not_there other =
    refused_by size (stage.Rectangle behind) head (λ shown colours later.
    ap (then_rectangles behind) (next_none (display size shown colours) (head ++ later) later (area_in head 0) (encoding_in head) (head_of head later long) not_there other))

-- 7.8.2: the new size, over which nothing is shown
pub size_turn : (size : Size) (behind : ℕ) (head : List ℕ) (after : Stage) → length head ≡ 12 → encoding_in head ≡ desktop_size
    → ((d : Display) (bytes : List ℕ) → rest_of after d bytes ≡ rectangles_at behind d bytes)
    → IsTurn (state_at size (stage.Rectangle behind)) head
    (record { state = state_at (record { width = (area_in head 0).w; height = (area_in head 0).h }) after; step = step.Size (area_in head 0).w (area_in head 0).h })
unfolding rectangles_at
size_turn size behind head after long is rest shown colours later n room =
    let d : Display = display size shown colours in
    record {
      left = n;
      room = omega (arith, length-append head later, room);
      is = ap (λ (o : Option (Display × List ℕ)). then_rectangles behind o >>= λ (r : Display × List ℕ). messages_in n r.0 r.1)
          (next_size d (head ++ later) later (area_in head 0) (encoding_in head) (head_of head later long) is refl)
          ∙ ap (λ (o : Option (Display × List ℕ)). o >>= λ (r : Display × List ℕ). messages_in n r.0 r.1) (sym (rest (with_size (area_in head 0) d) later));
    }

-- ---- by the place and the encoding that the head gives

-- an encoding whose bits are read as a signed number again
pub encoding_back : (head : List ℕ) (encoding : ℤ) → ((i : ℕ) → Fits w8 (slice_index head i)) → encoding ≡ encoding_in head → cast_signed w32 (cast_unsigned w32 encoding) ≡ encoding_in head
encoding_back head encoding fits is =
    let few : be32_at head 8 < 2 ^ 32 = omega (arith, fits 8, fits 9, fits 10, fits 11) in
    ap (λ (z : ℤ). cast_signed w32 (cast_unsigned w32 z)) is ∙ ap (cast_signed w32) (of_z-to_z w32 (be32_at head 8) few)

abbrev Known : Size → ℕ → List ℕ → Stage → Area → ℤ → Type 0
Known size behind head after area encoding = is_in_picture (agreed size) area ≡ true → may_come (agreed size).listed encoding ≡ true → is_desktop_size encoding ≡ false
    → ((shown : Shown) (colours : ColourMap) (later : List ℕ) → rest_of after (display size shown colours) later
    ≡ rectangles_behind behind (display size shown colours) (data_at (agreed size) area shown encoding later))
    → IsTurn (state_at size (stage.Rectangle behind)) head (record { state = state_at size after; step = step.Head })

pub known_turn : (size : Size) (behind : ℕ) (head : List ℕ) (after : Stage) (area : Area) (encoding : ℤ) → length head ≡ 12 → area ≡ area_in head 0 → encoding ≡ encoding_in head → Known size behind head after area encoding
known_turn size behind head after area encoding long is-area is-encoding =
    let P : Area → Type 0 = λ a. Known size behind head after a encoding in
    let Q : ℤ → Type 0 = Known size behind head after (area_in head 0) in
    subst P (sym is-area) (subst Q (sym is-encoding) (rectangle_turn size behind head after long))

abbrev Unknown : Size → ℕ → List ℕ → Area → ℤ → Type 0
Unknown size behind head area encoding = (is_in_picture (agreed size) area && may_come (agreed size).listed encoding) ≡ false → is_desktop_size encoding ≡ false
    → IsRefused (state_at size (stage.Rectangle behind)) head

pub unknown_refused : (size : Size) (behind : ℕ) (head : List ℕ) (area : Area) (encoding : ℤ) → length head ≡ 12 → area ≡ area_in head 0 → encoding ≡ encoding_in head → Unknown size behind head area encoding
unknown_refused size behind head area encoding long is-area is-encoding =
    let P : Area → Type 0 = λ a. Unknown size behind head a encoding in
    let Q : ℤ → Type 0 = Unknown size behind head (area_in head 0) in
    subst P (sym is-area) (subst Q (sym is-encoding) (rectangle_refused size behind head long))

pub resized_turn : (size : Size) (behind : ℕ) (head : List ℕ) (after : Stage) (area : Area) → length head ≡ 12 → area ≡ area_in head 0 → is_desktop_size (encoding_in head) ≡ true
    → ((d : Display) (bytes : List ℕ) → rest_of after d bytes ≡ rectangles_at behind d bytes)
    → IsTurn (state_at size (stage.Rectangle behind)) head (record { state = state_at (record { width = area.w; height = area.h }) after; step = step.Size area.w area.h })
resized_turn size behind head after area long is-area is rest =
    let P : Area → Type 0 = λ a. IsTurn (state_at size (stage.Rectangle behind)) head (record { state = state_at (record { width = a.w; height = a.h }) after; step = step.Size a.w a.h }) in
    subst P (sym is-area) (size_turn size behind head after long ((Decides-int_eq (encoding_in head) desktop_size).0 is) rest)

-- ---- a copy

pub copy_turn : (size : Size) (r : Rectangle) (bytes : List ℕ) (after : Stage) → length bytes ≡ 4
    → is_in_picture (agreed size) (record r.area { x = be16_at bytes 0; y = be16_at bytes 2 }) ≡ true
    → ((d : Display) (later : List ℕ) → rest_of after d later ≡ rectangles_at r.behind d later)
    → IsTurn (state_at size (stage.Source r)) bytes (record { state = state_at size after; step = step.Copy r.area (be16_at bytes 0) (be16_at bytes 2) })
copy_turn size r (a ∷ b ∷ c ∷ e ∷ []) after long inside rest =
    let x : ℕ = be16_at (a ∷ b ∷ []) 0 in
    let y : ℕ = be16_at (c ∷ e ∷ []) 0 in
    turn_by size (stage.Source r) after (a ∷ b ∷ c ∷ e ∷ []) (step.Copy r.area x y) (λ shown colours later.
    ap (λ t. rectangles_behind r.behind (display size shown colours) (cond t (Some (shown_after_copy r.area x y shown, later)) None)) inside
    ∙ sym (rest (display size (shown_after_copy r.area x y shown) colours) later))
copy_turn size r _ after long inside rest = absurd (omega (arith, long))

pub copy_refused : (size : Size) (r : Rectangle) (bytes : List ℕ) → length bytes ≡ 4
    → is_in_picture (agreed size) (record r.area { x = be16_at bytes 0; y = be16_at bytes 2 }) ≡ false → IsRefused (state_at size (stage.Source r)) bytes
copy_refused size r (a ∷ b ∷ c ∷ e ∷ []) long outside =
    let x : ℕ = be16_at (a ∷ b ∷ []) 0 in
    let y : ℕ = be16_at (c ∷ e ∷ []) 0 in
    refused_by size (stage.Source r) (a ∷ b ∷ c ∷ e ∷ []) (λ shown colours later.
    ap (λ t. rectangles_behind r.behind (display size shown colours) (cond t (Some (shown_after_copy r.area x y shown, later)) None)) outside)
copy_refused size r _ long outside = absurd (omega (arith, long))

-- ---- RRE

abbrev dot : ℕ → Option Dot
dot pixel = Some (record { format = server_format; pixel = pixel })

both_tests : (b c : Bool) (p q : ℕ) (s : Option Dot) → cond b (dot (cond c p q)) s ≡ cond (b && c) (dot p) (cond b (dot q) s)
both_tests true true p q s = refl
both_tests true false p q s = refl
both_tests false c p q s = refl

-- what of a subrectangle lies in its rectangle
in_part : (a s : Area) (x y : ℕ) → (is_inside a x y && is_inside s (x - a.x) (y - a.y)) ≡ is_inside (part_of a s) x y
in_part a s x y = grind (arith, nat_tests)

pub one_part : (a : Area) (s : Subrectangle) (patch : Patch) (shown : Shown)
    → patched server_format a (painted s patch) shown ≡ filled (part_of a (places_of s)) s.pixel (patched server_format a patch shown)
one_part a s patch shown = fun_ext (λ x. fun_ext (λ y.
    both_tests (is_inside a x y) (is_inside (places_of s) (x - a.x) (y - a.y)) s.pixel (patch (x - a.x) (y - a.y)) (shown x y)
    ∙ ap (λ b. cond b (dot s.pixel) (patched server_format a patch shown x y)) (in_part a (places_of s) x y)))

-- 7.7.3: subrectangles painted onto a patch are painted onto what is shown
pub parts_onto : (a : Area) (n : ℕ) (patch : Patch) (shown : Shown) (bytes : List ℕ)
    → written server_format a shown (subrectangles_at server_format n patch bytes) ≡ rre_parts_onto a n (patched server_format a patch shown) bytes
unfolding subrectangles_at rre_parts_onto
parts_onto a zero patch shown bytes = refl
parts_onto a (suc n) patch shown bytes = by (λ inner more. parts_onto a n inner shown more) (subrectangle_at server_format bytes)
  where
    by : ((inner : Patch) (more : List ℕ) → written server_format a shown (subrectangles_at server_format n inner more) ≡ rre_parts_onto a n (patched server_format a inner shown) more)
        → (o : Option (Subrectangle × List ℕ)) → written server_format a shown (o >>= λ (s : Subrectangle × List ℕ). subrectangles_at server_format n (painted s.0 patch) s.1)
        ≡ (o >>= λ (s : Subrectangle × List ℕ). rre_parts_onto a n (filled (part_of a (places_of s.0)) (s.0).pixel (patched server_format a patch shown)) s.1)
    by others None = refl
    by others (Some s) = others (painted s.0 patch) s.1 ∙ ap (λ (t : Shown). rre_parts_onto a n t s.1) (one_part a s.0 patch shown)

pub rre_turn : (size : Size) (r : Rectangle) (bytes : List ℕ) (after : Stage) → length bytes ≡ 8
    → ((d : Display) (later : List ℕ) → rest_of after d later ≡ rectangles_behind r.behind d (rre_parts_onto r.area (be32_at bytes 0) d.shown later))
    → IsTurn (state_at size (stage.Rre r)) bytes (record { state = state_at size after; step = step.Fill r.area (pixel_in bytes 4) })
rre_turn size r (a ∷ b ∷ c ∷ e ∷ f ∷ g ∷ h ∷ i ∷ []) after long rest =
    let all : List ℕ = a ∷ b ∷ c ∷ e ∷ f ∷ g ∷ h ∷ i ∷ [] in
    turn_by size (stage.Rre r) after all (step.Fill r.area (pixel_in all 4)) (λ shown colours later.
    ap (rectangles_behind r.behind (display size shown colours)) (parts_onto r.area (be32_at all 0) (λ x y. pixel_in all 4) shown later)
    ∙ sym (rest (display size (filled r.area (pixel_in all 4) shown) colours) later))
rre_turn size r _ after long rest = absurd (omega (arith, long))

pub rre_part_turn : (size : Size) (parts : RreParts) (bytes : List ℕ) (after : Stage) (left : ℕ) → length bytes ≡ 12 → left + 1 ≡ parts.left
    → ((d : Display) (later : List ℕ) → rest_of after d later ≡ rectangles_behind parts.rectangle.behind d (rre_parts_onto parts.rectangle.area left d.shown later))
    → IsTurn (state_at size (stage.RreParts parts)) bytes
    (record { state = state_at size after; step = step.Fill (part_of parts.rectangle.area (area_in bytes 4)) (pixel_in bytes 0) })
unfolding rre_parts_onto
rre_part_turn size parts (a ∷ b ∷ c ∷ e ∷ f ∷ g ∷ h ∷ i ∷ j ∷ k ∷ l ∷ m ∷ []) after left long is-left rest =
    let all : List ℕ = a ∷ b ∷ c ∷ e ∷ f ∷ g ∷ h ∷ i ∷ j ∷ k ∷ l ∷ m ∷ [] in
    let area : Area = parts.rectangle.area in
    let one : parts.left ≡ suc left = omega (arith, is-left) in
    turn_by size (stage.RreParts parts) after all (step.Fill (part_of area (area_in all 4)) (pixel_in all 0)) (λ shown colours later.
    ap (λ n. rectangles_behind parts.rectangle.behind (display size shown colours) (rre_parts_onto area n shown (all ++ later))) one
    ∙ sym (rest (display size (filled (part_of area (area_in all 4)) (pixel_in all 0) shown) colours) later))
rre_part_turn size parts _ after left long is-left rest = absurd (omega (arith, long))

-- no subrectangles are to come: the rectangles behind
pub no_parts_left : (r : Rectangle) (left : ℕ) (d : Display) (bytes : List ℕ) → left ≡ 0
    → rectangles_at r.behind d bytes ≡ rectangles_behind r.behind d (rre_parts_onto r.area left d.shown bytes)
unfolding rre_parts_onto
no_parts_left r left d bytes e = ap (λ n. rectangles_behind r.behind d (rre_parts_onto r.area n d.shown bytes)) (sym e)
