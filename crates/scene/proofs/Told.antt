-- What a viewer shows behind a sending step.
use Rattle.std.proofs.Common.{◌≡◌, Bool, true, false, cond, ◌&&◌, ℕ, zero, suc, ◌+◌, ◌*◌, ◌<◌, ◌≤◌, ◌^◌, List, [], ◌∷◌, ◌++◌, length, take, Some, refl, sym, ap, subst, ◌∙◌, arith, append_assoc}
use Rattle.std.specs.Prelude.{ℤ, pos, ◌-ℤ◌, ◌≤ℤ◌, ◌<ℤ◌, nat_abs, nat_le, flat_map}
use Rattle.std.specs.List.{AllByRecursion}
use Rattle.std.proofs.lemmas.Int.{ints}
use Rattle.std.proofs.lemmas.Bool.Decides.{nat_tests}
use Rattle.std.proofs.lemmas.List.{append-nil}
use Rattle.std.proofs.lemmas.List.FromFn.{length-map-range_with_len}
use Rattle.std.proofs.lemmas.List.Elements.{recursion_from_All}
use Rattle.std.proofs.Math.Nat.{mul-le-mul}
use Rattle.pixel_translate.specs.Pixel.{IsArea}
use Rattle.region.specs.declared.Rect.{Rect}
use Rattle.encode_raw.specs.Reading.{Shown}
use Rattle.messages.specs.declared.Encoding.{Encoding}
use Rattle.messages.specs.declared.Encoding.TheVariants as encoding
use Rattle.messages.specs.Server.{colour_map, cut_text, update_head}
use Rattle.region.specs.Region.{on_screen}
use Rattle.region.specs.Places.{IsOnScreen, source_rect, longest_side}
use Rattle.copy_schedule.specs.declared.Mark.TheVariants.{Copied}
use Rattle.copy_schedule.specs.Marks.{Marks, mark_at, asked_at, copies_of, pixels_of}
use Rattle.copy_schedule.specs.CutLemmas.{copies_on_screen, sources_inside, pixels_on_screen}
use Rattle.updates.specs.Areas.{area_of}
use Rattle.framebuffer.specs.Picture.{colours_of}
use Rattle.viewer_picture.specs.Messages.{Agreed, ColourMap, Display, is_in_picture, may_come, rectangles_at, messages_in}
use Rattle.viewer_picture.specs.Encodings.{number_of}
use Rattle.viewer_picture.specs.Claims.{IsPart, RectanglesAreRead}
use Rattle.viewer_picture.specs.MessageLemmas.{display, IsReadAs, changed, list-read, Reads, bell-read, text-read, update-read}
use Rattle.viewer_picture.specs.MapLemmas.{all_mapped, map-read}
use Rattle.viewer_picture.specs.CutLemmas.{copy_of, pixel_of, update_of, copies-may, copies-within, sources-within, pixels-within}
use Rattle.updates.specs.declared.notices.Notice.{Notice}
use Rattle.updates.specs.declared.notices.Notice.TheVariants as notice
use Rattle.updates.specs.Short.{IsShort}
use Rattle.updates.specs.Bytes.{map_bytes, notice_bytes, copy_bytes, pixel_rectangle, bytes_of}

-- ---- notices

-- what is read further, behind bytes that are the same
read-on : (n : ℕ) (d : Display) (bytes same between more : List ℕ) → bytes ≡ same → (one : Reads n d same d between) → Reads one.left d between d more → Reads n d bytes d more
read-on n d bytes same between more e one rest = record { left = rest.left; room = rest.room; is = ap (messages_in n d) e ∙ one.is ∙ rest.is }

pub notices-read : (notices : List Notice) → AllByRecursion IsShort notices → (n : ℕ) (d : Display) (more : List ℕ) → length (flat_map notice_bytes notices ++ more) ≤ n → Reads n d (flat_map notice_bytes notices ++ more) d more
notices-read [] short n d more room = record { left = n; room = room; is = refl }
notices-read (notice.Bell ∷ notices) short n d more room =
    let one = bell-read n d (flat_map notice_bytes notices ++ more) room in
    let rest = notices-read notices short.1 one.left d more one.room in
    record { left = rest.left; room = rest.room; is = one.is ∙ rest.is }
notices-read (notice.CutText text ∷ notices) short n d more room =
    let same = append_assoc (cut_text text) (flat_map notice_bytes notices) more in
    let one = text-read n d text (flat_map notice_bytes notices ++ more) (let s = short.0 in omega arith) (let size = ap length same in omega (arith, room, size)) in
    read-on n d _ _ _ more same one (notices-read notices short.1 one.left d more one.room)

-- ---- the colour map

-- the map of colours once the server's is sent, where it is owed
abbrev pub colours_after : Bool → ColourMap → ColourMap
colours_after owed colours = cond owed (all_mapped colours) colours

pub front-read : (owed : Bool) (notices : List Notice) → AllByRecursion IsShort notices → (n : ℕ) (d : Display) (more : List ℕ) → length ((map_bytes owed ++ flat_map notice_bytes notices) ++ more) ≤ n
    → Reads n d ((map_bytes owed ++ flat_map notice_bytes notices) ++ more) (record d { colours = colours_after owed d.colours }) more
front-read false notices short n d more room = notices-read notices short n d more room
front-read true notices short n d more room =
    let rest : List ℕ = flat_map notice_bytes notices ++ more in
    let same : (colour_map ++ flat_map notice_bytes notices) ++ more ≡ colour_map ++ rest = append_assoc colour_map (flat_map notice_bytes notices) more in
    let one = map-read n d rest (let size = ap length same in omega (arith, room, size)) in
    let others = notices-read notices short one.left (record d { colours = all_mapped d.colours }) more one.room in
    record { left = others.left; room = others.room; is = ap (messages_in n d) same ∙ one.is ∙ others.is }

-- ---- rectangles of a screen

fits : (w h : ℕ) → w ≤ longest_side → h ≤ longest_side → (r : Rect) → IsOnScreen w h r → IsArea (area_of r)
fits w h wide high r on = record {
  x = low r.x1 r.x2 w wide on.left on.columns on.right;
  y = low r.y1 r.y2 h high on.top on.rows on.bottom;
  w = size r.x1 r.x2 w wide on.left on.columns on.right;
  h = size r.y1 r.y2 h high on.top on.rows on.bottom;
}
  where
    low : (a b : ℤ) (n : ℕ) → n ≤ longest_side → pos 0 ≤ℤ a → a <ℤ b → b ≤ℤ pos n → nat_abs a < 2 ^ 16
    low a b n small h k l = omega (arith, ints)

    size : (a b : ℤ) (n : ℕ) → n ≤ longest_side → pos 0 ≤ℤ a → a <ℤ b → b ≤ℤ pos n → nat_abs (b -ℤ a) < 2 ^ 16
    size a b n small h k l = omega (arith, ints)

-- and it is in the picture of a viewer, where it is within its size
inside : (g : Agreed) (r : Rect) → IsOnScreen g.width g.height r → is_in_picture g (area_of r) ≡ true
inside g r on = tests (nat_abs r.x1 + nat_abs (r.x2 -ℤ r.x1)) (nat_abs r.y1 + nat_abs (r.y2 -ℤ r.y1)) (reach r.x1 r.x2 g.width on.left on.columns on.right) (reach r.y1 r.y2 g.height on.top on.rows on.bottom)
  where
    reach : (a b : ℤ) (n : ℕ) → pos 0 ≤ℤ a → a <ℤ b → b ≤ℤ pos n → nat_abs a + nat_abs (b -ℤ a) ≤ n
    reach a b n low wide right = omega (arith, ints)

    tests : (x y : ℕ) → x ≤ g.width → y ≤ g.height → (nat_le x g.width && nat_le y g.height) ≡ true
    tests x y h k = grind (arith, nat_tests)

part : (g : Agreed) (w h : ℕ) → w ≤ longest_side → h ≤ longest_side → (r : Rect) → IsOnScreen w h r → IsOnScreen g.width g.height r → IsPart g (area_of r)
part g w h wide high r on seen = record { fits = fits w h wide high r on; inside = inside g r seen }

-- its colours are as many as its places
colours-count : (w h : ℕ) (picture : List ℕ) (r : Rect) → length (colours_of w h picture r) ≡ (area_of r).w * (area_of r).h
colours-count w h picture r = length-map-range_with_len _ 0 ((area_of r).w * (area_of r).h)

some-places : (w h : ℕ) (r : Rect) → IsOnScreen w h r → 0 < (area_of r).w * (area_of r).h
some-places w h r on = both (nat_abs (r.x2 -ℤ r.x1)) (nat_abs (r.y2 -ℤ r.y1)) (size r.x1 r.x2 on.columns) (size r.y1 r.y2 on.rows)
  where
    size : (a b : ℤ) → a <ℤ b → 0 < nat_abs (b -ℤ a)
    size a b h = omega (arith, ints)

    both : (m n : ℕ) → 0 < m → 0 < n → 0 < m * n
    both m n h k = let e : 1 * 1 ≤ m * n = mul-le-mul h k in omega (arith, e)

all-of : (P Q R : Rect → Type 0) (rs : List Rect) → ((r : Rect) → P r → Q r → R r) → AllByRecursion P rs → AllByRecursion Q rs → AllByRecursion R rs
all-of P Q R [] each h k = tt
all-of P Q R (r ∷ rs) each h k = (each r h.0 k.0, all-of P Q R rs each h.1 k.1)

length-take : {X : Type 0} (n : ℕ) (xs : List X) → length (take n xs) ≤ n
length-take zero xs = omega arith
length-take (suc n) [] = omega arith
length-take (suc n) (x ∷ xs) = let h = length-take n xs in omega arith

-- what is moved stays as large
same-size : (by : ℤ × ℤ) (r : Rect) → area_of (source_rect by r) ≡ record (area_of r) { x = nat_abs (r.x1 -ℤ by.0); y = nat_abs (r.y1 -ℤ by.1) }
same-size by r = ap (λ w. record { x = nat_abs (r.x1 -ℤ by.0); y = nat_abs (r.y1 -ℤ by.1); w = w; h = nat_abs ((r.y2 -ℤ by.1) -ℤ (r.y1 -ℤ by.1)) }) (same r.x1 r.x2 by.0)
    ∙ ap (λ h. record { x = nat_abs (r.x1 -ℤ by.0); y = nat_abs (r.y1 -ℤ by.1); w = nat_abs (r.x2 -ℤ r.x1); h = h }) (same r.y1 r.y2 by.1)
  where
    same : (a b d : ℤ) → nat_abs ((b -ℤ d) -ℤ (a -ℤ d)) ≡ nat_abs (b -ℤ a)
    same a b d = let moved : (b -ℤ d) -ℤ (a -ℤ d) ≡ b -ℤ a = omega (arith, ints) in ap nat_abs moved

-- what is on the screen, and within a viewer's size
abbrev OnBoth : Agreed → ℕ → ℕ → Rect → Type 0
OnBoth g w h r = IsOnScreen w h r × IsOnScreen g.width g.height r

module _ (reads : RectanglesAreRead) (g : Agreed) (w h : ℕ) (wide : w ≤ longest_side) (high : h ≤ longest_side) where
  copy-read : (by : ℤ × ℤ) (r : Rect) → may_come g.listed (pos 1) ≡ true → OnBoth g w h r → OnBoth g w h (source_rect by r) → IsReadAs g (copy_bytes by) (copy_of by) r
  unfolding copy_of
  copy-read by r comes on source shown more =
      reads.copyrect g (area_of r) (nat_abs (r.x1 -ℤ by.0)) (nat_abs (r.y1 -ℤ by.1)) (part g w h wide high r on.0 on.1)
      (subst (IsPart g) (same-size by r) (part g w h wide high (source_rect by r) source.0 source.1)) comes shown more

  pixels-read : (picture : List ℕ) (e : Encoding) → may_come g.listed (number_of e) ≡ true → (r : Rect) → OnBoth g w h r → IsReadAs g (pixel_rectangle w h picture e g.format) (pixel_of w h picture g.format) r
  unfolding pixel_of
  pixels-read picture encoding.Raw comes r on shown more = reads.raw g (area_of r) (colours_of w h picture r) (part g w h wide high r on.0 on.1) (colours-count w h picture r) shown more
  pixels-read picture encoding.Rre comes r on shown more = reads.rre g (area_of r) (colours_of w h picture r) (part g w h wide high r on.0 on.1) comes
      (subst (λ (n : ℕ). 0 < n) (sym (colours-count w h picture r)) (some-places w h r on.0)) (colours-count w h picture r) shown more
  pixels-read picture encoding.Hextile comes r on shown more = reads.hextile g (area_of r) (colours_of w h picture r) (part g w h wide high r on.0 on.1) comes
      (subst (λ (n : ℕ). 0 < n) (sym (colours-count w h picture r)) (some-places w h r on.0)) (colours-count w h picture r) shown more

both-of : (P Q : Rect → Type 0) (rs : List Rect) → AllByRecursion P rs → AllByRecursion Q rs → AllByRecursion (λ r. P r × Q r) rs
both-of P Q rs = all-of P Q (λ r. P r × Q r) rs (λ r p q. (p, q))

-- by the marks: what is asked for is within the viewer's size, and CopyRect may come where a place is copied
module _ (reads : RectanglesAreRead) (g : Agreed) (m : Marks) (held : (x y : ℤ) → asked_at m x y ≡ true → on_screen g.width g.height x y ≡ true) (wide : m.width ≤ longest_side) (high : m.height ≤ longest_side)
    (may : (x y : ℤ) → on_screen m.width m.height x y ≡ true → mark_at m x y ≡ Copied → may_come g.listed (pos 1) ≡ true) where
  -- the rectangles of an update
  rectangles-read : (e : Encoding) → may_come g.listed (number_of e) ≡ true → (picture : List ℕ) (limit : ℕ) (shown : Shown) (colours : ColourMap) (more : List ℕ)
      → rectangles_at (length (copies_of limit m) + length (pixels_of limit m)) (display g shown colours) ((flat_map (copy_bytes m.offset) (copies_of limit m) ++ flat_map (pixel_rectangle m.width m.height picture e g.format) (pixels_of limit m)) ++ more)
      ≡ Some (display g (update_of limit g.format picture m shown) colours, more)
  unfolding rectangles_at update_of
  rectangles-read e comes picture limit shown colours more =
      let copies : List Rect = copies_of limit m in
      let pixels : List Rect = pixels_of limit m in
      let w : ℕ = m.width in
      let h : ℕ = m.height in
      let seen : Rect → Type 0 = IsOnScreen g.width g.height in
      let copies-on = both-of (IsOnScreen w h) seen copies (recursion_from_All (IsOnScreen w h) copies (copies_on_screen limit m)) (copies-within g.width g.height limit m held) in
      let sources-on = both-of (λ r. IsOnScreen w h (source_rect m.offset r)) (λ r. seen (source_rect m.offset r)) copies (recursion_from_All (λ r. IsOnScreen w h (source_rect m.offset r)) copies (sources_inside limit m)) (sources-within g.width g.height limit m held) in
      let pixels-on = both-of (IsOnScreen w h) seen pixels (recursion_from_All (IsOnScreen w h) pixels (pixels_on_screen limit m)) (pixels-within g.width g.height limit m held) in
      let copies-come = copies-may (may_come g.listed (pos 1) ≡ true) limit m may in
      ap (rectangles_at (length copies + length pixels) (display g shown colours)) (append_assoc (flat_map (copy_bytes m.offset) copies) (flat_map (pixel_rectangle w h picture e g.format) pixels) more)
      ∙ list-read g (copy_bytes m.offset) (copy_of m.offset) copies
      (all-of (λ r. may_come g.listed (pos 1) ≡ true) (λ r. OnBoth g w h r × OnBoth g w h (source_rect m.offset r)) (IsReadAs g (copy_bytes m.offset) (copy_of m.offset)) copies
      (λ r may both. copy-read reads g w h wide high m.offset r may both.0 both.1) copies-come
      (both-of (OnBoth g w h) (λ r. OnBoth g w h (source_rect m.offset r)) copies copies-on sources-on))
      (length copies + length pixels) (length pixels) refl shown colours (flat_map (pixel_rectangle w h picture e g.format) pixels ++ more)
      ∙ list-read g (pixel_rectangle w h picture e g.format) (pixel_of w h picture g.format) pixels
      (all-of (OnBoth g w h) (OnBoth g w h) (IsReadAs g (pixel_rectangle w h picture e g.format) (pixel_of w h picture g.format)) pixels
      (λ r on again. pixels-read reads g w h wide high picture e comes r on) pixels-on pixels-on)
      (length pixels) 0 (omega arith) (changed (copy_of m.offset) copies shown) colours more

  -- an update whole
  pub whole-read : (e : Encoding) → may_come g.listed (number_of e) ≡ true → (picture : List ℕ) (limit : ℕ) → limit ≤ 1000 → (n : ℕ) (shown : Shown) (colours : ColourMap)
      → length (bytes_of m.width m.height picture e g.format (copies_of limit m) m.offset (pixels_of limit m)) ≤ n
      → Reads n (display g shown colours) (bytes_of m.width m.height picture e g.format (copies_of limit m) m.offset (pixels_of limit m)) (display g (update_of limit g.format picture m shown) colours) []
  whole-read e comes picture limit few n shown colours room =
      let count : ℕ = length (copies_of limit m) + length (pixels_of limit m) in
      let body : List ℕ = flat_map (copy_bytes m.offset) (copies_of limit m) ++ flat_map (pixel_rectangle m.width m.height picture e g.format) (pixels_of limit m) in
      let before : Display = display g shown colours in
      let after : Display = display g (update_of limit g.format picture m shown) colours in
      let nothing_more : body ++ [] ≡ body = append-nil body in
      let small : count < 2 ^ 16 = omega (arith, few, copies-few limit m, pixels-few limit m) in
      subst (λ (l : List ℕ). Reads n before (update_head count ++ l) after []) nothing_more
      (update-read n count before after body [] small (subst (λ (l : List ℕ). length (update_head count ++ l) ≤ n) (sym nothing_more) room)
      (rectangles-read e comes picture limit shown colours []))
    where
      copies-few : (limit : ℕ) (m : Marks) → length (copies_of limit m) ≤ limit
      copies-few limit m = length-take limit _

      pixels-few : (limit : ℕ) (m : Marks) → length (pixels_of limit m) ≤ limit
      pixels-few limit m = length-take limit _
