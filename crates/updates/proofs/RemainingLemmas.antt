-- What is left of an update, and that a part of it has bytes.
use Rattle.std.proofs.Common.{◌≡◌, ◌+◌, ◌-◌, ◌*◌, ◌/◌, ◌<◌, ◌≤◌, ◌↔◌, ℕ, Bool, true, false, List, [], ◌∷◌, ◌++◌, length, take, drop, map, get_or, Option, None, Some, subst, Result, Ok, Err, refl, sym, ap, ◌∙◌, arith, append_assoc}
use Rattle.std.specs.Prelude.{if◌then◌else◌, IsTrue, OnOk}
use Rattle.std.specs.List.{flat_map}
use Rattle.std.proofs.Math.Dec.{leb}
use Rattle.std.proofs.lemmas.Bool.{leb-true}
use Rattle.std.proofs.lemmas.Bool.Decides.{nat_tests}
use Rattle.std.proofs.lemmas.List.{length-append, length-drop, drop_all, drop-drop, take-append-drop, get_or-drop}
use Rattle.pixel_translate.specs.declared.Area.{Area}
use Rattle.pixel_translate.specs.declared.BitsPerPixel.{BitsPerPixel}
use Rattle.pixel_translate.specs.declared.BitsPerPixel.TheVariants.{Eight, Sixteen, ThirtyTwo}
use Rattle.pixel_translate.specs.declared.PixelFormat.{PixelFormat}
use Rattle.pixel_translate.specs.Pixel.{bit_count, pixel, colour_bytes, bits_of}
use Rattle.pixel_translate.specs.Bounds.{pixel_length}
use Rattle.messages.specs.declared.Encoding.{Encoding}
use Rattle.messages.specs.declared.Encoding.TheVariants as encoding
use Rattle.updates.specs.declared.parts.CopyRect.{CopyRect}
use Rattle.updates.specs.declared.parts.Coloured.{Coloured}
use Rattle.encode_hextile.specs.Pieces.{some_data}
use Rattle.updates.specs.declared.remaining.Begun.{Begun}
use Rattle.updates.specs.declared.remaining.Begun.TheVariants.{Colours, Tiles}
use Rattle.updates.specs.declared.remaining.Reached.{Reached}
use Rattle.updates.specs.declared.remaining.Reached.TheVariants.{Nothing, Before, Within}
use Rattle.updates.specs.declared.notices.Notice.{Notice}
use Rattle.updates.specs.Bytes.{encoded, map_bytes, notice_bytes}
use Rattle.updates.specs.Updates.{coloured_bytes}
use Rattle.updates.specs.Remaining.{rest_of, rest_within, remaining_rectangles, reached_after, IsBegun, GoesOn, IsWithin}

some_byte : (b : BitsPerPixel) → 1 ≤ bit_count b / 8
some_byte Eight = omega arith
some_byte Sixteen = omega arith
some_byte ThirtyTwo = omega arith

-- a colour's pixel has bytes, and so have the pixels of colours
pub some_pixels : (f : PixelFormat) (colours : List ℕ) → 0 < length colours → 0 < length (flat_map (colour_bytes f) colours)
some_pixels f [] some = absurd (omega arith)
some_pixels f (c ∷ colours) some =
    let long : length (colour_bytes f c ++ flat_map (colour_bytes f) colours) ≡ length (colour_bytes f c) + length (flat_map (colour_bytes f) colours) = length-append (colour_bytes f c) (flat_map (colour_bytes f) colours) in
    omega (arith, long, pixel_length f (pixel f c), some_byte (bits_of f))

few_bytes : (b : BitsPerPixel) → bit_count b / 8 ≤ 4
few_bytes Eight = omega arith
few_bytes Sixteen = omega arith
few_bytes ThirtyTwo = omega arith

-- a pixel has at most four bytes
few_pixels : (f : PixelFormat) (colours : List ℕ) → length (flat_map (colour_bytes f) colours) ≤ 4 * length colours
few_pixels f [] = omega arith
few_pixels f (c ∷ colours) =
    let long : length (colour_bytes f c ++ flat_map (colour_bytes f) colours) ≡ length (colour_bytes f c) + length (flat_map (colour_bytes f) colours) = length-append (colour_bytes f c) (flat_map (colour_bytes f) colours) in
    omega (arith, long, pixel_length f (pixel f c), few_bytes (bits_of f), few_pixels f colours)

-- a run of pixels that is appended
pub few_added : (f : PixelFormat) (old new run : List ℕ) → new ≡ old ++ flat_map (colour_bytes f) run → length run ≤ 2048 → length new ≤ length old + 8192
few_added f old new run e few = omega (arith, ap (λ (l : List ℕ). length l) e, length-append old (flat_map (colour_bytes f) run), few_pixels f run, few)

-- more is there once bytes are appended
pub longer : (old new added : List ℕ) → new ≡ old ++ added → 0 < length added → length old < length new
longer old new added e some = omega (arith, ap (λ (l : List ℕ). length l) e, length-append old added, some)

some_choice : (b : Bool) (x y : ℕ) (xs ys rest : List ℕ) → (if b then x ∷ xs else y ∷ ys) ++ rest ≡ [] → ⊥
some_choice true x y xs ys rest e = cc
some_choice false x y xs ys rest e = cc

-- an encoded rectangle has bytes
some_encoded : (e : Encoding) (f : PixelFormat) (a : Area) (colours rest : List ℕ) → encoded e f a colours ++ rest ≡ [] → ⊥
some_encoded encoding.Raw f a colours rest none = cc
some_encoded encoding.Rre f a colours rest none = some_choice _ _ _ _ _ rest none
some_encoded encoding.Hextile f a colours rest none = cc

front_is_none : (xs ys : List ℕ) → xs ++ ys ≡ [] → xs ≡ []
front_is_none [] ys none = refl
front_is_none (x ∷ xs) ys none = cc

none_left : (e : Encoding) (f : PixelFormat) (cs : List Coloured) → flat_map (coloured_bytes e f) cs ≡ [] → length cs ≡ 0
none_left e f [] none = refl
none_left e f (c ∷ cs) none = absurd (some_encoded e f c.area c.colours (flat_map (coloured_bytes e f) cs) none)

-- so has what is left of one
some_rest : (f : PixelFormat) (begun : Begun) (c : Coloured) (rest : List ℕ) → IsBegun begun c → rest_of f c (Some begun) ++ rest ≡ [] → ⊥
some_rest f (Colours done) c rest more none =
    let pixels = flat_map (colour_bytes f) (drop done c.colours) in
    let some = some_pixels f (drop done c.colours) (omega (arith, more, length-drop done c.colours)) in
    omega (arith, some, ap (λ (l : List ℕ). length l) none, length-append pixels rest)
some_rest f (Tiles row carried) c rest more none = some_data f c.area.w c.area.h (map (pixel f) c.colours) carried row c.wide more (front_is_none _ rest none)

some_within : (e : Encoding) (f : PixelFormat) (begun : Begun) (cs : List Coloured) → GoesOn begun cs → rest_within e f begun cs ≡ [] → ⊥
some_within e f begun [] more none = more
some_within e f begun (c ∷ cs) more none = some_rest f begun c (flat_map (coloured_bytes e f) cs) more none

-- where nothing is left, all rectangles are encoded
abbrev pub IsOver : List Coloured → Reached → Type 0
IsOver cs Nothing = ⊥
IsOver cs (Before next) = length cs ≤ next
IsOver cs (Within next begun) = ⊥

pub is_over : (e : Encoding) (f : PixelFormat) (copy_rects : List CopyRect) (cs : List Coloured) (reached : Reached) → IsWithin cs reached → remaining_rectangles e f copy_rects cs reached ≡ [] → IsOver cs reached
is_over e f copy_rects cs Nothing within none = cc
is_over e f copy_rects cs (Before next) within none = omega (arith, none_left e f (drop next cs) none, length-drop next cs)
is_over e f copy_rects cs (Within next begun) within none = some_within e f begun (drop next cs) within none

le_test : (a b : ℕ) → a ≤ b → leb a b ≡ true
le_test a b h = grind (arith, nat_tests)

-- the test whether one number is at most another, where this says that nothing is left
pub test_over : (remaining : List ℕ) (a b : ℕ) → (a ≤ b → remaining ≡ []) → (remaining ≡ [] → a ≤ b) → IsTrue (leb a b) ↔ (remaining ≡ [])
test_over remaining a b over none = (λ e. over (leb-true a b e), λ e. le_test a b (none e))

-- where no colour map is owed and all notices are told, the rest is left
pub all_told : (owed : Bool) (notices : List Notice) (told : ℕ) (rest now : List ℕ) → owed ≡ false → length notices ≤ told → (map_bytes owed ++ flat_map notice_bytes (drop told notices)) ++ rest ≡ now → rest ≡ now
all_told false notices told rest now is over e = sym (ap (λ (ns : List Notice). flat_map notice_bytes ns ++ rest) (drop_all told notices over)) ∙ e
all_told true notices told rest now is over e = absurd cc

pub on_ok : {X E : Type 0} (r : Result X E) (P Q : Type 0) → OnOk r P → (P → Q) → OnOk r Q
on_ok (Ok x) P Q p f = f p
on_ok (Err e) P Q p f = tt

-- a piece of what is made is given
pub piece_given : (made remaining old new : List ℕ) (given end : ℕ) → given ≤ end → new ≡ old ++ take (end - given) (drop given made) → new ++ (drop end made ++ remaining) ≡ old ++ (drop given made ++ remaining)
piece_given made remaining old new given end ordered e =
    let piece = take (end - given) (drop given made) in
    let behind : drop (end - given) (drop given made) ≡ drop end made = drop-drop (end - given) given made ∙ ap (λ n. drop n made) (let same : given + (end - given) ≡ end = omega arith in same) in
    ap (λ (l : List ℕ). l ++ (drop end made ++ remaining)) e ∙ append_assoc old piece (drop end made ++ remaining)
    ∙ ap (λ (l : List ℕ). old ++ l) (sym (append_assoc piece (drop end made) remaining) ∙ ap (λ (l : List ℕ). (piece ++ l) ++ remaining) (sym behind) ∙ ap (λ (l : List ℕ). l ++ remaining) (take-append-drop (end - given) (drop given made)))

along : (old new a b rest : List ℕ) → new ++ a ≡ old ++ b → new ++ (a ++ rest) ≡ old ++ (b ++ rest)
along old new a b rest e = sym (append_assoc new a rest) ∙ ap (λ (l : List ℕ). l ++ rest) e ∙ append_assoc old b rest

within_from : (e : Encoding) (f : PixelFormat) (copy_rects : List CopyRect) (begun : Begun) (after : Option Begun) (cs : List Coloured) (next : ℕ) (d : Coloured) (ds : List Coloured) (old new : List ℕ)
    → drop next cs ≡ d ∷ ds → drop (next + 1) cs ≡ ds → new ++ rest_of f d after ≡ old ++ rest_of f d (Some begun) → new ++ remaining_rectangles e f copy_rects cs (reached_after next after) ≡ old ++ rest_within e f begun (d ∷ ds)
within_from e f copy_rects begun None cs next d ds old new at behind on =
    ap (λ (t : List Coloured). new ++ flat_map (coloured_bytes e f) t) behind ∙ along old new [] (rest_of f d (Some begun)) (flat_map (coloured_bytes e f) ds) on
within_from e f copy_rects begun (Some b) cs next d ds old new at behind on =
    ap (λ (t : List Coloured). new ++ rest_within e f b t) at ∙ along old new (rest_of f d (Some b)) (rest_of f d (Some begun)) (flat_map (coloured_bytes e f) ds) on

within_at : (e : Encoding) (f : PixelFormat) (copy_rects : List CopyRect) (begun : Begun) (after : Option Begun) (cs : List Coloured) (next : ℕ) (c : Coloured) (old new : List ℕ) (t : List Coloured)
    → drop next cs ≡ t → GoesOn begun t → c ≡ get_or cs next c → new ++ rest_of f c after ≡ old ++ rest_of f c (Some begun)
    → new ++ remaining_rectangles e f copy_rects cs (reached_after next after) ≡ old ++ rest_within e f begun t
within_at e f copy_rects begun after cs next c old new [] at goes is on = absurd goes
within_at e f copy_rects begun after cs next c old new (d ∷ ds) at goes is on =
    let first : c ≡ d = is ∙ ap (λ (k : ℕ). get_or cs k c) (let q : next ≡ next + 0 = omega arith in q) ∙ sym (get_or-drop next cs 0 c) ∙ ap (λ (l : List Coloured). get_or l 0 c) at in
    within_from e f copy_rects begun after cs next d ds old new at (sym (drop-drop 1 next cs) ∙ ap (drop 1) at)
    (subst (λ (x : Coloured). new ++ rest_of f x after ≡ old ++ rest_of f x (Some begun)) first on)

-- one part more of a rectangle is encoded
pub within_on : (e : Encoding) (f : PixelFormat) (copy_rects : List CopyRect) (begun : Begun) (after : Option Begun) (cs : List Coloured) (next : ℕ) (c : Coloured) (old new : List ℕ) (now soon : Reached)
    → now ≡ Within next begun → soon ≡ reached_after next after → IsWithin cs now → c ≡ get_or cs next c → new ++ rest_of f c after ≡ old ++ rest_of f c (Some begun)
    → new ++ remaining_rectangles e f copy_rects cs soon ≡ old ++ remaining_rectangles e f copy_rects cs now
within_on e f copy_rects begun after cs next c old new now soon here there within is on =
    ap (λ (r : Reached). new ++ remaining_rectangles e f copy_rects cs r) there
    ∙ within_at e f copy_rects begun after cs next c old new (drop next cs) refl (subst (λ (r : Reached). IsWithin cs r) here within) is on
    ∙ ap (λ (r : Reached). old ++ remaining_rectangles e f copy_rects cs r) (sym here)

begun_at : (e : Encoding) (f : PixelFormat) (begun : Begun) (cs : List Coloured) (next : ℕ) (c : Coloured) (old new : List ℕ) (t : List Coloured)
    → drop next cs ≡ t → next < length cs → c ≡ get_or cs next c → new ++ rest_of f c (Some begun) ≡ old ++ coloured_bytes e f c
    → new ++ rest_within e f begun t ≡ old ++ flat_map (coloured_bytes e f) t
begun_at e f begun cs next c old new [] at below is on = absurd (omega (arith, below, length-drop next cs, ap (λ (l : List Coloured). length l) at))
begun_at e f begun cs next c old new (d ∷ ds) at below is on =
    let first : c ≡ d = is ∙ ap (λ (k : ℕ). get_or cs k c) (let q : next ≡ next + 0 = omega arith in q) ∙ sym (get_or-drop next cs 0 c) ∙ ap (λ (l : List Coloured). get_or l 0 c) at in
    along old new (rest_of f d (Some begun)) (coloured_bytes e f d) (flat_map (coloured_bytes e f) ds)
    (subst (λ (x : Coloured). new ++ rest_of f x (Some begun) ≡ old ++ coloured_bytes e f x) first on)

-- a rectangle in Raw is begun
pub begun_on : (e : Encoding) (f : PixelFormat) (copy_rects : List CopyRect) (begun : Begun) (cs : List Coloured) (next : ℕ) (c : Coloured) (old new : List ℕ) (now : Reached)
    → e ≡ encoding.Raw → now ≡ Before next → next < length cs → c ≡ get_or cs next c → new ++ rest_of f c (Some begun) ≡ old ++ coloured_bytes encoding.Raw f c
    → new ++ rest_within e f begun (drop next cs) ≡ old ++ remaining_rectangles e f copy_rects cs now
begun_on e f copy_rects begun cs next c old new now raw here below is on =
    begun_at e f begun cs next c old new (drop next cs) refl below is (on ∙ ap (λ (x : Encoding). old ++ coloured_bytes x f c) (sym raw))
    ∙ ap (λ (r : Reached). old ++ remaining_rectangles e f copy_rects cs r) (sym here)
