-- The row in the making and the bands above it, where rectangles are put behind one another.
use Rattle.std.proofs.Common.{◌≡◌, ◌≢◌, ℕ, ◌+◌, ◌*◌, ◌≤◌, ◌<◌, length, Bool, true, false, ◌&&◌, List, [], ◌∷◌, ◌++◌, refl, sym, ◌∙◌, ap, subst, arith, Option, Some}
use Rattle.std.specs.Prelude.{IfSome, ℤ, ◌<ℤ◌, ◌≤ℤ◌, int_lt, int_le, ◌||◌, take, get_or}
use Rattle.std.specs.Ordering.{int_eq}
use Rattle.std.proofs.lemmas.Int.{ints}
use Rattle.std.proofs.lemmas.List.Folds.{list_any_more}
use Rattle.region.specs.declared.Rect.{Rect}
use Rattle.region.specs.Region.{in_rect, covers}
use Rattle.region_bands.specs.declared.Interval.{Interval}
use Rattle.region_bands.specs.declared.Rows.{Rows}
use Rattle.region_bands.specs.Bands.{Bands, band_with}
use Rattle.region_rows.specs.Rows.{IsRow, row_has}
use Rattle.region_rows.specs.RowLemmas.{row_longer, below_longer, has-append as row_has-append}
use Rattle.region_sets.specs.Sets.{AreBands, EndBy, has, in_rows}
use Rattle.region_sets.specs.SetLemmas.{Parts, row_put, end_later, has-append}
use Rattle.region.specs.Rects.{rows_in, columns_in, AreBandsOf, IsStack, IsClosed, stack_has}

-- what pushing the columns of a rectangle makes
abbrev pub pushed : Rect → Bands → ℕ → Bands
pushed rect b spare = record b { row = b.row ++ columns_in rect ∷ []; spare = spare }

int_same : (a b : ℤ) → int_eq a b ≡ true → a ≡ b
int_same a b e = grind (arith, ints)

both : (a b : Bool) → (a && b) ≡ true → (a ≡ true) × (b ≡ true)
both true true e = (refl, refl)
both true false e = absurd (cc)
both false b e = absurd (cc)

less_true : (a b : ℤ) → int_lt a b ≡ true → a <ℤ b
less_true a b e = grind (arith, ints)

pub le_true : (a b : ℤ) → int_le a b ≡ true → a ≤ℤ b
le_true a b e = grind (arith, ints)

abbrev rows_from : ℤ → ℤ → Rows
rows_from a b = record { top = a; bottom = b }

rows_made : (a b c d : ℤ) → a ≡ c → b ≡ d → rows_from a b ≡ rows_from c d
rows_made a b c d e f = ap (λ n. rows_from n b) e ∙ ap (λ n. rows_from c n) f

-- what the tests say
pub has_sides : (r : Rect) → (int_lt r.x1 r.x2 && int_lt r.y1 r.y2) ≡ true → (r.x1 <ℤ r.x2) × (r.y1 <ℤ r.y2)
has_sides r e = let t = both (int_lt r.x1 r.x2) (int_lt r.y1 r.y2) e in (less_true r.x1 r.x2 t.0, less_true r.y1 r.y2 t.1)

pub same_rows : (last rect : Rect) → ((int_eq last.y1 rect.y1 && int_eq last.y2 rect.y2) && int_lt last.x2 rect.x1) ≡ true → (rows_in last ≡ rows_in rect) × (last.x2 <ℤ rect.x1)
same_rows last rect e =
    let t = both (int_eq last.y1 rect.y1 && int_eq last.y2 rect.y2) (int_lt last.x2 rect.x1) e in
    let s = both (int_eq last.y1 rect.y1) (int_eq last.y2 rect.y2) t.0 in (
      rows_made last.y1 last.y2 rect.y1 rect.y2 (int_same last.y1 rect.y1 s.0) (int_same last.y2 rect.y2 s.1),
      less_true last.x2 rect.x1 t.1,
    )

not_empty : (row : List Interval) (q : Interval) → (row ++ q ∷ []) ≢ []
not_empty [] q e = cc
not_empty (i ∷ row) q e = cc

-- ---- places

row_more : (h r a c d e : Bool) → (h || ((d && e) && (r || (a && c)))) ≡ ((h || ((d && e) && r)) || (((a && c) && d) && e))
row_more true r a c d e = refl
row_more false r a c d e = go r a c d e
  where
    go : (r a c d e : Bool) → ((d && e) && (r || (a && c))) ≡ (((d && e) && r) || (((a && c) && d) && e))
    go r true true true true = refl
    go r true true true false = refl
    go r true true false e = refl
    go r true false true true = refl
    go r true false true false = refl
    go r true false false e = refl
    go r false c true true = refl
    go r false c true false = refl
    go r false c false e = refl

row_begun : (a c d e : Bool) → ((d && e) && ((a && c) || false)) ≡ (((a && c) && d) && e)
row_begun true true true true = refl
row_begun true true true false = refl
row_begun true true false e = refl
row_begun true false true true = refl
row_begun true false true false = refl
row_begun true false false e = refl
row_begun false c true true = refl
row_begun false c true false = refl
row_begun false c false e = refl

first_place : (r : Rect) (x y : ℤ) → (in_rows (rows_in r) y && row_has (columns_in r ∷ []) x) ≡ in_rect r x y
first_place r x y = row_begun (int_le r.x1 x) (int_lt x r.x2) (int_le r.y1 y) (int_lt y r.y2)

or_assoc : (a b c : Bool) → (a || (b || c)) ≡ ((a || b) || c)
or_assoc true b c = refl
or_assoc false b c = refl

or_false : (b : Bool) → (b || false) ≡ b
or_false true = refl
or_false false = refl

-- ---- a rectangle behind the last one

pub stack_more : (last rect : Rect) (old new : Bands) → IsStack last old → rows_in last ≡ rows_in rect → last.x2 <ℤ rect.x1 → rect.x1 <ℤ rect.x2 → new ≡ pushed rect old new.spare → IsStack rect new
stack_more last rect old new h same less some is = subst (IsStack rect) (sym is) (record {
  bands = h.bands;
  none_below = h.none_below;
  some = subst (λ (r : Rows). r.top <ℤ r.bottom) same h.some;
  ends = subst (λ (r : Rows). EndBy r.top old.above) same h.ends;
  row = row_longer old.row (columns_in rect) h.row (h.behind rect.x1 less) some;
  columns = not_empty old.row (columns_in rect);
  behind = λ x beyond. below_longer x old.row (columns_in rect) (h.behind x (omega (arith, ints, less, some, beyond))) beyond;
})

pub places_more : (last rect : Rect) (old new : Bands) → rows_in last ≡ rows_in rect → new ≡ pushed rect old new.spare → (x y : ℤ) → stack_has rect new x y ≡ (stack_has last old x y || in_rect rect x y)
places_more last rect old new same is x y =
    ap (λ (b : Bands). stack_has rect b x y) is
    ∙ ap (λ t. has old.above x y || (in_rows (rows_in rect) y && t)) (row_has-append old.row (columns_in rect) x)
    ∙ row_more (has old.above x y) (row_has old.row x) (int_le rect.x1 x) (int_lt x rect.x2) (int_le rect.y1 y) (int_lt y rect.y2)
    ∙ ap (λ r. (has old.above x y || (in_rows r y && row_has old.row x)) || in_rect rect x y) (sym same)

-- ---- a rectangle below the last one's row, which was closed

begun : (rect : Rect) (rows : Rows) (old mid new : Bands) → IsClosed rows old mid → new ≡ pushed rect mid new.spare → new ≡ record mid { row = columns_in rect ∷ []; spare = new.spare }
begun rect rows old mid new k is = is ∙ ap (λ l. record mid { row = l ++ columns_in rect ∷ []; spare = new.spare }) (ap (λ (b : Bands). b.row) k.same)

pub stack_begun : (last rect : Rect) (old mid new : Bands) → IsStack last old → IsClosed (rows_in last) old mid → last.y2 ≤ℤ rect.y1 → rect.x1 <ℤ rect.x2 → rect.y1 <ℤ rect.y2 → new ≡ pushed rect mid new.spare → IsStack rect new
stack_begun last rect old mid new h k low columns rows is = subst (IsStack rect) (sym (begun rect (rows_in last) old mid new k is)) (record {
  bands = k.bands;
  none_below = ap (λ (b : Bands). b.below) k.same ∙ h.none_below;
  some = rows;
  ends = end_later last.y2 rect.y1 mid.above low k.ends;
  row = columns;
  columns = λ e. cc;
  behind = λ x beyond. (beyond, tt);
})

pub places_begun : (last rect : Rect) (old mid new : Bands) → IsClosed (rows_in last) old mid → new ≡ pushed rect mid new.spare → (x y : ℤ) → stack_has rect new x y ≡ (stack_has last old x y || in_rect rect x y)
places_begun last rect old mid new k is x y =
    ap (λ (b : Bands). stack_has rect b x y) (begun rect (rows_in last) old mid new k is)
    ∙ ap (λ t. has mid.above x y || t) (first_place rect x y)
    ∙ ap (λ t. t || in_rect rect x y) (k.places x y)

-- the row is put
pub closed : (rows : Rows) (old new : Bands) → rows.top <ℤ rows.bottom → IsRow old.row → old.row ≢ [] → AreBands old.above → EndBy rows.top old.above → Parts old.above (band_with rows old.row)
    → new ≡ record old { above = old.above ++ band_with rows old.row ∷ []; row = []; spare = new.spare } → IsClosed rows old new
closed rows old new some is_row columns h e parts is =
    let above : new.above ≡ old.above ++ band_with rows old.row ∷ [] = ap (λ (b : Bands). b.above) is in
    let made = row_put old.above rows old.row h e some is_row columns parts in record {
      bands = subst AreBands (sym above) made.0;
      ends = subst (EndBy rows.bottom) (sym above) made.1;
      places = λ x y. ap (λ l. has l x y) above ∙ has-append old.above (band_with rows old.row) x y;
      same = is ∙ ap (λ l. record old { above = l; row = []; spare = new.spare }) (sym above);
    }

-- ---- the loop

-- the first rectangle and so many of the rest are in the stack, and there is room for those that are left
pub record Stacked (first : Rect) (rest : List Rect) (count : ℕ) (last : Rect) (b : Bands) : Type 0 where
  pub stack : IsStack last b
  pub places : (x y : ℤ) → stack_has last b x y ≡ covers (first ∷ take count rest) x y
  pub room : 3 * length rest + 2 ≤ b.spare + 3 * count

pub stacked_more : (first : Rect) (rest : List Rect) (i : ℕ) (last rect d : Rect) (old new : Bands) → Stacked first rest i last old → i < length rest → rect ≡ get_or rest i d → IsStack rect new
    → ((x y : ℤ) → stack_has rect new x y ≡ (stack_has last old x y || in_rect rect x y)) → old.spare ≤ new.spare + 3 → Stacked first rest (i + 1) rect new
stacked_more first rest i last rect d old new h less is stack places spare = record {
  stack = stack;
  places = λ x y.
      places x y ∙ ap (λ t. t || in_rect rect x y) (h.places x y)
      ∙ sym (or_assoc (in_rect first x y) (covers (take i rest) x y) (in_rect rect x y))
      ∙ ap (λ r. in_rect first x y || (covers (take i rest) x y || in_rect r x y)) is
      ∙ ap (λ t. in_rect first x y || t) (sym (list_any_more (λ r. in_rect r x y) rest i d less));
  room = let room = h.room in omega (arith, room, spare);
}

pub found_bands : (rects : List Rect) (found : Option Bands) (bands : Bands) → IfSome found (λ b. AreBandsOf rects b) → found ≡ Some bands → AreBandsOf rects bands
found_bands rects found bands h is = let P : Option Bands → Type 0 = λ o. IfSome o (λ b. AreBandsOf rects b) in subst P is h
